use Rattle.attr_uses.specs.Tables.{entry_for}
use Rattle.attr_uses.proofs.MadeLaws.{restricted-made}
use Rattle.attr_uses.proofs.store.Store.restricted.Goals as goal

pub combine-requires-2-clause-first : goal.combine-requires-2-clause-first
combine-requires-2-clause-first c = (_, c.in_ok-left.ensures.kept.maps c.args.own.uses.top _ c.requires.own.3.uses)

pub combine-requires-2-clause-second : goal.combine-requires-2-clause-second
combine-requires-2-clause-second c = (_, c.in_ok-left.ensures.map _ _ c.requires.own.3.prohibited.map c.requires.base.3.uses)

pub returns : goal.returns
returns c = record {
  made = λ t ids a b sa sb.
      restricted-made t ids c.args.self.now c.combine.new.self c.combine-2.new.self c.in_ok-left.ensures.kept c.in_ok-uses.ensures.kept c.args.own a b sa c.in_ok-uses.uses
      (c.in_ok-uses.ensures.map (entry_for t ids a.uses) _ (c.in_ok-left.ensures.kept.maps c.args.own.uses.top _ sa.uses)
      (c.in_ok-left.ensures.map sa.prohibited.entries (entry_for t ids b.uses) sa.prohibited.map sb.uses));
}
