use Rattle.std.proofs.Common.{subst}
use Rattle.attr_uses.specs.Wildcards.{joined_wildcard, intersection}
use Rattle.attr_uses.specs.Tables.{entry_for}
use Rattle.attr_uses.specs.inside.Kept.{IsForm}
use Rattle.attr_uses.proofs.MadeLaws.{group-made, group-none}
use Rattle.attr_uses.proofs.store.Store.with_group.Goals as goal

pub returns-in-None : goal.returns-in-None
returns-in-None c = record {
  made = λ t ids a b sa sb.
      (let j = c.in_ok-wildcard.ensures.joined a.wildcard b.wildcard sa.wildcard sb.wildcard in
      (j.0, group-none t ids c.joined.new.self a b (subst (λ o. IsForm c.joined.new.self.wildcards o (joined_wildcard intersection a.wildcard b.wildcard)) c.in-None.is j.1)));
}

pub combine-requires-clause-first : goal.combine-requires-clause-first
combine-requires-clause-first c =
    (_, (c.in_ok-wildcard.ensures.joined _ _ c.requires.own.3.wildcard c.requires.group.3.wildcard).0.maps.maps c.args.own.uses.top _ c.requires.own.3.uses)

pub combine-requires-clause-second : goal.combine-requires-clause-second
combine-requires-clause-second c =
    (_, (c.in_ok-wildcard.ensures.joined _ _ c.requires.own.3.wildcard c.requires.group.3.wildcard).0.maps.maps c.args.group.uses.top _ c.requires.group.3.uses)

pub combine-requires-2-clause-first : goal.combine-requires-2-clause-first
combine-requires-2-clause-first c =
    (_, c.in_ok-uses.ensures.kept.maps c.args.own.prohibited.top _ ((c.in_ok-wildcard.ensures.joined _ _ c.requires.own.3.wildcard c.requires.group.3.wildcard).0.maps.maps c.args.own.prohibited.top _ c.requires.own.3.prohibited.map))

pub combine-requires-2-clause-second : goal.combine-requires-2-clause-second
combine-requires-2-clause-second c =
    (_, c.in_ok-uses.ensures.kept.maps c.args.group.prohibited.top _ ((c.in_ok-wildcard.ensures.joined _ _ c.requires.own.3.wildcard c.requires.group.3.wildcard).0.maps.maps c.args.group.prohibited.top _ c.requires.group.3.prohibited.map))

pub returns : goal.returns
returns c = record {
  made = λ t ids a b sa sb.
      (let j = c.in_ok-wildcard.ensures.joined a.wildcard b.wildcard sa.wildcard sb.wildcard in
      let k = j.0.maps in
      let k2 = c.in_ok-uses.ensures.kept in
      group-made t ids c.args.self.now c.joined.new.self c.combine.new.self c.combine-2.new.self j.0 k2 c.in_ok-prohibited.ensures.kept c.args.own c.args.group a b sa sb
      c.in-Some.wildcard c.in_ok-uses.uses c.in_ok-prohibited.prohibited
      (subst (λ o. IsForm c.joined.new.self.wildcards o (joined_wildcard intersection a.wildcard b.wildcard)) c.in-Some.is j.1)
      (c.in_ok-uses.ensures.map (entry_for t ids a.uses) (entry_for t ids b.uses) (k.maps c.args.own.uses.top _ sa.uses) (k.maps c.args.group.uses.top _ sb.uses))
      (c.in_ok-prohibited.ensures.map sa.prohibited.entries sb.prohibited.entries (k2.maps c.args.own.prohibited.top _ (k.maps c.args.own.prohibited.top _ sa.prohibited.map)) (k2.maps c.args.group.prohibited.top _ (k.maps c.args.group.prohibited.top _ sb.prohibited.map))));
}
