use Rattle.std.proofs.Common.{subst}
use Rattle.attr_uses.specs.Wildcards.{joined_wildcard, union}
use Rattle.attr_uses.specs.Tables.{entry_for}
use Rattle.attr_uses.specs.inside.Kept.{IsForm}
use Rattle.attr_uses.proofs.MadeLaws.{extended-made, extended-none}
use Rattle.attr_uses.proofs.store.Store.extended.Goals as goal

pub returns-in-None : goal.returns-in-None
returns-in-None c = record {
  made = λ t ids a b sa sb.
      (let j = c.in_ok-wildcard.ensures.joined a.wildcard b.wildcard sa.wildcard sb.wildcard in
      (j.0, extended-none t ids c.joined.new.self a b (subst (λ o. IsForm c.joined.new.self.wildcards o (joined_wildcard union a.wildcard b.wildcard)) c.in-None.is j.1)));
}

pub combine-requires-clause-first : goal.combine-requires-clause-first
combine-requires-clause-first c =
    (_, (c.in_ok-wildcard.ensures.joined _ _ c.requires.own.3.wildcard c.requires.base.3.wildcard).0.maps.maps c.args.own.uses.top _ c.requires.own.3.uses)

pub combine-requires-clause-second : goal.combine-requires-clause-second
combine-requires-clause-second c =
    (_, (c.in_ok-wildcard.ensures.joined _ _ c.requires.own.3.wildcard c.requires.base.3.wildcard).0.maps.maps c.args.base.uses.top _ c.requires.base.3.uses)

pub returns : goal.returns
returns c = record {
  made = λ t ids a b sa sb.
      (let j = c.in_ok-wildcard.ensures.joined a.wildcard b.wildcard sa.wildcard sb.wildcard in
      let k = j.0.maps in
      extended-made t ids c.args.self.now c.joined.new.self c.combine.new.self j.0 c.in_ok-uses.ensures.kept c.args.own a b sa c.in-Some.wildcard c.in_ok-uses.uses
      (subst (λ o. IsForm c.joined.new.self.wildcards o (joined_wildcard union a.wildcard b.wildcard)) c.in-Some.is j.1)
      (c.in_ok-uses.ensures.map (entry_for t ids a.uses) (entry_for t ids b.uses) (k.maps c.args.own.uses.top _ sa.uses) (k.maps c.args.base.uses.top _ sb.uses)));
}
