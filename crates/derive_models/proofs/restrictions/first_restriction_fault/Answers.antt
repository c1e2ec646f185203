use Rattle.std.proofs.Common.{List, sym, subst}
use Rattle.std.specs.Prelude.{All as Each}
use Rattle.xs_codes.specs.Least.{IsLeast}
use Rattle.particle_restrict.specs.Tables.{HasType}
use Rattle.particle_restrict.specs.declared.terms.Term.{Term}
use Rattle.derive_models.specs.Standing.{AreStanding}
use Rattle.derive_models.specs.Terms.{AreTerms}
use Rattle.derive_models.proofs.RestrictionLaws.{if-ok, types-there}
use Rattle.derive_models.specs.GroupRestrictions.{IsRestrictionFault}
use Rattle.derive_models.proofs.restrictions.first_restriction_fault.Goals as goal

pub first_of_both-requires-clause-compared : goal.first_of_both-requires-clause-compared
first_of_both-requires-clause-compared g c = record {
  ranked = c.requires.ranked;
  there = c.requires.there;
  kinds = c.requires.contents;
  types = subst (λ (terms : List Term). Each (HasType (g.T.Derivation.is_type c.args.types.now)) terms) (sym c.deref.ensures.value)
      (types-there c.args.set.now.parts.now (g.T.Derivation.is_type c.args.types.now) c.requires.types c.in_ok-terms.terms.items c.in_ok-terms.ensures.types);
}

pub returns : goal.returns
returns g c =
    let t = c.args.set.now.parts.now in
    let members = c.args.set.now.members.now in
    let derives = g.T.Derivation.derives c.args.types.now in
    let pairs = c.args.pairs.now in
    record {
      least = if-ok c.first_of_both.result (IsLeast (IsRestrictionFault t members c.deref.result.now derives pairs))
          (λ found. (terms : List Term) × AreTerms t c.args.set.now.names.now c.args.fixed.now terms × IsLeast (IsRestrictionFault t members terms derives pairs) found)
          (λ found least. (c.deref.result.now, subst (AreTerms t c.args.set.now.names.now c.args.fixed.now) (sym c.deref.ensures.value) c.in_ok-terms.ensures.terms, least))
          (c.first_of_both.ensures.least members (subst (AreStanding t members) (sym c.deref-2.ensures.value) c.in_ok-standing.ensures.standing));
    }
