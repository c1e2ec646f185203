use Rattle.std.proofs.Common.{sym, subst}
use Rattle.xs_codes.specs.Least.{IsLeast}
use Rattle.xs_codes.proofs.LeastLaws.{least-sum}
use Rattle.derive_models.specs.ModelRestrictions.{IsModelFault}
use Rattle.derive_models.specs.GroupRestrictions.{IsGroupFault, IsRestrictionFault}
use Rattle.derive_models.proofs.restrictions.first_of_both.Goals as goal

pub returns : goal.returns
returns g c =
    let t = c.args.set.now.parts.now in
    let terms = c.args.set.now.terms.now in
    let derives = g.T.Derivation.derives c.args.set.now.types.now in
    record {
      least = λ members are.
          subst (IsLeast (IsRestrictionFault t members terms derives c.args.pairs.now)) (sym c.sooner.ensures.sooner)
          (least-sum (IsModelFault t members terms derives) (IsGroupFault t members terms derives c.args.pairs.now) c.in_ok-model.model c.in_ok-group.group (c.in_ok-model.ensures.least members are)
          (c.in_ok-group.ensures.least members are));
    }
