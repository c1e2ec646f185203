use Rattle.std.proofs.Common.{sym, ap, subst}
use Rattle.std.specs.Prelude.{◌&&◌, not, Bool}
use Rattle.xs_codes.specs.declared.code.Code.TheVariants.{DerivationOkRestriction4_2, DerivationOkRestriction4_3}
use Rattle.xs_components.specs.Sets.{IsSubset}
use Rattle.derive_faults.specs.TypeFaults.{IsFirstCode}
use Rattle.derive_faults.proofs.FaultLaws.{when-true, when-refuted, both-first}
use Rattle.derive_restriction.specs.Wildcards.{is_weaker, IsNoSubset, IsWeaker}
use Rattle.derive_restriction.proofs.wildcards.both_code.Goals as goal

pub returns : goal.returns
returns c =
    let own = c.args.own.now in
    let base = c.args.base.now in
    let subset = subst (IsFirstCode (IsNoSubset own base)) (sym c.when.ensures)
    (when-refuted (IsSubset own.namespaces base.namespaces) c.subset-within.result DerivationOkRestriction4_2 c.subset-within.ensures.subset) in
    let weaker = subst (IsFirstCode (IsWeaker c.args.of_any_type own base)) (sym c.when_not.ensures)
    (when-true (is_weaker own.process base.process && not c.args.of_any_type) (c.is_weaker-weaker.result && not c.args.of_any_type) DerivationOkRestriction4_3 (ap (λ (b : Bool). b && not c.args.of_any_type) c.is_weaker-weaker.ensures)) in
    record { first = both-first (IsNoSubset own base) (IsWeaker c.args.of_any_type own base) c.when.result c.when_not.result c.earlier.result c.earlier.ensures subset weaker }
