use Rattle.std.proofs.Common.{◌⊎◌, ℕ, sym, subst}
use Rattle.xs_codes.specs.declared.fault.Fault.{Fault}
use Rattle.xs_codes.specs.Least.{IsLeast}
use Rattle.xs_codes.proofs.LeastLaws.{least-sum}
use Rattle.derive_faults.specs.Attributes.{IsDeclAt, IsTypeAt, IsGroupAt}
use Rattle.derive_faults.specs.ValueFaults.{IsAttributeFault}
use Rattle.derive_faults.proofs.attributes.first_of_attributes.Goals as goal

pub returns-clause-least : goal.returns-clause-least
returns-clause-least c =
    let t = c.args.set.now.parts.now in
    let of_types = λ (f : Fault). (n : ℕ) × IsTypeAt t n f in
    let of_groups = λ (f : Fault). (n : ℕ) × IsGroupAt t n f in
    subst (IsLeast (IsAttributeFault t)) (sym c.sooner-2.ensures.sooner)
    (least-sum (λ f. (n : ℕ) × IsDeclAt t n f) (λ f. of_types f ⊎ of_groups f) c.in_ok-decls.decls c.sooner.result c.in_ok-decls.ensures.least
    (subst (IsLeast (λ f. of_types f ⊎ of_groups f)) (sym c.sooner.ensures.sooner) (least-sum of_types of_groups c.in_ok-in_types.in_types c.in_ok-in_groups.in_groups c.in_ok-in_types.ensures.least c.in_ok-in_groups.ensures.least)))
