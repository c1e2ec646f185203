use Rattle.std.proofs.Common.{sym, subst}
use Rattle.xs_codes.specs.Least.{IsLeast}
use Rattle.xs_codes.proofs.LeastLaws.{least-sum}
use Rattle.derive_faults.specs.ValueFaults.{IsAttributeFault, IsElementFault, IsValueFault}
use Rattle.derive_faults.proofs.value_faults.first_of_both.Goals as goal

pub returns-clause-least : goal.returns-clause-least
returns-clause-least c =
    let t = c.args.set.now.parts.now in
    subst (IsLeast (IsValueFault t)) (sym c.sooner.ensures.sooner)
    (least-sum (IsAttributeFault t) (IsElementFault t) c.in_ok-of_attributes.of_attributes c.in_ok-of_elements.of_elements c.in_ok-of_attributes.ensures.least c.in_ok-of_elements.ensures.least)
