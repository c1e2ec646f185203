use Rattle.std.proofs.Common.{sym, ap, ◌∙◌, subst}
use Rattle.xs_codes.specs.Least.{sooner, IsLeast}
use Rattle.reference_faults.specs.Faults.{IsBroken}
use Rattle.reference_faults.proofs.CodeLaws.{all-least}
use Rattle.reference_faults.proofs.faults.first_fault.Goals as goal

pub returns : goal.returns
returns c = record {
  least = subst (IsLeast (IsBroken c.args.names.now c.args.origins.now c.args.source.now.reps.now)) (sym (c.sooner.ensures.sooner ∙ ap (sooner c.in_ok-element.element) c.limit_fault.ensures))
      (all-least c.args.names.now c.args.origins.now c.args.source.now.reps.now c.in_ok-element.element c.in_ok-limit.limit c.in_ok-element.ensures.least c.in_ok-limit.ensures.limit);
}
