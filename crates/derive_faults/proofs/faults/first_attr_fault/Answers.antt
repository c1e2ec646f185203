use Rattle.std.proofs.Common.{ℕ, sym, subst}
use Rattle.xs_codes.specs.Least.{IsLeast}
use Rattle.xs_codes.proofs.LeastLaws.{least-sum}
use Rattle.derive_faults.specs.AttrFaults.{IsTypeAt, IsGroupAt, IsAttrFault}
use Rattle.derive_faults.proofs.faults.first_attr_fault.Goals as goal

pub returns : goal.returns
returns c = record {
  least = λ ids are.
      subst (IsLeast (IsAttrFault c.args.parts.now ids)) (sym c.sooner.ensures.sooner)
      (least-sum (λ f. (n : ℕ) × IsTypeAt c.args.parts.now ids n f) (λ f. (n : ℕ) × IsGroupAt c.args.parts.now ids n f) c.first_of_types.result c.first_of_groups.result
      (c.first_of_types.ensures.least ids are) (c.first_of_groups.ensures.least ids are));
}
