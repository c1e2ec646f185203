use Rattle.std.proofs.Common.{length, arith}
use Rattle.derive_faults.proofs.FaultLaws.{none-below, next-in, all-in}
use Rattle.derive_faults.specs.AttrFaults.{IsTypeAt}
use Rattle.derive_faults.proofs.faults.first_of_types.Goals as goal

pub loop-id-init : goal.loop-id-init
loop-id-init c = record { few = omega arith; least = λ ids are. none-below (IsTypeAt c.args.parts.now ids) }

pub loop-id-preserved : goal.loop-id-preserved
loop-id-preserved c =
    let there = c.in-Some.ensures.there.1 in
    record {
      few = omega (arith, there);
      least = λ ids are.
          (next-in (IsTypeAt c.args.parts.now ids) (length c.args.parts.now.complexes.parts) c.loop-id.number c.in-Some.id c.loop-id.best c.type_fault.result c.sooner-best.result c.in-Some.ensures.there c.sooner-best.ensures.sooner (c.loop-id.invariant.least ids are) (c.type_fault.ensures.least ids are)).1;
    }

pub returns : goal.returns
returns c = record {
  least = λ ids are. all-in (IsTypeAt c.args.parts.now ids) (length c.args.parts.now.complexes.parts) c.loop-id.number c.loop-id.best c.in_default.ensures.past (λ k f x. x.0) (c.loop-id.invariant.least ids are);
}
