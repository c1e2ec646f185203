use Rattle.derive_faults.proofs.FaultLaws.{next-one, all-below}
use Rattle.std.proofs.Common.{arith}
use Rattle.derive_models.specs.ModelRestrictions.{Breaks}
use Rattle.derive_models.proofs.restriction_faults.first_fault.Goals as goal

pub loop-id-preserved : goal.loop-id-preserved
loop-id-preserved g c =
    let t = c.args.set.now.parts.now in
    record {
      few = (let l = c.in-Some.ensures.there.1 in omega arith);
      least = λ members are. (next-one 9 t (Breaks t members c.args.set.now.terms.now (g.T.Derivation.derives c.args.set.now.types.now)) c.loop-id.number c.in-Some.id c.loop-id.best c.in_ok-found.found c.sooner-best.result
          c.in-Some.ensures.there c.sooner-best.ensures.sooner (c.loop-id.invariant.least members are) (c.in_ok-found.ensures.least members are)).1;
    }

pub returns : goal.returns
returns g c = record {
  least = λ members are. all-below 9 c.args.set.now.parts.now (Breaks c.args.set.now.parts.now members c.args.set.now.terms.now (g.T.Derivation.derives c.args.set.now.types.now))
      c.loop-id.number c.loop-id.best c.in_default.ensures.past (c.loop-id.invariant.least members are);
}
