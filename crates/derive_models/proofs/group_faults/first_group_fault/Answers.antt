use Rattle.redefine_names.proofs.EachLaws.{least-none, least-more, least-all}
use Rattle.derive_models.specs.GroupRestrictions.{IsPairFault}
use Rattle.derive_models.proofs.group_faults.first_group_fault.Goals as goal

pub loop-pair-init : goal.loop-pair-init
loop-pair-init g c = λ members are. least-none (IsPairFault c.args.set.now.parts.now members c.args.set.now.terms.now (g.T.Derivation.derives c.args.set.now.types.now)) c.args.pairs.now

pub loop-pair-preserved : goal.loop-pair-preserved
loop-pair-preserved g c = λ members are.
    least-more (IsPairFault c.args.set.now.parts.now members c.args.set.now.terms.now (g.T.Derivation.derives c.args.set.now.types.now)) c.args.pairs.now c.loop-pair.pair-index _ c.loop-pair.best c.in_ok-found.found
    c.sooner-best.result c.loop-pair-test.true c.sooner-best.ensures.sooner (c.loop-pair.invariant members are) (c.in_ok-found.ensures.least members are)

pub returns : goal.returns
returns g c = record {
  least = λ members are. least-all (IsPairFault c.args.set.now.parts.now members c.args.set.now.terms.now (g.T.Derivation.derives c.args.set.now.types.now)) c.args.pairs.now c.loop-pair.pair-index c.loop-pair.best
      c.loop-pair-test.false (c.loop-pair.invariant members are);
}
