use Rattle.std.proofs.Common.{refl, sym, subst, ◌∙◌}
use Rattle.derive_restriction.specs.Given.{AreTypes}
use Rattle.redefine_names.proofs.EachLaws.{least-none, least-more, least-all}
use Rattle.derive_restriction.specs.AttrGroupRestrictions.{IsPairFault}
use Rattle.derive_restriction.proofs.group_faults.first_attr_group_fault.Goals as goal

pub loop-pair-init : goal.loop-pair-init
loop-pair-init c = record { least = least-none (IsPairFault c.args.set.now.parts.now c.args.set.now.names.now) c.args.pairs.now; same = refl }

pub fault_of-requires-clause-types : goal.fault_of-requires-clause-types
fault_of-requires-clause-types c = subst (AreTypes c.args.set.now.parts.now) (sym c.loop-pair.invariant.same) c.requires.types

pub loop-pair-preserved : goal.loop-pair-preserved
loop-pair-preserved c = record {
  least = least-more (IsPairFault c.args.set.now.parts.now c.args.set.now.names.now) c.args.pairs.now c.loop-pair.pair-index _ c.loop-pair.best c.in_ok-found.found c.sooner-best.result
      c.loop-pair-test.true c.sooner-best.ensures.sooner c.loop-pair.invariant.least c.in_ok-found.ensures.least;
  same = c.fault_of.ensures.same ∙ c.loop-pair.invariant.same;
}

pub returns : goal.returns
returns c = record {
  least = least-all (IsPairFault c.args.set.now.parts.now c.args.set.now.names.now) c.args.pairs.now c.loop-pair.pair-index c.loop-pair.best c.loop-pair-test.false c.loop-pair.invariant.least;
  same = c.loop-pair.invariant.same;
}
