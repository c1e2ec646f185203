use Rattle.std.proofs.Common.{sym, subst, ◌∙◌}
use Rattle.derive_faults.proofs.FaultLaws.{next-one, all-below}
use Rattle.derive_restriction.specs.Given.{AreTypes}
use Rattle.derive_restriction.specs.Restrictions.{Breaks}
use Rattle.derive_restriction.proofs.restrictions.first_restriction.Goals as goal

pub fault_of-requires-clause-types : goal.fault_of-requires-clause-types
fault_of-requires-clause-types c = subst (AreTypes c.args.set.now.parts.now) (sym c.loop-id.invariant.same) c.requires.types

pub loop-id-preserved : goal.loop-id-preserved
loop-id-preserved c =
    let t = c.args.set.now.parts.now in
    let turn = next-one 7 t (Breaks t c.args.set.now.names.now) c.loop-id.number c.in-Some.id c.loop-id.best c.in_ok-found.found c.sooner-best.result c.in-Some.ensures.there c.sooner-best.ensures.sooner c.loop-id.invariant.least c.in_ok-found.ensures.least in
    record {
      few = turn.0;
      least = turn.1;
      same = c.fault_of.ensures.same ∙ c.loop-id.invariant.same;
    }

pub returns : goal.returns
returns c = record {
  least = all-below 7 c.args.set.now.parts.now (Breaks c.args.set.now.parts.now c.args.set.now.names.now) c.loop-id.number c.loop-id.best c.in_default.ensures.past c.loop-id.invariant.least;
  same = c.loop-id.invariant.same;
}
