use Rattle.std.specs.Prelude.{IsTrue, ◌↔◌}
use Rattle.particle_models.proofs.Entering.{when_ok}
use Rattle.schema_models.proofs.AgreeLaws.{consistent_result}
use Rattle.schema_models.proofs.consistency.consistent.Goals as goal

pub returns : goal.returns
returns c = record {
  consistent = consistent_result c.args.members.now c.args.parts.now c.requires.ranked c.args.p c.in_ok-found.found.keys c.in_ok-given.given.items c.in_ok-found.ensures
      c.as_slice.result.now c.as_slice.ensures.keys c.in_ok-given.ensures c.deref.result.now c.deref.ensures.value c.agree.result c.agree.ensures;
}
