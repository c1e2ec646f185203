use Rattle.schema_compile.proofs.PhaseLaws.{source-of, models-of}
use Rattle.schema_compile.proofs.judging.find_models.Goals as goal

pub build_models-requires-clause-source : goal.build_models-requires-clause-source
build_models-requires-clause-source c = source-of c.args.set.now c.args.found.now c.requires.found c.in_ok-inhabited.inhabited c.requires.fit c.in_ok-inhabited.ensures.flags

pub returns : goal.returns
returns c = record {
  models = models-of c.args.set.now c.args.found.now c.requires.found c.deref.result.now c.deref.ensures.value c.build_models.result
      c.build_models.ensures.models c.build_models.ensures.none c.build_models.ensures.fault;
}
