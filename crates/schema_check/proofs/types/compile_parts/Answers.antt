use Rattle.schema_check.proofs.types.compile_parts.Goals as goal

pub returns-in-Ok : goal.returns-in-Ok
returns-in-Ok c = c.judged_set.ensures c.args.built.parts c.in-Ok.ensures
