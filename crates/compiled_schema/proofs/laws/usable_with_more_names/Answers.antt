use Rattle.compiled_schema.proofs.UsableLaws.{models-more, usable-more}
use Rattle.compiled_schema.proofs.laws.usable_with_more_names.Goals as goal

pub returns-clause-models : goal.returns-clause-models
returns-clause-models c = λ compiled first new. models-more compiled new first

pub returns-clause-usable : goal.returns-clause-usable
returns-clause-usable c = usable-more
