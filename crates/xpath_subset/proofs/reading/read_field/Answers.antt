use Rattle.xpath_subset.specs.Grammar.{IsField, paths_meaning}
use Rattle.xpath_subset.proofs.Readings.{read_answer}
use Rattle.xpath_subset.proofs.reading.read_field.Goals as goal

pub returns : goal.returns
returns c = read_answer (IsField c.args.text.now) (paths_meaning c.args.scope.now) c.read_paths.result c.answer.result c.answer.ensures c.read_paths.ensures
