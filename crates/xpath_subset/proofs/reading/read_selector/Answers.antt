use Rattle.xpath_subset.specs.Grammar.{IsSelector, paths_meaning}
use Rattle.xpath_subset.proofs.Readings.{read_answer}
use Rattle.xpath_subset.proofs.reading.read_selector.Goals as goal

pub returns : goal.returns
returns c = read_answer (IsSelector c.args.text.now) (paths_meaning c.args.scope.now) c.read_paths.result c.answer.result c.answer.ensures c.read_paths.ensures
