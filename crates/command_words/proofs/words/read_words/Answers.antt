use Rattle.command_words.proofs.Fitting.{unasked}
use Rattle.command_words.proofs.words.read_words.Goals as goal

pub returns-then-not-are_accepted-clause-asked : goal.returns-then-not-are_accepted-clause-asked
returns-then-not-are_accepted-clause-asked c = unasked _ c.if-not-are_accepted.ensures
