use Rattle.command_words.proofs.Lines.{within_of}
use Rattle.command_words.proofs.grammar.value_within.Goals as goal

pub returns : goal.returns
returns c = within_of c.args.word.now c.strip_prefix.result c.strip_prefix.ensures.cases
