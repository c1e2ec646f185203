use Rattle.std.proofs.Common.{◌∙◌, sym, ap, is_some}
use Rattle.command_words.proofs.Lines.{alone}
use Rattle.command_words.proofs.grammar.is_one.Goals as goal

pub returns : goal.returns
returns c = c.is_some.ensures ∙ ap is_some (c.read_stream.ensures.asked ∙ sym (alone c.args.word.now))
