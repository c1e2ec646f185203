use Rattle.std.specs.Prelude.{◌≡◌, take}
use Rattle.command_words.specs.inside.Command.{texts}
use Rattle.command_words.proofs.words.texts_of.Given as goal

abbrev pub invariant-loop-word : goal.invariant-loop-word
invariant-loop-word l = texts l.read.items ≡ take l.word-index l.words
