use Rattle.std.proofs.Common.{◌≡◌, drop}
use Rattle.schema_values.specs.Words.{are_words}
use Rattle.schema_values.proofs.words.are_words.Given as goal

abbrev pub invariant-loop-word : goal.invariant-loop-word
invariant-loop-word l = are_words l.kind (drop l.word-index l.words) ≡ are_words l.kind l.words
