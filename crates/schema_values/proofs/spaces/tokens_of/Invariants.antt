use Rattle.std.proofs.Common.{◌≡◌, ◌++◌, drop, map}
use Rattle.schema_values.specs.Spaces.{token_of}
use Rattle.schema_values.proofs.spaces.tokens_of.Given as goal

abbrev pub invariant-loop-word : goal.invariant-loop-word
invariant-loop-word l = l.tokens ++ map token_of (drop l.word-index l.words) ≡ map token_of l.words
