use Rattle.std.proofs.Common.{◌≡◌, ◌++◌, drop}
use Rattle.schema_values.specs.Names.{names_in}
use Rattle.schema_values.proofs.names.names_in.Given as goal

abbrev pub invariant-loop-word : goal.invariant-loop-word
invariant-loop-word l = l.names ++ names_in l.scope (drop l.word-index l.words) ≡ names_in l.scope l.words
