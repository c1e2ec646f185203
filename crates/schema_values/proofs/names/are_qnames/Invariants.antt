use Rattle.std.proofs.Common.{◌≡◌, drop}
use Rattle.schema_values.specs.Names.{are_qnames}
use Rattle.schema_values.proofs.names.are_qnames.Given as goal

abbrev pub invariant-loop-word : goal.invariant-loop-word
invariant-loop-word l = are_qnames l.scope (drop l.word-index l.words) ≡ are_qnames l.scope l.words
