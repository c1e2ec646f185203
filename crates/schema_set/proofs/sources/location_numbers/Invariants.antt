use Rattle.std.proofs.Common.{◌≡◌, ◌+◌, ℕ, List, take}
use Rattle.std.specs.HashMap.{get_by_text}
use Rattle.xs_names.specs.WhiteSpace.{collapsed}
use Rattle.schema_set.specs.EffectiveSet.{document_at}
use Rattle.schema_set.proofs.sources.location_numbers.Given as goal

abbrev pub invariant-loop-document : goal.invariant-loop-document
invariant-loop-document l = record {
  counted : l.number ≡ l.document-index + 1;
  found : (location : List ℕ) → get_by_text l.numbers (collapsed location) ≡ document_at (take l.document-index l.available) location;
}
