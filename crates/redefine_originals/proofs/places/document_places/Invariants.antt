use Rattle.std.proofs.Common.{◌≡◌, ◌+◌, ◌==◌, ℕ, take}
use Rattle.std.specs.List.{position_from}
use Rattle.redefine_originals.specs.inside.Places.{place_found}
use Rattle.redefine_originals.proofs.places.document_places.Given as goal

abbrev pub invariant-loop-shape : goal.invariant-loop-shape
invariant-loop-shape l = record {
  at : l.at ≡ l.place + l.shape-index;
  have : (item : ℕ) → place_found l.places item ≡ position_from (λ s. s.item == item) l.place (take l.shape-index l.shapes);
}
