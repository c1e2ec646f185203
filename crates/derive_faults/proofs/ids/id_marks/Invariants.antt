use Rattle.std.proofs.Common.{◌≡◌, ℕ, ◌<◌, ◌↔◌, true, false, length}
use Rattle.std.specs.Prelude.{slice_index_or}
use Rattle.derive_faults.specs.AttrFaults.{IsOfId}
use Rattle.derive_faults.proofs.ids.id_marks.Given as goal

abbrev pub invariant-loop-decl : goal.invariant-loop-decl
invariant-loop-decl l = record {
  count : length l.marks ≡ l.decl-index;
  are : (n : ℕ) → n < l.decl-index → (slice_index_or l.marks n false ≡ true) ↔ IsOfId l.parts n;
}
