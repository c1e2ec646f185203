-- How many steps a change of child elements may take.
use Rattle.std.specs.Prelude.{◌≡◌, ◌≤◌, ◌+◌, ◌*◌, ◌⊎◌, ℕ, List, Some, length, slice_get}
use Rattle.child_trees.specs.Bits.{bits}
use Rattle.tree_rows.specs.Forest.{Forest}
use Rattle.elem_governing.specs.declared.pairs.Governing.{Governing}
use Rattle.compiled_schema.specs.declared.compiled.Compiled.{Compiled}
use Rattle.doc_nodes.specs.Nodes.{Nodes, Lacks, element_children}
use Rattle.doc_changes.specs.Readers.{element_numbers}
use Rattle.child_lists.specs.from_kept_records.Slots.{pair_at}
use Rattle.child_lists.specs.from_kept_state.KeptState.{KeptState}
use Rattle.child_lists.specs.from_kept_judging.Judged.{pair_by}
use Rattle.kept_below.specs.Moved.{AreGivenDown, moved}
use Rattle.child_lists.specs.Family.{marked_places, model_of, symbols_of}
use Rattle.child_lists.specs.declared.place.ChildPlace.{ChildPlace}

-- of a list of so many: the binary digits of one more, and one
abbrev pub digits : ℕ → ℕ
digits n = bits (n + 1) + 1

-- so many child elements it has
abbrev pub width : Nodes → ℕ → ℕ
width ns n = length (element_children ns n)

-- the places of those whose names are ambivalent, and how many there are
abbrev pub places_of : Compiled → Nodes → KeptState → ℕ → List ℕ
places_of c ns k n = marked_places (model_of c k n) (symbols_of c ns k n)

abbrev pub marked_count : Compiled → Nodes → KeptState → ℕ → ℕ
marked_count c ns k n = length (places_of c ns k n)

-- by this its child elements are governed as an element that is governed so gives it, and all below them
pub record GovernsBelow (c : Compiled) (ns : Nodes) (pair : Governing) (n : ℕ) (governs : ℕ → Governing) (siblings : Forest) : Type 0 where
  pub down : AreGivenDown c ns governs siblings
  pub are : element_numbers siblings ≡ element_children ns n
  pub given : (place child : ℕ) → slice_get (element_children ns n) place ≡ Some child → governs child ≡ pair_by c ns pair n place child

module _ (c : Compiled) (ns : Nodes) (old : KeptState) (at : ChildPlace) where
  -- so many steps suffice for the term of the child element, which takes none where its name is not ambivalent
  abbrev pub Suffice : ℕ → Type 0
  Suffice most = (8 * digits (width ns at.parent) ≤ most) ⊎ Lacks at.place (places_of c ns old at.parent)

  -- to govern the child element by its term takes no more than its term, and three steps for each child element that moves
  abbrev pub TakeAtMost : ℕ → ℕ → Type 0
  TakeAtMost steps now =
      (most : ℕ) (siblings : Forest) (governs : ℕ → Governing) → Suffice most → GovernsBelow c ns (pair_at old.records.slots at.parent) at.parent governs siblings →
      now ≤ steps + (most + 3 * moved old.records.slots governs siblings)

  -- and leaves the steps for those that still move
  abbrev pub LeaveRoom : KeptState → ℕ → ℕ → Type 0
  LeaveRoom new steps now =
      (most : ℕ) (siblings : Forest) (governs : ℕ → Governing) → Suffice most → GovernsBelow c ns (pair_at old.records.slots at.parent) at.parent governs siblings →
      now + 3 * moved new.records.slots governs siblings ≤ steps + (most + 3 * moved old.records.slots governs siblings)
