-- How many steps a change takes at most, by what governs the elements after it.
use Rattle.std.specs.Prelude.{◌≡◌, ◌≤◌, ◌+◌, ◌*◌, ℕ, [], ◌∷◌, Bool, true, false, Option, None, Some}
use Rattle.tree_rows.specs.Forest.{Forest}
use Rattle.elem_governing.specs.declared.pairs.Governing.{Governing}
use Rattle.compiled_schema.specs.Usable.{set_of}
use Rattle.compiled_schema.specs.declared.compiled.Compiled.{Compiled}
use Rattle.doc_nodes.specs.Nodes.{Nodes, is_element_at}
use Rattle.doc_changes.specs.Held.{parent_at}
use Rattle.doc_changes.specs.Readers.{element_numbers}
use Rattle.doc_edits.specs.declared.change.Change.{Change}
use Rattle.doc_edits.specs.declared.change.Change.TheVariants as changes
use Rattle.kept_children.specs.from_kept_records.Fit.{head_at}
use Rattle.kept_children.specs.from_kept_records.Slots.{pair_at}
use Rattle.kept_children.specs.from_kept_state.KeptState.{KeptState}
use Rattle.kept_children.specs.from_kept_judging.Judged.{root_pair, again_pair}
use Rattle.kept_children.specs.from_kept_below.Moved.{AreGivenDown, moved}
use Rattle.kept_children.specs.Steps.{GovernsBelow, digits, marked_count, width}

module _ (c : Compiled) (ns : Nodes) (k : KeptState) where
  -- the list of an element's child elements was changed, of which it had so many at most: by what governs these now
  abbrev pub TakesBelow : ℕ → ℕ → ℕ → ℕ → Type 0
  TakesBelow parent most first last = (siblings : Forest) (governs : ℕ → Governing) → GovernsBelow c ns (pair_at k.records.slots parent) parent governs siblings →
      last ≤ first + (24 * digits most + 1 + 16 * digits most * marked_count c ns k parent + 3 * moved k.records.slots governs siblings)

  -- an element was governed so
  abbrev pub TakesAt : ℕ → Governing → ℕ → ℕ → Type 0
  TakesAt n pair first last = (siblings : Forest) (governs : ℕ → Governing) → AreGivenDown c ns governs siblings → element_numbers siblings ≡ n ∷ [] → governs n ≡ pair →
      last ≤ first + 3 * moved k.records.slots governs siblings

  -- an element with this parent has another name: the root is in no list
  abbrev pub TakesName : ℕ → Option ℕ → ℕ → ℕ → Type 0
  TakesName n None first last = TakesAt n (root_pair (set_of c) (head_at (set_of c) ns n)) first last
  TakesName n (Some parent) first last = TakesBelow parent (width ns parent) first last

  -- an element or a text went, which had this parent
  abbrev pub TakesAway : Bool → Option ℕ → ℕ → ℕ → Type 0
  TakesAway false parent first last = last ≡ first
  TakesAway true None first last = last ≡ first
  TakesAway true (Some parent) first last = TakesBelow parent (width ns parent + 1) first last

-- a change that made these nodes of those: so many steps at most, by what is kept before it
abbrev pub Takes : Compiled → Nodes → Nodes → KeptState → Change → ℕ → ℕ → Type 0
Takes c old new k (changes.Insert parent index part) first last = TakesBelow c new k parent (width new parent) first last
Takes c old new k (changes.AddText parent index chars) first last = last ≡ first
Takes c old new k (changes.SetText key chars) first last = last ≡ first
Takes c old new k (changes.Remove key) first last = TakesAway c new k (is_element_at old key) (parent_at old key) first last
Takes c old new k (changes.Rename key name) first last = TakesName c new k key (parent_at old key) first last
Takes c old new k (changes.SetAttr key name value) first last = TakesAt c new k key (again_pair (set_of c) (pair_at k.records.slots key) (head_at (set_of c) new key)) first last
Takes c old new k (changes.UnsetAttr key name) first last = TakesAt c new k key (again_pair (set_of c) (pair_at k.records.slots key) (head_at (set_of c) new key)) first last
