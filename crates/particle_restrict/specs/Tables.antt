-- The tables of pairs.
use Rattle.std.specs.Prelude.{◌≡◌, ℕ, ◌+◌, ◌*◌, ◌<◌, ◌↔◌, Bool, false, IsTrue, List, [], ⊤, map, length, slice_index, slice_index_or, All as Each}
use Rattle.xs_components.specs.declared.common.TypeId.{TypeId}
use Rattle.particle_forms.specs.Ranges as ranges
use Rattle.particle_forms.specs.Steps.{known}
use Rattle.particle_forms.specs.declared.extent.TotalRange.{TotalRange}
use Rattle.particle_models.specs.Trees.{Tree, leaf, group}
use Rattle.particle_models.specs.Parts.{trees_from, tree_in, MembersBelow}
use Rattle.particle_models.specs.declared.part.Part.{Part}
use Rattle.particle_models.specs.declared.part.Part.TheVariants.{Leaf, Group}
use Rattle.particle_restrict.specs.Totals.{taken, range_of, total}
use Rattle.particle_restrict.specs.Occurrence.{any_number}
use Rattle.particle_restrict.specs.Restricts.{Restricts}
use Rattle.particle_restrict.specs.declared.terms.Term.{Term}
use Rattle.particle_restrict.specs.declared.terms.Term.TheVariants.{Element, Any}
use Rattle.particle_restrict.specs.declared.cells.Cell.{Cell}

-- the members of each part come before it
abbrev pub AreOrdered : List Part → Type 0
AreOrdered parts = (i : ℕ) (d : Part) → i < length parts → MembersBelow i (slice_index_or parts i d)

-- the range of a part, by those of its members
abbrev pub part_total : List TotalRange → Part → TotalRange
part_total table (Leaf bounds term) = taken bounds ranges.once
part_total table (Group bounds compositor members) = taken bounds (range_of compositor (map (known table) members))

-- an element or a wildcard, taken any number of times
abbrev pub widened : Tree → Tree
widened (leaf bounds t) = leaf any_number t
widened (group bounds compositor members) = group bounds compositor members

-- the type of an element is there
abbrev pub HasType : (TypeId → Type 0) → Term → Type 0
HasType IsType (Element element) = IsType element.of
HasType IsType (Any space) = ⊤

abbrev pub no_cell : Cell
no_cell = record { restricts = false; within = false }

module _ (terms : List Term) (derives : TypeId → TypeId → Bool) where
  -- whether a particle restricts another, and that other where it is a leaf taken any number of times
  pub record IsCell (derived base : Tree) (cell : Cell) : Type 0 where
    pub restricts : IsTrue cell.restricts ↔ Restricts terms derives derived base
    pub within : IsTrue cell.within ↔ Restricts terms derives derived (widened base)

  -- the cells are those of the pairs that come first, row by row
  abbrev pub AreCells : List Part → List Part → List Cell → Type 0
  AreCells derived base cells = (i j : ℕ) → j < length base → i * length base + j < length cells →
      IsCell (tree_in derived i) (tree_in base j) (slice_index_or cells (i * length base + j) no_cell)

  -- the cells of these pairs are among them
  abbrev pub HaveCells : List Part → List Part → List Cell → List ℕ → List ℕ → Type 0
  HaveCells derived base cells members base_members = (i j : ℕ) → i < length members → j < length base_members →
      (slice_index members i * length base + slice_index base_members j < length cells) ×
      (IsTrue (slice_index_or cells (slice_index members i * length base + slice_index base_members j) no_cell).restricts ↔
      Restricts terms derives (tree_in derived (slice_index members i)) (tree_in base (slice_index base_members j)))

-- the parts of both sides, with their ranges, and terms whose types are there
pub record IsSides (IsType : TypeId → Type 0) (terms : List Term) (derived base : List Part) (derived_totals base_totals : List TotalRange) : Type 0 where
  pub types : Each (HasType IsType) terms
  pub ordered : AreOrdered derived
  pub base_ordered : AreOrdered base
  pub ranges : derived_totals ≡ map total (trees_from [] derived)
  pub base_ranges : base_totals ≡ map total (trees_from [] base)
