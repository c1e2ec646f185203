-- Which element a change begins at, and what is another there once it is made.
use Rattle.std.specs.Prelude.{◌≡◌, ℕ, length, true, false, Some}
use Rattle.tree_rows.specs.Whole.{IsTree}
use Rattle.compiled_schema.specs.declared.compiled.Compiled.{Compiled}
use Rattle.doc_nodes.specs.Nodes.{Nodes, is_element_at}
use Rattle.doc_changes.specs.Held.{parent_at}
use Rattle.doc_edits.specs.declared.change.Change.{Change}
use Rattle.doc_edits.specs.declared.change.Change.TheVariants as changes
use Rattle.compiled_schema.specs.Usable.{set_of}
use Rattle.kept_children.specs.from_kept_records.Fit.{head_at}
use Rattle.kept_children.specs.from_kept_records.Slots.{kept_at, pair_at}
use Rattle.kept_children.specs.from_kept_state.KeptState.{KeptState}
use Rattle.kept_children.specs.from_kept_judging.Judged.{again_pair}
use Rattle.kept_children.specs.from_kept_forgetting.Below.{IsWithin}
use Rattle.kept_children.specs.Edited.{IsRightFor, ComesAt}
use Rattle.kept_children.specs.Steps.{width}
use Rattle.kept_changes.specs.Own.{IsRetexted, IsReattributed, IsNamedAnew}
use Rattle.kept_changes.specs.Steps.{TakesBelow, TakesAt, TakesName}
use Rattle.kept_changes.specs.declared.change.Spot.{Spot}
use Rattle.kept_changes.specs.declared.change.Spot.TheVariants.{Planted, Pruned, Retexted, Attributed, Renamed}

-- the element is gone, or the texts of the parent are others
abbrev pub IsRemoval : Nodes → ℕ → Spot → Type 0
IsRemoval ns key (Planted n) = ⊥
IsRemoval ns key (Pruned n) = (n ≡ key) × (is_element_at ns key ≡ true)
IsRemoval ns key (Retexted n) = (is_element_at ns key ≡ false) × (parent_at ns key ≡ Some n)
IsRemoval ns key (Attributed n) = ⊥
IsRemoval ns key (Renamed n) = ⊥

-- the element that a change of a document with these nodes begins at, and what of it is another; a part that is put in is a tree
abbrev pub IsSpot : Nodes → Change → Spot → Type 0
IsSpot ns (changes.Insert parent index part) spot = (spot ≡ Planted (length ns)) × IsTree part
IsSpot ns (changes.AddText parent index chars) spot = spot ≡ Retexted parent
IsSpot ns (changes.SetText key chars) spot = (n : ℕ) × (parent_at ns key ≡ Some n) × (spot ≡ Retexted n)
IsSpot ns (changes.Remove key) spot = IsRemoval ns key spot
IsSpot ns (changes.Rename key name) spot = spot ≡ Renamed key
IsSpot ns (changes.SetAttr key name value) spot = spot ≡ Attributed key
IsSpot ns (changes.UnsetAttr key name) spot = spot ≡ Attributed key

-- the element came with all that is below it, where what is kept is right for the nodes as they were
pub record HasCome (c : Compiled) (ns : Nodes) (k : KeptState) (n : ℕ) : Type 0 where
  pub old : Nodes
  pub right : IsRightFor c old k
  pub parent : ℕ
  pub parent_is : parent_at ns n ≡ Some parent
  pub element : is_element_at ns n ≡ true
  pub was_element : is_element_at old parent ≡ true
  pub place : ℕ
  pub comes : ComesAt old ns parent place n

-- a change of these nodes takes the element away
abbrev pub IsTakenBy : Nodes → Change → ℕ → Type 0
IsTakenBy ns change n = (m : ℕ) × IsSpot ns change (Pruned m) × IsWithin ns m n

-- each element but these has the codes of its identity constraints that it had
abbrev pub KeepsIdentityBut : (ℕ → Type 0) → KeptState → KeptState → Type 0
KeepsIdentityBut those old new = (n : ℕ) → ¬ those n → (kept_at new.records.slots n).identity ≡ (kept_at old.records.slots n).identity

-- what is another at the element, once the change is made; where it is gone, that is another matter
abbrev pub HasChangedAt : Compiled → Nodes → KeptState → Spot → Type 0
HasChangedAt c ns k (Planted n) = HasCome c ns k n
HasChangedAt c ns k (Pruned n) = ⊥
HasChangedAt c ns k (Retexted n) = IsRetexted c ns k n
HasChangedAt c ns k (Attributed n) = IsReattributed c ns k n
HasChangedAt c ns k (Renamed n) = IsNamedAnew c ns k n

-- so many steps at most it takes to follow
abbrev pub TakesSpot : Compiled → Nodes → KeptState → Spot → ℕ → ℕ → Type 0
TakesSpot c ns k (Planted n) first last = (parent : ℕ) → parent_at ns n ≡ Some parent → TakesBelow c ns k parent (width ns parent) first last
TakesSpot c ns k (Pruned n) first last = last ≡ first
TakesSpot c ns k (Retexted n) first last = last ≡ first
TakesSpot c ns k (Attributed n) first last = TakesAt c ns k n (again_pair (set_of c) (pair_at k.records.slots n) (head_at (set_of c) ns n)) first last
TakesSpot c ns k (Renamed n) first last = TakesName c ns k n (parent_at ns n) first last
