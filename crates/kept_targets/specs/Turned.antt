-- Where a document is another than before, and what is kept of it was right for the document before.
use Rattle.std.specs.Prelude.{◌≡◌, ◌≢◌, ◌⊎◌, ℕ, true, false, List, [], Option, None, Some}
use Rattle.compiled_schema.specs.declared.compiled.Compiled.{Compiled}
use Rattle.doc_nodes.specs.Nodes.{Nodes, Has, is_element_at, element_children}
use Rattle.doc_changes.specs.Held.{parent_at, attributes_at}
use Rattle.doc_changes.specs.Readers.{name_at, own_chars, scope_at}
use Rattle.child_lists.specs.from_kept_records.Slots.{kept_at}
use Rattle.child_lists.specs.from_kept_records.Found.{IsOver, SaysFound}
use Rattle.child_lists.specs.from_kept_forgetting.Below.{IsWithin}
use Rattle.tree_rows.specs.Forest.{Document}
use Rattle.child_lists.specs.from_kept_state.KeptState.{KeptState}
use Rattle.kept_targets.specs.Kept.{AreTargets}
use Rattle.kept_targets.specs.Whole.{IsWhole}
use Rattle.kept_targets.specs.declared.keys.TargetKeys.{TargetKeys}
use Rattle.kept_targets.specs.declared.turn.Turn.{Turn}
use Rattle.kept_targets.specs.declared.turn.Turn.TheVariants.{Own, Listed, Gone}

-- the element whose own texts or attributes are others
abbrev pub own_of : Turn → Option ℕ
own_of (Own n) = Some n
own_of (Listed n) = Some n
own_of (Gone parent numbers) = None

-- the one that has come or has another name
abbrev pub listed_of : Turn → Option ℕ
listed_of (Own n) = None
listed_of (Listed n) = Some n
listed_of (Gone parent numbers) = None

-- the one whose child elements are others, by the document after it
abbrev pub list_of : Nodes → Turn → Option ℕ
list_of ns (Own n) = None
list_of ns (Listed n) = parent_at ns n
list_of ns (Gone parent numbers) = Some parent

-- the lowest of all that are seen otherwise and were there before, or the one that has come
abbrev pub lowest_of : Turn → ℕ
lowest_of (Own n) = n
lowest_of (Listed n) = n
lowest_of (Gone parent numbers) = parent

abbrev pub gone_of : Turn → List ℕ
gone_of (Own n) = []
gone_of (Listed n) = []
gone_of (Gone parent numbers) = numbers.items

module _ (old new : Nodes) where
  -- an element is there before and after
  pub record Stays (n : ℕ) : Type 0 where
    pub before : is_element_at old n ≡ true
    pub after : is_element_at new n ≡ true

  -- One document is another than before. Of the elements that stay, each has its parent and its scope; each but one its attributes and its
  -- texts; each but one its name; and each but one its child elements. Those that have come are at or below one that has; those that
  -- are gone are listed.
  pub record Turns (turn : Turn) : Type 0 where
    pub lowest : is_element_at new (lowest_of turn) ≡ true
    pub parents : (n : ℕ) → Stays n → parent_at new n ≡ parent_at old n
    pub scopes : (n : ℕ) → Stays n → scope_at new n ≡ scope_at old n
    pub attributes : (n : ℕ) → Stays n → own_of turn ≢ Some n → attributes_at new n ≡ attributes_at old n
    pub texts : (n : ℕ) → Stays n → own_of turn ≢ Some n → own_chars new n ≡ own_chars old n
    pub names : (n : ℕ) → Stays n → listed_of turn ≢ Some n → name_at new n ≡ name_at old n
    pub children : (n : ℕ) → Stays n → list_of new turn ≢ Some n → element_children new n ≡ element_children old n
    pub come : (n : ℕ) → is_element_at new n ≡ true → is_element_at old n ≡ false → (own : ℕ) × (listed_of turn ≡ Some own) × (is_element_at old own ≡ false) × IsWithin new own n
    pub gone : (n : ℕ) → is_element_at old n ≡ true → is_element_at new n ≡ false → Has n (gone_of turn)
    pub away : (n : ℕ) → Has n (gone_of turn) → is_element_at new n ≡ false

-- nothing is counted yet, and the root has come
pub record Opens (c : Compiled) (ns : Nodes) (keys : TargetKeys) (turn : Turn) : Type 0 where
  pub none : AreTargets c ns [] keys
  pub root : turn ≡ Listed 1

-- what is counted is right for a document that has become another there, and all that was kept of it was right; each element that stays
-- has the codes of its identity constraints that it had
pub record Follows (c : Compiled) (ns : Nodes) (k : KeptState) (keys : TargetKeys) (turn : Turn) : Type 0 where
  pub old : Nodes
  pub before : KeptState
  pub whole : IsWhole c old before
  pub says : (d : Document) → IsOver c old before.records.slots d → SaysFound c old before.records.slots before.root_ids d
  pub targets : AreTargets c old before.records.slots keys
  pub turns : Turns old ns turn
  pub identity : (n : ℕ) → Stays old ns n → (kept_at k.records.slots n).identity ≡ (kept_at before.records.slots n).identity

abbrev pub WereTargets : Compiled → Nodes → KeptState → TargetKeys → Turn → Type 0
WereTargets c ns k keys turn = Opens c ns keys turn ⊎ Follows c ns k keys turn
