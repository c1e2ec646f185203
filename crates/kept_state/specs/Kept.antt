-- All that is kept beside a document, and when it is right.
use Rattle.std.specs.Prelude.{◌≡◌, ◌≢◌, ◌==◌, ◌↔◌, ℕ, List, [], Option, None, Some, IfSome}
use Rattle.xs_components.specs.Tables.{Tables}
use Rattle.component_references.specs.Heights.{IsType}
use Rattle.assess_records.specs.declared.counts.ChildCounts.{ChildCounts}
use Rattle.elem_governing.specs.declared.pairs.Governing.{Governing}
use Rattle.elem_governing.specs.declared.pairs.Mode.TheVariants.{Skip}
use Rattle.tree_rows.specs.Forest.{Document}
use Rattle.compiled_schema.specs.Usable.{set_of}
use Rattle.compiled_schema.specs.declared.compiled.Compiled.{Compiled}
use Rattle.model_lists.specs.Lists.{ListsView, IsLive}
use Rattle.model_lists.specs.declared.handle.ModelList.{ModelList}
use Rattle.doc_nodes.specs.Nodes.{Nodes}
use Rattle.kept_slots.specs.Slots.{Writes}
use Rattle.kept_records.specs.declared.element.KeptElement.{KeptElement}
use Rattle.kept_records.specs.Slots.{KeptSlots, IsMade, kept_at, pair_at}
use Rattle.kept_records.specs.Fit.{models_of, AllFitBut}
use Rattle.kept_records.specs.Books.{IsBooked, HaveOwnLists}
use Rattle.kept_records.specs.Found.{IsOver}
use Rattle.kept_state.specs.declared.children.KeptChildren.{KeptChildren}
use Rattle.kept_state.specs.declared.element.Outcome.{Outcome}
use Rattle.kept_state.specs.declared.state.KeptState.{KeptState}

-- ---- what is read of one element

-- what is kept of its child elements
abbrev pub children_of : KeptElement → KeptChildren
children_of k = record { stuck = k.stuck; counts = k.counts; list = k.list }

abbrev pub children_at : KeptSlots → ℕ → KeptChildren
children_at ks n = children_of (kept_at ks n)

-- what of it enters its parent's record (Structures 3.3.5)
abbrev pub outcome_of : KeptElement → Outcome
outcome_of k = record { validity = k.found.element.validity; attempted = k.found.element.attempted }

abbrev pub outcome_at : KeptSlots → ℕ → Outcome
outcome_at ks n = outcome_of (kept_at ks n)

-- there are child elements of each kind by both counts, or by neither
pub record HaveSameFlags (one other : ChildCounts) : Type 0 where
  pub valid : (one.valid == 0) ≡ (other.valid == 0)
  pub invalid : (one.invalid == 0) ≡ (other.invalid == 0)
  pub not_known : (one.not_known == 0) ≡ (other.not_known == 0)
  pub full : (one.full == 0) ≡ (other.full == 0)
  pub partial : (one.partial == 0) ≡ (other.partial == 0)
  pub untried : (one.untried == 0) ≡ (other.untried == 0)

-- ---- all elements

-- an element may be governed so: the type is there, and there is none exactly where the element is skipped (Structures 5.2)
pub record CanGovern (t : Tables) (g : Governing) : Type 0 where
  pub there : IfSome g.of (IsType t)
  pub typed : (g.of ≡ None) ↔ (g.mode ≡ Skip)

-- the elements that are kept fit, by a set and over a document's nodes, but for those that wait
abbrev pub FitBut : Compiled → Nodes → KeptState → List ℕ → Type 0
FitBut c ns k waiting = AllFitBut (set_of c) (models_of c) ns k.records.slots k.lists k.root_ids waiting

-- where the set has no identity constraints, no element has codes of them
abbrev pub HasNone : Compiled → KeptSlots → Type 0
HasNone c ks = c.identities.items ≡ [] → (n : ℕ) → (kept_at ks n).identity ≡ []

-- What holds of what is kept beside a document, fit or not: the set is usable, the nodes stand for a document by names of its table,
-- nothing is kept but of its elements, each may be governed as it is, there are no codes without constraints, the sums are those of
-- the elements, and each element has a list of its own.
pub record IsBeside (c : Compiled) (ns : Nodes) (k : KeptState) : Type 0 where
  pub over : (d : Document) × IsOver c ns k.records.slots d
  pub governed : (n : ℕ) → IsMade k.records.slots n → CanGovern c.parts (pair_at k.records.slots n)
  pub plain : HasNone c k.records.slots
  pub booked : IsBooked k.records
  pub own : HaveOwnLists k.lists k.records.slots

-- one element is kept otherwise, and nothing else
pub record Rewrites (old new : KeptState) (n : ℕ) (kept : Option KeptElement) : Type 0 where
  pub slots : Writes old.records.slots new.records.slots n kept
  pub lists : new.lists ≡ old.lists
  pub ids : new.root_ids ≡ old.root_ids

-- the list, if there is one, may be that of the element: no other has it
abbrev pub IsFreeFor : ListsView → KeptSlots → ℕ → Option ModelList → Type 0
IsFreeFor v ks n list = (h : ModelList) → list ≡ Some h → IsLive v h × ((m : ℕ) → m ≢ n → (kept_at ks m).list ≢ Some h)
