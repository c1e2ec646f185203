-- Elements whose names or governing are others than when their targets were found.
use Rattle.std.specs.Prelude.{◌≡◌, ◌⊎◌, ℕ, List, Option, Some, slice_get, true}
use Rattle.std.specs.Option.{option_and_then}
use Rattle.xs_components.specs.Tables.{Tables}
use Rattle.identity_constraints.specs.Targets.{declared_constraints}
use Rattle.doc_nodes.specs.Nodes.{Nodes, Has, is_element_at, element_children}
use Rattle.doc_changes.specs.Held.{parent_at}
use Rattle.compiled_schema.specs.Usable.{set_of}
use Rattle.compiled_schema.specs.declared.compiled.Compiled.{Compiled}
use Rattle.child_lists.specs.Family.{marked_places}
use Rattle.child_lists.specs.from_kept_forgetting.Below.{IsWithin}
use Rattle.child_lists.specs.from_kept_records.Slots.{KeptSlots}
use Rattle.child_lists.specs.from_kept_records.Fit.{models_of, model_at, symbols_at}
use Rattle.child_lists.specs.from_kept_state.KeptState.{KeptState}
use Rattle.kept_targets.specs.Kept.{sign_at}
use Rattle.kept_targets.specs.declared.keys.ElementSign.{ElementSign}

-- the identity constraints that a declaration lists
abbrev pub constraints_by : Tables → Option ℕ → List ℕ
constraints_by t declaration = declared_constraints t (option_and_then (slice_get t.elements.parts) declaration)

-- a scope, and a step on ways, as before
pub record IsSteady (t : Tables) (old new : ElementSign) : Type 0 where
  pub name : new.name ≡ old.name
  pub constraints : constraints_by t new.pair.declaration ≡ constraints_by t old.pair.declaration

-- an element has been, and is, steady
pub record StaysSteady (t : Tables) (ks : KeptSlots) (was : ℕ → Option ElementSign) (n : ℕ) : Type 0 where
  pub old : ElementSign
  pub new : ElementSign
  pub before : was n ≡ Some old
  pub after : sign_at ks n ≡ Some new
  pub steady : IsSteady t old new

-- with what was kept of each element before: an element is as before; or it is among the moved and as a scope as before, and its child
-- elements are looked at; or it is among them with all below it
pub data IsLookedAt (t : Tables) (ns : Nodes) (ks : KeptSlots) (was : ℕ → Option ElementSign) (moved : List ℕ) : ℕ → Type 0 where
  same : (n : ℕ) → was n ≡ sign_at ks n → IsLookedAt t ns ks was moved n
  steady : (n : ℕ) (old new : ElementSign) → Has n moved → was n ≡ Some old → sign_at ks n ≡ Some new → IsSteady t old new → ((c : ℕ) → Has c (element_children ns n) → IsLookedAt t ns ks was moved c)
      → IsLookedAt t ns ks was moved n
  whole : (n : ℕ) → ((m : ℕ) → is_element_at ns m ≡ true → IsWithin ns n m → Has m moved) → IsLookedAt t ns ks was moved n

-- some were put behind these, all of them elements, and each of them one of the roots, or below another that is there
pub record Adds (ns : Nodes) (old new : List ℕ) (roots : ℕ → Type 0) : Type 0 where
  pub still : (m : ℕ) → Has m old → Has m new
  pub only : (m : ℕ) → Has m new → Has m old ⊎ ((is_element_at ns m ≡ true) × (roots m ⊎ ((p : ℕ) × (parent_at ns m ≡ Some p) × Has p new)))

-- the places of the child elements of an element whose names are ambivalent in its content model
abbrev pub marks : Compiled → Nodes → KeptState → ℕ → List ℕ
marks c ns k n = marked_places (model_at (set_of c) (models_of c) ns k.records.slots n) (symbols_at (set_of c) (models_of c) ns k.records.slots n)

-- a child element of an element whose name is ambivalent in the content model of its parent
pub record IsMarked (c : Compiled) (ns : Nodes) (k : KeptState) (n child : ℕ) : Type 0 where
  pub place : ℕ
  pub there : slice_get (element_children ns n) place ≡ Some child
  pub marked : Has place (marks c ns k n)
