-- The order of the documents of a schema set.
use Rattle.std.specs.Prelude.{◌≡◌, ℕ, ◌+◌, ◌-◌, ◌<◌, ◌≤◌, ◌⊎◌, Bool, true, false, List, [], ◌∷◌, Option, Some, None, length, slice_get, if◌then◌else◌}
use Rattle.std.specs.Option.{option_and_then}
use Rattle.std.specs.Str.{bytes_eq}
use Rattle.schema_set.specs.EffectiveSet.{own_target}
use Rattle.schema_set.specs.declared.documents.Available.{Available}
use Rattle.schema_set.specs.declared.documents.SetDocument.{SetDocument}

-- whether two target namespaces are the same; the absent one is none
abbrev pub same_target : Option (List ℕ) → Option (List ℕ) → Bool
same_target None None = true
same_target None (Some b) = false
same_target (Some a) None = false
same_target (Some a) (Some b) = bytes_eq a b

-- the own target namespace of the document of this number
abbrev pub own_target_of : List Available → ℕ → Option (List ℕ)
own_target_of available number = option_and_then (λ a. own_target a.shaped.shapes) (slice_get available (number - 1))

-- a document has this number
abbrev pub IsNumber : List Available → ℕ → Type 0
IsNumber available number = (0 < number) × (number ≤ length available)

-- how many documents stand before the first whose own target namespace is this
abbrev pub target_place : List Available → Option (List ℕ) → ℕ
target_place [] target = 0
target_place (a ∷ others) target = if same_target (own_target a.shaped.shapes) target then 0 else target_place others target + 1

-- Documents stand in the order of their numbers. One that is in the set with several target namespaces stands with each, in the
-- order of the first documents that have these as their own.
abbrev pub Precedes : List Available → SetDocument → SetDocument → Type 0
Precedes available d e = (d.number < e.number) ⊎ ((d.number ≡ e.number) × (target_place available d.target < target_place available e.target))

abbrev pub IsInOrder : List Available → List SetDocument → Type 0
IsInOrder available documents = (m n : ℕ) (d e : SetDocument) → m < n → slice_get documents m ≡ Some d → slice_get documents n ≡ Some e → Precedes available d e
