-- The numbers of the components of a kind by the places of their representations: a component's number is the count of those before it.
use Rattle.std.specs.Prelude.{ℕ, Bool, false, List, [], ◌∷◌, Option, None, Some, if◌then◌else◌}
use Rattle.representations.specs.declared.parts.Representation.{Representation}
use Rattle.set_representations.specs.Numbers.{numbers_of}
use Rattle.redefine_names.specs.Components.{declared_by}
use Rattle.redefine_names.specs.Redirections.{same_kind}
use Rattle.redefine_names.specs.declared.declared.Declared.{Declared}
use Rattle.redefine_names.specs.declared.declared.VersionKind.{VersionKind}

abbrev pub is_kind : VersionKind → Option Declared → Bool
is_kind kind None = false
is_kind kind (Some declared) = same_kind declared.kind kind

-- the element declares something of the kind
abbrev pub is_of_kind : VersionKind → Representation → Bool
is_of_kind kind rep = is_kind kind (declared_by rep.form)

-- it represents one component, or none
abbrev pub of_kind : VersionKind → Representation → List Representation
of_kind kind rep = if is_of_kind kind rep then rep ∷ [] else []

abbrev pub kind_numbers : VersionKind → List Representation → List (Option ℕ)
kind_numbers kind reps = numbers_of (of_kind kind) 0 reps
