-- The types and the references that a version derives from and has to itself, and what they break.
use Rattle.std.specs.Prelude.{ℕ, ◌↔◌, ◌==◌, ◌&&◌, ◌||◌, not, List, [], ◌∷◌, Bool, false, Option, Some, None, Contains, if◌then◌else◌}
use Rattle.std.specs.List.{list_any}
use Rattle.xs_codes.specs.declared.code.Code.{Code}
use Rattle.xs_codes.specs.declared.code.Code.TheVariants as code
use Rattle.schema_shape.specs.declared.forms.Shape.{Shape}
use Rattle.redefine_originals.specs.declared.versions.Redefinable.{Redefinable}
use Rattle.redefine_faults.specs.Redefinitions.{IsSelfReference, occurs_otherwise, is_content, restricts, derives}
use Rattle.redefine_faults.specs.inside.Numbers.{any_inside}

-- a derivation from the type of this name, or content that is one, the elements in the content found by their numbers
abbrev pub is_derivation : List Shape → List Shape → Option (List ℕ) → List ℕ → Shape → Bool
is_derivation numbered shapes target name s =
    restricts shapes target name s.form || (is_content s.form && any_inside numbered (λ d. derives shapes target name d.form) s)

-- these are the references of a version to itself
abbrev pub AreSelves : List Shape → Option (List ℕ) → Redefinable → List ℕ → Shape → List Shape → Type 0
AreSelves shapes target of name version references = (s : Shape) → Contains references s ↔ IsSelfReference shapes target of name version s

-- two of them are not the same element
abbrev pub are_several : List Shape → Bool
are_several [] = false
are_several (s ∷ shapes) = list_any (λ other. not (other.item == s.item)) (s ∷ shapes)

-- the first code that references of a group, of an attribute group to itself break
abbrev pub group_code : List Shape → Option Code
group_code references =
    if are_several references then Some code.SrcRedefine6_1_1
    else (if list_any (λ s. occurs_otherwise s.form) references then Some code.SrcRedefine6_1_2 else None)

abbrev pub uses_code : List Shape → Option Code
uses_code references = if are_several references then Some code.SrcRedefine7_1 else None
