-- Which attributes an element lacks that its type has a use for: Structures 3.4.4 and 3.4.5.
use Rattle.std.specs.Prelude.{◌≡◌, ℕ, ◌<◌, ◌==◌, Bool, true, false, ◌&&◌, not, List, Option, None, Some, All, Contains, is_some, nat_eq, slice_get}
use Rattle.std.specs.List.{list_any, IsDistinct}
use Rattle.std.specs.Option.{option_and_then, option_or}
use Rattle.xs_components.specs.Tables.{Tables}
use Rattle.xs_components.specs.declared.attribute.AttributeDecl.{AttributeDecl}
use Rattle.xs_components.specs.declared.attribute.AttrUse.{AttrUse}
use Rattle.xs_components.specs.declared.common.ValueConstraint.{ValueConstraint}
use Rattle.attr_uses.specs.declared.entry.UseAt.{UseAt}
use Rattle.assess_records.specs.declared.shape.NamedText.{NamedText}
use Rattle.attr_uses.specs.Written.{use_at}
use Rattle.attr_uses.specs.Uses.{use_named}

-- the value constraint of the declaration of a use
abbrev pub declared_constraint : Tables → AttrUse → Option ValueConstraint
declared_constraint t part = option_and_then (λ decl. decl.value) (slice_get t.attributes.parts part.attribute)

-- the effective value constraint of a use (Structures 3.4.6): its own, else that of its declaration
abbrev pub effective_constraint : Tables → AttrUse → Option ValueConstraint
effective_constraint t part = option_or part.value (declared_constraint t part)

abbrev pub requires_one : Option AttrUse → Bool
requires_one None = false
requires_one (Some part) = part.required

abbrev pub gives_one : Tables → Option AttrUse → Bool
gives_one t None = false
gives_one t (Some part) = not part.required && is_some (effective_constraint t part)

-- no attribute of an element with these has the name
abbrev pub is_lacking : List NamedText → ℕ → Bool
is_lacking given name = not (list_any (λ attr. attr.name == name) given)

-- the use with a name, as it is written
abbrev pub part_named : Tables → List UseAt → ℕ → Option AttrUse
part_named t uses name = option_and_then (use_at t) (use_named t uses name)

module _ (t : Tables) (uses : List UseAt) (given : List NamedText) where
  -- cvc-complex-type.4 (Structures 3.4.4): the use with the name is required, and the element has no such attribute.
  abbrev pub is_missing : ℕ → Bool
  is_missing name = is_lacking given name && requires_one (part_named t uses name)

  -- Attribute Default (Structures 3.4.5): the use with the name is not required and has an effective value constraint, and the
  -- element has no such attribute.
  abbrev pub is_added : ℕ → Bool
  is_added name = is_lacking given name && gives_one t (part_named t uses name)

-- all names whose numbers are below a bound and of which the test is true, each once
pub record AreThose (test : ℕ → Bool) (bound : ℕ) (names : List ℕ) : Type 0 where
  pub once : IsDistinct nat_eq names
  pub below : All (λ name. name < bound) names
  pub hold : All (λ name. test name ≡ true) names
  pub each : (name : ℕ) → name < bound → test name ≡ true → Contains names name
