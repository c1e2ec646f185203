-- Classes of element declarations.
use Rattle.std.specs.Prelude.{◌≡◌, ℕ, ◌≤◌, ◌<◌, ◌⊎◌, true, List, Option, None, Some, length, slice_get}
use Rattle.xs_components.specs.Tables.{Tables}
use Rattle.xs_components.specs.declared.common.ValueConstraint.{ValueConstraint}
use Rattle.xs_components.specs.declared.element.ElementDecl.{ElementDecl}
use Rattle.component_tables.specs.Types.{type_of}
use Rattle.simple_values.specs.Same.{same}
use Rattle.simple_values.specs.declared.value.Value.{Value}
use Rattle.element_declarations.specs.Values.{HasValue}

-- neither has a value constraint, or both are fixed or both are defaults, with the same value
abbrev pub AreSameConstraints : Tables → ℕ → ℕ → Option ValueConstraint → Option ValueConstraint → Type 0
AreSameConstraints t a b None None = Unit {0}
AreSameConstraints t a b (Some x) (Some y) =
    (x.fixed ≡ y.fixed) × (v : Value) × (w : Value) × HasValue t a x v × HasValue t b y w × (same v w ≡ true)
AreSameConstraints t a b _ _ = ⊥

-- Two declarations have the same properties (Structures 3.3.1): the name, the type, the value constraint, whether they are nillable
-- and abstract, final and block, and the identity constraints. No two declarations have one identity constraint, so neither has any.
pub record AreAlike (t : Tables) (a b : ℕ) : Type 0 where
  pub one : ElementDecl
  pub other : ElementDecl
  pub is_one : slice_get t.elements.parts a ≡ Some one
  pub is_other : slice_get t.elements.parts b ≡ Some other
  pub name : one.name ≡ other.name
  pub of : type_of t a ≡ type_of t b
  pub value : AreSameConstraints t a b one.value other.value
  pub nillable : one.nillable ≡ other.nillable
  pub is_abstract : one.is_abstract ≡ other.is_abstract
  pub finals : one.finals ≡ other.finals
  pub blocks : one.blocks ≡ other.blocks
  pub none : length one.constraints ≡ 0
  pub none_other : length other.constraints ≡ 0

-- the class of a declaration: the number of the first that has the same properties, or its own
pub record IsClassOf (t : Tables) (element class_number : ℕ) : Type 0 where
  pub up_to : class_number ≤ element
  pub is : (class_number ≡ element) ⊎ AreAlike t class_number element
  pub first : (m : ℕ) → m < class_number → AreAlike t m element → ⊥

-- these are the classes of all declarations
pub record AreClassesOf (t : Tables) (classes : List ℕ) : Type 0 where
  pub each : length classes ≡ length t.elements.parts
  pub are : (n c : ℕ) → slice_get classes n ≡ Some c → IsClassOf t n c
