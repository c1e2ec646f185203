-- Fixed values of element declarations, by numbers (Structures 3.3.1, 3.9.6).
use Rattle.std.specs.Prelude.{◌≡◌, ◌↔◌, ℕ, true, List, Option, None, Some, slice_get, slice_index_or}
use Rattle.xs_components.specs.Tables.{Tables}
use Rattle.xs_components.specs.declared.common.ValueConstraint.{ValueConstraint}
use Rattle.xs_components.specs.declared.element.ElementDecl.{ElementDecl}
use Rattle.element_declarations.specs.Values.{HasValue}
use Rattle.simple_values.specs.Same.{same}
use Rattle.simple_values.specs.declared.value.Value.{Value}

-- the element declaration of a number has this fixed value, read in the scope of the schema element that carries it
pub record HasFixed (t : Tables) (element : ℕ) (value : Value) : Type 0 where
  pub part : ElementDecl
  pub constraint : ValueConstraint
  pub is : slice_get t.elements.parts element ≡ Some part
  pub has : part.value ≡ Some constraint
  pub fixed : constraint.fixed ≡ true
  pub read : HasValue t element constraint value

abbrev pub number_of : List (Option ℕ) → ℕ → Option ℕ
number_of numbers element = slice_index_or numbers element None

-- numbers of fixed values: those that have one have a number, and two share it exactly where their values are the same
pub record AreFixedNumbers (t : Tables) (numbers : List (Option ℕ)) : Type 0 where
  pub there : (element n : ℕ) → number_of numbers element ≡ Some n → (value : Value) × HasFixed t element value
  pub each : (element : ℕ) (value : Value) → HasFixed t element value → (n : ℕ) × (number_of numbers element ≡ Some n)
  pub shared : (a b : ℕ) (x y : Value) → HasFixed t a x → HasFixed t b y → (number_of numbers a ≡ number_of numbers b) ↔ (same x y ≡ true)
