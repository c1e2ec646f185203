-- What is noted of properties, one declaration after another.
use Rattle.std.specs.Prelude.{◌≡◌, ◌≢◌, ℕ, ◌≤◌, ◌<◌, List, Option, None, Some, length, slice_get}
use Rattle.xs_components.specs.Tables.{Tables}
use Rattle.element_declarations.specs.Classes.{IsClassOf}
use Rattle.element_declarations.specs.declared.properties.Properties.{Properties}
use Rattle.element_declarations.specs.inside.Keys.{HasKey}

-- the number that was noted for some properties, or this one, which is noted for them
pub record Notes (old new : Properties → Option ℕ) (own : Properties) (number first : ℕ) : Type 0 where
  pub known : (noted : ℕ) → old own ≡ Some noted → (first ≡ noted) × ((key : Properties) → new key ≡ old key)
  pub added : old own ≡ None → (first ≡ number) × (new own ≡ Some number)
  pub others : (key : Properties) → key ≢ own → new key ≡ old key

-- the first of the declarations before this one are noted for the properties that they have
pub record AreNoted (t : Tables) (number : ℕ) (noted : Properties → Option ℕ) : Type 0 where
  pub there : (key : Properties) (n : ℕ) → noted key ≡ Some n → (n < number) × HasKey t n key
  pub first : (key : Properties) (n m : ℕ) → noted key ≡ Some n → m < n → HasKey t m key → ⊥
  pub every : (key : Properties) (m : ℕ) → m < number → HasKey t m key → noted key ≢ None

-- the declarations before this one have these classes, and the first of them are noted
pub record AreClassed (t : Tables) (number : ℕ) (classes : List ℕ) (noted : Properties → Option ℕ) : Type 0 where
  pub few : number ≤ length t.elements.parts
  pub each : length classes ≡ number
  pub are : (n c : ℕ) → slice_get classes n ≡ Some c → IsClassOf t n c
  pub noted_for : AreNoted t number noted

abbrev pub HasNone : (Properties → Option ℕ) → Type 0
HasNone noted = (key : Properties) → noted key ≡ None
