-- The last step of a path, in a selector and in a field.
use Rattle.std.specs.Prelude.{◌≡◌, ℕ, Bool, List}
use Rattle.xpath_subset.specs.declared.reading.Kind.{Kind}
use Rattle.xpath_subset.specs.declared.reading.Kind.TheVariants.{Selector, Field}
use Rattle.xpath_subset.specs.Grammar.{WrittenTest, WrittenStep, attribute, IsTest, IsElementStep, IsLastOfField}

abbrev pub IsLastOf : Kind → WrittenStep → List ℕ → Type 0
IsLastOf Selector = IsElementStep
IsLastOf Field = IsLastOfField

-- a last step that the text is, is one to elements
abbrev pub EndsAtElement : (WrittenStep → List ℕ → Type 0) → List ℕ → Type 0
EndsAtElement IsLast text = (step : WrittenStep) → IsLast step text → IsElementStep step text

-- the text is a last step where its end is a name test, and then one to the attributes that this admits
pub record EndsAtAttribute (IsLast : WrittenStep → List ℕ → Type 0) (text end : List ℕ) : Type 0 where
  pub axis : Bool
  pub step : (test : WrittenTest) → IsTest test end → IsLast (attribute axis test) text
  pub test : (step : WrittenStep) → IsLast step text → (axis : Bool) × (test : WrittenTest) × (step ≡ attribute axis test) × IsTest test end
