-- The literals of the types that are derived from a built-in one by restriction: Datatypes 4.1.4, Structures 3.14.4.
use Rattle.std.specs.Prelude.{◌≡◌, ℕ, nat_lt, Bool, true, false, List, length, Option, None, Some, Result, Ok, Err}
use Rattle.xs_names.specs.declared.handling.WhiteSpace.{WhiteSpace}
use Rattle.xs_names.specs.declared.handling.WhiteSpace.TheVariants.{Preserve}
use Rattle.xs_names.specs.WhiteSpace.{normalized, items}
use Rattle.xs_codes.specs.declared.builtin.Builtin.{Builtin}
use Rattle.xs_codes.specs.declared.code.Code.{Code}
use Rattle.xs_codes.specs.declared.code.Code.TheVariants.{CvcDatatypeValid1, XLimitValue, XLimitItems}
use Rattle.simple_values.specs.declared.fault.ValueFault.{ValueFault}
use Rattle.simple_values.specs.declared.fault.ValueFault.TheVariants.{NotLexical, Limit}
use Rattle.simple_values.specs.declared.value.Value.{Value}
use Rattle.simple_values.specs.Reading.{literal_value}
use Rattle.simple_values.specs.Grammar.{item_type}
use Rattle.facet_checks.specs.declared.list.Handling.{Handling}
use Rattle.facet_checks.specs.declared.list.FacetList.{FacetList}
use Rattle.facet_checks.specs.Check.{IsChecked}
use Rattle.facets.specs.declared.atomic.Accepted.{Accepted}

abbrev pub way_in : Option Handling → WhiteSpace
way_in None = Preserve
way_in (Some handling) = handling.value

-- 4.3.6: what the facets say of white space
abbrev pub way_of : FacetList → WhiteSpace
way_of facets = way_in facets.white_space

-- cvc-datatype-valid.1 (Datatypes 4.1.4): the text is no literal; x-limit.value: its value is past the limits
abbrev pub fault_code : ValueFault → Code
fault_code NotLexical = CvcDatatypeValid1
fault_code Limit = XLimitValue

abbrev pub accepted : Value → List ℕ → Option Code → Result Accepted Code
accepted value text None = Ok (record { value = value; text = text })
accepted value text (Some code) = Err code

-- the value, unless some facet is not met
abbrev pub IsJudged : FacetList → Value → List ℕ → Result Accepted Code → Type 0
IsJudged facets value text outcome = (code : Option Code) × IsChecked facets value text code × (outcome ≡ accepted value text code)

abbrev pub IsValueJudged : FacetList → List ℕ → Result Value ValueFault → Result Accepted Code → Type 0
IsValueJudged facets text (Err fault) outcome = outcome ≡ Err (fault_code fault)
IsValueJudged facets text (Ok value) outcome = IsJudged facets value text outcome

-- x-limit.items (own): a list has more than 65,536 items
abbrev pub is_past_items : Option Builtin → List ℕ → Bool
is_past_items None text = false
is_past_items (Some item) text = nat_lt 65_536 (length (items text))

abbrev pub has_too_many : Builtin → List ℕ → Bool
has_too_many kind text = is_past_items (item_type kind) text

abbrev pub IsReadUnless : Bool → FacetList → List ℕ → Result Value ValueFault → Result Accepted Code → Type 0
IsReadUnless true facets text value outcome = outcome ≡ Err XLimitItems
IsReadUnless false facets text value outcome = IsValueJudged facets text value outcome

-- 4.1.4: the text, its white space treated, is a literal of the built-in type that the type is or is derived from, its value
-- is within the limits, and it meets the facets; the first that fails gives the code
abbrev pub IsAtomicRead : Builtin → FacetList → List (List ℕ × ℕ) → List ℕ → Result Accepted Code → Type 0
IsAtomicRead kind facets scope text outcome =
    IsReadUnless (has_too_many kind (normalized (way_of facets) text)) facets (normalized (way_of facets) text) (literal_value kind scope (normalized (way_of facets) text)) outcome
