-- What the text of an attribute comes to by a type: Structures 3.2.4, 3.5.4.
use Rattle.std.specs.Prelude.{◌≡◌, ℕ, Bool, true, false, List, Option, None, Some, Result, Ok, Err}
use Rattle.xs_codes.specs.declared.code.Code.{Code}
use Rattle.xs_components.specs.Tables.{Tables}
use Rattle.xs_components.specs.declared.common.TypeId.{TypeId}
use Rattle.xs_components.specs.declared.common.ValueConstraint.{ValueConstraint}
use Rattle.simple_values.specs.Same.{same}
use Rattle.simple_values.specs.declared.value.Value.{Value}
use Rattle.facets.specs.Trying.{Scope}
use Rattle.simple_types.specs.Trees.{type_tree}
use Rattle.simple_types.specs.SimpleTypes.{IsValueOf}
use Rattle.attr_assess.specs.declared.values.AttrText.{AttrText}
use Rattle.attr_assess.specs.declared.values.AttrText.TheVariants.{Invalid, Valid}

-- the value is the one that the text of a constraint comes to; a text that is not valid is never the value
abbrev pub is_value : Value → Result Value Code → Bool
is_value value (Ok fixed) = same value fixed
is_value value (Err code) = false

module _ (t : Tables) (of : TypeId) where
  -- simple validity (Structures 3.14.4), by the type
  abbrev pub IsTextRead : Scope → List ℕ → Result Value Code → Type 0
  IsTextRead scope text outcome = IsValueOf (type_tree t of) scope text outcome

  -- The text of a constraint is read in the scope of the schema element that carries it. A default is met by every value.
  abbrev pub IsFixedMet : Bool → ValueConstraint → Value → Bool → Type 0
  IsFixedMet false constraint value met = met ≡ true
  IsFixedMet true constraint value met =
      (fixed : Result Value Code) × IsTextRead constraint.scope constraint.text fixed × (met ≡ is_value value fixed)

  -- whether a value meets a value constraint, if there is one
  abbrev pub IsMet : Option ValueConstraint → Value → Bool → Type 0
  IsMet None value met = met ≡ true
  IsMet (Some constraint) value met = IsFixedMet constraint.fixed constraint value met

  module _ (declared used : Option ValueConstraint) where
    -- a value and whether it meets the constraints of the declaration and of the use; or the code of why there is none
    abbrev pub IsJudged : Result Value Code → AttrText → Type 0
    IsJudged (Err code) read = read ≡ Invalid code
    IsJudged (Ok value) read =
        (by_declaration by_use : Bool) × IsMet declared value by_declaration × IsMet used value by_use
        × (read ≡ Valid value by_declaration by_use)

    -- what a text comes to
    abbrev pub IsRead : Scope → List ℕ → AttrText → Type 0
    IsRead scope text read = (outcome : Result Value Code) × IsTextRead scope text outcome × IsJudged outcome read
