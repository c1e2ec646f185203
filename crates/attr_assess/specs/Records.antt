-- The record of an attribute: Structures 3.2.4, 3.2.5, 3.4.4 and 3.5.4.
use Rattle.std.specs.Prelude.{◌≡◌, ℕ, Bool, List, [], ◌∷◌, ◌++◌, Option, None, Some, slice_get, if◌then◌else◌}
use Rattle.std.specs.Option.{option_and_then}
use Rattle.xs_codes.specs.declared.code.Code.{Code}
use Rattle.xs_codes.specs.declared.code.Code.TheVariants.{CvcAttribute3, CvcAttribute4, CvcAu}
use Rattle.xs_codes.specs.declared.fault.Found.{Found}
use Rattle.xs_components.specs.Tables.{Tables}
use Rattle.xs_components.specs.declared.attribute.AttributeDecl.{AttributeDecl}
use Rattle.xs_components.specs.declared.common.TypeId.{TypeId}
use Rattle.xs_components.specs.declared.common.TypeId.TheVariants.{Builtin}
use Rattle.xs_components.specs.declared.common.ValueConstraint.{ValueConstraint}
use Rattle.attr_uses.specs.declared.entry.UseAt.{UseAt}
use Rattle.simple_values.specs.declared.value.Value.{Value}
use Rattle.facets.specs.Trying.{Scope}
use Rattle.attr_uses.specs.Written.{use_at}
use Rattle.assess_records.specs.declared.outcome.Validity.{Validity}
use Rattle.assess_records.specs.declared.outcome.Validity.TheVariants as validities
use Rattle.assess_records.specs.declared.outcome.Attempted.{Attempted}
use Rattle.assess_records.specs.declared.outcome.Attempted.TheVariants.{Full, Untried}
use Rattle.assess_records.specs.declared.outcome.ValueSource.{ValueSource}
use Rattle.assess_records.specs.declared.record.AttrRecord.{AttrRecord}
use Rattle.attr_assess.specs.declared.governing.AttrGoverning.{AttrGoverning}
use Rattle.attr_assess.specs.declared.governing.AttrGoverning.TheVariants.{Instance, Declared, Unassessed, Refused}
use Rattle.attr_assess.specs.declared.judged.JudgedAttr.{JudgedAttr}
use Rattle.attr_assess.specs.declared.values.AttrText.{AttrText}
use Rattle.attr_assess.specs.declared.values.AttrText.TheVariants.{Invalid, Valid}
use Rattle.attr_assess.specs.Values.{IsRead}

abbrev pub found : Code → Found
found code = record { code = code; place = 0 }

-- the code, if there is one
abbrev pub codes_if : Option Code → List Found
codes_if None = []
codes_if (Some code) = found code ∷ []

abbrev pub unless : Bool → Code → Option Code
unless met code = if met then None else Some code

-- cvc-attribute.3 (Structures 3.2.4): the text is not valid by the type of the declaration; the code of its value follows.
abbrev pub invalid_codes : Code → List Found
invalid_codes code = found CvcAttribute3 ∷ found code ∷ []

-- cvc-attribute.4 (Structures 3.2.4): the value is not the fixed one of the declaration.
abbrev pub declaration_codes : Bool → List Found
declaration_codes met = codes_if (unless met CvcAttribute4)

-- cvc-au (Structures 3.5.4): the value is not the fixed one of the attribute use.
abbrev pub use_codes : Bool → List Found
use_codes met = codes_if (unless met CvcAu)

-- the codes of an attribute that has a declaration, in order
abbrev pub text_codes : AttrText → List Found
text_codes (Invalid code) = invalid_codes code
text_codes (Valid value by_declaration by_use) = declaration_codes by_declaration ++ use_codes by_use

-- the value of a text that is valid by its type, whether it is the fixed one or not
abbrev pub value_in : AttrText → Option Value
value_in (Invalid code) = None
value_in (Valid value by_declaration by_use) = Some value

-- Structures 3.2.5: invalid with a code; else valid with a declaration, and so with the type that this has
abbrev pub attr_validity : Option TypeId → List Found → Validity
attr_validity of (code ∷ codes) = validities.Invalid
attr_validity None [] = validities.NotKnown
attr_validity (Some of) [] = validities.Valid

-- Structures 3.2.5: in full with a declaration, else not at all
abbrev pub attr_attempted : Option TypeId → Attempted
attr_attempted None = Untried
attr_attempted (Some of) = Full

abbrev pub attr_record : ℕ → Option TypeId → ValueSource → List Found → AttrRecord
attr_record name of source codes = record {
  name = name;
  of = of;
  validity = attr_validity of codes;
  attempted = attr_attempted of;
  source = source;
  codes = codes;
}

-- the constraint on the value that stands in a use
abbrev pub use_constraint : Tables → Option UseAt → Option ValueConstraint
use_constraint t by = option_and_then (λ u. option_and_then (λ part. part.value) (use_at t u)) by

module _ (name : ℕ) (source : ValueSource) where
  -- an attribute that has no declaration, with these codes
  abbrev pub undeclared : List Found → JudgedAttr
  undeclared codes = record { known = attr_record name None source codes; value = None }

  -- an attribute that has a declaration, by its type
  abbrev pub declared : TypeId → AttrText → JudgedAttr
  declared of read = record { known = attr_record name (Some of) source (text_codes read); value = value_in read }

module _ (t : Tables) (name : ℕ) (source : ValueSource) (scope : Scope) (text : List ℕ) where
  abbrev pub IsDeclaredJudged : TypeId → Option ValueConstraint → Option ValueConstraint → JudgedAttr → Type 0
  IsDeclaredJudged of by_declaration by_use judged =
      (read : AttrText) × IsRead t of by_declaration by_use scope text read × (judged ≡ declared name source of read)

  abbrev pub IsByDeclaration : Option AttributeDecl → Option UseAt → JudgedAttr → Type 0
  IsByDeclaration None by judged = judged ≡ undeclared name source (codes_if None)
  IsByDeclaration (Some decl) by judged = IsDeclaredJudged decl.of decl.value (use_constraint t by) judged

  -- The record and the value of an attribute with a name and a text, by what governs it.
  abbrev pub IsAttrJudged : AttrGoverning → JudgedAttr → Type 0
  IsAttrJudged (Instance kind) judged = IsDeclaredJudged (Builtin kind) None None judged
  IsAttrJudged (Declared attribute by) judged = IsByDeclaration (slice_get t.attributes.parts attribute) by judged
  IsAttrJudged Unassessed judged = judged ≡ undeclared name source (codes_if None)
  IsAttrJudged (Refused code) judged = judged ≡ undeclared name source (codes_if (Some code))
