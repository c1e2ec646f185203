-- The record of an element: its codes, [validity] and [validation attempted] (Structures 3.3.5).
use Rattle.std.specs.Prelude.{ℕ, Bool, true, false, not, ◌&&◌, ◌||◌, ◌==◌, List, [], ◌∷◌, ◌++◌, Option, if◌then◌else◌}
use Rattle.std.specs.List.{list_any, list_all}
use Rattle.xs_names.specs.Names.{NameTable}
use Rattle.xs_codes.specs.declared.fault.Found.{Found}
use Rattle.xs_components.specs.Tables.{Tables}
use Rattle.xs_components.specs.declared.common.ValueConstraint.{ValueConstraint}
use Rattle.xs_components.specs.declared.element.ElementDecl.{ElementDecl}
use Rattle.assess_records.specs.declared.outcome.Validity.{Validity}
use Rattle.assess_records.specs.declared.outcome.Validity.TheVariants as validities
use Rattle.assess_records.specs.declared.outcome.Attempted.{Attempted}
use Rattle.assess_records.specs.declared.outcome.Attempted.TheVariants.{Full, Partial, Untried}
use Rattle.assess_records.specs.declared.counts.ChildCounts.{ChildCounts}
use Rattle.assess_records.specs.declared.record.AttrRecord.{AttrRecord}
use Rattle.assess_records.specs.declared.record.ElementRecord.{ElementRecord}
use Rattle.assess_records.specs.declared.shape.ElementShape.{ElementShape}
use Rattle.assess_records.specs.Instance.{instance_text}
use Rattle.assess_records.specs.declared.instance_names.InstanceAttribute.TheVariants.{Nil}
use Rattle.elem_governing.specs.declared.pairs.Governing.{Governing}
use Rattle.elem_governing.specs.declared.local_types.XsiType.{XsiType}
use Rattle.elem_codes.specs.declared.outcome.TextOutcome.{TextOutcome}
use Rattle.elem_codes.specs.Facts.{declaration_of, constraint_of, is_strictly_assessed, is_nil, is_taken}
use Rattle.elem_codes.specs.Used.{source_of}
use Rattle.elem_codes.specs.Codes.{local_codes}

-- ---- [validity] and [validation attempted]

abbrev pub is_invalid : Validity → Bool
is_invalid validities.Valid = false
is_invalid validities.Invalid = true
is_invalid validities.NotKnown = false

abbrev pub is_full : Attempted → Bool
is_full Full = true
is_full Partial = false
is_full Untried = false

abbrev pub is_untried : Attempted → Bool
is_untried Full = false
is_untried Partial = false
is_untried Untried = true

-- an attribute or a child element is invalid
abbrev pub any_invalid : List AttrRecord → ChildCounts → Bool
any_invalid attrs counts = list_any (λ (a : AttrRecord). is_invalid a.validity) attrs || not (counts.invalid == 0)

-- all attributes and child elements were assessed in full
abbrev pub all_full : List AttrRecord → ChildCounts → Bool
all_full attrs counts = list_all (λ (a : AttrRecord). is_full a.attempted) attrs && ((counts.partial == 0) && (counts.untried == 0))

-- none of them was assessed at all
abbrev pub all_untried : List AttrRecord → ChildCounts → Bool
all_untried attrs counts = list_all (λ (a : AttrRecord). is_untried a.attempted) attrs && ((counts.full == 0) && (counts.partial == 0))

-- Structures 3.3.5: invalid with a code; where the element is strictly assessed invalid where an attribute or child element is, else
-- valid; else not known
abbrev pub validity_of : List Found → Bool → Bool → Validity
validity_of (code ∷ more) strictly below = validities.Invalid
validity_of [] true below = if below then validities.Invalid else validities.Valid
validity_of [] false below = validities.NotKnown

-- Structures 3.3.5: full where it is strictly assessed and all attributes and child elements are full; none where it is not and all
-- of them are none; else partial
abbrev pub attempted_of : Bool → List AttrRecord → ChildCounts → Attempted
attempted_of true attrs counts = if all_full attrs counts then Full else Partial
attempted_of false attrs counts = if all_untried attrs counts then Untried else Partial

-- the record of an element with these codes
abbrev pub record_with : Governing → XsiType → ElementShape → List AttrRecord → Bool → List Found → ElementRecord
record_with g said shape attrs taken codes = record {
  name = shape.name;
  of = g.of;
  validity = validity_of codes (is_strictly_assessed g said) (any_invalid attrs shape.counts);
  attempted = attempted_of (is_strictly_assessed g said) attrs shape.counts;
  source = source_of taken;
  codes = codes;
}

module _ (names : NameTable) (t : Tables) (g : Governing) (shape : ElementShape) where
  -- the text of xsi:nil
  abbrev pub nil_text : Option (List ℕ)
  nil_text = instance_text names shape.attrs Nil

  abbrev pub decl : Option ElementDecl
  decl = declaration_of t g

  abbrev pub constraint : Option ValueConstraint
  constraint = constraint_of decl

  -- the element is nil
  abbrev pub nil : Bool
  nil = is_nil decl nil_text

  -- it takes the text of the value constraint
  abbrev pub taken : Bool
  taken = is_taken nil constraint shape

  module _ (said : XsiType) (missing : List ℕ) (outcome : TextOutcome) where
    -- the codes of an element; those of its identity constraints and of ids come last
    abbrev pub all_codes : List Found
    all_codes = local_codes names t g said shape missing outcome decl constraint nil_text nil taken ++ (shape.identity ++ shape.ids)

    -- the record of an element, by the records of its attributes
    abbrev pub element_record : List AttrRecord → ElementRecord
    element_record attrs = record_with g said shape attrs taken all_codes
