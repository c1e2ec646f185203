-- What an element is judged by does not depend on the codes of IDs.
use Rattle.std.proofs.Common.{◌≡◌, ℕ, Bool, true, false, Option, None, Some, List, [], ◌∷◌, ◌++◌, refl, sym, ap, ◌∙◌, subst, append_assoc, append-nil}
use Rattle.xs_names.specs.Names.{NameTable}
use Rattle.xs_codes.specs.declared.fault.Found.{Found}
use Rattle.xs_components.specs.Tables.{Tables}
use Rattle.xs_components.specs.declared.common.TypeId.{TypeId}
use Rattle.xs_components.specs.declared.common.ValueConstraint.{ValueConstraint}
use Rattle.assess_records.specs.declared.outcome.Validity.{Validity}
use Rattle.assess_records.specs.declared.record.AttrRecord.{AttrRecord}
use Rattle.assess_records.specs.declared.shape.ElementShape.{ElementShape}
use Rattle.component_tables.specs.ContentTypes.{content_of}
use Rattle.component_tables.specs.declared.content_types.ContentType.{ContentType}
use Rattle.component_tables.specs.declared.content_types.ContentType.TheVariants.{SimpleType, Empty, SimpleContent, ElementOnly, Mixed}
use Rattle.elem_governing.specs.declared.pairs.Governing.{Governing}
use Rattle.elem_governing.specs.declared.local_types.XsiType.{XsiType}
use Rattle.elem_codes.specs.declared.outcome.TextOutcome.{TextOutcome}
use Rattle.elem_codes.specs.Facts.{governing_content, is_strictly_assessed, is_taken}
use Rattle.elem_codes.specs.Used.{text_used, scope_used, fixed_value}
use Rattle.elem_codes.specs.Codes.{governed_codes, local_codes, declaration_codes, type_codes, nil_codes, fixed_codes}
use Rattle.elem_codes.specs.Records.{validity_of, any_invalid, nil_text, decl, constraint, nil, taken, all_codes, element_record}
use Rattle.elem_assess.specs.Texts.{is_read, IsRead, IsReadIf, IsTextOutcome}
use Rattle.elem_assess.specs.Marked.{with_ids, validity_with, marked_record}

module _ (shape : ElementShape) (codes : List Found) where
  text-same : (by : Bool) (c : Option ValueConstraint) → text_used by c (with_ids codes shape) ≡ text_used by c shape
  text-same by None = refl
  text-same by (Some c) = refl

  scope-same : (by : Bool) (c : Option ValueConstraint) → scope_used by c (with_ids codes shape) ≡ scope_used by c shape
  scope-same by None = refl
  scope-same by (Some c) = refl

  governed-same : (names : NameTable) (is : Bool) (content : Option ContentType) (text : List ℕ) (outcome : TextOutcome) (missing : List ℕ) →
      governed_codes names is content (with_ids codes shape) text outcome missing ≡ governed_codes names is content shape text outcome missing
  governed-same names is None text outcome missing = refl
  governed-same names is (Some SimpleType) text outcome missing = refl
  governed-same names is (Some Empty) text outcome missing = refl
  governed-same names is (Some SimpleContent) text outcome missing = refl
  governed-same names is (Some ElementOnly) text outcome missing = refl
  governed-same names is (Some Mixed) text outcome missing = refl

  module _ (t : Tables) where
    read-from : (by : Bool) (of : TypeId) (is : Bool) (c : Option ValueConstraint) (outcome : TextOutcome) → IsReadIf by t of is c shape outcome → IsReadIf by t of is c (with_ids codes shape) outcome
    read-from false of is c outcome r = r
    read-from true of is c outcome r =
        subst (λ scope. IsRead t of (fixed_value is c) scope (text_used is c (with_ids codes shape)) outcome) (sym (scope-same is c))
        (subst (λ text. IsRead t of (fixed_value is c) (scope_used is c shape) text outcome) (sym (text-same is c)) r)

    read-to : (by : Bool) (of : TypeId) (is : Bool) (c : Option ValueConstraint) (outcome : TextOutcome) → IsReadIf by t of is c (with_ids codes shape) outcome → IsReadIf by t of is c shape outcome
    read-to false of is c outcome r = r
    read-to true of is c outcome r =
        subst (λ scope. IsRead t of (fixed_value is c) scope (text_used is c shape) outcome) (scope-same is c)
        (subst (λ text. IsRead t of (fixed_value is c) (scope_used is c (with_ids codes shape)) text outcome) (text-same is c) r)

    pub outcome-from : (of : Option TypeId) (is : Bool) (c : Option ValueConstraint) (outcome : TextOutcome) → IsTextOutcome t of is c shape outcome → IsTextOutcome t of is c (with_ids codes shape) outcome
    outcome-from None is c outcome r = r
    outcome-from (Some of) is c outcome r = read-from (is_read (content_of t of) is shape) of (is_taken is c shape) c outcome r

    pub outcome-to : (of : Option TypeId) (is : Bool) (c : Option ValueConstraint) (outcome : TextOutcome) → IsTextOutcome t of is c (with_ids codes shape) outcome → IsTextOutcome t of is c shape outcome
    outcome-to None is c outcome r = r
    outcome-to (Some of) is c outcome r = read-to (is_read (content_of t of) is shape) of (is_taken is c shape) c outcome r

    module _ (names : NameTable) (g : Governing) (said : XsiType) (missing : List ℕ) (outcome : TextOutcome) where
      local-same :
          local_codes names t g said (with_ids codes shape) missing outcome (decl names t g shape) (constraint names t g shape) (nil_text names t g shape) (nil names t g shape) (taken names t g shape)
          ≡ local_codes names t g said shape missing outcome (decl names t g shape) (constraint names t g shape) (nil_text names t g shape) (nil names t g shape) (taken names t g shape)
      local-same =
          ap (λ rest. declaration_codes g said (decl names t g shape) ++ (type_codes t g said ++ (nil_codes (decl names t g shape) (constraint names t g shape) (nil_text names t g shape) (nil names t g shape) shape ++
          (rest ++ fixed_codes (nil names t g shape) (governing_content t g.of) (fixed_value (taken names t g shape) (constraint names t g shape)) shape outcome))))
          (governed-same names (nil names t g shape) (governing_content t g.of) (text_used (taken names t g shape) (constraint names t g shape) (with_ids codes shape)) outcome missing
          ∙ ap (λ text. governed_codes names (nil names t g shape) (governing_content t g.of) shape text outcome missing) (text-same (taken names t g shape) (constraint names t g shape)))

      -- the codes of a shape without codes of IDs, and then these
      codes-behind : shape.ids ≡ [] → all_codes names t g (with_ids codes shape) said missing outcome ≡ all_codes names t g shape said missing outcome ++ codes
      codes-behind none =
          let own = local_codes names t g said shape missing outcome (decl names t g shape) (constraint names t g shape) (nil_text names t g shape) (nil names t g shape) (taken names t g shape) in
          let bare : shape.identity ++ shape.ids ≡ shape.identity = ap (λ ids. shape.identity ++ ids) none ∙ append-nil shape.identity in
          ap (λ front. front ++ (shape.identity ++ codes)) local-same
          ∙ (sym (append_assoc own shape.identity codes) ∙ ap (λ behind. (own ++ behind) ++ codes) (sym bare))

      validity-behind : (front behind : List Found) (strictly below : Bool) → validity_of (front ++ behind) strictly below ≡ validity_with behind (validity_of front strictly below)
      validity-behind [] [] strictly below = refl
      validity-behind [] (x ∷ xs) strictly below = refl
      validity-behind (x ∷ xs) [] strictly below = refl
      validity-behind (x ∷ xs) (y ∷ ys) strictly below = refl

      pub record-marked : (attrs : List AttrRecord) → shape.ids ≡ [] → element_record names t g (with_ids codes shape) said missing outcome attrs ≡ marked_record codes (element_record names t g shape said missing outcome attrs)
      record-marked attrs none =
          let strictly = is_strictly_assessed g said in
          let below = any_invalid attrs shape.counts in
          let plain = element_record names t g shape said missing outcome attrs in
          ap (λ (all : List Found). record plain { validity = validity_of all strictly below; codes = all }) (codes-behind none)
          ∙ ap (λ (v : Validity). record plain { validity = v; codes = plain.codes ++ codes }) (validity-behind plain.codes codes strictly below)
