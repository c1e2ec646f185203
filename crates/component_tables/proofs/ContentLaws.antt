-- The content type of a complex type by those of lower rank.
use Rattle.std.proofs.Common.{◌≡◌, ℕ, ◌+◌, ◌<◌, ◌≤◌, inl, inr, List, Option, None, Some, length, get_or, slice_get, slice_index, refl, sym, ap, ◌∙◌, arith}
use Rattle.std.specs.Prelude.{⊤}
use Rattle.std.proofs.lemmas.Option.{slice_get-get_or, get_or_from_slice_get, slice_get_past}
use Rattle.std.proofs.lemmas.Bool.{cases_lt}
use Rattle.std.proofs.lemmas.List.{get_or_past}
use Rattle.xs_components.specs.Tables.{Tables}
use Rattle.xs_components.specs.declared.common.TypeId.{TypeId}
use Rattle.xs_components.specs.declared.common.TypeId.TheVariants.{AnyType, Builtin, Simple, Complex}
use Rattle.xs_components.specs.declared.complex.ComplexType.{ComplexType}
use Rattle.component_references.specs.Descent.{after_turns, AsksLower}
use Rattle.component_references.specs.Heights.{first_height, IsLower}
use Rattle.component_references.specs.Order.{IsFilledBelow}
use Rattle.component_references.specs.Ranked.{IsRanked}
use Rattle.component_references.proofs.DescentLaws.{along-is}
use Rattle.component_tables.specs.declared.content_types.ContentType.{ContentType}
use Rattle.component_tables.specs.declared.content_types.ContentType.TheVariants.{Empty}
use Rattle.component_tables.specs.ContentTypes.{type_content, form_content, part_content, complex_content, known, AreContentsOf}
use Rattle.component_tables.specs.inside.Filled.{AreFilled}

module _ (t : Tables) (ranked : IsRanked t) where
  -- the same of the types that are lower than a rank
  lower-same : (f g : ℕ → ContentType) (rank : ℕ) → ((y : ℕ) → y < length t.complexes.parts → slice_index t.complexes.ranks y < rank → f y ≡ g y) →
      (of : TypeId) → IsLower t (first_height + rank) of → type_content f of ≡ type_content g of
  lower-same f g rank same AnyType low = refl
  lower-same f g rank same (Builtin kind) low = refl
  lower-same f g rank same (Simple id) low = refl
  lower-same f g rank same (Complex id) low = same id low.there (let l = low.lower in omega arith)

  step-asks : AsksLower (slice_index t.complexes.ranks) Empty (λ complex n. part_content complex (slice_get t.complexes.parts n)) (λ x. ⊤)
  step-asks x f g is same = of (slice_get t.complexes.parts x) refl
    where
      of : (o : Option ComplexType) → slice_get t.complexes.parts x ≡ o → part_content f o ≡ part_content g o
      of None e = refl
      of (Some part) e =
          ap (form_content part.by_extension part.content)
          (lower-same f g (slice_index t.complexes.ranks x) (λ y there low. same y tt low) part.base (ranked.complexes x part e))

  pub complex_content_is : (x : ℕ) → complex_content t x ≡ part_content (complex_content t) (slice_get t.complexes.parts x)
  unfolding complex_content
  complex_content_is x = along-is (slice_index t.complexes.ranks) Empty (λ complex n. part_content complex (slice_get t.complexes.parts n)) (λ x. ⊤) step-asks x tt

  -- the content type by a table that has those of lower rank
  pub rule-content : (x : ℕ) (part : ComplexType) → slice_get t.complexes.parts x ≡ Some part → (table : List ContentType) →
      IsFilledBelow (length t.complexes.parts) t.complexes.ranks (complex_content t) (slice_index t.complexes.ranks x) table →
      form_content part.by_extension part.content (type_content (known table) part.base) ≡ complex_content t x
  rule-content x part is table filled =
      ap (form_content part.by_extension part.content)
      (lower-same (known table) (complex_content t) (slice_index t.complexes.ranks x)
      (λ y there low. get_or_from_slice_get table y (complex_content t y) Empty (filled y there low)) part.base (ranked.complexes x part is)) ∙
      sym (complex_content_is x ∙ ap (part_content (complex_content t)) is)

-- a part that was read by its number
pub part-read : {T : Type 0} (read parts : List T) (x : ℕ) (part : T) → read ≡ parts → part ≡ get_or read x part → x < length parts → slice_get parts x ≡ Some part
part-read read parts x part same is there =
    slice_get-get_or parts x part there ∙ ap Some (sym (is ∙ ap (λ ps. get_or ps x part) same))

-- past the last
content-past : (t : Tables) (x : ℕ) → length t.complexes.parts ≤ x → complex_content t x ≡ Empty
unfolding complex_content
content-past t x l =
    ap (part_content (after_turns (slice_index t.complexes.ranks) Empty (λ complex n. part_content complex (slice_get t.complexes.parts n)) (slice_index t.complexes.ranks x)))
    (slice_get_past t.complexes.parts x l)

pub contents-known : (t : Tables) (table : List ContentType) → AreFilled t table → AreContentsOf t table
contents-known t table are n = elim (cases_lt n (length t.complexes.parts)) [
  | inl l ↦ get_or_from_slice_get table n (complex_content t n) Empty (are.are n l)
  | inr l ↦ get_or_past table n Empty (let e = are.each in omega arith) ∙ sym (content-past t n l)
]
