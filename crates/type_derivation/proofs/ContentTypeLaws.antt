-- The content type that is found along ranks is the one.
use Rattle.std.proofs.Common.{◌≡◌, ℕ, zero, suc, ◌+◌, ◌<◌, List, [], ◌∷◌, length, Option, None, Some, slice_get, slice_index, refl, sym, ap, subst, ◌∙◌, arith}
use Rattle.xs_components.specs.Tables.{Tables}
use Rattle.xs_components.specs.declared.common.TypeId.{TypeId}
use Rattle.xs_components.specs.declared.common.TypeId.TheVariants as types
use Rattle.xs_components.specs.declared.complex.ComplexType.{ComplexType}
use Rattle.component_references.specs.Heights.{first_height, IsType, IsLower}
use Rattle.component_references.specs.Ranked.{IsRanked}
use Rattle.component_tables.specs.ContentTypes.{part_content, complex_content, content_of}
use Rattle.component_tables.specs.declared.content_types.ContentType.{ContentType}
use Rattle.component_tables.proofs.ContentLaws.{complex_content_is}
use Rattle.type_derivation.specs.Contents.{HasContent, of_any, of_built_in, of_simple, inherited}

there-not-none : {T : Type 0} (parts : List T) (n : ℕ) → n < length parts → slice_get parts n ≡ None → ⊥
there-not-none [] n l e = omega (arith, l)
there-not-none (part ∷ parts) zero l e = cc
there-not-none (part ∷ parts) (suc n) l e = there-not-none parts n (omega (arith, l)) e

module _ (t : Tables) (ranked : IsRanked t) where
  lower-has : (bound : ℕ) → ((n : ℕ) → slice_index t.complexes.ranks n < bound → n < length t.complexes.parts → HasContent t (types.Complex n) (complex_content t n)) →
      (of : TypeId) → IsLower t (first_height + bound) of → HasContent t of (content_of t of)
  lower-has bound rec types.AnyType low = of_any
  lower-has bound rec (types.Builtin kind) low = of_built_in kind
  lower-has bound rec (types.Simple id) low = of_simple id
  lower-has bound rec (types.Complex id) low = rec id (let l = low.lower in omega arith) low.there

  entry-has : (bound n : ℕ) → slice_index t.complexes.ranks n < bound → n < length t.complexes.parts → HasContent t (types.Complex n) (complex_content t n)
  entry-has zero n low there = absurd (omega arith)
  entry-has (suc bound) n low there = of (slice_get t.complexes.parts n) refl (λ of lower. lower-has bound (λ m lower there. entry-has bound m lower there) of lower)
    where
      of : (o : Option ComplexType) → slice_get t.complexes.parts n ≡ o → ((of : TypeId) → IsLower t (first_height + bound) of → HasContent t of (content_of t of)) → HasContent t (types.Complex n) (complex_content t n)
      of None e rec = absurd (there-not-none t.complexes.parts n there e)
      of (Some part) e rec =
          let l = ranked.complexes n part e in
          subst (λ (content : ContentType). HasContent t (types.Complex n) content) (sym (complex_content_is t ranked n ∙ ap (part_content (complex_content t)) e))
          (inherited n part (content_of t part.base) e (rec part.base (record { there = l.there; lower = (let m = l.lower in omega arith) })))

  pub has-content : (of : TypeId) → IsType t of → HasContent t of (content_of t of)
  has-content types.AnyType there = of_any
  has-content (types.Builtin kind) there = of_built_in kind
  has-content (types.Simple id) there = of_simple id
  has-content (types.Complex id) there = entry-has (suc (slice_index t.complexes.ranks id)) id (omega arith) there
