-- What a type is judged by does not change where a type is written that is no lower.
use Rattle.std.proofs.Common.{◌≡◌, ◌≢◌, ℕ, ◌+◌, ◌≤◌, Bool, true, false, List, [], ◌∷◌, Option, None, Some, set, slice_get, slice_index, refl, sym, ap, subst, ◌∙◌, arith}
use Rattle.std.specs.Prelude.{All}
use Rattle.std.proofs.lemmas.List.Elements.{All-head, All-tail, All-weaker}
use Rattle.xs_components.specs.Tables.{Tables}
use Rattle.xs_components.specs.declared.common.Place.{Place}
use Rattle.xs_components.specs.declared.common.TypeId.{TypeId}
use Rattle.xs_components.specs.declared.common.TypeId.TheVariants as types
use Rattle.xs_components.specs.declared.simple.SimpleForm.{SimpleForm}
use Rattle.xs_components.specs.declared.simple.SimpleForm.TheVariants.{Restrict, ListOf, UnionOf}
use Rattle.xs_components.specs.declared.simple.SimpleType.{SimpleType}
use Rattle.xs_components.specs.declared.complex.ContentForm.{ContentForm}
use Rattle.xs_components.specs.declared.complex.ContentForm.TheVariants as contents
use Rattle.xs_components.specs.declared.complex.ComplexType.{ComplexType}
use Rattle.component_references.specs.Heights.{first_height, IsLower}
use Rattle.component_references.specs.Ranked.{named_types, IsRanked}
use Rattle.facets.specs.declared.known.Known.{Known}
use Rattle.facets.specs.declared.known.Known.TheVariants.{Whole}
use Rattle.facets.specs.UnionMembers.{Members}
use Rattle.facets.specs.Making.{no_members, with_member}
use Rattle.facets.specs.Source.{union_of}
use Rattle.simple_types.specs.SimpleValidity.{made_from_both}
use Rattle.simple_types.specs.declared.judged.TypeFacets.{TypeFacets}
use Rattle.simple_types.specs.declared.judged.JudgedType.{JudgedType}
use Rattle.simple_types.specs.Lookup.{entry_of, looked_up, content_of}
use Rattle.simple_types.specs.Forms.{IsStepMade, members_behind, known_of_members, list_made, union_made, IsFormMade, IsContentMade, without_fault}
use Rattle.simple_types.specs.Judging.{Holds, IsSimpleAt, IsContentAt}
use Rattle.simple_types.proofs.FilledLaws.{read_past}

module _ (f g : TypeId → TypeFacets) where
  abbrev IsSame : TypeId → Type 0
  IsSame of = f of ≡ g of

  members-same : (members : List TypeId) (front : Members) → All IsSame members → members_behind f front members ≡ members_behind g front members
  members-same [] front h = refl
  members-same (m ∷ ms) front h =
      ap (λ (of : TypeFacets). members_behind f (with_member front of.facets) ms) (All-head IsSame m ms h) ∙ members-same ms (with_member front (g m).facets) (All-tail IsSame m ms h)

  known-same : (members : List TypeId) (known : Known) → All IsSame members → known_of_members f known members ≡ known_of_members g known members
  known-same [] known h = refl
  known-same (m ∷ ms) known h =
      ap (λ (of : TypeFacets). known_of_members f (made_from_both known of.known) ms) (All-head IsSame m ms h) ∙ known-same ms (made_from_both known (g m).known) (All-tail IsSame m ms h)

  form-same : (t : Tables) (at : Place) (form : SimpleForm) (made : JudgedType) → All IsSame (named_types form) → IsFormMade t f at form made → IsFormMade t g at form made
  form-same t at (Restrict base step) made h is = (is.0, subst (λ behind. IsStepMade behind step is.0) (All-head IsSame base [] h) is.1, is.2)
  form-same t at (ListOf item) made h is = is ∙ same
    where
      same : list_made t f at item ≡ list_made t g at item
      same = ap (λ (of : TypeFacets). list_made t (λ x. of) at item) (All-head IsSame item [] h)
  form-same t at (UnionOf members) made h is =
      is ∙ ap (λ (all : Members). record { of = record { facets = union_of all; known = known_of_members f Whole members }; fault = (union_made t f at members).fault }) (members-same members no_members h)
      ∙ ap (λ (known : Known). record { of = record { facets = union_of (members_behind g no_members members); known = known }; fault = (union_made t f at members).fault }) (known-same members Whole h)

module _ (t : Tables) (ranked : IsRanked t) where
  looked-same : (table : List JudgedType) (x rank : ℕ) (v : JudgedType) → rank ≤ slice_index t.simples.ranks x → (of : TypeId) → IsLower t (first_height + rank) of → looked_up table of ≡ looked_up (set table x v) of
  looked-same table x rank v low types.AnyType l = refl
  looked-same table x rank v low (types.Builtin kind) l = refl
  looked-same table x rank v low (types.Complex id) l = refl
  looked-same table x rank v low (types.Simple id) l = ap entry_of (sym (read_past table x id v other))
    where
      other : id ≢ x
      other e = let same : slice_index t.simples.ranks id ≡ slice_index t.simples.ranks x = ap (slice_index t.simples.ranks) e in absurd (omega (arith, same, l.lower, low))

  pub simple-stable : (table : List JudgedType) (x y : ℕ) (v made : JudgedType) → slice_index t.simples.ranks y ≤ slice_index t.simples.ranks x → IsSimpleAt t table y made → IsSimpleAt t (set table x v) y made
  simple-stable table x y v made low is = of (slice_get t.simples.parts y) refl is
    where
      of : (o : Option SimpleType) → slice_get t.simples.parts y ≡ o → Holds (λ part. IsFormMade t (looked_up table) part.at part.form made) o → Holds (λ part. IsFormMade t (looked_up (set table x v)) part.at part.form made) o
      of None e h = h
      of (Some part) e h =
          form-same (looked_up table) (looked_up (set table x v)) t part.at part.form made
          (All-weaker (IsLower t (first_height + slice_index t.simples.ranks y)) (λ of. looked_up table of ≡ looked_up (set table x v) of)
          (looked-same table x (slice_index t.simples.ranks y) v low) (named_types part.form) (ranked.simples y part e)) h

  content-same : (simples table : List JudgedType) (x rank : ℕ) (v : JudgedType) → rank ≤ slice_index t.complexes.ranks x → (of : TypeId) → IsLower t (first_height + rank) of → content_of simples table of ≡ content_of simples (set table x v) of
  content-same simples table x rank v low types.AnyType l = refl
  content-same simples table x rank v low (types.Builtin kind) l = refl
  content-same simples table x rank v low (types.Simple id) l = refl
  content-same simples table x rank v low (types.Complex id) l = ap entry_of (sym (read_past table x id v other))
    where
      other : id ≢ x
      other e = let same : slice_index t.complexes.ranks id ≡ slice_index t.complexes.ranks x = ap (slice_index t.complexes.ranks) e in absurd (omega (arith, same, l.lower, low))

  made-same : (simple f g : TypeId → TypeFacets) (by_extension : Bool) (base : TypeId) (form : ContentForm) (made : JudgedType) → f base ≡ g base → IsContentMade simple f by_extension base form made → IsContentMade simple g by_extension base form made
  made-same simple f g true base (contents.Simple own step) made e is = is ∙ ap without_fault e
  made-same simple f g true base (contents.Complex None mixed) made e is = is ∙ ap without_fault e
  made-same simple f g true base (contents.Complex (Some p) mixed) made e is = is
  made-same simple f g false base (contents.Simple None step) made e is = subst (λ behind. IsStepMade behind step made) e is
  made-same simple f g false base (contents.Simple (Some own) step) made e is = is
  made-same simple f g false base (contents.Complex effective mixed) made e is = is

  pub content-stable : (simples table : List JudgedType) (x y : ℕ) (v made : JudgedType) → slice_index t.complexes.ranks y ≤ slice_index t.complexes.ranks x → IsContentAt t simples table y made → IsContentAt t simples (set table x v) y made
  content-stable simples table x y v made low is = of (slice_get t.complexes.parts y) refl is
    where
      of : (o : Option ComplexType) → slice_get t.complexes.parts y ≡ o → Holds (λ part. IsContentMade (looked_up simples) (content_of simples table) part.by_extension part.base part.content made) o
          → Holds (λ part. IsContentMade (looked_up simples) (content_of simples (set table x v)) part.by_extension part.base part.content made) o
      of None e h = h
      of (Some part) e h =
          made-same (looked_up simples) (content_of simples table) (content_of simples (set table x v)) part.by_extension part.base part.content made
          (content-same simples table x (slice_index t.complexes.ranks y) v low part.base (ranked.complexes y part e)) h
