-- The assessment is the only one, where a text has one outcome by each type.
use Rattle.std.proofs.Common.{◌≡◌, ℕ, Option, List, sym, ap, ◌∙◌, subst}
use Rattle.xs_names.specs.Names.{IsSound}
use Rattle.xs_names.specs.Scope.{first_scope}
use Rattle.tree_rows.specs.Forest.{Forest, none, text, element}
use Rattle.tree_rows.specs.declared.row.Attribute.{Attribute}
use Rattle.assess_records.specs.Counts.{counts_of}
use Rattle.assess_records.specs.declared.shape.ElementShape.{ElementShape}
use Rattle.elem_governing.specs.declared.pairs.Governing.{Governing}
use Rattle.elem_assess.specs.Local.{IsLocal}
use Rattle.attr_assess.specs.Added.{AreNamed}
use Rattle.assess_records.specs.Numbered.{Scope, Head, head_of, heads, names_of, named_texts, scope_in, characters, shape_of}
use Rattle.assessment.specs.Attribution.{SchemaSet, content_particle}
use Rattle.assessment.specs.Assessment.{Entry, Assessed, entry, Beside, first_pair, other_pairs, sibling_records, judged_of, governed, AreJudged, IsEntry, AreAssessed, root_pairs, IsAssessment}
use Rattle.simple_types.specs.Determined.{HasOneOutcomeEach}
use Rattle.assessment_laws.proofs.Terms.{terms-are}
use Rattle.assessment_laws.proofs.Judged.{local-is}

module _ (s : SchemaSet) (b : Beside) (one : HasOneOutcomeEach s.parts) (sound : IsSound s.names) (names_there : AreNamed s.names s.parts) where
  -- two entries of one element with one shape
  judged-same : (shape : ElementShape) (x y : Entry) → x.number ≡ y.number → x.governing ≡ y.governing → AreJudged s shape x → AreJudged s shape y → x ≡ y
  judged-same shape x y number governing a c =
      let known = subst (λ (g : Governing). IsLocal s.names s.parts g shape (judged_of x)) governing a in
      let own = local-is s.names s.parts one y.governing shape sound names_there (judged_of x) (judged_of y) known c in
      λ i. record { number = number i; governing = governing i; element = (own i).element; value = (own i).value; attrs = (own i).attrs; attr_values = (own i).attr_values }

  module _ (g : Governing) (h : Head) (number : ℕ) (attributes : List Attribute) (children : Forest) where
    inner-same : (xs ys : List Governing) (below other : Assessed) (x y : Entry) → IsEntry s b g h number attributes children xs below x → IsEntry s b g h number attributes children ys other y → xs ≡ ys
    inner-same xs ys below other x y a c =
        let same = terms-are s (content_particle s.parts g.of) (names_of (heads s.names h.scope children)) a.stuck c.stuck a.terms c.terms a.attributed c.attributed in
        a.inner_is ∙ (ap (λ (terms : List (Option ℕ)). governed s g terms (heads s.names h.scope children)) same.1 ∙ sym c.inner_is)

    entry-same : (xs ys : List Governing) (below other : Assessed) (x y : Entry) → below ≡ other → IsEntry s b g h number attributes children xs below x → IsEntry s b g h number attributes children ys other y → x ≡ y
    entry-same xs ys below other x y under a c =
        let same = terms-are s (content_particle s.parts g.of) (names_of (heads s.names h.scope children)) a.stuck c.stuck a.terms c.terms a.attributed c.attributed in
        judged-same (shape_of h (named_texts s.names attributes) (characters children) c.stuck (counts_of (sibling_records other)) (b.identity number) (b.ids number)) x y
        (a.number_is ∙ sym c.number_is) (a.governing_is ∙ sym c.governing_is)
        (subst (λ (q : Option ℕ). AreJudged s (shape_of h (named_texts s.names attributes) (characters children) q (counts_of (sibling_records other)) (b.identity number) (b.ids number)) x) same.0
        (subst (λ (q : Assessed). AreJudged s (shape_of h (named_texts s.names attributes) (characters children) a.stuck (counts_of (sibling_records q)) (b.identity number) (b.ids number)) x) under a.known))
        c.known

  assessed-same : (f : Forest) (scope : Scope) (pairs : List Governing) (x y : Assessed) → AreAssessed s b scope pairs f x → AreAssessed s b scope pairs f y → x ≡ y
  assessed-same none scope pairs x y a c = a ∙ sym c
  assessed-same (text number chars next) scope pairs x y a c = assessed-same next scope pairs x y a c
  assessed-same (element number name bindings attributes children next) scope pairs x y a c =
      let g = first_pair pairs in
      let h = head_of s.names scope name bindings attributes in
      let inner : a.1 ≡ c.1 = inner-same g h number attributes children a.1 c.1 a.2 c.2 a.0 c.0 a.5 c.5 in
      let below : a.2 ≡ c.2 = assessed-same children (scope_in s.names bindings scope) c.1 a.2 c.2 (subst (λ (ps : List Governing). AreAssessed s b (scope_in s.names bindings scope) ps children a.2) inner a.6) c.6 in
      let own : a.0 ≡ c.0 = entry-same g h number attributes children a.1 c.1 a.2 c.2 a.0 c.0 below a.5 c.5 in
      let after : a.3 ≡ c.3 = assessed-same next scope (other_pairs pairs) a.3 c.3 a.7 c.7 in
      a.4 ∙ ((λ i. entry (own i) (below i) (after i)) ∙ sym c.4)

  pub only-assessment : (f : Forest) (x y : Assessed) → IsAssessment s b f x → IsAssessment s b f y → x ≡ y
  only-assessment f x y a c = assessed-same f first_scope (root_pairs s (heads s.names first_scope f)) x y a c
