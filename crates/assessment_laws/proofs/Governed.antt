-- What governs elements is what is found of them, and is one.
use Rattle.std.proofs.Common.{◌≡◌, inl, inr, ℕ, List, Option, sym, ap, ◌∙◌, subst}
use Rattle.xs_names.specs.Scope.{first_scope}
use Rattle.tree_rows.specs.Forest.{Forest, none, text, element, Document}
use Rattle.tree_rows.specs.Whole.{IsTree}
use Rattle.elem_governing.specs.declared.pairs.Governing.{Governing}
use Rattle.assess_records.specs.Numbered.{Scope, Head, heads, names_of, scope_in}
use Rattle.assessment.specs.Attribution.{SchemaSet, content_particle}
use Rattle.assessment.specs.Assessment.{Beside, Assessed, entries, first_pair, other_pairs, governed, root_pairs, AreAssessed, IsAssessment}
use Rattle.assessment.specs.Local.{HasElement}
use Rattle.assessment_laws.proofs.Terms.{terms-are}
use Rattle.assessment_laws.specs.Governed.{AreInner, AreGoverned, AreGovernings, governing_at}
use Rattle.assessment_laws.proofs.Numbers.{Agree, found-agrees}

module _ (s : SchemaSet) (b : Beside) (governs : ℕ → Governing) where
  found-governed : (f : Forest) (scope : Scope) (pairs : List Governing) (found : Assessed) → AreAssessed s b scope pairs f found → Agree governs found → AreGoverned s governs scope pairs f
  found-governed none scope pairs found h agree = tt
  found-governed (text number chars next) scope pairs found h agree = found-governed next scope pairs found h agree
  found-governed (element number name bindings attributes children next) scope pairs found h agree =
      let parts = subst (Agree governs) h.4 agree in
      let e = h.5 in (
        h.1,
        ap governs (sym e.number_is) ∙ (parts.0 ∙ e.governing_is),
        record { stuck = e.stuck; terms = e.terms; attributed = e.attributed; inner_is = e.inner_is },
        found-governed children (scope_in s.names bindings scope) h.1 h.2 h.6 parts.1,
        found-governed next scope (other_pairs pairs) h.3 h.7 parts.2,
      )

pub assessed-governed : (s : SchemaSet) (b : Beside) (d : Document) (found : Assessed) → IsTree d → IsAssessment s b d.forest found → AreGovernings s (governing_at (entries found)) d.forest
assessed-governed s b d found tree h =
    let pairs = root_pairs s (heads s.names first_scope d.forest) in
    found-governed s b (governing_at (entries found)) d.forest first_scope pairs found h (found-agrees s b d.forest first_scope pairs found tree.differ h)

-- ---- there are no others

module _ (s : SchemaSet) where
  inner-same : (g : Governing) (hs : List Head) (xs ys : List Governing) → AreInner s g hs xs → AreInner s g hs ys → xs ≡ ys
  inner-same g hs xs ys a c =
      let same = terms-are s (content_particle s.parts g.of) (names_of hs) a.stuck c.stuck a.terms c.terms a.attributed c.attributed in
      a.inner_is ∙ (ap (λ (terms : List (Option ℕ)). governed s g terms hs) same.1 ∙ sym c.inner_is)

  module _ (x y : ℕ → Governing) where
    governed-same : (f : Forest) (scope : Scope) (pairs : List Governing) → AreGoverned s x scope pairs f → AreGoverned s y scope pairs f → (n : ℕ) → HasElement n f → x n ≡ y n
    governed-same none scope pairs a c n h = absurd h
    governed-same (text number chars next) scope pairs a c n h = governed-same next scope pairs a c n h
    governed-same (element number name bindings attributes children next) scope pairs a c n (inl e) =
        ap x (sym e) ∙ (a.1 ∙ (sym c.1 ∙ ap y e))
    governed-same (element number name bindings attributes children next) scope pairs a c n (inr (inl below)) =
        let inner = inner-same (first_pair pairs) (heads s.names (scope_in s.names bindings scope) children) a.0 c.0 a.2 c.2 in
        governed-same children (scope_in s.names bindings scope) c.0 (subst (λ (ps : List Governing). AreGoverned s x (scope_in s.names bindings scope) ps children) inner a.3) c.3 n below
    governed-same (element number name bindings attributes children next) scope pairs a c n (inr (inr later)) =
        governed-same next scope (other_pairs pairs) a.4 c.4 n later

  pub governings-same : (f : Forest) (x y : ℕ → Governing) → AreGovernings s x f → AreGovernings s y f → (n : ℕ) → HasElement n f → x n ≡ y n
  governings-same f x y a c n h = governed-same x y f first_scope (root_pairs s (heads s.names first_scope f)) a c n h
