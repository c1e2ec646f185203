-- The terms of child elements and the place where they get stuck are determined by their names.
use Rattle.std.proofs.Common.{◌≡◌, inl, inr, ℕ, suc, ◌<◌, Bool, Option, None, Some, List, [], ◌∷◌, ◌++◌, take, drop, length, refl, sym, ap, ◌∙◌, subst, arith, append_assoc, slice_index}
use Rattle.std.specs.Prelude.{slice_index_or}
use Rattle.std.proofs.lemmas.Bool.{cases_order}
use Rattle.std.proofs.lemmas.List.{take-append-drop, take-map, map-append, ext_get_or}
use Rattle.xs_names.specs.Names.{NameTable}
use Rattle.xs_components.specs.Tables.{Tables}
use Rattle.particle_models.specs.Particles.{Particle, Place, Mark}
use Rattle.particle_models.specs.Words.{Words, IsWordOfNames, BeginsWord, EndsIn}
use Rattle.particle_forms.specs.Models.{model_of}
use Rattle.particle_forms.specs.Accepted.{accepts}
use Rattle.content_automaton.specs.declared.symbol_terms.Accepts.{Accepts}
use Rattle.content_automaton.specs.Terms.{ExpandedName, name_at}
use Rattle.content_automaton.specs.Attribution.{IsFirstTerm}
use Rattle.content_automaton.specs.Modelled.{IsTermAt}
use Rattle.content_models.specs.Terms.{model_terms, terms_of}
use Rattle.content_models.specs.Built.{IsFirstIn}
use Rattle.assessment.specs.Attribution.{SchemaSet, expanded, IsWord, Begins, IsStuck, IsTermOf, AreTermsBy, AreTerms}

module _ (accepts : ℕ → ExpandedName → Bool) (model : Particle) where
  -- the first names of a word begin one
  pub begins-take : (k : ℕ) (names : List ExpandedName) → IsWordOfNames accepts model names → BeginsWord accepts model (take k names)
  begins-take k names w = (
    take k w.0,
    drop k w.0,
    subst (Words accepts model []) (sym (take-append-drop k w.0)) w.1,
    sym (take-map (λ (mark : Mark ExpandedName). mark.name) k w.0) ∙ ap (take k) w.2,
  )

  ends-begins : (names : List ExpandedName) (name : ExpandedName) (place : Place) → EndsIn accepts model names name place → BeginsWord accepts model (names ++ name ∷ [])
  ends-begins names name place w =
      let mark : Mark ExpandedName = record { place = place; name = name } in (
        w.0 ++ mark ∷ [],
        w.1,
        subst (Words accepts model []) (sym (append_assoc w.0 (mark ∷ []) w.1)) w.2,
        map-append (λ (m : Mark ExpandedName). m.name) w.0 (mark ∷ []) ∙ ap (λ ns. ns ++ name ∷ []) w.3,
      )

  pub term-at-is : (names : List ExpandedName) (name : ExpandedName) (a b : Option ℕ) → IsTermAt accepts model names name a → IsTermAt accepts model names name b → a ≡ b
  term-at-is names name None None x y = refl
  term-at-is names name None (Some j) x y = absurd (x (ends-begins names name y.0 y.1))
  term-at-is names name (Some i) None x y = absurd (y (ends-begins names name x.0 x.1))
  term-at-is names name (Some i) (Some j) x y = ap Some (sym x.3 ∙ (ap (λ (p : Place). p.number) (y.2 x.0 x.1) ∙ y.3))

first-term-is : (t : NameTable) (terms : List Accepts) (name : ExpandedName) (a b : ℕ) → IsFirstTerm t terms name a → IsFirstTerm t terms name b → a ≡ b
first-term-is t terms name a b x y = omega (arith, x.1 b y.0.0 y.0.1, y.1 a x.0.0 x.0.1)

first-in-is : (names : NameTable) (t : Tables) (members : List (List ℕ)) (classes : List ℕ) (p : ℕ) (name : ExpandedName) (a b : Option ℕ) →
    IsFirstIn names t members classes p name a → IsFirstIn names t members classes p name b → a ≡ b
first-in-is names t members classes p name None None x y = refl
first-in-is names t members classes p name None (Some j) x y = absurd (x y.0 y.1.0.0 y.1.0.1)
first-in-is names t members classes p name (Some i) None x y = absurd (y x.0 x.1.0.0 x.1.0.1)
first-in-is names t members classes p name (Some i) (Some j) x y =
    ap Some (sym x.2 ∙ (ap (slice_index (terms_of (model_of t p))) (first-term-is names (model_terms members t classes p) name x.0 y.0 x.1 y.1) ∙ y.2))

module _ (s : SchemaSet) (p : ℕ) (children : List ℕ) where
  begins-names : (k : ℕ) → IsWord s p children → Begins s p (take k children)
  begins-names k w =
      subst (BeginsWord (accepts s.names s.members s.parts) (model_of s.parts p)) (take-map (name_at s.names) k children)
      (begins-take (accepts s.names s.members s.parts) (model_of s.parts p) k (expanded s children) w)

  word-not-stuck : (i : ℕ) → IsWord s p children → IsStuck s p children (Some i) → ⊥
  word-not-stuck i w stuck = elim stuck.1 [ inl short ↦ short.1 (begins-names (suc i) w) | inr all ↦ all.1 w ]

  later-not-stuck : (i j : ℕ) → i < j → IsStuck s p children (Some i) → IsStuck s p children (Some j) → ⊥
  later-not-stuck i j less x y = elim x.1 [
    | inl short ↦ short.1 (y.0 i less)
    | inr all ↦ elim y.1 [ inl more ↦ absurd (omega (arith, all.0, more.0)) | inr end ↦ absurd (omega (arith, all.0, end.0)) ]
  ]

  pub stuck-is : (a b : Option ℕ) → IsStuck s p children a → IsStuck s p children b → a ≡ b
  stuck-is None None x y = refl
  stuck-is None (Some j) x y = absurd (word-not-stuck j x y)
  stuck-is (Some i) None x y = absurd (word-not-stuck i y x)
  stuck-is (Some i) (Some j) x y = elim (cases_order i j) [
    | inl same ↦ ap Some same
    | inr apart ↦ elim apart [ inl less ↦ absurd (later-not-stuck i j less x y) | inr more ↦ absurd (later-not-stuck j i more y x) ]
  ]

  term-of-is : (stuck : Option ℕ) (i name : ℕ) (a b : Option ℕ) → IsTermOf s p children stuck i name a → IsTermOf s p children stuck i name b → a ≡ b
  term-of-is stuck i name a b (inl x) (inl y) =
      term-at-is (accepts s.names s.members s.parts) (model_of s.parts p) (expanded s (take i children)) (name_at s.names name) a b x.2 y.2
  term-of-is stuck i name a b (inl x) (inr y) = absurd (y.0 x.0 x.1)
  term-of-is stuck i name a b (inr x) (inl y) = absurd (x.0 y.0 y.1)
  term-of-is stuck i name a b (inr x) (inr y) = first-in-is s.names s.parts s.members s.classes p (name_at s.names name) a b x.1 y.1

  terms-by-are : (stuck other : Option ℕ) (xs ys : List (Option ℕ)) → AreTermsBy s p children stuck xs → AreTermsBy s p children other ys → (stuck ≡ other) × (xs ≡ ys)
  terms-by-are stuck other xs ys a b =
      let same = stuck-is stuck other a.stuck_is b.stuck_is in (
        same,
        ext_get_or None xs ys (a.each ∙ sym b.each) (λ i within.
            let there : i < length children = omega (arith, a.each, within) in
            term-of-is other i (slice_index children i) (slice_index_or xs i None) (slice_index_or ys i None)
            (subst (λ (o : Option ℕ). IsTermOf s p children o i (slice_index children i) (slice_index_or xs i None)) same (a.are i there)) (b.are i there)),
      )

pub terms-are : (s : SchemaSet) (particle : Option ℕ) (children : List ℕ) (stuck other : Option ℕ) (xs ys : List (Option ℕ)) →
    AreTerms s particle children stuck xs → AreTerms s particle children other ys → (stuck ≡ other) × (xs ≡ ys)
terms-are s None children stuck other xs ys a b = (a.stuck_is ∙ sym b.stuck_is, a.terms_are ∙ sym b.terms_are)
terms-are s (Some p) children stuck other xs ys a b = terms-by-are s p children stuck other xs ys a b
