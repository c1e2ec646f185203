-- Terms of child elements, and a place where they get stuck, are there.
use Rattle.std.proofs.Common.{◌≡◌, ◌⊎◌, inl, inr, ℕ, zero, suc, ◌+◌, ◌<◌, Bool, true, false, List, [], ◌∷◌, ◌++◌, Option, None, Some, map, take, length, slice_index, refl, sym, ap, ◌∙◌, subst, arith, add-one, true≢false}
use Rattle.std.specs.Prelude.{slice_index_or}
use Rattle.std.proofs.lemmas.Bool.{cases_lt}
use Rattle.std.proofs.lemmas.List.{take_more, map-append}
use Rattle.particle_forms.specs.Accepted.{accepts}
use Rattle.particle_forms.specs.Models.{model_of}
use Rattle.content_automaton.specs.Modelled.{IsTermAt}
use Rattle.content_automaton.specs.Terms.{name_at}
use Rattle.content_models.specs.declared.automaton.ContentAutomaton.{ContentAutomaton}
use Rattle.assessment.specs.Attribution.{SchemaSet, expanded, Begins, BeginUpTo, IsStuck, IsBefore, IsTermOf, AreTermsBy, AreTerms}
use Rattle.assessment.specs.Fitting.{Fits}
use Rattle.assessment.specs.inside.Found.{IsKept, BeginsBy}
use Rattle.assessment.proofs.Finding.{before-begins}
use Rattle.assessment.proofs.Prefixes.{begins-ends, one-place}
use Rattle.assessment.proofs.Walking.{kept-now}
use Rattle.assessment_laws.specs.Ambivalent.{is_ambivalent}
use Rattle.assessment_laws.proofs.Ambivalent.{ambivalent-told, told-ambivalent}
use Rattle.what_is_found.proofs.Deciding.{begins-decided, word-decided, first-in}

-- what is there for each place makes a list
chosen : (n : ℕ) (P : ℕ → Option ℕ → Type 0) → ((i : ℕ) → i < n → (x : Option ℕ) × P i x) → (xs : List (Option ℕ)) × (length xs ≡ n) × ((i : ℕ) → i < n → P i (slice_index_or xs i None))
chosen zero P there = ([], refl, λ i l. absurd (omega (arith, l)))
chosen (suc n) P there =
    let own = there 0 (omega arith) in
    let rest = chosen n (λ i. P (suc i)) (λ i l. there (suc i) (omega (arith, l))) in
    (own.0 ∷ rest.0, omega (arith, rest.1), at own.0 own.1 rest.0 rest.2)
  where
    at : (x : Option ℕ) → P 0 x → (xs : List (Option ℕ)) → ((i : ℕ) → i < n → P (suc i) (slice_index_or xs i None)) → (i : ℕ) → i < suc n → P i (slice_index_or (x ∷ xs) i None)
    at x own xs rest zero l = own
    at x own xs rest (suc i) l = rest i (omega (arith, l))

module _ (s : SchemaSet) (p : ℕ) (a : ContentAutomaton) (kept : IsKept s p a) (children : List ℕ) where
  -- ---- where they get stuck

  up-more : (k : ℕ) → BeginUpTo s p children k → Begins s p (take (suc k) children) → BeginUpTo s p children (suc k)
  up-more k up more j l = elim (cases_lt j k) [
    | inl less ↦ up j less
    | inr le ↦ let same : k ≡ j = omega (arith, l, le) in subst (λ (n : ℕ). Begins s p (take (suc n) children)) same more
  ]

  stuck-from : (left k : ℕ) → k + left ≡ length children → BeginUpTo s p children k → (stuck : Option ℕ) × IsStuck s p children stuck
  stuck-from zero k e up = elim (word-decided s p a kept (expanded s children)) [
    | inl word ↦ (None, word)
    | inr never ↦ (Some k, (up, inr (omega (arith, e), never)))
  ]
  stuck-from (suc left) k e up = by (begins-decided s p a kept (expanded s (take (suc k) children))) (λ more. stuck-from left (suc k) (omega (arith, e)) (up-more k up more))
    where
      by : Begins s p (take (suc k) children) ⊎ (Begins s p (take (suc k) children) → ⊥) → (Begins s p (take (suc k) children) → (stuck : Option ℕ) × IsStuck s p children stuck) →
          (stuck : Option ℕ) × IsStuck s p children stuck
      by (inl more) on = on more
      by (inr never) on = (Some k, (up, inl (omega (arith, e), never)))

  stuck-there : (stuck : Option ℕ) × IsStuck s p children stuck
  stuck-there = stuck-from (length children) 0 (omega arith) (λ k l. absurd (omega (arith, l)))

  -- ---- the term of one

  before-decided : (stuck : Option ℕ) (i : ℕ) → IsBefore s p stuck i ⊎ (IsBefore s p stuck i → ⊥)
  before-decided None i = inl tt
  before-decided (Some stuck) i = elim (cases_lt i stuck) [ inl l ↦ inl l | inr le ↦ inr (λ l. omega (arith, l, le)) ]

  next-names : (i : ℕ) → i < length children → expanded s (take (suc i) children) ≡ expanded s (take i children) ++ name_at s.names (slice_index children i) ∷ []
  next-names i l =
      let more : take (suc i) children ≡ take i children ++ slice_index children i ∷ [] = subst (λ (n : ℕ). take n children ≡ take i children ++ slice_index children i ∷ []) (add-one i) (take_more children i 0 l) in
      ap (expanded s) more ∙ map-append (name_at s.names) (take i children) (slice_index children i ∷ [])

  module _ (stuck : Option ℕ) (is : IsStuck s p children stuck) (i : ℕ) (l : i < length children) where
    abbrev name : ℕ
    name = slice_index children i

    at-place : IsBefore s p stuck i → (term : Option ℕ) × IsTermAt (accepts s.names s.members s.parts) (model_of s.parts p) (expanded s (take i children)) (name_at s.names name) term
    at-place before =
        let begins : BeginsBy s p (expanded s (take i children) ++ name_at s.names name ∷ []) = subst (BeginsBy s p) (next-names i l) (before-begins s p children stuck is i before) in
        let place = begins-ends (accepts s.names s.members s.parts) (model_of s.parts p) (expanded s (take i children)) (name_at s.names name) begins in (
          Some place.0.number,
          (
            place.0,
            place.1,
            (λ other ends. one-place (accepts s.names s.members s.parts) (model_of s.parts p) kept.unambiguous (expanded s (take i children)) (name_at s.names name) other place.0 ends place.1),
            refl,
          ),
        )

    by-first : ((is_ambivalent s p name ≡ true) → IsBefore s p stuck i → ⊥) → (term : Option ℕ) × IsTermOf s p children stuck i name term
    by-first never = let first = first-in s p (name_at s.names name) in (first.0, inr ((λ own before. never (told-ambivalent s p name own) before), first.1))

    term-there : (term : Option ℕ) × IsTermOf s p children stuck i name term
    term-there = by (is_ambivalent s p name) refl (before-decided stuck i)
      where
        by : (b : Bool) → is_ambivalent s p name ≡ b → IsBefore s p stuck i ⊎ (IsBefore s p stuck i → ⊥) → (term : Option ℕ) × IsTermOf s p children stuck i name term
        by true own (inl before) = let at = at-place before in (at.0, inl (ambivalent-told s p name own, before, at.1))
        by true own (inr never) = by-first (λ e before. never before)
        by false own o = by-first (λ e before. true≢false (sym e ∙ own))

  pub terms-by-there : (stuck : Option ℕ) × (terms : List (Option ℕ)) × AreTermsBy s p children stuck terms
  terms-by-there =
      let stuck = stuck-there in
      let terms = chosen (length children) (λ i term. IsTermOf s p children stuck.0 i (slice_index children i) term) (λ i l. term-there stuck.0 stuck.1 i l) in
      (stuck.0, terms.0, record { each = terms.1; are = terms.2; stuck_is = stuck.1 })

pub terms-there : (s : SchemaSet) (particle : Option ℕ) (model : Option ContentAutomaton) → Fits s particle model → (children : List ℕ) → (stuck : Option ℕ) × (terms : List (Option ℕ)) × AreTerms s particle children stuck terms
terms-there s None None fits children = (None, map (λ name. None) children, record { terms_are = refl; stuck_is = refl })
terms-there s None (Some a) fits children = absurd fits
terms-there s (Some p) None fits children = absurd fits
terms-there s (Some p) (Some a) fits children = terms-by-there s p a (kept-now s p a fits) children
