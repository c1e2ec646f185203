-- What is decided of names by an automaton and by the terms of a content model.
use Rattle.std.proofs.Common.{◌≡◌, ◌⊎◌, ◌↔◌, inl, inr, ℕ, zero, suc, ◌<◌, ◌≤◌, Bool, true, false, IsTrue, List, [], ◌∷◌, Option, None, Some, map, refl, sym, subst, arith, true≢false}
use Rattle.std.specs.Prelude.{slice_index}
use Rattle.std.proofs.lemmas.Bool.{cases_lt, false≢true}
use Rattle.xs_names.specs.Names.{NameTable}
use Rattle.particle_models.specs.Words.{IsWordOfNames}
use Rattle.particle_forms.specs.Accepted.{accepts}
use Rattle.particle_forms.specs.Models.{model_of}
use Rattle.content_automaton.specs.Attribution.{GivesAt, IsStranger, IsFirstTerm}
use Rattle.content_automaton.specs.Automaton.{state_of, dead_of, accepts_at}
use Rattle.content_automaton.specs.Symbols.{symbol_of}
use Rattle.content_automaton.specs.Terms.{ExpandedName}
use Rattle.content_automaton.specs.declared.symbol_terms.Accepts.{Accepts}
use Rattle.content_models.specs.Built.{IsFirstIn}
use Rattle.content_models.specs.Modelled.{letter_of}
use Rattle.content_models.specs.States as alls
use Rattle.content_models.specs.Terms.{model_terms, terms_of}
use Rattle.content_models.specs.declared.automaton.ContentAutomaton.{ContentAutomaton}
use Rattle.content_models.specs.declared.automaton.ContentAutomaton.TheVariants.{States, All}
use Rattle.assessment.specs.Attribution.{SchemaSet}
use Rattle.assessment.specs.inside.Found.{IsKept, BeginsBy}
use Rattle.assessment_laws.specs.Ambivalent.{given_classes}
use Rattle.assessment_laws.proofs.Ambivalent.{Has, has-gives, gives-has}

pub by-test : {P : Type 0} (b : Bool) → IsTrue b ↔ P → P ⊎ (P → ⊥)
by-test true told = inl (told.0 refl)
by-test false told = inr (λ p. false≢true (told.1 p))

lives : {P : Type 0} (b : Bool) → (b ≡ false) ↔ P → P ⊎ (P → ⊥)
lives false told = inl (told.0 refl)
lives true told = inr (λ p. true≢false (told.1 p))

below : {P : Type 0} (m n : ℕ) → (m < n) ↔ P → P ⊎ (P → ⊥)
below m n told = elim (cases_lt m n) [ inl l ↦ inl (told.0 l) | inr le ↦ inr (λ p. let l = told.1 p in omega (arith, l, le)) ]

module _ (s : SchemaSet) (p : ℕ) where
  pub begins-decided : (a : ContentAutomaton) → IsKept s p a → (names : List ExpandedName) → BeginsBy s p names ⊎ (BeginsBy s p names → ⊥)
  begins-decided (States a) kept names =
      below (state_of a.machine (map (symbol_of s.names a.symbols) names)) (dead_of a.machine) (kept.built.1.recognizes.live names)
  begins-decided (All a) kept names =
      lives (alls.state_of a.machine (map (λ name. letter_of a (symbol_of s.names a.symbols name)) names)).dead ((kept.built.0.3.recognizes kept.unambiguous).live names)

  abbrev IsWordBy : List ExpandedName → Type 0
  IsWordBy names = IsWordOfNames (accepts s.names s.members s.parts) (model_of s.parts p) names

  pub word-decided : (a : ContentAutomaton) → IsKept s p a → (names : List ExpandedName) → IsWordBy names ⊎ (IsWordBy names → ⊥)
  word-decided (States a) kept names =
      by-test (accepts_at a.machine (state_of a.machine (map (symbol_of s.names a.symbols) names))) (kept.built.1.recognizes.accepting names)
  word-decided (All a) kept names =
      by-test (alls.accepts_at a.machine (alls.state_of a.machine (map (λ name. letter_of a (symbol_of s.names a.symbols name)) names))) ((kept.built.0.3.recognizes kept.unambiguous).accepting names)

-- ---- the first term that accepts a name

module _ (t : NameTable) (name : ExpandedName) where
  abbrev HasFirst : List Accepts → Type 0
  HasFirst terms = IsStranger t terms name ⊎ ((k : ℕ) × IsFirstTerm t terms name k)

  first-later : (a : Accepts) (terms : List Accepts) → ((c : ℕ) → Has c (given_classes t name a) → ⊥) → HasFirst terms → HasFirst (a ∷ terms)
  first-later a terms empty (inl stranger) = inl no
    where
      no : (k class : ℕ) → GivesAt t (a ∷ terms) name k class → ⊥
      no zero class h = empty class (gives-has t name class a (h.1 a))
      no (suc k) class h = stranger k class (omega (arith, h.0), h.1)
  first-later a terms empty (inr first) = inr (suc first.0, ((first.1.0.0, (omega (arith, first.1.0.1.0), first.1.0.1.1)), least))
    where
      least : (k class : ℕ) → GivesAt t (a ∷ terms) name k class → suc first.0 ≤ k
      least zero class h = absurd (empty class (gives-has t name class a (h.1 a)))
      least (suc k) class h = let le = first.1.1 k class (omega (arith, h.0), h.1) in omega (arith, le)

  first-here : (a : Accepts) (terms : List Accepts) (cs : List ℕ) → given_classes t name a ≡ cs → HasFirst terms → HasFirst (a ∷ terms)
  first-here a terms [] e more = first-later a terms (λ c h. subst (Has c) e h) more
  first-here a terms (c ∷ cs) e more =
      inr (0, ((c, (omega arith, λ d. has-gives t name c a (subst (Has c) (sym e) (inl refl)))), λ k class h. omega arith))

  pub first-there : (terms : List Accepts) → HasFirst terms
  first-there [] = inl (λ k class h. let l = h.0 in omega (arith, l))
  first-there (a ∷ terms) = first-here a terms (given_classes t name a) refl (first-there terms)

pub first-in : (s : SchemaSet) (p : ℕ) (name : ExpandedName) → (term : Option ℕ) × IsFirstIn s.names s.parts s.members s.classes p name term
first-in s p name = elim (first-there s.names name (model_terms s.members s.parts s.classes p)) [
  | inl stranger ↦ (None, stranger)
  | inr first ↦ (Some (slice_index (terms_of (model_of s.parts p)) first.0), (first.0, first.1, refl))
]
