-- What runs along symbols give are the terms of child elements, and the place where they get stuck.
use Rattle.std.proofs.Common.{◌≡◌, ℕ, suc, ◌+◌, ◌<◌, ◌↔◌, inl, inr, Bool, true, false, IsTrue, List, [], ◌∷◌, ◌++◌, Option, None, Some, map, take, length, refl, sym, ap, subst, ◌∙◌, arith}
use Rattle.std.specs.Prelude.{◌&&◌, slice_index, if◌then◌else◌}
use Rattle.std.specs.List.{range_with_len}
use Rattle.std.proofs.lemmas.Bool.{false≢true}
use Rattle.std.proofs.lemmas.List.{take-map, length-map, get_or-map}
use Rattle.std.proofs.lemmas.List.FromFn.{length-map-range_with_len, get_or-map-range_with_len}
use Rattle.std.proofs.Math.Seq.{take-suc}
use Rattle.content_automaton.specs.Terms.{ExpandedName, name_at}
use Rattle.content_automaton.specs.Symbols.{symbol_of}
use Rattle.content_automaton.specs.Modelled.{IsTermAt}
use Rattle.particle_forms.specs.Models.{model_of}
use Rattle.particle_forms.specs.Accepted.{accepts}
use Rattle.content_models.specs.Built.{symbols_of}
use Rattle.content_models.specs.declared.automaton.ContentAutomaton.{ContentAutomaton}
use Rattle.assessment.specs.Attribution.{SchemaSet, expanded, IsWord, Begins, IsStuck, IsTermOf, AreTermsBy, AreTerms}
use Rattle.assessment.specs.Fitting.{Fits}
use Rattle.assessment.specs.inside.Found.{IsKept, BeginsBy}
use Rattle.assessment.proofs.Walking.{kept-now}
use Rattle.assessment.proofs.Finding as found
use Rattle.model_terms.specs.Symbols.{child_symbols}
use Rattle.model_terms.specs.Terms.{begins, is_word, is_ambivalent_symbol, first_term, term_after, stuck_in, term_by, term_in, terms_in}
use Rattle.model_terms.specs.Places.{BeginUpTo, IsStuckAt}
use Rattle.model_terms.proofs.Stuck.{stuck-is}
use Rattle.model_terms.proofs.Words.{map-twice, begins-are, words-are}
use Rattle.model_terms.proofs.Given.{ambivalent-is, first-is, term-is}

module _ (s : SchemaSet) (p : ℕ) (a : ContentAutomaton) (kept : IsKept s p a) (children : List ℕ) where
  abbrev symbol : ExpandedName → ℕ
  symbol = symbol_of s.names (symbols_of a)

  abbrev symbols : List ℕ
  symbols = child_symbols s.names (Some a) children

  many : length symbols ≡ length children
  many = length-map children (λ name. symbol (name_at s.names name))

  -- the symbols of the first children
  first-are : (k : ℕ) → take k symbols ≡ map symbol (expanded s (take k children))
  first-are k = take-map (λ name. symbol (name_at s.names name)) k children ∙ sym (map-twice (name_at s.names) symbol (take k children))

  begins-at : (k : ℕ) → IsTrue (begins a (take k symbols)) ↔ Begins s p (take k children)
  begins-at k =
      let all = begins-are s p a kept (expanded s (take k children)) in
      ((λ h. all.0 (subst (λ xs. IsTrue (begins a xs)) (first-are k) h)), (λ h. subst (λ xs. IsTrue (begins a xs)) (sym (first-are k)) (all.1 h)))

  word-is : IsTrue (is_word a symbols) ↔ IsWord s p children
  word-is =
      let same : symbols ≡ map symbol (expanded s children) = sym (map-twice (name_at s.names) symbol children) in
      let all = words-are s p a kept (expanded s children) in
      ((λ h. all.0 (subst (λ xs. IsTrue (is_word a xs)) same h)), (λ h. subst (λ xs. IsTrue (is_word a xs)) (sym same) (all.1 h)))

  upto-is : (i : ℕ) → BeginUpTo a symbols i → (k : ℕ) → k < i → Begins s p (take (suc k) children)
  upto-is i upto k l = (begins-at (suc k)).0 (upto k l)

  stuck-of : (o : Option ℕ) → IsStuckAt a symbols o → IsStuck s p children o
  stuck-of None (upto, w) = word-is.0 w
  stuck-of (Some i) (upto, inl (l, f)) = (upto-is i upto, inl ((let m = many in omega arith), (λ h. false≢true (sym f ∙ (begins-at (suc i)).1 h))))
  stuck-of (Some i) (upto, inr (e, f)) = (upto-is i upto, inr ((let m = many in omega arith), (λ h. false≢true (sym f ∙ word-is.1 h))))

  place : IsStuck s p children (stuck_in (Some a) symbols)
  place = stuck-of (stuck_in (Some a) symbols) (stuck-is a symbols)

  module _ (i : ℕ) (l : i < length children) where
    abbrev name : ExpandedName
    name = name_at s.names (slice_index children i)

    symbol-at : slice_index symbols i ≡ symbol name
    symbol-at = get_or-map (λ name. symbol (name_at s.names name)) children i 0 0 l

    ends : expanded s (take (suc i) children) ≡ expanded s (take i children) ++ name ∷ []
    ends = ap (expanded s) (take-suc children i 0 l) ∙ map-append-one (take i children)
      where
        map-append-one : (xs : List ℕ) → expanded s (xs ++ slice_index children i ∷ []) ≡ expanded s xs ++ name_at s.names (slice_index children i) ∷ []
        map-append-one [] = refl
        map-append-one (x ∷ xs) = ap (λ ys. name_at s.names x ∷ ys) (map-append-one xs)

    by-tests : (mixed begun : Bool) → is_ambivalent_symbol a (symbol name) ≡ mixed → begins a (take (suc i) symbols) ≡ begun →
        IsTermOf s p children (stuck_in (Some a) symbols) i (slice_index children i) (if mixed && begun then term_after a (take i symbols) (symbol name) else first_term a (symbol name))
    by-tests true true e f =
        let begun = (begins-at (suc i)).0 f in
        inl (
          (ambivalent-is s p a kept name).0 e,
          found.begins-before s p children (stuck_in (Some a) symbols) place i l begun,
          subst (λ xs. IsTermAt (accepts s.names s.members s.parts) (model_of s.parts p) (expanded s (take i children)) name (term_after a xs (symbol name))) (sym (first-are i))
              (term-is s p a kept (expanded s (take i children)) name (subst (λ xs. BeginsBy s p xs) ends begun)),
        )
    by-tests true false e f = inr ((λ own before. false≢true (sym f ∙ (begins-at (suc i)).1 (found.before-begins s p children (stuck_in (Some a) symbols) place i before))), first-is s p a kept name)
    by-tests false begun e f = inr ((λ own before. false≢true (sym e ∙ (ambivalent-is s p a kept name).1 own)), first-is s p a kept name)

    term-at : IsTermOf s p children (stuck_in (Some a) symbols) i (slice_index children i) (term_in (Some a) symbols i)
    term-at = subst (λ n. IsTermOf s p children (stuck_in (Some a) symbols) i (slice_index children i) (term_by a symbols i n)) (sym symbol-at)
        (by-tests (is_ambivalent_symbol a (symbol name)) (begins a (take (suc i) symbols)) refl refl)

  pub terms-by : AreTermsBy s p children (stuck_in (Some a) symbols) (terms_in (Some a) symbols)
  terms-by = record {
    each = length-map-range_with_len (term_in (Some a) symbols) 0 (length symbols) ∙ many;
    are = λ i l. subst (λ term. IsTermOf s p children (stuck_in (Some a) symbols) i (slice_index children i) term)
        (sym (get_or-map-range_with_len (term_in (Some a) symbols) 0 (length symbols) i i None (let m = many in omega arith) (omega arith))) (term-at i l);
    stuck_is = place;
  }

pub runs-are : (s : SchemaSet) (p : Option ℕ) (a : Option ContentAutomaton) (children : List ℕ) → Fits s p a → AreTerms s p children (stuck_in a (child_symbols s.names a children)) (terms_in a (child_symbols s.names a children))
runs-are s None None children fits = record {
  terms_are = none-of children 0;
  stuck_is = refl;
}
  where
    none-of : (xs : List ℕ) (n : ℕ) → map {B = Option ℕ} (λ (k : ℕ). None) (range_with_len n (length {A = ℕ} (map {A = ℕ} {B = ℕ} (λ name. 0) xs))) ≡ map {B = Option ℕ} (λ (name : ℕ). None) xs
    none-of [] n = refl
    none-of (x ∷ xs) n = ap (λ ys. None ∷ ys) (none-of xs (n + 1))
runs-are s None (Some a) children fits = absurd fits
runs-are s (Some p) None children fits = absurd fits
runs-are s (Some p) (Some a) children fits = terms-by s p a (kept-now s p a fits) children

-- ---- an unambivalent symbol
pub by-symbol : (a : ContentAutomaton) (xs ys : List ℕ) (i j : ℕ) → is_ambivalent_symbol a (slice_index xs i) ≡ false → slice_index xs i ≡ slice_index ys j → term_in (Some a) xs i ≡ term_in (Some a) ys j
by-symbol a xs ys i j e same =
    alone xs i (slice_index xs i) e ∙ (ap (first_term a) same ∙ sym (alone ys j (slice_index ys j) (ap (is_ambivalent_symbol a) (sym same) ∙ e)))
  where
    alone : (zs : List ℕ) (k n : ℕ) → is_ambivalent_symbol a n ≡ false → term_by a zs k n ≡ first_term a n
    alone zs k n e = rw e refl
