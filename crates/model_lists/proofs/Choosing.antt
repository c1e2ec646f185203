-- The term of a child, by whether its symbol is ambivalent and whether it is before the place where they get stuck.
use Rattle.std.proofs.Common.{◌≡◌, ℕ, suc, ◌<◌, Bool, true, false, List, [], ◌∷◌, ◌++◌, Some, take, length, refl, sym, ap, subst, ◌∙◌}
use Rattle.std.specs.Prelude.{◌&&◌, slice_index, if◌then◌else◌}
use Rattle.std.proofs.Math.Seq.{take-suc}
use Rattle.std.proofs.lemmas.List.{take-map}
use Rattle.content_automaton.specs.Symbols.{symbol_of}
use Rattle.content_models.specs.Built.{symbols_of}
use Rattle.content_models.specs.declared.automaton.ContentAutomaton.{ContentAutomaton}
use Rattle.model_terms.specs.Symbols.{AreSymbolsBy}
use Rattle.model_terms.specs.Terms.{begins, is_ambivalent_symbol, first_term, term_after, stuck_in, term_in}
use Rattle.model_terms.specs.Places.{IsBefore}
use Rattle.model_terms.proofs.Naming.{one-of}
use Rattle.model_terms.proofs.Stuck.{stuck-is, before-begins, begins-before}

module _ {X : Type 0} (x y : X) where
  second-false : (b c : Bool) → c ≡ false → (if b && c then x else y) ≡ y
  second-false true c e = ap (λ c. if c then x else y) e
  second-false false c e = refl

  both-true : (b c : Bool) → b ≡ true → c ≡ true → (if b && c then x else y) ≡ x
  both-true b c e f = ap (λ b. if b && c then x else y) e ∙ ap (λ c. if c then x else y) f

module _ (a : ContentAutomaton) (symbols : List ℕ) (place n : ℕ) (of : AreSymbolsBy a symbols) (l : place < length symbols) (at : slice_index symbols place ≡ n) where
  pub one-symbol : AreSymbolsBy a (n ∷ [])
  one-symbol = subst (λ n. AreSymbolsBy a (n ∷ [])) at (one-of a symbols of place l)

  front-is : take (suc place) symbols ≡ take place symbols ++ n ∷ []
  front-is = take-suc symbols place 0 l ∙ ap (λ m. take place symbols ++ m ∷ []) at

  pub front-of : AreSymbolsBy a (take place symbols ++ n ∷ [])
  front-of = record {
    set = of.set;
    particle = of.particle;
    fits = of.fits;
    names = take (suc place) of.names;
    are = sym front-is ∙ (ap (take (suc place)) of.are ∙ take-map (symbol_of of.set.names (symbols_of a)) (suc place) of.names);
  }

  late : (IsBefore (stuck_in (Some a) symbols) place → ⊥) → (b : Bool) → begins a (take (suc place) symbols) ≡ b → b ≡ false
  late past true e = absurd (past (begins-before a symbols (stuck_in (Some a) symbols) (stuck-is a symbols) place l e))
  late past false e = refl

  first-by : (is_ambivalent_symbol a n ≡ true → IsBefore (stuck_in (Some a) symbols) place → ⊥) → (b : Bool) → is_ambivalent_symbol a n ≡ b →
      (if b && begins a (take (suc place) symbols) then term_after a (take place symbols) n else first_term a n) ≡ first_term a n
  first-by other false e = refl
  first-by other true e =
      second-false (term_after a (take place symbols) n) (first_term a n) true (begins a (take (suc place) symbols)) (late (other e) (begins a (take (suc place) symbols)) refl)

  -- an unambivalent child has the first term that accepts its name, and so has one at or past the place where they get stuck
  pub term-first : (is_ambivalent_symbol a n ≡ true → IsBefore (stuck_in (Some a) symbols) place → ⊥) → first_term a n ≡ term_in (Some a) symbols place
  term-first other =
      subst (λ k. first_term a n ≡ (if is_ambivalent_symbol a k && begins a (take (suc place) symbols) then term_after a (take place symbols) k else first_term a k)) (sym at)
      (sym (first-by other (is_ambivalent_symbol a n) refl))

  pub begun : IsBefore (stuck_in (Some a) symbols) place → begins a (take place symbols ++ n ∷ []) ≡ true
  begun b = subst (λ xs. begins a xs ≡ true) front-is (before-begins a symbols (stuck_in (Some a) symbols) (stuck-is a symbols) place l b)

  -- any other has that at its place
  pub term-placed : is_ambivalent_symbol a n ≡ true → IsBefore (stuck_in (Some a) symbols) place → term_after a (take place symbols) n ≡ term_in (Some a) symbols place
  term-placed e b =
      subst (λ k. term_after a (take place symbols) n ≡ (if is_ambivalent_symbol a k && begins a (take (suc place) symbols) then term_after a (take place symbols) k else first_term a k)) (sym at)
      (sym (both-true (term_after a (take place symbols) n) (first_term a n) (is_ambivalent_symbol a n) (begins a (take (suc place) symbols)) e
      (before-begins a symbols (stuck_in (Some a) symbols) (stuck-is a symbols) place l b)))
