-- What begins a word, by names and by the automaton.
use Rattle.std.proofs.Common.{◌≡◌, ℕ, true, List, [], ◌++◌, map, take, drop, length, refl, sym, ap, subst, ◌∙◌, append-nil}
use Rattle.std.proofs.lemmas.List.{map-append, take-map, take-append-drop, take_at}
use Rattle.particle_models.specs.Particles.{Mark}
use Rattle.particle_models.specs.Words.{Words, names_of}
use Rattle.particle_forms.specs.Models.{model_of}
use Rattle.particle_forms.specs.Accepted.{accepts}
use Rattle.content_automaton.specs.Symbols.{symbol_of}
use Rattle.content_automaton.specs.Terms.{ExpandedName}
use Rattle.content_models.specs.Built.{symbols_of}
use Rattle.content_models.specs.declared.automaton.ContentAutomaton.{ContentAutomaton}
use Rattle.assessment.specs.Attribution.{SchemaSet}
use Rattle.assessment.specs.Fitting.{IsAutomatonFor}
use Rattle.assessment.specs.inside.Found.{IsKept, BeginsBy}
use Rattle.assessment.proofs.Walking.{kept-now}
use Rattle.model_terms.specs.Symbols.{AreSymbolsBy}
use Rattle.model_terms.specs.Terms.{begins, is_word}
use Rattle.model_terms.proofs.Words.{begins-are, words-are}
use Rattle.kept_next.specs.Words.{IsWordBy, IsWordIn}

module _ (s : SchemaSet) (p : ℕ) where
  abbrev Marked : List (Mark ExpandedName) → Type 0
  Marked word = Words (accepts s.names s.members s.parts) (model_of s.parts p) [] word

  -- names begin a word exactly where they are one with more names
  pub begins-more : (names : List ExpandedName) → BeginsBy s p names → (more : List ExpandedName) × IsWordBy s p (names ++ more)
  begins-more names (front, rest, word, are) =
      (names_of rest, (front ++ rest, word, map-append (λ (mark : Mark ExpandedName). mark.name) front rest ∙ ap (λ (xs : List ExpandedName). xs ++ names_of rest) are))

  pub more-begins : (names more : List ExpandedName) → IsWordBy s p (names ++ more) → BeginsBy s p names
  more-begins names more (word, is, are) = (
    take (length names) word,
    drop (length names) word,
    subst Marked (sym (take-append-drop (length names) word)) is,
    sym (take-map (λ (mark : Mark ExpandedName). mark.name) (length names) word) ∙ ap (take (length names)) are ∙ take_at names more (length names) refl,
  )

module _ (s : SchemaSet) (p : ℕ) (a : ContentAutomaton) (fits : IsAutomatonFor s p a) where
  abbrev symbol : ExpandedName → ℕ
  symbol = symbol_of s.names (symbols_of a)

  kept : IsKept s p a
  kept = kept-now s p a fits

  pub are-symbols : (names : List ExpandedName) → AreSymbolsBy a (map symbol names)
  are-symbols names = record { set = s; particle = p; fits = fits; names = names; are = refl }

  pub word-names : (names : List ExpandedName) → IsWordIn a (map symbol names) → IsWordBy s p names
  word-names names (of, w) = (words-are s p a kept names).0 w

  pub names-word : (names : List ExpandedName) → IsWordBy s p names → IsWordIn a (map symbol names)
  names-word names w = (are-symbols names, (words-are s p a kept names).1 w)

  pub begun-names : (names : List ExpandedName) → begins a (map symbol names) ≡ true → BeginsBy s p names
  begun-names names e = (begins-are s p a kept names).0 e

  pub names-begun : (names : List ExpandedName) → BeginsBy s p names → begins a (map symbol names) ≡ true
  names-begun names h = (begins-are s p a kept names).1 h

-- a word begins a word
pub word-begins : (a : ContentAutomaton) (symbols : List ℕ) → IsWordIn a symbols → begins a symbols ≡ true
word-begins a symbols (of, w) =
    let word = (words-are of.set of.particle a (kept of.set of.particle a of.fits) of.names).0 (subst (λ xs. is_word a xs ≡ true) of.are w) in
    let begun = more-begins of.set of.particle of.names [] (subst (IsWordBy of.set of.particle) (sym (append-nil of.names)) word) in
    subst (λ xs. begins a xs ≡ true) (sym of.are) (names-begun of.set of.particle a of.fits of.names begun)
