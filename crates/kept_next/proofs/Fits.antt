-- How one more child element fits, by its symbol and by its name.
use Rattle.std.proofs.Common.{◌≡◌, ℕ, Bool, true, false, List, ◌∷◌, ◌++◌, map, refl, sym, ap, subst, ◌∙◌, append_assoc}
use Rattle.std.specs.Prelude.{if◌then◌else◌}
use Rattle.std.proofs.lemmas.Bool.{false≢true}
use Rattle.std.proofs.lemmas.List.{map-append}
use Rattle.content_automaton.specs.Symbols.{symbol_of}
use Rattle.content_automaton.specs.Terms.{ExpandedName}
use Rattle.content_models.specs.Built.{symbols_of}
use Rattle.content_models.specs.declared.automaton.ContentAutomaton.{ContentAutomaton}
use Rattle.assessment.specs.Attribution.{SchemaSet}
use Rattle.assessment.specs.Fitting.{IsAutomatonFor}
use Rattle.model_terms.specs.Terms.{begins, is_word}
use Rattle.model_terms.proofs.Along.{begins-front}
use Rattle.kept_next.specs.Next.{FitsAs}
use Rattle.kept_next.specs.declared.symbol.Fit.{Fit}
use Rattle.kept_next.specs.declared.symbol.Fit.TheVariants.{No, Prefix, Word}
use Rattle.kept_next.specs.Words.{IsWordBy, IsWordIn, fit_by}
use Rattle.kept_next.proofs.Words.{begins-more, are-symbols, word-names, names-word, begun-names, word-begins}

module _ (s : SchemaSet) (p : ℕ) (a : ContentAutomaton) (fits : IsAutomatonFor s p a) (before behind : List ExpandedName) (name : ExpandedName) where
  abbrev symbol : ExpandedName → ℕ
  symbol = symbol_of s.names (symbols_of a)

  abbrev symbols : List ℕ
  symbols = map symbol before ++ symbol name ∷ map symbol behind

  -- the symbols of all names, and with more behind them
  whole : map symbol (before ++ name ∷ behind) ≡ symbols
  whole = map-append symbol before (name ∷ behind)

  with-more : (more : List ExpandedName) → map symbol ((before ++ name ∷ behind) ++ more) ≡ map symbol before ++ symbol name ∷ (map symbol behind ++ map symbol more)
  with-more more =
      map-append symbol (before ++ name ∷ behind) more ∙ ap (λ (xs : List ℕ). xs ++ map symbol more) whole ∙ append_assoc (map symbol before) (symbol name ∷ map symbol behind) (map symbol more)

  -- where they are a word with more behind, they begin one
  begun : (more : List ℕ) → IsWordIn a (map symbol before ++ symbol name ∷ (map symbol behind ++ more)) → begins a symbols ≡ true
  begun more w =
      begins-front a symbols more
      (subst (λ xs. begins a xs ≡ true) (sym (append_assoc (map symbol before) (symbol name ∷ map symbol behind) more))
      (word-begins a (map symbol before ++ symbol name ∷ (map symbol behind ++ more)) w))

  more-symbols : begins a symbols ≡ true → (more : List ℕ) × IsWordIn a (map symbol before ++ symbol name ∷ (map symbol behind ++ more))
  more-symbols e =
      let h = begun-names s p a fits (before ++ name ∷ behind) (subst (λ xs. begins a xs ≡ true) (sym whole) e) in
      let more = begins-more s p (before ++ name ∷ behind) h in
      (map symbol more.0, subst (IsWordIn a) (with-more more.0) (names-word s p a fits ((before ++ name ∷ behind) ++ more.0) more.1))

  by-tests : (b d : Bool) → is_word a symbols ≡ b → begins a symbols ≡ d →
      FitsAs (IsWordIn a) (map symbol before) (map symbol behind) (symbol name) (if b then Word else (if d then Prefix else No))
  by-tests true d e f = subst (IsWordIn a) whole (are-symbols s p a fits (before ++ name ∷ behind), ap (is_word a) whole ∙ e)
  by-tests false true e f = ((λ w. false≢true (sym e ∙ w.1)), more-symbols f)
  by-tests false false e f = λ more w. false≢true (sym f ∙ begun more w)

  -- a symbol fits as the automaton tells
  pub symbol-fits : FitsAs (IsWordIn a) (map symbol before) (map symbol behind) (symbol name) (fit_by a symbols)
  symbol-fits = by-tests (is_word a symbols) (begins a symbols) refl refl

  -- and its name fits as it does
  pub name-fits : (fit : Fit) → FitsAs (IsWordIn a) (map symbol before) (map symbol behind) (symbol name) fit → FitsAs (IsWordBy s p) before behind name fit
  name-fits Word w = word-names s p a fits (before ++ name ∷ behind) (subst (IsWordIn a) (sym whole) w)
  name-fits Prefix (none, (more, w)) =
      let h = begun-names s p a fits (before ++ name ∷ behind) (subst (λ xs. begins a xs ≡ true) (sym whole) (begun more w)) in
      let rest = begins-more s p (before ++ name ∷ behind) h in (
        (λ word. none (subst (IsWordIn a) whole (names-word s p a fits (before ++ name ∷ behind) word))),
        (rest.0, subst (IsWordBy s p) (append_assoc before (name ∷ behind) rest.0) rest.1),
      )
  name-fits No none = λ more word.
      let w = names-word s p a fits ((before ++ name ∷ behind) ++ more) (subst (IsWordBy s p) (sym (append_assoc before (name ∷ behind) more)) word) in
      none (map symbol more) (subst (IsWordIn a) (with-more more) w)
