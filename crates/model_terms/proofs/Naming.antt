-- Symbols of names are the automaton's, and so is each of them.
use Rattle.std.proofs.Common.{◌≡◌, ℕ, ◌<◌, List, [], ◌∷◌, length, get_or, sym, ap, subst, ◌∙◌, arith}
use Rattle.std.specs.Prelude.{slice_index}
use Rattle.std.proofs.lemmas.List.{length-map, get_or-map}
use Rattle.content_automaton.specs.Terms.{ExpandedName}
use Rattle.content_automaton.specs.Symbols.{symbol_of, count_of}
use Rattle.content_automaton.specs.Modelled.{ModelAutomaton}
use Rattle.content_automaton.proofs.Symboling.{symbol_below}
use Rattle.content_models.specs.Built.{symbols_of}
use Rattle.content_models.specs.declared.automaton.ContentAutomaton.{ContentAutomaton}
use Rattle.content_models.specs.declared.automaton.ContentAutomaton.TheVariants.{States}
use Rattle.model_terms.specs.Symbols.{AreSymbolsBy}

module _ (a : ContentAutomaton) (symbols : List ℕ) (h : AreSymbolsBy a symbols) (k : ℕ) (l : k < length symbols) where
  abbrev name : ExpandedName
  name = get_or h.names k (0, [])

  named : slice_index symbols k ≡ symbol_of h.set.names (symbols_of a) name
  named =
      let many = ap length h.are ∙ length-map h.names (symbol_of h.set.names (symbols_of a)) in
      ap (λ xs. get_or xs k 0) h.are ∙ get_or-map (symbol_of h.set.names (symbols_of a)) h.names k (0, []) 0 (omega arith)

  pub one-of : AreSymbolsBy a (slice_index symbols k ∷ [])
  one-of = record { set = h.set; particle = h.particle; fits = h.fits; names = name ∷ []; are = ap (λ n. n ∷ []) named }

pub below-count : (a : ModelAutomaton) (symbols : List ℕ) → AreSymbolsBy (States a) symbols → (k : ℕ) → k < length symbols → slice_index symbols k < count_of a.symbols
below-count a symbols h k l = subst (λ n. n < count_of a.symbols) (sym (named (States a) symbols h k l)) (symbol_below h.set.names a.symbols (get_or h.names k (0, [])))
