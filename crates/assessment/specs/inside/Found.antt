-- What is found of the first child elements, name by name.
use Rattle.std.specs.Prelude.{◌≡◌, ℕ, suc, ◌<◌, ◌⊎◌, Bool, true, false, List, [], ◌∷◌, ◌++◌, Option, None, Some, map, take, length, slice_index, slice_index_or, MatchOption}
use Rattle.xs_names.specs.Names.{NameTable}
use Rattle.particle_models.specs.Words.{BeginsWord}
use Rattle.particle_forms.specs.Models.{model_of}
use Rattle.particle_forms.specs.Accepted.{accepts}
use Rattle.content_automaton.specs.Symbols.{SymbolTable, symbol_of}
use Rattle.content_automaton.specs.Terms.{ExpandedName, name_at}
use Rattle.content_automaton.specs.Recognized.{IsUnambiguous}
use Rattle.content_automaton.specs.Modelled.{IsTermAt}
use Rattle.content_models.specs.declared.state.AllState.{AllState}
use Rattle.content_models.specs.States.{state_of}
use Rattle.content_models.specs.Modelled.{AllModel, letter_of}
use Rattle.content_models.specs.Terms.{model_terms}
use Rattle.content_models.specs.Built.{IsBuilt, IsFirstIn}
use Rattle.content_models.specs.declared.automaton.ContentAutomaton.{ContentAutomaton}
use Rattle.content_automaton.specs.Attribution.{IsAmbivalent}
use Rattle.assessment.specs.Attribution.{SchemaSet, expanded, Begins, BeginUpTo}

-- the symbols of names
abbrev pub symbols_in : NameTable → SymbolTable → List ℕ → List ℕ
symbols_in t symbols names = map (symbol_of t symbols) (map (name_at t) names)

-- the state of an all after names
abbrev pub all_state_in : NameTable → AllModel → List ℕ → AllState
all_state_in t a names = state_of a.machine (map (λ name. letter_of a (symbol_of t a.symbols name)) (map (name_at t) names))

-- the stuck place, where one was found, or where the children up to this number do not go on
abbrev pub stuck_after : Option ℕ → Bool → ℕ → Option ℕ
stuck_after (Some stuck) goes_on count = Some stuck
stuck_after None true count = None
stuck_after None false count = Some count

module _ (s : SchemaSet) (p : ℕ) where
  -- the automaton is that of the content model over the names of the schema set
  pub record IsKept (a : ContentAutomaton) : Type 0 where
    pub built : IsBuilt s.names s.parts s.members s.classes p a
    pub unambiguous : IsUnambiguous (accepts s.names s.members s.parts) (model_of s.parts p)

  abbrev pub BeginsBy : List ExpandedName → Type 0
  BeginsBy names = BeginsWord (accepts s.names s.members s.parts) (model_of s.parts p) names

  abbrev pub IsAmbivalentBy : ExpandedName → Type 0
  IsAmbivalentBy name = IsAmbivalent s.names (model_terms s.members s.parts s.classes p) name

  -- the term of a name after others: for an ambivalent name with which these begin a word, the term at the place that ends every
  -- marked prefix; else the first that accepts the name
  abbrev pub IsNextTerm : List ExpandedName → ExpandedName → Option ℕ → Type 0
  IsNextTerm before name term =
      (IsAmbivalentBy name × BeginsBy (before ++ name ∷ []) × IsTermAt (accepts s.names s.members s.parts) (model_of s.parts p) before name term) ⊎
      ((IsAmbivalentBy name → BeginsBy (before ++ name ∷ []) → ⊥) × IsFirstIn s.names s.parts s.members s.classes p name term)

  -- the terms of these children, and the place of the first with which they begin no word
  pub record AreFound (children : List ℕ) (stuck : Option ℕ) (terms : List (Option ℕ)) : Type 0 where
    pub each : length terms ≡ length children
    pub are : (i : ℕ) → i < length children → IsNextTerm (expanded s (take i children)) (name_at s.names (slice_index children i)) (slice_index_or terms i None)
    pub stuck_is : MatchOption stuck (BeginUpTo s p children (length children))
        (λ i. (i < length children) × BeginUpTo s p children i × (Begins s p (take (suc i) children) → ⊥))
