-- What an automaton says of the words of a content model.
use Rattle.std.specs.Prelude.{◌≡◌, ◌==◌, ℕ, ◌<◌, ◌↔◌, Bool, IsTrue, List, [], ◌∷◌, ◌++◌, Some, map, length, slice_index, slice_index_or}
use Rattle.std.specs.List.{list_any}
use Rattle.particle_models.specs.Particles.{Particle, Place}
use Rattle.particle_models.specs.Words.{IsWordOfNames, BeginsWord, EndsIn, IsAmbiguous}
use Rattle.particle_models.specs.Unrolled.{places}
use Rattle.particle_models.specs.Model.{blank}
pub use Rattle.content_automaton.specs.Terms.{ExpandedName}
use Rattle.content_automaton.specs.Automaton.{Automaton, state_of, dead_of, accepts_at, run, term_of}

-- Each name has a symbol, and each symbol a name. Each term accepts the names whose symbols are listed for it, and no others.
pub record AreSymbols (accepts : ℕ → ExpandedName → Bool) (terms : List ℕ) (accepted : List (List ℕ)) (symbols : ℕ) (symbol : ExpandedName → ℕ) : Type 0 where
  pub below : (name : ExpandedName) → symbol name < symbols
  pub some : (n : ℕ) → n < symbols → (name : ExpandedName) × (symbol name ≡ n)
  pub same : (k : ℕ) → k < length terms → (name : ExpandedName) →
      list_any (λ m. m == symbol name) (slice_index_or accepted k []) ≡ accepts (slice_index terms k) name

-- After names the state is not dead exactly where they begin a word of the model, and accepting exactly where they are one.
pub record Recognizes (accepts : ℕ → ExpandedName → Bool) (model : Particle) (symbol : ExpandedName → ℕ) (a : Automaton) : Type 0 where
  pub live : (names : List ExpandedName) → (state_of a (map symbol names) < dead_of a) ↔ BeginsWord accepts model names
  pub accepting : (names : List ExpandedName) → IsTrue (accepts_at a (state_of a (map symbol names))) ↔ IsWordOfNames accepts model names

-- no two prefixes of marked words have the same names and end in different places
abbrev pub IsUnambiguous : (ℕ → ExpandedName → Bool) → Particle → Type 0
IsUnambiguous accepts model = (p q : Place) → IsAmbiguous accepts model p q → ⊥

-- the place of the term of this number
abbrev pub nth_place : Particle → ℕ → Place
nth_place model k = slice_index_or (places model []) k blank

-- After names that end a prefix of a word in a place, the state gives the number of a term at that place.
abbrev pub GivesTerms : (ℕ → ExpandedName → Bool) → Particle → (ExpandedName → ℕ) → Automaton → Type 0
GivesTerms accepts model symbol a =
    (names : List ExpandedName) (name : ExpandedName) (place : Place) → EndsIn accepts model names name place →
    (k : ℕ) × (term_of a (run a 0 (map symbol (names ++ name ∷ []))) ≡ Some k) × (nth_place model k ≡ place) × (k < length (places model []))
