-- What an automaton of a content model says of names.
use Rattle.std.specs.Prelude.{◌≡◌, ℕ, ◌<◌, ◌≤◌, ◌*◌, Bool, true, false, List, [], ◌∷◌, ◌++◌, Option, Some, None, map, length, slice_index, slice_index_or, MatchOption}
use Rattle.xs_names.specs.Names.{NameTable}
use Rattle.xs_positions.specs.Positions.{Table}
use Rattle.particle_models.specs.Particles.{Particle, Place}
use Rattle.particle_models.specs.Words.{BeginsWord, EndsIn, IsAmbiguous}
use Rattle.particle_models.specs.Unrolled.{places, HasNoAll}
use Rattle.particle_models.specs.Model.{UnrolledModel, IsUnrolled, IsInhabitedBy}
use Rattle.content_automaton.specs.declared.symbol_terms.Accepts.{Accepts}
use Rattle.content_automaton.specs.declared.attribution.Attribution.{Attribution}
use Rattle.content_automaton.specs.declared.attribution.Attribution.TheVariants.{Nothing, OneClass, Ambivalent}
use Rattle.content_automaton.specs.Terms.{ExpandedName, accepts_name}
use Rattle.content_automaton.specs.Symbols.{SymbolTable, AreSymbolsOf, symbol_of, count_of}
use Rattle.content_automaton.specs.Attribution.{IsStranger, IsFirstTerm}
use Rattle.content_automaton.specs.Listed.{AreAttributed}
use Rattle.content_automaton.specs.Automaton.{Automaton}
use Rattle.content_automaton.specs.Recognized.{Recognizes, IsUnambiguous, GivesTerms, nth_place}
use Rattle.content_automaton.specs.Counted.{IsStateCountOf}
use Rattle.content_automaton.specs.declared.refused.BuildError.{BuildError}
use Rattle.content_automaton.specs.declared.refused.BuildError.TheVariants.{TooManyStates, TableTooLarge}

-- the states with their steps, the symbols, the particles of the terms, and what is attributed to the names of each symbol
pub record ModelAutomaton : Type 0 where
  pub machine : Automaton
  pub symbols : SymbolTable
  pub terms : List ℕ
  pub attributions : List Attribution

-- the particles of these numbers accept what is listed for them
abbrev pub AcceptAs : NameTable → List ℕ → List Accepts → (ℕ → ExpandedName → Bool) → Type 0
AcceptAs t ids terms accepts =
    (k : ℕ) (a : Accepts) → k < length ids → (name : ExpandedName) → accepts (slice_index ids k) name ≡ accepts_name t (slice_index_or terms k a) name

-- What an automaton was built of: the terms of a model without an all, which is unrolled, and what they accept.
pub record IsModelOf (t : NameTable) (terms : List Accepts) (u : UnrolledModel) (accepts : ℕ → ExpandedName → Bool) (inhabited : ℕ → Bool) (model : Particle) : Type 0 where
  pub no_all : HasNoAll model
  pub unrolled : IsUnrolled inhabited model u
  pub inhabits : IsInhabitedBy accepts inhabited
  pub accept : AcceptAs t u.terms terms accepts

-- these are numbers of two terms, at whose places the model is ambiguous
abbrev pub AreAmbiguous : (ℕ → ExpandedName → Bool) → Particle → ℕ → ℕ → Type 0
AreAmbiguous accepts model x y =
    (x < length (places model [])) × (y < length (places model [])) × IsAmbiguous accepts model (nth_place model x) (nth_place model y)

-- The automaton recognizes the model's words, tells whether the model is ambiguous, gives the terms at the places that end marked
-- prefixes where it is not, and what is attributed to names.
pub record IsAutomatonOf (t : NameTable) (terms : List Accepts) (accepts : ℕ → ExpandedName → Bool) (model : Particle) (a : ModelAutomaton) : Type 0 where
  pub recognizes : Recognizes accepts model (symbol_of t a.symbols) a.machine
  pub pair : MatchOption a.machine.pair (IsUnambiguous accepts model) (λ pair. AreAmbiguous accepts model pair.0 pair.1)
  pub gives : IsUnambiguous accepts model → GivesTerms accepts model (symbol_of t a.symbols) a.machine
  pub terms_are : a.terms ≡ map (λ (place : Place). place.number) (places model [])
  pub count : length terms ≡ length a.terms
  pub attributed : AreAttributed t a.symbols terms a.attributions

-- why there is no automaton
abbrev pub WhereRefused : BuildError → Type 0 → Type 0 → Type 0
WhereRefused TooManyStates P Q = P
WhereRefused TableTooLarge P Q = Q

-- the states of the model are more than the limit
abbrev pub HasTooManyStates : (ℕ → ExpandedName → Bool) → (ℕ → Bool) → Particle → Table → Type 0
HasTooManyStates accepts inhabited model table = (count : ℕ) → IsStateCountOf accepts inhabited model table count → 2048 < count

-- the states are not more than the limit, but states times symbols are more than the cells that are left
abbrev pub HasTooLargeTable : List Accepts → ℕ → (ℕ → ExpandedName → Bool) → (ℕ → Bool) → Particle → Table → Type 0
HasTooLargeTable terms cells_left accepts inhabited model table =
    (count : ℕ) × (s : SymbolTable) × IsStateCountOf accepts inhabited model table count × AreSymbolsOf terms s × (count ≤ 2048) × (cells_left < count * count_of s)

-- neither
abbrev pub HasRoom : SymbolTable → ℕ → (ℕ → ExpandedName → Bool) → (ℕ → Bool) → Particle → Table → ℕ → Type 0
HasRoom s cells_left accepts inhabited model table count =
    IsStateCountOf accepts inhabited model table count × (count ≤ 2048) × (count * count_of s ≤ cells_left)

-- The term at the place in which names end, with one name more; none where they begin no word.
abbrev pub IsTermAt : (ℕ → ExpandedName → Bool) → Particle → List ExpandedName → ExpandedName → Option ℕ → Type 0
IsTermAt accepts model names name term =
    MatchOption term (BeginsWord accepts model (names ++ name ∷ []) → ⊥)
    (λ id. (place : Place) × EndsIn accepts model names name place × ((other : Place) → EndsIn accepts model names name other → other ≡ place) × (place.number ≡ id))

-- the first term that accepts the name, in the order of the model; none where there is none
abbrev pub IsFirstTermOf : NameTable → List Accepts → Particle → ExpandedName → Option ℕ → Type 0
IsFirstTermOf t terms model name term =
    MatchOption term (IsStranger t terms name) (λ id. (first : ℕ) × IsFirstTerm t terms name first × ((nth_place model first).number ≡ id))

-- cos-nonambig (Structures 3.8.6): these are the particles at two different places in which marked prefixes with the same names
-- end; none where there are no such places.
abbrev pub IsAmbiguousBy : (ℕ → ExpandedName → Bool) → Particle → Option (ℕ × ℕ) → Type 0
IsAmbiguousBy accepts model pair =
    MatchOption pair (IsUnambiguous accepts model) (λ pair. (p : Place) × (q : Place) × IsAmbiguous accepts model p q × (p.number ≡ pair.0) × (q.number ≡ pair.1))

-- ---- for proofs

-- the first term that something is attributed to
abbrev pub first_of : Attribution → Option ℕ
first_of Nothing = None
first_of (OneClass first class) = Some first
first_of (Ambivalent first) = Some first

-- the terms that it is attributed to are of different classes
abbrev pub is_ambivalent : Attribution → Bool
is_ambivalent Nothing = false
is_ambivalent (OneClass first class) = false
is_ambivalent (Ambivalent first) = true
