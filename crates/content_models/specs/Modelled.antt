-- What an automaton of an all says of names.
use Rattle.std.specs.Prelude.{◌≡◌, ℕ, ◌≤◌, ◌<◌, Bool, List, [], ◌∷◌, ◌++◌, true, false, Option, Some, None, All, map, length, slice_get, slice_index, slice_index_or, MatchOption, if◌then◌else◌, IsTrue}
use Rattle.xs_names.specs.Names.{NameTable}
use Rattle.particle_models.specs.Particles.{Particle, Place}
use Rattle.particle_models.specs.Words.{BeginsWord, EndsIn}
use Rattle.content_automaton.specs.declared.symbol_terms.Accepts.{Accepts}
use Rattle.content_automaton.specs.declared.attribution.Attribution.{Attribution}
use Rattle.content_automaton.specs.declared.attribution.Attribution.TheVariants.{Nothing, OneClass, Ambivalent}
use Rattle.content_automaton.specs.Terms.{ExpandedName}
use Rattle.content_automaton.specs.Symbols.{SymbolTable, symbol_of}
use Rattle.content_automaton.specs.Attribution.{IsStranger, IsFirstTerm}
use Rattle.content_automaton.specs.Listed.{AreAttributed}
use Rattle.content_models.specs.declared.machine.AllMachine.{AllMachine}
use Rattle.content_models.specs.declared.member.AllMember.{AllMember}
use Rattle.content_models.specs.Shape.{IsAllOf, IsOnce, no_member}
use Rattle.content_models.specs.States.{Recognizes}
use Rattle.content_models.specs.Ambiguity.{IsUnambiguous, IsAmbiguousBy, AcceptAs}

-- what the words need, the symbols, the member for the names of each symbol, the particles of the members, what is attributed to
-- the names of each symbol, and two members that accept one name
pub record AllModel : Type 0 where
  pub machine : AllMachine
  pub symbols : SymbolTable
  pub letters : List ℕ
  pub terms : List ℕ
  pub attributions : List Attribution
  pub pair : Option (ℕ × ℕ)

-- the member for the names of a symbol; 64 where there is none, or no word has any name
abbrev pub letter_of : AllModel → ℕ → ℕ
letter_of a symbol = if a.machine.has_words then slice_index_or a.letters symbol 64 else 64

-- two members that accept one name, where words have names
abbrev pub pair_of : AllModel → Option (ℕ × ℕ)
pair_of a = if a.machine.has_words then a.pair else None

-- What an automaton was built of: the members of a model that is an all, and what they accept. Each member comes at most once.
pub record IsAllModel (t : NameTable) (terms : List Accepts) (members : List AllMember) (optional : Bool) (accepts : ℕ → ExpandedName → Bool) (model : Particle) : Type 0 where
  pub is_all : IsAllOf members optional model
  pub once : All IsOnce members
  pub accept : AcceptAs t (map (λ (m : AllMember). m.term) members) terms accepts

-- The particle of the member that accepts the name, where some word has such a name: it is that of each place in which a marked
-- prefix ends with the name; none where no word has such a name.
abbrev pub IsMemberFor : (ℕ → ExpandedName → Bool) → Particle → ExpandedName → Option ℕ → Type 0
IsMemberFor accepts model name term =
    MatchOption term ((names : List ExpandedName) → BeginsWord accepts model (names ++ name ∷ []) → ⊥)
    (λ id. IsTrue (accepts id name) × ((names : List ExpandedName) (place : Place) → EndsIn accepts model names name place → place.number ≡ id))

-- the particle of the first member that accepts the name, in the order of the schema; none where there is none
abbrev pub IsFirstMember : NameTable → List Accepts → List AllMember → ExpandedName → Option ℕ → Type 0
IsFirstMember t terms members name term =
    MatchOption term (IsStranger t terms name) (λ id. (first : ℕ) × IsFirstTerm t terms name first × ((slice_index_or members first no_member).term ≡ id))

-- the particles of two members
abbrev pub terms_at : List ℕ → ℕ × ℕ → ℕ × ℕ
terms_at terms pair = (slice_index terms pair.0, slice_index terms pair.1)

-- On a model that is not ambiguous the automaton recognizes the words, and gives the members that accept names. It tells whether
-- the model is ambiguous, and what is attributed to names.
pub record IsAllAutomatonOf (t : NameTable) (terms : List Accepts) (accepts : ℕ → ExpandedName → Bool) (members : List AllMember) (model : Particle) (a : AllModel) : Type 0 where
  pub recognizes : IsUnambiguous accepts model → Recognizes accepts model (λ name. letter_of a (symbol_of t a.symbols name)) a.machine
  pub given : IsUnambiguous accepts model → (name : ExpandedName) → IsMemberFor accepts model name (slice_get a.terms (letter_of a (symbol_of t a.symbols name)))
  pub pair : MatchOption (pair_of a) (IsUnambiguous accepts model)
      (λ pair. (pair.0 < length a.terms) × (pair.1 < length a.terms) × IsAmbiguousBy accepts model (Some (terms_at a.terms pair)))
  pub terms_are : a.terms ≡ map (λ (m : AllMember). m.term) members
  pub count : length terms ≡ length members
  pub attributed : AreAttributed t a.symbols terms a.attributions

-- ---- for proofs

-- the first term that something is attributed to
abbrev pub first_of : Attribution → Option ℕ
first_of Nothing = None
first_of (OneClass first class) = Some first
first_of (Ambivalent first) = Some first

-- the terms that it is attributed to are of different classes
abbrev pub is_ambivalent : Attribution → Bool
is_ambivalent Nothing = false
is_ambivalent (OneClass first class) = false
is_ambivalent (Ambivalent first) = true
