-- The automaton of a content model that is read off the tables of components, and when there is none.
use Rattle.std.specs.Prelude.{◌≡◌, ℕ, ◌*◌, ◌<◌, ◌≤◌, ◌⊎◌, Bool, true, false, List, Option, All as Each, Contains, length, slice_index, slice_index_or, MatchOption}
use Rattle.xs_names.specs.Names.{NameTable}
use Rattle.xs_names.specs.Numbering.{HasNoRepeats}
use Rattle.xs_components.specs.Tables.{Tables}
use Rattle.xs_components.specs.Heads.{names_of}
use Rattle.component_references.specs.Ranked.{IsRanked}
use Rattle.particle_models.specs.Particles.{Particle}
use Rattle.particle_models.specs.Unrolled.{HasNoAll, positions_of}
use Rattle.particle_models.specs.Model.{UnrolledModel, IsUnrolled}
use Rattle.particle_forms.specs.Models.{model_of}
use Rattle.particle_forms.specs.Accepted.{accepts, is_inhabited}
use Rattle.component_tables.specs.Types.{DeclarationTable, AreDeclarationsOf}
use Rattle.content_automaton.specs.Terms.{ExpandedName}
use Rattle.content_automaton.specs.Attribution.{IsStranger, IsFirstTerm}
use Rattle.content_automaton.specs.Symbols.{SymbolTable, AreSymbolsOf, count_of}
use Rattle.content_automaton.specs.Counted.{IsStateCountOf}
use Rattle.content_automaton.specs.Modelled.{IsAutomatonOf}
use Rattle.content_models.specs.declared.member.AllMember.{AllMember}
use Rattle.content_models.specs.Shape.{IsOnce, IsAllOf}
use Rattle.content_models.specs.Modelled.{IsAllAutomatonOf}
use Rattle.content_models.specs.Terms.{terms_of, model_terms}
use Rattle.content_models.specs.declared.automaton.ContentAutomaton.{ContentAutomaton}
use Rattle.content_models.specs.declared.automaton.ContentAutomaton.TheVariants.{States, All}
use Rattle.content_models.specs.declared.refused.ModelError.{ModelError}
use Rattle.content_models.specs.declared.refused.ModelError.TheVariants.{TooManyPositions, TooManyStates, TableTooLarge}

-- What content models are read off: references go to parts of lower rank, a name has one number, the members of substitution groups
-- have names of the table, and the rest was found of these components.
pub record IsSource (names : NameTable) (t : Tables) (members : List (List ℕ)) (d : DeclarationTable) (inhabited : List Bool) : Type 0 where
  pub ranked : IsRanked t
  pub once : HasNoRepeats names.names
  pub named : (element n : ℕ) → Contains (names_of members element) n → n < length names.names
  pub declarations : AreDeclarationsOf t d
  pub inhabits : (id : ℕ) → slice_index_or inhabited id false ≡ is_inhabited members t id

-- The model is an all of these members: cos-all-limited.1 and .2 (Structures 3.8.6) hold, and it has at most 64 members.
pub record IsLimitedAll (members : List AllMember) (optional : Bool) (model : Particle) : Type 0 where
  pub is_all : IsAllOf members optional model
  pub once : Each IsOnce members
  pub few : length members ≤ 64

-- where an all stands in the model, the model is that all
abbrev pub IsLimited : Particle → Type 0
IsLimited model = HasNoAll model ⊎ ((members : List AllMember) × (optional : Bool) × IsLimitedAll members optional model)

-- the model is an all
abbrev pub is_all : ContentAutomaton → Bool
is_all (States a) = false
is_all (All a) = true

abbrev pub symbols_of : ContentAutomaton → SymbolTable
symbols_of (States a) = a.symbols
symbols_of (All a) = a.symbols

-- how many states there are; an all counts one
abbrev pub states_of : ContentAutomaton → ℕ
states_of (States a) = a.machine.count
states_of (All a) = 1

-- the cells of its table: states times symbols
abbrev pub cells_of : ContentAutomaton → ℕ
cells_of a = states_of a * count_of (symbols_of a)

module _ (names : NameTable) (t : Tables) (members : List (List ℕ)) where
  -- So many states the content model of a particle has: the sets of positions in which a prefix with some names may end, and one
  -- before the first name. An all counts one.
  abbrev pub IsStateTotal : ℕ → ℕ → Type 0
  IsStateTotal p count =
      (HasNoAll (model_of t p) ×
      ((u : UnrolledModel) × IsUnrolled (is_inhabited members t) (model_of t p) u × IsStateCountOf (accepts names members t) (is_inhabited members t) (model_of t p) u.table count)) ⊎
      (((own : List AllMember) × (optional : Bool) × IsLimitedAll own optional (model_of t p)) × (count ≡ 1))

  -- x-limit.positions: the content model of a particle has more than 2,048 positions.
  abbrev pub HasTooManyPositions : ℕ → Type 0
  HasTooManyPositions p = 2048 < positions_of (model_of t p)

  -- x-limit.states: it has not too many positions, but more than 2,048 states.
  abbrev pub HasTooManyStates : ℕ → Type 0
  HasTooManyStates p = (positions_of (model_of t p) ≤ 2048) × ((count : ℕ) → IsStateTotal p count → 2048 < count)

  module _ (classes : List ℕ) where
    -- the automaton recognizes the words of the content model of a particle, and tells of its terms and places
    abbrev pub IsBuilt : ℕ → ContentAutomaton → Type 0
    IsBuilt p (States a) =
        HasNoAll (model_of t p) × IsAutomatonOf names (model_terms members t classes p) (accepts names members t) (model_of t p) a ×
        AreSymbolsOf (model_terms members t classes p) a.symbols
    IsBuilt p (All a) =
        ((own : List AllMember) × (optional : Bool) × IsLimitedAll own optional (model_of t p) ×
        IsAllAutomatonOf names (model_terms members t classes p) (accepts names members t) own (model_of t p) a) ×
        AreSymbolsOf (model_terms members t classes p) a.symbols

    -- x-limit.table: the content model has neither too many positions nor too many states, but its states times its symbols are more
    -- than the cells that are left.
    abbrev pub HasTooLargeTable : ℕ → ℕ → Type 0
    HasTooLargeTable p cells_left =
        (positions_of (model_of t p) ≤ 2048) × (count : ℕ) × (s : SymbolTable) × IsStateTotal p count × AreSymbolsOf (model_terms members t classes p) s ×
        (count ≤ 2048) × (cells_left < count * count_of s)

    abbrev pub IsRefused : ℕ → ℕ → ModelError → Type 0
    IsRefused p cells_left TooManyPositions = HasTooManyPositions p
    IsRefused p cells_left TooManyStates = HasTooManyStates p
    IsRefused p cells_left TableTooLarge = HasTooLargeTable p cells_left

    -- the first term of the content model of a particle that accepts the name, in the order of the schema; none where there is none
    abbrev pub IsFirstIn : ℕ → ExpandedName → Option ℕ → Type 0
    IsFirstIn p name first =
        MatchOption first (IsStranger names (model_terms members t classes p) name)
        (λ id. (k : ℕ) × IsFirstTerm names (model_terms members t classes p) name k × (slice_index (terms_of (model_of t p)) k ≡ id))

  -- none of these
  abbrev pub HasRoom : ℕ → ℕ → ContentAutomaton → Type 0
  HasRoom p cells_left a =
      (positions_of (model_of t p) ≤ 2048) × IsStateTotal p (states_of a) × (states_of a ≤ 2048) × (cells_of a ≤ cells_left)
