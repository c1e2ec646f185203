-- What serves the proofs: the steps by which automata are built, and what is known on the way.
use Rattle.std.specs.Prelude.{◌≡◌, ℕ, ◌+◌, ◌<◌, ◌==◌, ◌⊎◌, Bool, true, false, ⊤, if◌then◌else◌, not, List, Option, None, Some, IfSome, All, Contains, length, slice_set, slice_index, slice_index_or}
use Rattle.std.specs.List.{sum_by}
use Rattle.std.specs.List.Sorted.{IsStrictlySortedBy}
use Rattle.xs_codes.specs.declared.fault.Fault.{Fault}
use Rattle.xs_codes.specs.Least.{is_before, sooner}
use Rattle.xs_names.specs.Names.{NameTable}
use Rattle.xs_components.specs.Tables.{Tables}
use Rattle.xs_components.specs.declared.common.Place.{Place}
use Rattle.content_models.specs.Built.{IsStateTotal, IsBuilt, HasRoom, IsRefused, states_of, cells_of}
use Rattle.content_models.specs.declared.automaton.ContentAutomaton.{ContentAutomaton}
use Rattle.content_models.specs.declared.refused.ModelError.{ModelError}
use Rattle.content_models.specs.declared.refused.ModelError.TheVariants as errors
use Rattle.schema_models.specs.Consistency.{IsConsistent}
use Rattle.schema_models.specs.Checks.{IsAmbiguousModel}
use Rattle.schema_models.specs.declared.fault.ModelFault.{ModelFault}
use Rattle.schema_models.specs.declared.fault.ModelFault.TheVariants.{TooManyPositions, TooManyStates, TableTooLarge, Inconsistent, Ambiguous}
use Rattle.schema_models.specs.SetModels.{place_of, by_place, content_of, type_fault, code_of, most_cells, IsBrokenOf, IsBrokenAt, AreModels}
use Rattle.schema_models.specs.declared.filling.Progress.{Progress}

-- the numbers from 0 on
abbrev pub AreCounted : List ℕ → Type 0
AreCounted numbers = (n : ℕ) → n < length numbers → slice_index numbers n ≡ n

-- all complex types by their places, each once
pub record IsInOrder (t : Tables) (order : List ℕ) : Type 0 where
  pub there : All (λ type. type < length t.complexes.parts) order
  pub each : (type : ℕ) → type < length t.complexes.parts → Contains order type
  pub ordered : IsStrictlySortedBy (by_place t) order

-- there is a fault, and it stands at another place
abbrev pub is_elsewhere : Option Fault → Place → Bool
is_elsewhere None at = false
is_elsewhere (Some f) at = if f.document == at.document then not (f.item == at.item) else true

-- the automaton of a type, if it has one
abbrev pub model_at : List (Option ContentAutomaton) → ℕ → Option ContentAutomaton
model_at models type = slice_index_or models type None

abbrev pub AreNone : List (Option ContentAutomaton) → Type 0
AreNone models = (type : ℕ) → type < length models → model_at models type ≡ None

abbrev pub taken : Option ContentAutomaton → ℕ
taken None = 0
taken (Some a) = cells_of a

-- the limit that a content model without an automaton passes
abbrev pub IsKindOf : ModelError → ModelFault → Type 0
IsKindOf errors.TooManyPositions kind = kind ≡ TooManyPositions
IsKindOf errors.TooManyStates kind = kind ≡ TooManyStates
IsKindOf errors.TableTooLarge kind = kind ≡ TableTooLarge

-- it is a limit of this project's
abbrev pub IsLimit : ModelFault → Type 0
IsLimit TooManyPositions = ⊤
IsLimit TooManyStates = ⊤
IsLimit TableTooLarge = ⊤
IsLimit Inconsistent = ⊥
IsLimit Ambiguous = ⊥

-- there is a fault, and another is not before it
abbrev pub IsNotBefore : Option Fault → Fault → Type 0
IsNotBefore None g = ⊥
IsNotBefore (Some f) g = is_before g f ≡ false

module _ (names : NameTable) (t : Tables) (members : List (List ℕ)) where
  -- of a content model with an automaton
  abbrev pub IsMisjudgedOf : ℕ → ModelFault → Type 0
  IsMisjudgedOf p TooManyPositions = ⊥
  IsMisjudgedOf p TooManyStates = ⊥
  IsMisjudgedOf p TableTooLarge = ⊥
  IsMisjudgedOf p Inconsistent = IsConsistent members t p → ⊥
  IsMisjudgedOf p Ambiguous = IsAmbiguousModel names t members p

  -- types differ in the content model of a type, or it is ambiguous
  abbrev pub IsMisjudgedAt : ℕ → Fault → Type 0
  IsMisjudgedAt type f =
      (p : ℕ) × (kind : ModelFault) × (content_of t type ≡ Some p) × IsMisjudgedOf p kind × (f ≡ type_fault t type (code_of kind))

  -- the type has an automaton
  abbrev pub IsMisjudgedIn : List (Option ContentAutomaton) → ℕ → Fault → Type 0
  IsMisjudgedIn models type f = (a : ContentAutomaton) × (model_at models type ≡ Some a) × IsMisjudgedAt type f

  abbrev pub IsMisjudged : List (Option ContentAutomaton) → Fault → Type 0
  IsMisjudged models f = (type : ℕ) × (type < length t.complexes.parts) × IsMisjudgedIn models type f

  -- of one of the first types
  abbrev pub IsMisjudgedBelow : List (Option ContentAutomaton) → ℕ → Fault → Type 0
  IsMisjudgedBelow models count f = (type : ℕ) × (type < count) × IsMisjudgedIn models type f

module _ (names : NameTable) (t : Tables) (members : List (List ℕ)) (classes : List ℕ) where
  -- the automaton is that of the type's content model, and has so many states
  pub record IsMade (type : ℕ) (a : ContentAutomaton) : Type 0 where
    pub p : ℕ
    pub content : content_of t type ≡ Some p
    pub built : IsBuilt names t members classes p a
    pub states : IsStateTotal names t members p (states_of a)

  abbrev pub AreMade : List (Option ContentAutomaton) → Type 0
  AreMade models = (type : ℕ) (a : ContentAutomaton) → model_at models type ≡ Some a → IsMade type a

  -- the content model of a type passes a limit
  abbrev pub IsOverLimitAt : ℕ → Fault → Type 0
  IsOverLimitAt type f =
      (p : ℕ) × (kind : ModelFault) × (content_of t type ≡ Some p) × IsBrokenOf names t members classes type p kind × (f ≡ type_fault t type (code_of kind)) × IsLimit kind

  -- the type has no content model, or a limit was passed, and nothing is broken of the type before that
  abbrev pub IsWithout : Option Fault → ℕ → Type 0
  IsWithout first type =
      (content_of t type ≡ None) ⊎ ((first ≡ None → ⊥) × ((g : Fault) → IsBrokenAt names t members classes type g → IsNotBefore first g))

  -- what is known when these types were visited
  pub record IsSoFar (done : List ℕ) (models : List (Option ContentAutomaton)) (cells_left : ℕ) (first : Option Fault) : Type 0 where
    pub each : length models ≡ length t.complexes.parts
    pub cells : cells_left + sum_by taken models ≡ most_cells
    pub made : AreMade models
    pub waiting : (type : ℕ) → Contains done type ⊎ (model_at models type ≡ None)
    pub found : IfSome first (λ f. (type : ℕ) × Contains done type × IsOverLimitAt type f)
    pub limits : (type : ℕ) → Contains done type → (g : Fault) → IsOverLimitAt type g → IsNotBefore first g
    pub without : (type : ℕ) → Contains done type → model_at models type ≡ None → IsWithout first type

  -- all types were visited
  pub record IsFilled (models : List (Option ContentAutomaton)) (first : Option Fault) : Type 0 where
    pub each : length models ≡ length t.complexes.parts
    pub made : AreMade models
    pub found : IfSome first (λ f. (type : ℕ) × (type < length t.complexes.parts) × IsOverLimitAt type f)
    pub limits : (type : ℕ) → type < length t.complexes.parts → (g : Fault) → IsOverLimitAt type g → IsNotBefore first g
    pub without : (type : ℕ) → type < length t.complexes.parts → model_at models type ≡ None → IsWithout first type

  -- an automaton was put, or there is none
  abbrev pub IsNext : ℕ → ℕ → List (Option ContentAutomaton) → Progress → List (Option ContentAutomaton) → Progress → Type 0
  IsNext type p old before new after =
      ((a : ContentAutomaton) × IsBuilt names t members classes p a × HasRoom names t members p before.cells_left a ×
      (new ≡ slice_set old type (Some a)) × (after.cells_left + cells_of a ≡ before.cells_left) × (after.first ≡ before.first)) ⊎
      ((error : ModelError) × (kind : ModelFault) × IsRefused names t members classes p before.cells_left error × IsKindOf error kind ×
      (new ≡ old) × (after.cells_left ≡ before.cells_left) × (after.first ≡ sooner before.first (Some (type_fault t type (code_of kind)))))

  -- a type was passed over, has no content model, or was built
  abbrev pub IsVisit : ℕ → List (Option ContentAutomaton) → Progress → List (Option ContentAutomaton) → Progress → Type 0
  IsVisit type old before new after =
      ((is_elsewhere before.first (place_of t type) ≡ true) × (new ≡ old) × (after ≡ before)) ⊎
      ((is_elsewhere before.first (place_of t type) ≡ false) ×
      (((content_of t type ≡ None) × (new ≡ old) × (after ≡ before)) ⊎ ((p : ℕ) × (content_of t type ≡ Some p) × IsNext type p old before new after)))

  abbrev pub AreModelsIfNone : List (Option ContentAutomaton) → Option Fault → Type 0
  AreModelsIfNone models None = AreModels names t members classes models
  AreModelsIfNone models (Some f) = ⊤
