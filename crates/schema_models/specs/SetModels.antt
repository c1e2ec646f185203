-- The content models of all complex types of a schema set: what is broken of them, and their automata.
use Rattle.std.specs.Prelude.{◌≡◌, ◌≢◌, ℕ, ◌*◌, ◌^◌, ◌<◌, List, Option, None, Some, MatchOption, length, slice_get, slice_index, slice_index_or}
use Rattle.std.specs.List.{sum_by}
use Rattle.std.specs.Option.{option_and_then}
use Rattle.std.specs.Ordering.{nat_cmp, ordering_then}
use Rattle.std.specs.declared.cmp.Ordering.{Ordering}
use Rattle.std.specs.declared.cmp.Ordering.TheVariants.{Greater}
use Rattle.xs_codes.specs.declared.code.Code.{Code}
use Rattle.xs_codes.specs.declared.code.Code.TheVariants.{XLimitPositions, XLimitStates, XLimitTable, CosElementConsistent, CosNonambig}
use Rattle.xs_codes.specs.declared.fault.Fault.{Fault}
use Rattle.xs_names.specs.Names.{NameTable}
use Rattle.xs_components.specs.Tables.{Tables}
use Rattle.xs_components.specs.declared.common.Place.{Place}
use Rattle.xs_components.specs.declared.complex.ComplexType.{ComplexType}
use Rattle.particle_forms.specs.Models.{model_of}
use Rattle.content_automaton.specs.Symbols.{SymbolTable, AreSymbolsOf, count_of}
use Rattle.content_models.specs.Terms.{model_terms}
use Rattle.content_models.specs.Built.{IsStateTotal, HasTooManyPositions, HasTooManyStates, IsBuilt, IsLimited}
use Rattle.content_models.specs.declared.automaton.ContentAutomaton.{ContentAutomaton}
use Rattle.schema_models.specs.Consistency.{IsConsistent}
use Rattle.schema_models.specs.Checks.{IsAmbiguousModel}
use Rattle.schema_models.specs.declared.fault.ModelFault.{ModelFault}
use Rattle.schema_models.specs.declared.fault.ModelFault.TheVariants.{TooManyPositions, TooManyStates, TableTooLarge, Inconsistent, Ambiguous}

-- the cells of all tables of a schema set are at most so many
abbrev pub most_cells : ℕ
most_cells = 2 ^ 24

abbrev pub part_place : Option ComplexType → Place
part_place None = record { document = 0; item = 0 }
part_place (Some part) = part.at

module _ (t : Tables) where
  -- where the complex type of a number is represented
  abbrev pub place_of : ℕ → Place
  place_of type = part_place (slice_get t.complexes.parts type)

  -- which of two complex types comes first: by document, then item, then number, since a document may be in the set twice
  abbrev pub by_place : ℕ → ℕ → Ordering
  by_place a b =
      ordering_then
      (ordering_then (nat_cmp (place_of a).document (place_of b).document) (nat_cmp (place_of a).item (place_of b).item))
      (nat_cmp a b)

  -- the particle of the content of a complex type (Structures 3.4.2)
  abbrev pub content_of : ℕ → Option ℕ
  content_of type = option_and_then (λ content. content) (slice_get t.contents type)

  abbrev pub type_fault : ℕ → Code → Fault
  type_fault type code = record { phase = 8; document = (place_of type).document; item = (place_of type).item; code = code }

-- each content model that an all stands in is that all, limited as it must be (Structures 3.8.6)
abbrev pub AreContentsLimited : Tables → Type 0
AreContentsLimited t = (type p : ℕ) → content_of t type ≡ Some p → (p < length t.particles.parts) × IsLimited (model_of t p)

abbrev pub code_of : ModelFault → Code
code_of TooManyPositions = XLimitPositions
code_of TooManyStates = XLimitStates
code_of TableTooLarge = XLimitTable
code_of Inconsistent = CosElementConsistent
code_of Ambiguous = CosNonambig

module _ (names : NameTable) (t : Tables) (members : List (List ℕ)) (classes : List ℕ) where
  -- so many cells the table of a content model has: its states times its symbols
  abbrev pub IsTableSize : ℕ → ℕ → Type 0
  IsTableSize p cells =
      (count : ℕ) × (s : SymbolTable) × IsStateTotal names t members p count × AreSymbolsOf (model_terms members t classes p) s × (cells ≡ count * count_of s)

  -- so many cells a complex type takes: those of its content model, if it has one
  abbrev pub IsCellCount : ℕ → ℕ → Type 0
  IsCellCount type cells = MatchOption (content_of t type) (cells ≡ 0) (λ p. IsTableSize p cells)

  -- the cells of each complex type up to the last, and none for those that come after it
  pub record AreCellsUpTo (last : ℕ) (cells : List ℕ) : Type 0 where
    pub each : length cells ≡ length t.complexes.parts
    pub before : (type : ℕ) → type < length cells → by_place t type last ≢ Greater → IsCellCount type (slice_index cells type)
    pub after : (type : ℕ) → type < length cells → by_place t type last ≡ Greater → slice_index cells type ≡ 0

  -- x-limit.table: the states times the symbols of the content models, summed up type by type, have passed the limit at this
  -- type. The least is where they first pass it.
  abbrev pub IsPastCells : ℕ → Type 0
  IsPastCells last = (cells : List ℕ) × AreCellsUpTo last cells × (most_cells < sum_by (λ n. n) cells)

  -- This is broken of the content model of a complex type (Structures 3.8.6): x-limit.positions, x-limit.states, x-limit.table,
  -- cos-element-consistent, cos-nonambig.
  abbrev pub IsBrokenOf : ℕ → ℕ → ModelFault → Type 0
  IsBrokenOf type p TooManyPositions = HasTooManyPositions names t members p
  IsBrokenOf type p TooManyStates = HasTooManyStates names t members p
  IsBrokenOf type p TableTooLarge = IsPastCells type
  IsBrokenOf type p Inconsistent = IsConsistent members t p → ⊥
  IsBrokenOf type p Ambiguous = IsAmbiguousModel names t members p

  abbrev pub IsBrokenAt : ℕ → Fault → Type 0
  IsBrokenAt type f =
      (p : ℕ) × (kind : ModelFault) × (content_of t type ≡ Some p) × IsBrokenOf type p kind × (f ≡ type_fault t type (code_of kind))

  -- the fault is one of some content model of the set; its item is the complexType
  abbrev pub IsBroken : Fault → Type 0
  IsBroken f = (type : ℕ) × (type < length t.complexes.parts) × IsBrokenAt type f

  -- the automaton of a content model, if there is one
  abbrev pub IsModel : Option ℕ → Option ContentAutomaton → Type 0
  IsModel None model = model ≡ None
  IsModel (Some p) model = (a : ContentAutomaton) × (model ≡ Some a) × IsBuilt names t members classes p a

  -- the automata of the content models of all complex types, by their numbers
  abbrev pub AreModels : List (Option ContentAutomaton) → Type 0
  AreModels models =
      (length models ≡ length t.complexes.parts) ×
      ((type : ℕ) → type < length models → IsModel (content_of t type) (slice_index_or models type None))
