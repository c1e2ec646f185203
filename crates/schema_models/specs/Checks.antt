-- Constraints on content models.
use Rattle.std.specs.Prelude.{ℕ, ◌*◌, ◌≤◌, List, Option, None, Some}
use Rattle.xs_names.specs.Names.{NameTable}
use Rattle.xs_components.specs.Tables.{Tables}
use Rattle.particle_models.specs.Particles.{Place}
use Rattle.particle_models.specs.Words.{IsAmbiguous}
use Rattle.particle_models.specs.Unrolled.{positions_of}
use Rattle.particle_forms.specs.Models.{model_of}
use Rattle.particle_forms.specs.Accepted.{accepts}
use Rattle.content_automaton.specs.Symbols.{SymbolTable, AreSymbolsOf, count_of}
use Rattle.content_models.specs.Terms.{model_terms}
use Rattle.content_models.specs.Built.{IsStateTotal, HasTooManyPositions, HasTooManyStates, HasTooLargeTable, IsBuilt}
use Rattle.content_models.specs.declared.automaton.ContentAutomaton.{ContentAutomaton}
use Rattle.schema_models.specs.Consistency.{IsConsistent}
use Rattle.schema_models.specs.declared.fault.ModelFault.{ModelFault}
use Rattle.schema_models.specs.declared.fault.ModelFault.TheVariants.{TooManyPositions, TooManyStates, TableTooLarge, Inconsistent, Ambiguous}

module _ (names : NameTable) (t : Tables) (members : List (List ℕ)) where
  -- cos-nonambig (Structures 3.8.6): two prefixes of words of the content model of a particle with the same names end at different
  -- places.
  abbrev pub IsAmbiguousModel : ℕ → Type 0
  IsAmbiguousModel p = (x : Place) × (y : Place) × IsAmbiguous (accepts names members t) (model_of t p) x y

  -- What is broken first of the content model of a particle that has an automaton: cos-element-consistent, else cos-nonambig.
  abbrev pub IsJudged : ℕ → Option ModelFault → Type 0
  IsJudged p None = IsConsistent members t p × (IsAmbiguousModel p → ⊥)
  IsJudged p (Some TooManyPositions) = ⊥
  IsJudged p (Some TooManyStates) = ⊥
  IsJudged p (Some TableTooLarge) = ⊥
  IsJudged p (Some Inconsistent) = IsConsistent members t p → ⊥
  IsJudged p (Some Ambiguous) = IsConsistent members t p × IsAmbiguousModel p

  module _ (classes : List ℕ) where
    -- the content model of a particle keeps the limits, where so many cells are left
    abbrev pub KeepsLimits : ℕ → ℕ → Type 0
    KeepsLimits p cells_left =
        (positions_of (model_of t p) ≤ 2048) × (count : ℕ) × (s : SymbolTable) × IsStateTotal names t members p count × AreSymbolsOf (model_terms members t classes p) s ×
        (count ≤ 2048) × (count * count_of s ≤ cells_left)

    -- What is broken first of the content model of a particle, where so many cells are left: x-limit.positions, x-limit.states,
    -- x-limit.table; else cos-element-consistent; else cos-nonambig.
    abbrev pub IsFirstFault : ℕ → ℕ → ModelFault → Type 0
    IsFirstFault p cells_left TooManyPositions = HasTooManyPositions names t members p
    IsFirstFault p cells_left TooManyStates = HasTooManyStates names t members p
    IsFirstFault p cells_left TableTooLarge = HasTooLargeTable names t members classes p cells_left
    IsFirstFault p cells_left Inconsistent = KeepsLimits p cells_left × (IsConsistent members t p → ⊥)
    IsFirstFault p cells_left Ambiguous = KeepsLimits p cells_left × IsConsistent members t p × IsAmbiguousModel p

    -- nothing of it is broken, and this is its automaton
    pub record IsChecked (p cells_left : ℕ) (a : ContentAutomaton) : Type 0 where
      pub built : IsBuilt names t members classes p a
      pub limits : KeepsLimits p cells_left
      pub consistent : IsConsistent members t p
      pub unambiguous : IsAmbiguousModel p → ⊥
