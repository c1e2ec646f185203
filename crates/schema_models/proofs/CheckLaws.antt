-- What is broken first, by what building, types and places tell.
use Rattle.std.proofs.Common.{◌≡◌, ℕ, List, Option, None, Some, sym, subst}
use Rattle.xs_names.specs.Names.{NameTable}
use Rattle.xs_components.specs.Tables.{Tables}
use Rattle.particle_forms.specs.Models.{model_of}
use Rattle.particle_forms.specs.Accepted.{accepts}
use Rattle.content_automaton.specs.Symbols.{AreSymbolsOf}
use Rattle.content_automaton.specs.Modelled.{IsAmbiguousBy}
use Rattle.content_models.specs.Terms.{model_terms}
use Rattle.content_models.specs.Built.{IsBuilt, HasRoom, IsRefused, symbols_of, states_of}
use Rattle.content_models.specs.declared.automaton.ContentAutomaton.{ContentAutomaton}
use Rattle.content_models.specs.declared.automaton.ContentAutomaton.TheVariants.{States, All}
use Rattle.content_models.specs.declared.refused.ModelError.{ModelError}
use Rattle.content_models.specs.declared.refused.ModelError.TheVariants as errors
use Rattle.schema_models.specs.Consistency.{IsConsistent}
use Rattle.schema_models.specs.Checks.{KeepsLimits, IsFirstFault, IsChecked, IsJudged}
use Rattle.schema_models.specs.inside.Found.{IsFaultOf}
use Rattle.schema_models.specs.declared.fault.ModelFault.{ModelFault}
use Rattle.schema_models.specs.declared.fault.ModelFault.TheVariants.{TooManyPositions, TooManyStates, TableTooLarge, Inconsistent, Ambiguous}

module _ (names : NameTable) (t : Tables) (members : List (List ℕ)) (p : ℕ) where
  module _ (same : IsConsistent members t p) where
    -- two places were found, or none
    pub found-some : (pair : ℕ × ℕ) (result : Option (ℕ × ℕ)) → result ≡ Some pair → IsAmbiguousBy (accepts names members t) (model_of t p) result → IsJudged names t members p (Some Ambiguous)
    found-some pair result is by = let b = subst (IsAmbiguousBy (accepts names members t) (model_of t p)) is by in (same, (b.0, b.1, b.2))

    pub found-none : (result : Option (ℕ × ℕ)) → result ≡ None → IsAmbiguousBy (accepts names members t) (model_of t p) result → IsJudged names t members p None
    found-none result is by = let b = subst (IsAmbiguousBy (accepts names members t) (model_of t p)) is by in (same, (λ x. b x.0 x.1 x.2))

  module _ (classes : List ℕ) (cells_left : ℕ) where
    pub refused-first : (error : ModelError) (fault : ModelFault) → IsFaultOf error fault → IsRefused names t members classes p cells_left error → IsFirstFault names t members classes p cells_left fault
    refused-first errors.TooManyPositions fault is r = subst (IsFirstFault names t members classes p cells_left) (sym is) r
    refused-first errors.TooManyStates fault is r = subst (IsFirstFault names t members classes p cells_left) (sym is) r
    refused-first errors.TableTooLarge fault is r = subst (IsFirstFault names t members classes p cells_left) (sym is) r

    module _ (a : ContentAutomaton) (built : IsBuilt names t members classes p a) (room : HasRoom names t members p cells_left a) where
      symbols-are : (b : ContentAutomaton) → IsBuilt names t members classes p b → AreSymbolsOf (model_terms members t classes p) (symbols_of b)
      symbols-are (States s) is = is.2
      symbols-are (All s) is = is.1

      limits : KeepsLimits names t members classes p cells_left
      limits = (room.0, states_of a, symbols_of a, room.1, symbols-are a built, room.2, room.3)

      -- with what was found
      pub found-first : (fault : ModelFault) → IsJudged names t members p (Some fault) → IsFirstFault names t members classes p cells_left fault
      found-first TooManyPositions f = absurd f
      found-first TooManyStates f = absurd f
      found-first TableTooLarge f = absurd f
      found-first Inconsistent f = (limits, f)
      found-first Ambiguous f = (limits, f.0, f.1)

      pub all-checked : IsJudged names t members p None → IsChecked names t members classes p cells_left a
      all-checked f = record { built = built; limits = limits; consistent = f.0; unambiguous = f.1 }
