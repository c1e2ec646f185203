-- What serves the proofs.
use Rattle.std.specs.Prelude.{◌≡◌}
use Rattle.content_models.specs.declared.refused.ModelError.{ModelError}
use Rattle.content_models.specs.declared.refused.ModelError.TheVariants as errors
use Rattle.schema_models.specs.declared.fault.ModelFault.{ModelFault}
use Rattle.schema_models.specs.declared.fault.ModelFault.TheVariants.{TooManyPositions, TooManyStates, TableTooLarge}

-- the fault of a content model without an automaton
abbrev pub IsFaultOf : ModelError → ModelFault → Type 0
IsFaultOf errors.TooManyPositions fault = fault ≡ TooManyPositions
IsFaultOf errors.TooManyStates fault = fault ≡ TooManyStates
IsFaultOf errors.TableTooLarge fault = fault ≡ TableTooLarge
