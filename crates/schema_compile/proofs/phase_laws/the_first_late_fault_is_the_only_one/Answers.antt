use Rattle.schema_compile.proofs.Phases.{attrs-one, derivation-one, models-one, restriction-one, identity-one, late-one}
use Rattle.schema_compile.proofs.phase_laws.the_first_late_fault_is_the_only_one.Goals as goal

pub returns : goal.returns
returns c = record { attrs = attrs-one; derivation = derivation-one; models = models-one; restriction = restriction-one; identity = identity-one; only = late-one }
