use Rattle.std.proofs.Common.{Result, refl, subst}
use Rattle.xs_codes.specs.declared.fault.Fault.{Fault}
use Rattle.simple_types.specs.declared.types.SimpleTypes.{SimpleTypes}
use Rattle.schema_check.specs.inside.Typed.{IsTyped}
use Rattle.schema_check.proofs.types.judged_set.Goals as goal

pub returns-in-Ok : goal.returns-in-Ok
returns-in-Ok c old typed = (refl, refl, subst (λ (a : Result SimpleTypes Fault). IsTyped old c.args.parts a) c.in-Ok.is typed)

pub returns-in-Err : goal.returns-in-Err
returns-in-Err c old typed = subst (λ (a : Result SimpleTypes Fault). IsTyped old c.args.parts a) c.in-Err.is typed
