use Rattle.std.proofs.Common.{take}
use Rattle.std.specs.Prelude.{nat_eq}
use Rattle.std.specs.HashMap.{get}
use Rattle.schema_models.proofs.AgreeLaws.{AreNoted}
use Rattle.schema_models.proofs.agreement.agree.Given as goal

abbrev pub invariant-loop-one : goal.invariant-loop-one
invariant-loop-one l = AreNoted (take l.one-index l.given) (get nat_eq l.types)
