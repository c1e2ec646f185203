use Rattle.xs_codes.specs.Least.{IsLeast}
use Rattle.type_derivation.proofs.FaultLaws.{FaultBelow}
use Rattle.type_derivation.proofs.bases.first_of.Given as goal

abbrev pub invariant-loop-part : goal.invariant-loop-part
invariant-loop-part l = IsLeast (FaultBelow l.types l.known l.part-index) l.best
