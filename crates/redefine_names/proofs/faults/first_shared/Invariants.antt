use Rattle.std.specs.Prelude.{nat_eq}
use Rattle.std.specs.HashSet.{contains}
use Rattle.xs_codes.specs.Least.{IsLeast}
use Rattle.redefine_names.specs.inside.Below.{SharedBelow}
use Rattle.redefine_names.specs.inside.Met.{AreMet}
use Rattle.redefine_names.proofs.faults.first_shared.Given as goal

abbrev pub invariant-loop-place : goal.invariant-loop-place
invariant-loop-place l = record {
  met : AreMet l.originals l.place (contains nat_eq l.met);
  least : IsLeast (SharedBelow l.reps l.originals l.place) l.best;
}
