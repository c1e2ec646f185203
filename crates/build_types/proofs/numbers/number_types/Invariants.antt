use Rattle.std.proofs.Common.{◌≡◌, ◌++◌, drop, length}
use Rattle.build_types.specs.Numbers.{type_ids}
use Rattle.build_types.specs.inside.Places.{with_places}
use Rattle.build_types.proofs.numbers.number_types.Given as goal

abbrev pub invariant-loop-rep : goal.invariant-loop-rep
invariant-loop-rep l = record {
  ids : l.ids ++ type_ids (length l.parts.simples.parts) (length l.parts.complexes.parts) (drop l.rep-index l.reps) ≡ type_ids (length l.initial.parts.simples.parts) (length l.initial.parts.complexes.parts) l.reps;
  parts : with_places l.parts (drop l.rep-index l.reps) ≡ with_places l.initial.parts l.reps;
}
