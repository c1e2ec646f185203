use Rattle.redefine_names.specs.inside.Steps.{AreMarks}
use Rattle.redefine_names.proofs.marks.self_references.Given as goal

abbrev pub invariant-loop-place : goal.invariant-loop-place
invariant-loop-place l = AreMarks l.reps l.originals l.place l.marks.items
