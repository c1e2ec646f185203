use Rattle.std.proofs.Common.{◌≡◌}
use Rattle.stream_answers.specs.Output.{inputs}
use Rattle.stream_answers.proofs.schemas.inputs_of.Given as goal

abbrev pub invariant-loop-section : goal.invariant-loop-section
invariant-loop-section l = l.documents.items ≡ inputs l.yielded
