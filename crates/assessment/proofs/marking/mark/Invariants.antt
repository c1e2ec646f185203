use Rattle.std.proofs.Common.{◌≡◌, take}
use Rattle.elem_assess.specs.Marked.{marked_record}
use Rattle.assessment.proofs.marking.mark.Given as goal

abbrev pub invariant-loop-code : goal.invariant-loop-code
invariant-loop-code l = l.record ≡ marked_record (take l.code-index l.codes) l.fn.record
