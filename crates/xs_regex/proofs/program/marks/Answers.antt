use Rattle.std.proofs.Common.{get_or, true, ◌∙◌, arith}
use Rattle.std.proofs.lemmas.List.{take_all, length-set}
use Rattle.xs_regex.proofs.SetLaws.{marked_more}
use Rattle.xs_regex.proofs.ProgramLaws.{same_at}
use Rattle.xs_regex.proofs.program.marks.Goals as goal

pub loop-p-preserved : goal.loop-p-preserved
loop-p-preserved c =
    let xs = c.args.numbers.now in
    let i = c.loop-p.p-index in
    record {
      members = marked_more c.loop-p.flags.items xs i (get_or xs i 0) c.loop-p-test.true (same_at xs i (get_or xs i 0) 0 c.loop-p-test.true)
          (let a = c.requires i 0 c.loop-p-test.true in let b = c.loop-p.invariant.size in omega (arith, a, b)) c.loop-p.invariant.members;
      size = length-set c.loop-p.flags.items (get_or xs i 0) true ∙ c.loop-p.invariant.size;
    }

pub returns-clause-flags : goal.returns-clause-flags
returns-clause-flags c = rw (take_all c.loop-p.p-index c.args.numbers.now c.loop-p-test.false) at c.loop-p.invariant.members
