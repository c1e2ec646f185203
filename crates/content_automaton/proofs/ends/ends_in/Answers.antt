use Rattle.content_automaton.proofs.Ending.{none_more, none_at_all}
use Rattle.content_automaton.proofs.ends.ends_in.Goals as goal

pub loop-p-preserved : goal.loop-p-preserved
loop-p-preserved c =
    none_more c.args.set.now c.args.form.now.table.last c.last.result.now c.loop-p.p-index c.contains.result c.loop-p-test.true c.last.ensures c.contains.ensures.value c.if-contains.false c.loop-p.invariant

pub returns : goal.returns
returns c = none_at_all c.args.set.now c.args.form.now.table.last c.loop-p.p-index c.loop-p-test.false c.loop-p.invariant
