use Rattle.model_lists.proofs.Marking.{is-at, none-at}
use Rattle.model_lists.proofs.leaves.remove_at.Goals as goal

pub returns-in_default : goal.returns-in_default
returns-in_default g c = let q = c.requires in absurd (none-at q.0 c.args.place q.2 (c.in_default.ensures q.0 q.1))

pub remove-requires : goal.remove-requires
remove-requires g c = let q = c.requires in (c.args.list, c.args.place, q.0, is-at c.args.seqs.now c.args.list c.args.place c.in-Some.item q.0 q.1 (c.in-Some.ensures q.0 q.1))

pub returns-clause-change : goal.returns-clause-change
returns-clause-change g c = λ xs e. c.remove.ensures.change c.args.list c.args.place xs (is-at c.args.seqs.now c.args.list c.args.place c.in-Some.item xs e (c.in-Some.ensures xs e))

pub returns-clause-steps : goal.returns-clause-steps
returns-clause-steps g c = λ xs e. c.remove.ensures.steps c.args.list c.args.place xs (is-at c.args.seqs.now c.args.list c.args.place c.in-Some.item xs e (c.in-Some.ensures xs e))
