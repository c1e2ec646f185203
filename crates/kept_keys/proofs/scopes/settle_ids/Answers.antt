use Rattle.std.proofs.Common.{true, refl, sym, ◌∙◌}
use Rattle.std.proofs.lemmas.Result.{on_ok_weaker}
use Rattle.std.proofs.lemmas.Slice.Eq.{slice_eq-Decides}
use Rattle.kept_above.proofs.from_kept_judging.Keeping.{both-ok}
use Rattle.kept_keys.proofs.Deciding.{found-decides}
use Rattle.kept_keys.proofs.Idents.{elements-ids, ids-after, ids-found}
use Rattle.kept_keys.proofs.Whole.{elements-same}
use Rattle.kept_keys.proofs.Written.{beside-ids, fit-ids}
use Rattle.kept_keys.proofs.scopes.settle_ids.Goals as goal

-- the root has them
pub returns-then-eq-clause-elements : goal.returns-then-eq-clause-elements
returns-then-eq-clause-elements c = elements-same c.args.kept.now

pub returns-then-eq-clause-ids : goal.returns-then-eq-clause-ids
returns-then-eq-clause-ids c = λ d over.
    sym ((slice_eq-Decides found-decides c.in_ok-codes.codes c.args.kept.now.root_ids true c.if-eq.ensures).0 refl)
    ∙ ids-found c.args.set.now c.args.doc.now c.args.kept.now c.requires c.in_ok-codes.codes c.in_ok-codes.ensures d over

-- or is judged again
pub judge_upwards-requires-clause-beside : goal.judge_upwards-requires-clause-beside
judge_upwards-requires-clause-beside c = beside-ids c.args.set.now c.args.doc.now c.args.kept.now c.requires c.in_ok-codes.codes

pub judge_upwards-requires-clause-top : goal.judge_upwards-requires-clause-top
judge_upwards-requires-clause-top c = c.requires.top

pub judge_upwards-requires-clause-made : goal.judge_upwards-requires-clause-made
judge_upwards-requires-clause-made c = c.requires.top.made

pub judge_upwards-requires-clause-fit : goal.judge_upwards-requires-clause-fit
judge_upwards-requires-clause-fit c = fit-ids c.args.set.now c.args.doc.now c.args.kept.now c.requires c.in_ok-codes.codes

pub judge_upwards-requires-clause-gathered : goal.judge_upwards-requires-clause-gathered
judge_upwards-requires-clause-gathered c = (c.requires.fit 1 c.requires.top.made tt).gathered

pub returns-clause-elements : goal.returns-clause-elements
returns-clause-elements c =
    on_ok_weaker c.judge_upwards.result
    (elements-ids c.args.set.now c.args.doc.now c.args.kept.now c.judge_upwards.new.kept c.requires c.in_ok-codes.codes c.in_ok-codes.ensures)
    c.judge_upwards.ensures.codes

pub returns-clause-identity : goal.returns-clause-identity
returns-clause-identity c = on_ok_weaker c.judge_upwards.result (λ keeps. keeps.identity) c.judge_upwards.ensures.codes

pub returns-clause-ids : goal.returns-clause-ids
returns-clause-ids c =
    both-ok c.judge_upwards.result
    (ids-after c.args.set.now c.args.doc.now c.args.kept.now c.judge_upwards.new.kept c.requires c.in_ok-codes.codes c.in_ok-codes.ensures)
    c.judge_upwards.ensures.codes c.judge_upwards.ensures.whole
