use Rattle.std.proofs.Common.{sym, ap, ◌∙◌, subst}
use Rattle.std.specs.Prelude.{OnOk}
use Rattle.elem_governing.specs.declared.pairs.Governing.{Governing}
use Rattle.kept_state.specs.Kept.{CanGovern, HaveSameFlags, children_at}
use Rattle.kept_state.specs.declared.children.KeptChildren.{KeptChildren}
use Rattle.kept_judging.specs.Judged.{IsJudgedAnew}
use Rattle.kept_judging.proofs.Keeping.{alike-anew}
use Rattle.kept_judging.proofs.judging.judge_if_apart.Goals as goal

pub returns-then-not-tell_apart-clause-judged : goal.returns-then-not-tell_apart-clause-judged
returns-then-not-tell_apart-clause-judged c =
    let k = c.requires.made in
    let alike = c.tell_apart.ensures c.if-not-tell_apart.true in
    let own = c.children.ensures in
    alike-anew c.args.set.now c.args.doc.now c.args.kept.now c.args.node k.0 k.1 c.args.was.now c.requires.was (ap (λ (b : KeptChildren). b.stuck) (sym own) ∙ alike.0)
    (subst (λ (b : KeptChildren). HaveSameFlags b.counts c.args.was.now.counts) own alike.1)

pub judge-requires-clause-governed : goal.judge-requires-clause-governed
judge-requires-clause-governed c = subst (CanGovern c.args.set.now.parts) (sym c.pair-pair.ensures) (c.requires.beside.governed c.args.node c.requires.made)

pub returns-clause-judged : goal.returns-clause-judged
returns-clause-judged c =
    let old = c.args.kept.now in
    subst (λ (pair : Governing). OnOk c.judge.result (IsJudgedAnew c.args.set.now c.args.doc.now old c.judge.new.kept c.args.node pair (children_at old.records.slots c.args.node))) c.pair-pair.ensures
    c.judge.ensures.judged
