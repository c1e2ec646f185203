use Rattle.std.proofs.Common.{[], ◌∷◌}
use Rattle.std.proofs.lemmas.Result.{on_ok_weaker}
use Rattle.child_lists.proofs.from_kept_judging.Keeping.{both-ok}
use Rattle.kept_children.proofs.Settling.{term-alone, governed-element, governed-above, governed-deeper, governed-at, governed-steps, governed-left}
use Rattle.kept_children.proofs.marked.settle_at.Goals as goal

pub govern_at-requires-clause-made : goal.govern_at-requires-clause-made
govern_at-requires-clause-made g c = c.requires.midway.1.made

pub govern_at-requires-clause-beside : goal.govern_at-requires-clause-beside
govern_at-requires-clause-beside g c = c.requires.midway.1.beside

pub returns-in_err-child-clause-steps : goal.returns-in_err-child-clause-steps
returns-in_err-child-clause-steps g c =
    term-alone c.args.set.now c.args.doc.now c.args.kept.now c.args.at.now c.args.steps.now c.govern_at.new.steps c.govern_at.ensures.steps c.govern_at.ensures.none

pub settle_below-requires-clause-beside : goal.settle_below-requires-clause-beside
settle_below-requires-clause-beside g c = c.requires.midway.1.beside

pub settle_below-requires-clause-element : goal.settle_below-requires-clause-element
settle_below-requires-clause-element g c =
    governed-element c.args.set.now c.args.doc.now c.args.kept.now c.args.at.now c.requires.place c.requires.midway.1.beside c.requires.midway.1.made c.in_ok-child.child c.in_ok-child.ensures.node c.in_ok-child.ensures.pair

pub settle_below-requires-clause-fit : goal.settle_below-requires-clause-fit
settle_below-requires-clause-fit g c = (
  c.args.at.now.parent ∷ [],
  c.requires.midway.1.fit,
  governed-above c.args.set.now c.args.doc.now c.args.kept.now c.args.at.now c.requires.place c.requires.midway.1.beside c.requires.midway.1.made c.in_ok-child.child c.in_ok-child.ensures.node c.in_ok-child.ensures.pair,
  governed-deeper c.args.set.now c.args.doc.now c.args.kept.now c.args.at.now c.requires.place c.requires.midway.1.beside c.requires.midway.1.made c.in_ok-child.child c.in_ok-child.ensures.node c.in_ok-child.ensures.pair,
)

pub returns-clause-settled : goal.returns-clause-settled
returns-clause-settled g c =
    on_ok_weaker c.settle_below.result (governed-at c.args.set.now c.args.doc.now c.args.kept.now c.args.at.now c.requires.place c.requires.midway.1.beside c.requires.midway.1.made c.in_ok-child.child c.in_ok-child.ensures.node c.in_ok-child.ensures.pair c.settle_below.new.kept)
    c.settle_below.ensures.settled

pub returns-clause-fit : goal.returns-clause-fit
returns-clause-fit g c =
    on_ok_weaker c.settle_below.result (λ fit. fit (c.args.at.now.parent ∷ []) c.requires.midway.1.fit
    (governed-above c.args.set.now c.args.doc.now c.args.kept.now c.args.at.now c.requires.place c.requires.midway.1.beside c.requires.midway.1.made c.in_ok-child.child c.in_ok-child.ensures.node c.in_ok-child.ensures.pair)) c.settle_below.ensures.fit

pub returns-clause-steps : goal.returns-clause-steps
returns-clause-steps g c =
    governed-steps c.args.set.now c.args.doc.now c.args.kept.now c.args.at.now c.requires.place c.requires.midway.1.beside c.requires.midway.1.made c.in_ok-child.child c.in_ok-child.ensures.node c.in_ok-child.ensures.pair
    c.args.steps.now c.govern_at.new.steps c.settle_below.new.steps c.govern_at.ensures.steps c.govern_at.ensures.none c.settle_below.ensures.steps

pub returns-clause-left : goal.returns-clause-left
returns-clause-left g c =
    both-ok c.settle_below.result (λ settled fit.
    governed-left c.args.set.now c.args.doc.now c.args.kept.now c.args.at.now c.requires.place c.requires.midway.1.beside c.requires.midway.1.made c.in_ok-child.child c.in_ok-child.ensures.node c.in_ok-child.ensures.pair
    c.args.steps.now c.govern_at.new.steps c.settle_below.new.steps c.govern_at.ensures.steps c.govern_at.ensures.none c.settle_below.ensures.steps c.settle_below.new.kept settled
    (fit (c.args.at.now.parent ∷ []) c.requires.midway.1.fit
    (governed-above c.args.set.now c.args.doc.now c.args.kept.now c.args.at.now c.requires.place c.requires.midway.1.beside c.requires.midway.1.made c.in_ok-child.child c.in_ok-child.ensures.node c.in_ok-child.ensures.pair))) c.settle_below.ensures.settled
    c.settle_below.ensures.fit
