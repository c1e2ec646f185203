use Rattle.std.proofs.Common.{[], ◌∷◌, ◌∙◌, refl, inl, sym, subst}
use Rattle.std.proofs.lemmas.Result.{on_ok_weaker}
use Rattle.child_lists.proofs.from_kept_judging.Keeping.{both-ok}
use Rattle.compiled_schema.specs.Usable.{set_of}
use Rattle.child_lists.specs.from_kept_records.Fit.{models_of, IsGathered}
use Rattle.kept_children.proofs.Settling.{term-alone, governed-element, governed-above, governed-deeper, governed-at, governed-steps, governed-left}
use Rattle.kept_children.proofs.edits.settle_again_at.Goals as goal

pub govern_at-requires-clause-made : goal.govern_at-requires-clause-made
govern_at-requires-clause-made g c = c.requires.midway.1.made

pub govern_at-requires-clause-beside : goal.govern_at-requires-clause-beside
govern_at-requires-clause-beside g c = c.requires.midway.1.beside

pub returns-in_err-child-clause-steps : goal.returns-in_err-child-clause-steps
returns-in_err-child-clause-steps g c =
    term-alone c.args.set.now c.args.doc.now c.args.kept.now c.args.at.now c.args.steps.now c.govern_at.new.steps c.govern_at.ensures.steps c.govern_at.ensures.none

pub settle_again-requires-clause-beside : goal.settle_again-requires-clause-beside
settle_again-requires-clause-beside g c = c.requires.midway.1.beside

pub settle_again-requires-clause-element : goal.settle_again-requires-clause-element
settle_again-requires-clause-element g c =
    governed-element c.args.set.now c.args.doc.now c.args.kept.now c.args.at.now c.requires.place c.requires.midway.1.beside c.requires.midway.1.made c.in_ok-child.child c.in_ok-child.ensures.node c.in_ok-child.ensures.pair

pub settle_again-requires-clause-gathered : goal.settle_again-requires-clause-gathered
settle_again-requires-clause-gathered g c = λ made same.
    subst (IsGathered (set_of c.args.set.now) (models_of c.args.set.now) c.args.doc.now c.args.kept.now.records.slots c.args.kept.now.lists) (sym c.in_ok-child.ensures.node)
    (c.requires.midway.1.gathered c.args.at.now.node (inl refl))

pub settle_again-requires-clause-fit : goal.settle_again-requires-clause-fit
settle_again-requires-clause-fit g c = (
  c.args.at.now.parent ∷ [],
  (λ m made lacks. c.requires.midway.1.fit m made (lacks.1.0, ((λ e. lacks.0 (c.in_ok-child.ensures.node ∙ e)), tt))),
  governed-above c.args.set.now c.args.doc.now c.args.kept.now c.args.at.now c.requires.place c.requires.midway.1.beside c.requires.midway.1.made c.in_ok-child.child c.in_ok-child.ensures.node c.in_ok-child.ensures.pair,
  governed-deeper c.args.set.now c.args.doc.now c.args.kept.now c.args.at.now c.requires.place c.requires.midway.1.beside c.requires.midway.1.made c.in_ok-child.child c.in_ok-child.ensures.node c.in_ok-child.ensures.pair,
)

pub returns-clause-settled : goal.returns-clause-settled
returns-clause-settled g c =
    on_ok_weaker c.settle_again.result (governed-at c.args.set.now c.args.doc.now c.args.kept.now c.args.at.now c.requires.place c.requires.midway.1.beside c.requires.midway.1.made c.in_ok-child.child c.in_ok-child.ensures.node c.in_ok-child.ensures.pair c.settle_again.new.kept)
    c.settle_again.ensures.settled

pub returns-clause-fit : goal.returns-clause-fit
returns-clause-fit g c =
    on_ok_weaker c.settle_again.result (λ fit. fit (c.args.at.now.parent ∷ []) (λ m made lacks. c.requires.midway.1.fit m made (lacks.1.0, ((λ e. lacks.0 (c.in_ok-child.ensures.node ∙ e)), tt)))
    (governed-above c.args.set.now c.args.doc.now c.args.kept.now c.args.at.now c.requires.place c.requires.midway.1.beside c.requires.midway.1.made c.in_ok-child.child c.in_ok-child.ensures.node c.in_ok-child.ensures.pair)) c.settle_again.ensures.fit

pub returns-clause-steps : goal.returns-clause-steps
returns-clause-steps g c =
    governed-steps c.args.set.now c.args.doc.now c.args.kept.now c.args.at.now c.requires.place c.requires.midway.1.beside c.requires.midway.1.made c.in_ok-child.child c.in_ok-child.ensures.node c.in_ok-child.ensures.pair
    c.args.steps.now c.govern_at.new.steps c.settle_again.new.steps c.govern_at.ensures.steps c.govern_at.ensures.none c.settle_again.ensures.steps

pub returns-clause-left : goal.returns-clause-left
returns-clause-left g c =
    both-ok c.settle_again.result (λ settled fit.
    governed-left c.args.set.now c.args.doc.now c.args.kept.now c.args.at.now c.requires.place c.requires.midway.1.beside c.requires.midway.1.made c.in_ok-child.child c.in_ok-child.ensures.node c.in_ok-child.ensures.pair
    c.args.steps.now c.govern_at.new.steps c.settle_again.new.steps c.govern_at.ensures.steps c.govern_at.ensures.none c.settle_again.ensures.steps c.settle_again.new.kept settled
    (fit (c.args.at.now.parent ∷ []) (λ m made lacks. c.requires.midway.1.fit m made (lacks.1.0, ((λ e. lacks.0 (c.in_ok-child.ensures.node ∙ e)), tt)))
    (governed-above c.args.set.now c.args.doc.now c.args.kept.now c.args.at.now c.requires.place c.requires.midway.1.beside c.requires.midway.1.made c.in_ok-child.child c.in_ok-child.ensures.node c.in_ok-child.ensures.pair))) c.settle_again.ensures.settled
    c.settle_again.ensures.fit
