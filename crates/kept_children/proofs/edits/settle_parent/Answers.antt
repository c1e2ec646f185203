use Rattle.std.proofs.Common.{[], sym, subst, ◌∙◌}
use Rattle.std.proofs.lemmas.Result.{on_ok_weaker}
use Rattle.compiled_schema.specs.declared.compiled.Compiled.{Compiled}
use Rattle.child_lists.specs.from_kept_records.Slots.{pair_at}
use Rattle.child_lists.specs.from_kept_state.Kept.{FitBut, IsBeside, children_at}
use Rattle.child_lists.specs.from_kept_state.Outcome.{Outcome}
use Rattle.child_lists.proofs.from_kept_judging.Keeping.{both-ok}
use Rattle.kept_above.specs.Climbing.{IsClimbing}
use Rattle.kept_children.specs.Edited.{IsRightFor}
use Rattle.kept_below.proofs.Identity.{identity-judged, identity-then}
use Rattle.kept_children.proofs.Climbed.{climbed}
use Rattle.kept_children.proofs.Ending.{climbing, top-kept}
use Rattle.kept_children.proofs.edits.settle_parent.Goals as goal

pub outcome-before-requires : goal.outcome-before-requires
outcome-before-requires c = c.requires.midway.made

pub judge_if_apart-requires-clause-beside : goal.judge_if_apart-requires-clause-beside
judge_if_apart-requires-clause-beside c = c.requires.midway.beside

pub judge_if_apart-requires-clause-made : goal.judge_if_apart-requires-clause-made
judge_if_apart-requires-clause-made c = c.requires.midway.made

pub judge_if_apart-requires-clause-was : goal.judge_if_apart-requires-clause-was
judge_if_apart-requires-clause-was c = c.requires.midway.judged

pub settle_above-requires-clause-beside : goal.settle_above-requires-clause-beside
settle_above-requires-clause-beside c =
    let judged = c.in_ok-judge_if_apart.ensures in subst (λ (s : Compiled). IsBeside s c.args.doc.now c.judge_if_apart.new.kept) (sym judged.same) judged.beside

pub settle_above-requires-clause-climbing : goal.settle_above-requires-clause-climbing
settle_above-requires-clause-climbing c =
    let ns = c.args.doc.now in
    let judged = c.in_ok-judge_if_apart.ensures in
    let new = c.judge_if_apart.new.kept in
    subst (λ (s : Compiled). IsClimbing s ns new c.args.parent c.outcome-before.result) (sym judged.same)
    (subst (λ (was : Outcome). IsClimbing c.args.set.now ns new c.args.parent was) (sym c.outcome-before.ensures)
    (climbing c.args.set.now ns c.args.kept.now c.args.parent c.args.was.now c.requires.midway c.requires.children new judged.beside judged.judged))

pub returns-clause-right : goal.returns-clause-right
returns-clause-right c =
    let set = c.args.set.now in
    let ns = c.args.doc.now in
    let judged = c.in_ok-judge_if_apart.ensures in
    let new = c.judge_if_apart.new.kept in
    let last = c.settle_above.new.kept in
    both-ok {Q = FitBut c.judge_if_apart.new.set ns last [] → IsRightFor set ns last} c.settle_above.result (λ fit more. more fit) c.settle_above.ensures.fit
    (both-ok c.settle_above.result (λ beside rest fit. record {
      beside = subst (λ (s : Compiled). IsBeside s ns last) judged.same beside;
      top = top-kept set ns c.args.kept.now c.args.parent c.args.was.now c.requires.midway c.requires.children new judged.beside judged.judged last rest;
      fit = subst (λ (s : Compiled). FitBut s ns last []) judged.same fit;
    }) c.settle_above.ensures.beside c.settle_above.ensures.rest)

pub returns-clause-same : goal.returns-clause-same
returns-clause-same c = c.settle_above.ensures.same ∙ c.in_ok-judge_if_apart.ensures.same

pub returns-clause-identity : goal.returns-clause-identity
returns-clause-identity c =
    let old = c.args.kept.now in
    let mid = c.judge_if_apart.new.kept in
    let p = c.args.parent in
    on_ok_weaker c.settle_above.result (λ rest. identity-then old mid c.settle_above.new.kept
    (identity-judged c.args.set.now c.args.doc.now old mid p (pair_at old.records.slots p) (children_at old.records.slots p) c.in_ok-judge_if_apart.ensures.judged)
    (climbed mid c.settle_above.new.kept rest)) c.settle_above.ensures.rest
