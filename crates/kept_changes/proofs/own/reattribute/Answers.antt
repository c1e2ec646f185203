use Rattle.std.proofs.Common.{ℕ, List, [], ◌∷◌, sym, subst}
use Rattle.std.specs.Prelude.{OnOk}
use Rattle.compiled_schema.specs.Usable.{set_of}
use Rattle.compiled_schema.specs.declared.compiled.Compiled.{Compiled}
use Rattle.doc_changes.specs.Held.{parent_at}
use Rattle.kept_children.specs.from_kept_records.Fit.{models_of, AboveIn, IsGathered}
use Rattle.kept_children.specs.from_kept_state.Kept.{CanGovern, FitBut, IsBeside}
use Rattle.kept_children.specs.from_kept_state.Governed.{Governed}
use Rattle.kept_children.specs.from_kept_above.Climbing.{IsClimbing}
use Rattle.kept_children.specs.from_kept_below.Below.{AreAbove, IsSettled}
use Rattle.std.proofs.lemmas.Result.{on_ok_weaker}
use Rattle.kept_children.proofs.Climbed.{climbed}
use Rattle.kept_children.proofs.from_kept_below.Identity.{identity-then}
use Rattle.kept_changes.proofs.Reread.{all-ok}
use Rattle.kept_changes.proofs.Reattributed.{above-of, own-made, others-fit, own-gathered, above-waits, above-higher, same-again, again-can, reattribute-climbs, reattribute-right}
use Rattle.kept_changes.proofs.own.reattribute.Goals as goal

pub outcome-was-requires : goal.outcome-was-requires
outcome-was-requires g c = own-made c.args.set.now c.args.doc.now c.args.kept.now c.args.node c.requires.beside c.requires.reattributed

pub pair-pair-requires : goal.pair-pair-requires
pair-pair-requires g c = own-made c.args.set.now c.args.doc.now c.args.kept.now c.args.node c.requires.beside c.requires.reattributed

pub settle_again-requires-clause-governed : goal.settle_again-requires-clause-governed
settle_again-requires-clause-governed g c =
    let same = same-again c.args.set.now c.args.doc.now c.args.kept.now c.args.node c.requires.beside c.requires.reattributed c.in_ok-element.element c.pair-pair.result c.pair-pair.ensures
    c.in_ok-element.ensures.node c.in_ok-element.ensures.pair in
    subst (λ (e : Governed). CanGovern c.args.set.now.parts e.pair) (sym same) (again-can c.args.set.now c.args.doc.now c.args.kept.now c.args.node c.requires.beside c.requires.reattributed)

pub settle_again-requires-clause-gathered : goal.settle_again-requires-clause-gathered
settle_again-requires-clause-gathered g c =
    let gathered = subst (λ (n : ℕ). IsGathered (set_of c.args.set.now) (models_of c.args.set.now) c.args.doc.now c.args.kept.now.records.slots c.args.kept.now.lists n) (sym c.in_ok-element.ensures.node)
    (own-gathered c.args.set.now c.args.doc.now c.args.kept.now c.args.node c.requires.beside c.requires.reattributed) in
    λ made typed. gathered

-- its parent waits, if it has one
pub settle_again-requires-clause-fit : goal.settle_again-requires-clause-fit
settle_again-requires-clause-fit g c =
    let waiting = above-of (parent_at c.args.doc.now c.args.node) in
    let above = above-waits c.args.set.now c.args.doc.now c.args.kept.now c.args.node c.requires.beside c.requires.reattributed in
    subst (λ (n : ℕ). (waiting : List ℕ) × FitBut c.args.set.now c.args.doc.now c.args.kept.now (n ∷ waiting) × AboveIn c.args.doc.now n waiting × AreAbove c.args.doc.now n waiting) (sym c.in_ok-element.ensures.node) (
      waiting,
      others-fit c.args.set.now c.args.doc.now c.args.kept.now c.args.node c.requires.beside c.requires.reattributed waiting above,
      above,
      above-higher c.args.set.now c.args.doc.now c.args.kept.now c.args.node c.requires.beside c.requires.reattributed,
    )

pub settle_above-requires-clause-climbing : goal.settle_above-requires-clause-climbing
settle_above-requires-clause-climbing g c =
    let same = same-again c.args.set.now c.args.doc.now c.args.kept.now c.args.node c.requires.beside c.requires.reattributed c.in_ok-element.element c.pair-pair.result c.pair-pair.ensures
    c.in_ok-element.ensures.node c.in_ok-element.ensures.pair in
    let waiting = above-of (parent_at c.args.doc.now c.args.node) in
    let above = above-waits c.args.set.now c.args.doc.now c.args.kept.now c.args.node c.requires.beside c.requires.reattributed in
    let settled = subst (IsSettled c.args.doc.now c.args.kept.now c.settle_again.new.kept) same c.in_ok-settle_again.ensures.settled in
    let fits = subst (λ (n : ℕ). FitBut c.args.set.now c.args.doc.now c.args.kept.now (n ∷ waiting) → AboveIn c.args.doc.now n waiting → FitBut c.args.set.now c.args.doc.now c.settle_again.new.kept waiting)
    c.in_ok-element.ensures.node (c.in_ok-settle_again.ensures.fit waiting)
    (others-fit c.args.set.now c.args.doc.now c.args.kept.now c.args.node c.requires.beside c.requires.reattributed waiting above) above in
    subst (λ (set : Compiled). IsClimbing set c.args.doc.now c.settle_again.new.kept c.args.node c.outcome-was.result) (sym c.settle_again.ensures.same)
    (subst (IsClimbing c.args.set.now c.args.doc.now c.settle_again.new.kept c.args.node) (sym c.outcome-was.ensures)
    (reattribute-climbs c.args.set.now c.args.doc.now c.args.kept.now c.args.node c.requires.beside c.requires.reattributed c.settle_again.new.kept settled c.in_ok-settle_again.ensures.beside fits))

pub returns-clause-right : goal.returns-clause-right
returns-clause-right g c =
    let same = same-again c.args.set.now c.args.doc.now c.args.kept.now c.args.node c.requires.beside c.requires.reattributed c.in_ok-element.element c.pair-pair.result c.pair-pair.ensures
    c.in_ok-element.ensures.node c.in_ok-element.ensures.pair in
    let waiting = above-of (parent_at c.args.doc.now c.args.node) in
    let above = above-waits c.args.set.now c.args.doc.now c.args.kept.now c.args.node c.requires.beside c.requires.reattributed in
    let settled = subst (IsSettled c.args.doc.now c.args.kept.now c.settle_again.new.kept) same c.in_ok-settle_again.ensures.settled in
    let fits = subst (λ (n : ℕ). FitBut c.args.set.now c.args.doc.now c.args.kept.now (n ∷ waiting) → AboveIn c.args.doc.now n waiting → FitBut c.args.set.now c.args.doc.now c.settle_again.new.kept waiting)
    c.in_ok-element.ensures.node (c.in_ok-settle_again.ensures.fit waiting)
    (others-fit c.args.set.now c.args.doc.now c.args.kept.now c.args.node c.requires.beside c.requires.reattributed waiting above) above in
    all-ok c.settle_above.result
    (reattribute-right c.args.set.now c.args.doc.now c.args.kept.now c.args.node c.requires.beside c.requires.reattributed c.settle_again.new.kept settled c.in_ok-settle_again.ensures.beside fits c.settle_above.new.kept)
    (subst (λ (set : Compiled). OnOk c.settle_above.result (FitBut set c.args.doc.now c.settle_above.new.kept [])) c.settle_again.ensures.same c.settle_above.ensures.fit)
    (subst (λ (set : Compiled). OnOk c.settle_above.result (IsBeside set c.args.doc.now c.settle_above.new.kept)) c.settle_again.ensures.same c.settle_above.ensures.beside) c.settle_above.ensures.rest

pub returns-clause-identity : goal.returns-clause-identity
returns-clause-identity g c =
    let again = c.settle_again.new.kept in
    on_ok_weaker c.settle_above.result (λ rest. identity-then c.args.kept.now again c.settle_above.new.kept c.in_ok-settle_again.ensures.identity (climbed again c.settle_above.new.kept rest)) c.settle_above.ensures.rest
