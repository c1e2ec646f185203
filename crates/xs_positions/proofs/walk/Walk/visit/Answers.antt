use Rattle.std.proofs.Common.{◌≡◌, ℕ, ◌+◌, ◌<◌, ◌^◌, ◌++◌, ◌∷◌, [], length, map, reverse, refl, ap, ◌∙◌, arith}
use Rattle.std.proofs.lemmas.Bool.{not-true, not-false}
use Rattle.xs_positions.specs.Tree.{size}
use Rattle.xs_positions.specs.PositionWords.{IsWord, Passes}
use Rattle.xs_positions.specs.Nodes.{ids_of}
use Rattle.xs_positions.specs.Walk.{tree_in}
use Rattle.xs_positions.specs.declared.walk.Task.TheVariants.{Visit, Build}
use Rattle.xs_positions.proofs.Walking.{length_measured, measured_at}
use Rattle.xs_positions.proofs.Tasks.{ids_here, passes, opens}
use Rattle.xs_positions.proofs.Listed.{on_ok}
use Rattle.xs_positions.proofs.Steps.{no_size, no_words}
use Rattle.xs_positions.proofs.walk.Walk.visit.Goals.{then-measure-eq0-via-then-measure-eq0, then-measure-eq0-via-else-measure-eq0+then-not-measure}
use Rattle.xs_positions.proofs.walk.Walk.visit.Goals as goal

pub bounds-measures-index : goal.bounds-measures-index
bounds-measures-index c =
    let e = length_measured c.args.nodes.now c.args.measures.now c.requires.measured in
    rw c.index.ensures (let l : c.args.id < length c.args.nodes.now = c.requires.id in omega arith)

pub returns-then-measure-eq0 : goal.returns-then-measure-eq0
returns-then-measure-eq0 c =
    let ns = c.args.nodes.now in
    let old = c.args.self.now in
    let m = measured_at ns c.args.measures.now c.args.id c.index.result _ c.requires.measured c.requires.id c.index.ensures in
    let none : (p : ℕ) → Passes (IsWord (tree_in ns c.args.id) old.count) p → ⊥ = elim c.then-measure-eq0.branch [
      | then-measure-eq0-via-then-measure-eq0 w ↦ no_size (tree_in ns c.args.id) old.count _ m w.if-measure-eq0.true
      | then-measure-eq0-via-else-measure-eq0+then-not-measure w ↦ no_words (tree_in ns c.args.id) old.count _ m (not-true _ w.if-not-measure.true)
    ] in
    passes ns c.args.id old _ _ c.in_ok-part.part m (let f : old.count + size (tree_in ns c.args.id) < 2 ^ 32 = c.requires.fits in omega arith) none
    c.in_ok-part.ensures.sets c.in_ok-part.ensures.nullable c.in_ok-push.ensures.items refl refl

pub returns : goal.returns
returns c =
    let ns = c.args.nodes.now in
    let old = c.args.self.now in
    let m = measured_at ns c.args.measures.now c.args.id c.index.result _ c.requires.measured c.requires.id c.index.ensures in
    let here = ids_here ns c.args.id c.index-2.result c.index-nodes-index.result c.requires.id c.index-2.ensures c.index-nodes-index.is in
    let pushed = c.in_ok-push-2.ensures.items ∙ ap (λ k. old.tasks.items ++ Build c.args.id old.count k ∷ []) (c.len.ensures ∙ old.found.ok.0) in
    on_ok c.wait_for_parts.result (c.wait_for_parts.new.tasks.items ≡ c.push-2.new.self.items ++ reverse (map Visit (ids_of c.index-nodes-index.result))) _
    (λ h. opens ns c.args.id old _ _ (ids_of c.index-nodes-index.result) m (not-false _ c.if-not-measure.false) here refl refl
    (h ∙ ap (λ l. l ++ reverse (map Visit (ids_of c.index-nodes-index.result))) pushed))
    c.wait_for_parts.ensures
