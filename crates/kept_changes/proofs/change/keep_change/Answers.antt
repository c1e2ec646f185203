use Rattle.std.proofs.Common.{inl, inr, refl, sym, subst}
use Rattle.std.specs.Prelude.{OnOk}
use Rattle.std.proofs.lemmas.Result.{on_ok_weaker}
use Rattle.compiled_schema.specs.declared.compiled.Compiled.{Compiled}
use Rattle.doc_edits.specs.Changes.{CanMake, changed}
use Rattle.doc_edits.specs.declared.change.Change.{Change}
use Rattle.kept_children.specs.from_kept_state.Kept.{IsBeside}
use Rattle.kept_children.specs.Edited.{IsRightFor}
use Rattle.kept_changes.specs.Spots.{HasChangedAt, TakesSpot}
use Rattle.kept_changes.proofs.Following.{changed-at, changed-beside, pruned-change, removal-stands, takes-change, takes-removal, ok-of}
use Rattle.kept_changes.specs.declared.change.Spot.TheVariants.{Pruned}
use Rattle.kept_changes.proofs.Turned.{turned-at}
use Rattle.kept_changes.proofs.change.keep_change.Goals as goal

pub spot_of-requires : goal.spot_of-requires
spot_of-requires g c = let q = c.requires.can in (c.args.set.now.names, q.0, q.1, q.2)

-- ---- an element goes

pub prune-requires-clause-element : goal.prune-requires-clause-element
prune-requires-clause-element g c = (pruned-change c.args.doc.now c.args.change c.in-Pruned.node c.in-Pruned.ensures).1

pub prune-requires-clause-below : goal.prune-requires-clause-below
prune-requires-clause-below g c =
    let q = c.requires.can in
    subst (λ (x : Change). CanMake c.args.set.now.names c.args.doc.now q.0 x) (pruned-change c.args.doc.now c.args.change c.in-Pruned.node c.in-Pruned.ensures).0 q.2

pub returns-in-Pruned-clause-made : goal.returns-in-Pruned-clause-made
returns-in-Pruned-clause-made g c =
    ok-of c.prune.result (λ d z. removal-stands c.args.set.now.names c.args.doc.now c.prune.new.doc c.args.change c.in-Pruned.node c.in-Pruned.ensures (c.prune.ensures.tree c.args.set.now.names) d z)

pub returns-in-Pruned-clause-reach : goal.returns-in-Pruned-clause-reach
returns-in-Pruned-clause-reach g c = λ d z.
    let q = c.requires.can in
    let below = subst (λ (x : Change). CanMake c.args.set.now.names c.args.doc.now q.0 x) (pruned-change c.args.doc.now c.args.change c.in-Pruned.node c.in-Pruned.ensures).0 q.2 in
    inr (
      removal-stands c.args.set.now.names c.args.doc.now c.prune.new.doc c.args.change c.in-Pruned.node c.in-Pruned.ensures (c.prune.ensures.tree c.args.set.now.names) d z,
      takes-removal c.args.set.now c.args.doc.now c.prune.new.doc c.args.kept.now c.args.change c.in-Pruned.node c.in-Pruned.ensures below c.args.steps.now c.prune.new.steps c.prune.ensures.steps,
    )

-- ---- what is another is at an element that is there

pub follow-requires-clause-beside : goal.follow-requires-clause-beside
follow-requires-clause-beside g c =
    let q = c.requires.can in
    let stands = c.in_ok-make-in_default.ensures.made q.0 q.1 in
    subst (λ (set : Compiled). IsBeside set c.make.new.doc c.args.kept.now) (sym c.make.ensures.same)
    (changed-beside c.args.set.now c.make.new.doc c.args.kept.now (changed c.args.set.now.names q.0 c.args.change) c.spot_of.result stands
    (changed-at c.args.set.now c.args.doc.now c.make.new.doc c.args.kept.now c.requires.right q.0 q.1 stands.links c.args.change c.spot_of.result c.spot_of.ensures c.in_default.not-Pruned q.2 c.in_ok-make-in_default.ensures.nodes))

pub follow-requires-clause-changed : goal.follow-requires-clause-changed
follow-requires-clause-changed g c =
    let q = c.requires.can in
    let stands = c.in_ok-make-in_default.ensures.made q.0 q.1 in
    subst (λ (set : Compiled). HasChangedAt set c.make.new.doc c.args.kept.now c.spot_of.result) (sym c.make.ensures.same)
    (changed-at c.args.set.now c.args.doc.now c.make.new.doc c.args.kept.now c.requires.right q.0 q.1 stands.links c.args.change c.spot_of.result c.spot_of.ensures c.in_default.not-Pruned q.2 c.in_ok-make-in_default.ensures.nodes)

pub returns-in_ok-make-in_default-clause-right : goal.returns-in_ok-make-in_default-clause-right
returns-in_ok-make-in_default-clause-right g c = subst (λ (set : Compiled). OnOk c.follow.result (IsRightFor set c.make.new.doc c.follow.new.kept)) c.make.ensures.same c.follow.ensures.right

pub returns-in_ok-make-in_default-clause-made : goal.returns-in_ok-make-in_default-clause-made
returns-in_ok-make-in_default-clause-made g c = ok-of c.follow.result c.in_ok-make-in_default.ensures.made

pub returns-in_ok-make-in_default-clause-reach : goal.returns-in_ok-make-in_default-clause-reach
returns-in_ok-make-in_default-clause-reach g c = λ d z.
    let q = c.requires.can in
    let stands = c.in_ok-make-in_default.ensures.made q.0 q.1 in
    let takes = subst (λ (set : Compiled). TakesSpot set c.make.new.doc c.args.kept.now c.spot_of.result c.args.steps.now c.follow.new.steps) c.make.ensures.same c.follow.ensures.steps in
    inr (
      c.in_ok-make-in_default.ensures.made d z,
      takes-change c.args.set.now c.args.doc.now c.make.new.doc c.args.kept.now c.requires.right q.0 q.1 stands.links c.args.steps.now c.follow.new.steps c.args.change c.spot_of.result c.spot_of.ensures c.in_default.not-Pruned
          q.2 c.in_ok-make-in_default.ensures.nodes takes,
    )

pub returns-in_err-make-in_default-clause-reach : goal.returns-in_err-make-in_default-clause-reach
returns-in_err-make-in_default-clause-reach g c = λ d z. inl (c.in_err-make-in_default.ensures.err, refl)

pub returns-in-Pruned-clause-identity : goal.returns-in-Pruned-clause-identity
returns-in-Pruned-clause-identity g c = on_ok_weaker c.prune.result (λ same n out. same n (λ within. out (c.in-Pruned.node, c.in-Pruned.ensures, within))) c.prune.ensures.identity

pub returns-in_ok-make-in_default-clause-identity : goal.returns-in_ok-make-in_default-clause-identity
returns-in_ok-make-in_default-clause-identity g c = on_ok_weaker c.follow.result (λ same n out. same n) c.follow.ensures.identity

pub returns-in-Pruned-clause-turned : goal.returns-in-Pruned-clause-turned
returns-in-Pruned-clause-turned g c = ok-of c.prune.result (Pruned c.in-Pruned.node, c.in-Pruned.ensures, c.prune.ensures.turned)

pub returns-in_ok-make-in_default-clause-turned : goal.returns-in_ok-make-in_default-clause-turned
returns-in_ok-make-in_default-clause-turned g c =
    let q = c.requires.can in
    let stands = c.in_ok-make-in_default.ensures.made q.0 q.1 in
    ok-of c.follow.result (
      c.spot_of.result,
      c.spot_of.ensures,
      turned-at c.args.set.now.names c.args.doc.now c.make.new.doc q.0 q.1 stands.links c.args.change c.spot_of.result c.spot_of.ensures c.in_default.not-Pruned q.2 c.in_ok-make-in_default.ensures.nodes,
    )
