use Rattle.std.proofs.Common.{inl, inr, refl, sym, subst}
use Rattle.std.proofs.lemmas.Result.{IfOk-weaker, on_ok_weaker}
use Rattle.tree_edits.specs.Inverses as law
use Rattle.doc_changes.specs.Stands.{StandsFor}
use Rattle.doc_tree.specs.Changes.{Means}
use Rattle.doc_tree.specs.declared.change.Change.{Change}
use Rattle.doc_tree.proofs.Meaning.{takes}
use Rattle.kept_changes.proofs.Following.{changed-beside}
use Rattle.kept_changes.specs.declared.change.Spot.TheVariants.{Pruned}
use Rattle.kept_inverses.proofs.Following.{inverse-at, inverse-turned, inverse-takes, pruned-inverse, takes-out, take-below, take-fits}
use Rattle.kept_inverses.proofs.change.keep_inverse.Goals as goal

pub spot_of-requires : goal.spot_of-requires
spot_of-requires g c = let q = c.requires.can in (c.args.set.now.names, q.0, q.1, q.2, q.3, q.4)

-- ---- an element goes

pub take-requires-clause-can : goal.take-requires-clause-can
take-requires-clause-can g c =
    let q = c.requires.can in
    let names = c.args.set.now.names in
    let means = subst (λ (x : Change). Means names x q.1) (pruned-inverse c.args.doc.now c.args.change c.in-Pruned.node c.in-Pruned.ensures).0 q.3 in
    (q.0, q.2, take-fits names c.args.doc.now q.0 q.2 q.1 c.in-Pruned.node means q.4)

pub take-requires-clause-element : goal.take-requires-clause-element
take-requires-clause-element g c = (pruned-inverse c.args.doc.now c.args.change c.in-Pruned.node c.in-Pruned.ensures).1

pub returns-in-Pruned-clause-inverse : goal.returns-in-Pruned-clause-inverse
returns-in-Pruned-clause-inverse g c =
    let names = c.args.set.now.names in
    IfOk-weaker c.take.result _ _ (λ back inverse d own z means fits.
    let is = takes names own c.in-Pruned.node (subst (λ (x : Change). Means names x own) (pruned-inverse c.args.doc.now c.args.change c.in-Pruned.node c.in-Pruned.ensures).0 means) in
    subst (λ (x : law.Change). Means names back (law.inverse_of d x)) (sym is) (inverse d z (subst (law.Fits d) is fits))) c.take.ensures.inverse

pub returns-in-Pruned-clause-made : goal.returns-in-Pruned-clause-made
returns-in-Pruned-clause-made g c =
    let names = c.args.set.now.names in
    on_ok_weaker c.take.result (λ made d own z means fits.
    let is = takes names own c.in-Pruned.node (subst (λ (x : Change). Means names x own) (pruned-inverse c.args.doc.now c.args.change c.in-Pruned.node c.in-Pruned.ensures).0 means) in
    subst (λ (x : law.Change). StandsFor names c.take.new.doc (law.changed d x)) (sym is) (made d z)) c.take.ensures.made

pub returns-in-Pruned-clause-reach : goal.returns-in-Pruned-clause-reach
returns-in-Pruned-clause-reach g c = λ d own z means fits.
    let names = c.args.set.now.names in
    let spot = c.in-Pruned.ensures in
    let mine = subst (λ (x : Change). Means names x own) (pruned-inverse c.args.doc.now c.args.change c.in-Pruned.node spot).0 means in
    let is = takes names own c.in-Pruned.node mine in
    elim c.take.ensures.reach [
      | inl same ↦ inl same
      | inr made ↦ inr (
        subst (λ (x : law.Change). StandsFor names c.take.new.doc (law.changed d x)) (sym is) (made.0 d z),
        takes-out c.args.set.now c.args.doc.now c.take.new.doc c.args.kept.now c.args.change c.in-Pruned.node spot
            (take-below names c.args.doc.now d z c.in-Pruned.node (take-fits names c.args.doc.now d z own c.in-Pruned.node mine fits)) c.args.steps.now c.take.new.steps made.1,
      )
    ]

-- ---- what is another is at an element that is there

pub change-requires : goal.change-requires
change-requires g c = let q = c.requires.can in record { can = (c.args.set.now.names, q.0, q.1, q.2, q.3, q.4) }

pub follow-requires-clause-beside : goal.follow-requires-clause-beside
follow-requires-clause-beside g c =
    let q = c.requires.can in
    let set = c.args.set.now in
    let made = c.in_ok-back-in_default.ensures in
    changed-beside set c.change.new.self c.args.kept.now (law.changed q.0 q.1) c.spot_of.result (made.tree set.names q.0 q.1 q.2 q.3 q.4)
    (inverse-at set c.args.doc.now c.change.new.self c.args.kept.now c.requires.right q.0 q.2 c.change.ensures.sound q.1 c.args.change c.spot_of.result c.spot_of.ensures c.in_default.not-Pruned q.3 q.4
    (made.nodes set.names q.0 q.1 q.2 q.3 q.4))

pub follow-requires-clause-changed : goal.follow-requires-clause-changed
follow-requires-clause-changed g c =
    let q = c.requires.can in
    let set = c.args.set.now in
    let made = c.in_ok-back-in_default.ensures in
    inverse-at set c.args.doc.now c.change.new.self c.args.kept.now c.requires.right q.0 q.2 c.change.ensures.sound q.1 c.args.change c.spot_of.result c.spot_of.ensures c.in_default.not-Pruned q.3 q.4
    (made.nodes set.names q.0 q.1 q.2 q.3 q.4)

pub returns-in_ok-follow-in_default-clause-inverse : goal.returns-in_ok-follow-in_default-clause-inverse
returns-in_ok-follow-in_default-clause-inverse g c = λ d own z means fits. c.in_ok-back-in_default.ensures.inverse c.args.set.now.names d own z means fits

pub returns-in_ok-follow-in_default-clause-made : goal.returns-in_ok-follow-in_default-clause-made
returns-in_ok-follow-in_default-clause-made g c = λ d own z means fits. c.in_ok-back-in_default.ensures.tree c.args.set.now.names d own z means fits

pub returns-in_ok-follow-in_default-clause-reach : goal.returns-in_ok-follow-in_default-clause-reach
returns-in_ok-follow-in_default-clause-reach g c = λ d own z means fits.
    let set = c.args.set.now in
    let made = c.in_ok-back-in_default.ensures in
    inr (
      made.tree set.names d own z means fits,
      inverse-takes set c.args.doc.now c.change.new.self c.args.kept.now c.requires.right d z c.change.ensures.sound own c.args.steps.now c.follow.new.steps c.args.change c.spot_of.result c.spot_of.ensures
          c.in_default.not-Pruned means fits (made.nodes set.names d own z means fits) c.follow.ensures.steps,
    )

pub returns-in_err-follow-in_default-clause-reach : goal.returns-in_err-follow-in_default-clause-reach
returns-in_err-follow-in_default-clause-reach g c = λ d own z means fits.
    let set = c.args.set.now in
    let made = c.in_ok-back-in_default.ensures in
    inr (
      made.tree set.names d own z means fits,
      inverse-takes set c.args.doc.now c.change.new.self c.args.kept.now c.requires.right d z c.change.ensures.sound own c.args.steps.now c.follow.new.steps c.args.change c.spot_of.result c.spot_of.ensures
          c.in_default.not-Pruned means fits (made.nodes set.names d own z means fits) c.follow.ensures.steps,
    )

pub returns-in_err-back-in_default-clause-reach : goal.returns-in_err-back-in_default-clause-reach
returns-in_err-back-in_default-clause-reach g c = λ d own z means fits. inl (c.in_err-back-in_default.ensures.err, refl)

pub returns-in-Pruned-clause-identity : goal.returns-in-Pruned-clause-identity
returns-in-Pruned-clause-identity g c = on_ok_weaker c.take.result (λ same n out. same n (λ within. out (c.in-Pruned.node, c.in-Pruned.ensures, within))) c.take.ensures.identity

pub returns-in_ok-follow-in_default-clause-identity : goal.returns-in_ok-follow-in_default-clause-identity
returns-in_ok-follow-in_default-clause-identity g c = λ n out. c.in_ok-follow-in_default.ensures.identity n

pub returns-in-Pruned-clause-turned : goal.returns-in-Pruned-clause-turned
returns-in-Pruned-clause-turned g c = on_ok_weaker c.take.result (λ goes. (Pruned c.in-Pruned.node, c.in-Pruned.ensures, goes)) c.take.ensures.turned

pub returns-in_ok-follow-in_default-clause-turned : goal.returns-in_ok-follow-in_default-clause-turned
returns-in_ok-follow-in_default-clause-turned g c =
    let q = c.requires.can in
    let set = c.args.set.now in
    let made = c.in_ok-back-in_default.ensures in (
      c.spot_of.result,
      c.spot_of.ensures,
      inverse-turned set c.args.doc.now c.change.new.self c.args.kept.now c.requires.right q.0 q.2 c.change.ensures.sound q.1 c.args.change c.spot_of.result c.spot_of.ensures c.in_default.not-Pruned q.3 q.4
          (made.nodes set.names q.0 q.1 q.2 q.3 q.4),
    )
