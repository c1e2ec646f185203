use Rattle.std.proofs.Common.{rules, ◌≡◌, sym, subst, ◌∙◌, arith}
use Rattle.compiled_schema.specs.declared.compiled.Compiled.{Compiled}
use Rattle.doc_changes.proofs.Reading.{depth_below}
use Rattle.kept_above.specs.Climbing.{IsClimbing}
use Rattle.kept_above.proofs.Climbing.{settled}
use Rattle.kept_above.proofs.climb.settle_above.Goals as goal

-- it comes to what it came to before
pub returns-then-eq-clause-fit : goal.returns-then-eq-clause-fit
returns-then-eq-clause-fit c =
    let same : c.outcome.result ≡ c.up.was = search rules in
    settled c.args.set.now c.args.doc.now c.up.kept c.up.child c.up.was
    (subst (λ (set : Compiled). IsClimbing set c.args.doc.now c.up.kept c.up.child c.up.was) c.up.invariant.same c.up.invariant.climbing) (sym c.outcome.ensures ∙ same)

pub up-smaller : goal.up-smaller
up-smaller c = let deep = depth_below c.args.doc.now c.in-Some.parent c.up.child c.in-Some.ensures.sound (sym c.in-Some.ensures.parent) in omega (arith, deep)

-- or it is the root
pub returns-clause-fit : goal.returns-clause-fit
returns-clause-fit c =
    (subst (λ (set : Compiled). IsClimbing set c.args.doc.now c.up.kept c.up.child c.up.was) c.up.invariant.same c.up.invariant.climbing).root (sym c.in_default.ensures.parent)
