use Rattle.std.proofs.Common.{sym}
use Rattle.std.proofs.lemmas.Bool.{true≢false}
use Rattle.type_derivation.specs.inside.Along.{DerivesAlong, GoesUp}
use Rattle.type_derivation.proofs.RunLaws.{apart, reached}
use Rattle.type_derivation.proofs.chains.derives_along.Goals as goal

pub returns-then-is_one_run : goal.returns-then-is_one_run
returns-then-is_one_run c =
    let told = reached c.args.parts.now c.requires.ranked c.args.bases.now c.requires.bases c.args.excluded.now c.up.at c.args.base.now c.up.invariant.0 c.requires.base
    c.line-line.result c.line-end.result c.line-line.ensures c.line-end.ensures c.is_reached.result c.is_one_run.result c.is_one_run.ensures c.if-is_one_run.true c.is_reached.ensures in
    ((λ holds. c.up.invariant.1.1 (told.0 holds)), (λ d. told.1 (c.up.invariant.1.0 d)))

pub returns-in-None : goal.returns-in-None
returns-in-None c =
    let other = apart c.args.parts.now c.requires.ranked c.args.bases.now c.requires.bases c.args.excluded.now c.up.at c.args.base.now c.up.invariant.0 c.requires.base
    c.line-line.result c.line-end.result c.line-line.ensures c.line-end.ensures c.is_one_run.result c.is_one_run.ensures c.if-is_one_run.false in
    let never : DerivesAlong c.args.parts.now c.args.excluded.now c.up.at c.args.base.now → ⊥ = rw c.in-None.is at (c.above_run.ensures.up c.args.base.now other) in
    ((λ e. absurd (true≢false (sym e))), (λ d. absurd (never (c.up.invariant.1.0 d))))

pub up-smaller : goal.up-smaller
up-smaller c =
    let other = apart c.args.parts.now c.requires.ranked c.args.bases.now c.requires.bases c.args.excluded.now c.up.at c.args.base.now c.up.invariant.0 c.requires.base
    c.line-line.result c.line-end.result c.line-line.ensures c.line-end.ensures c.is_one_run.result c.is_one_run.ensures c.if-is_one_run.false in
    let up : GoesUp c.args.parts.now c.args.excluded.now c.up.at c.in-Some.next c.args.base.now = rw c.in-Some.is at (c.above_run.ensures.up c.args.base.now other) in
    up.lower.lower

pub up-preserved : goal.up-preserved
up-preserved c =
    let other = apart c.args.parts.now c.requires.ranked c.args.bases.now c.requires.bases c.args.excluded.now c.up.at c.args.base.now c.up.invariant.0 c.requires.base
    c.line-line.result c.line-end.result c.line-line.ensures c.line-end.ensures c.is_one_run.result c.is_one_run.ensures c.if-is_one_run.false in
    let up : GoesUp c.args.parts.now c.args.excluded.now c.up.at c.in-Some.next c.args.base.now = rw c.in-Some.is at (c.above_run.ensures.up c.args.base.now other) in
    (up.lower.there, ((λ d. up.on (c.up.invariant.1.0 d)), (λ d. c.up.invariant.1.1 (up.back d))))
