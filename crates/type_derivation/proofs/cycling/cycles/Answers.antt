use Rattle.std.proofs.Common.{None, Some, sym, ◌∙◌, subst}
use Rattle.std.specs.Prelude.{IfNone}
use Rattle.component_references.specs.Circles.{HaveHeights}
use Rattle.component_references.specs.Ranked.{IsRanked}
use Rattle.type_derivation.proofs.CycleLaws.{no-first, least-of-both, after-none}
use Rattle.type_derivation.proofs.cycling.cycles.Goals as goal

pub set_contents-requires-clause-ranked : goal.set_contents-requires-clause-ranked
set_contents-requires-clause-ranked c =
    subst (λ o. IfNone o (IsRanked c.rank_components.new.parts)) (no-first c.in_ok-circle.circle c.in_ok-base.base (sym c.sooner.ensures.sooner ∙ c.in-None.is)) c.in_ok-circle.ensures.ranked

pub returns-in-Some-clause-least : goal.returns-in-Some-clause-least
returns-in-Some-clause-least c =
    least-of-both c.args.parts.now c.in_ok-circle.circle c.in_ok-base.base c.sooner.result (Some c.in-Some.fault) c.in_ok-circle.ensures.least c.in_ok-base.ensures.least c.sooner.ensures.sooner c.in-Some.is

pub returns-in_ok-set_contents-in-None-clause-least :
    goal.returns-in_ok-set_contents-in-None-clause-least
returns-in_ok-set_contents-in-None-clause-least c =
    least-of-both c.args.parts.now c.in_ok-circle.circle c.in_ok-base.base c.sooner.result None c.in_ok-circle.ensures.least c.in_ok-base.ensures.least c.sooner.ensures.sooner c.in-None.is

pub returns-in_ok-set_contents-in-None-clause-tables : goal.returns-in_ok-set_contents-in-None-clause-tables
returns-in_ok-set_contents-in-None-clause-tables c =
    after-none c.args.parts.now c.rank_components.new.parts c.set_contents.new.parts c.in_ok-circle.ensures.tables
    (subst (λ o. IfNone o (HaveHeights c.rank_components.new.parts)) (no-first c.in_ok-circle.circle c.in_ok-base.base (sym c.sooner.ensures.sooner ∙ c.in-None.is)) c.in_ok-circle.ensures.heights)
    c.in_ok-set_contents-in-None.ensures.filled
