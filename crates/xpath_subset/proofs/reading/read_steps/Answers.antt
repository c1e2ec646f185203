use Rattle.std.proofs.Common.{Some, sym, subst, Ok, [], map, take, ◌+◌}
use Rattle.xpath_subset.specs.Grammar.{IsElementStep, step_meaning, steps_meaning}
use Rattle.xpath_subset.specs.inside.Gives.{AreWritten, Gives}
use Rattle.xpath_subset.specs.inside.Trims.{trim_white}
use Rattle.xpath_subset.proofs.Lists.{gives_next, gives_not, gives_nothing}
use Rattle.xpath_subset.proofs.reading.read_steps.Goals as goal

pub loop-piece-init : goal.loop-piece-init
loop-piece-init c = subst (λ steps. Gives (λ ws. AreWritten IsElementStep ws []) (steps_meaning c.args.scope.now) (Ok (Some steps))) (sym c.new.ensures) (gives_nothing IsElementStep (step_meaning c.args.scope.now))

pub loop-piece-preserved : goal.loop-piece-preserved
loop-piece-preserved c = subst (λ steps. Gives (λ ws. AreWritten IsElementStep ws (map (λ p. trim_white p.now) (take (c.loop-piece.piece-index + 1) c.args.pieces.now))) (steps_meaning c.args.scope.now) (Ok steps)) (sym c.in_ok-steps-in-Ok.ensures)
    (gives_next IsElementStep (step_meaning c.args.scope.now) (λ p. trim_white p.now) c.args.pieces.now c.loop-piece.piece-index _ c.trimmed.result.now c.loop-piece.steps c.in-Ok.read c.loop-piece-test.true c.trimmed.ensures.value c.loop-piece.invariant c.in-Ok.ensures)

pub returns-in-Err : goal.returns-in-Err
returns-in-Err c = gives_not IsElementStep (step_meaning c.args.scope.now) (λ p. trim_white p.now) c.args.pieces.now c.loop-piece.piece-index _ c.trimmed.result.now c.loop-piece-test.true c.trimmed.ensures.value c.in-Err.refusal c.in-Err.ensures
