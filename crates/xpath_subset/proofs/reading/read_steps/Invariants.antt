use Rattle.std.proofs.Common.{Ok, map, take}
use Rattle.xpath_subset.specs.Grammar.{IsElementStep, steps_meaning}
use Rattle.xpath_subset.specs.inside.Gives.{AreWritten, Gives}
use Rattle.xpath_subset.specs.inside.Trims.{trim_white}
use Rattle.xpath_subset.proofs.reading.read_steps.Given as goal

abbrev pub invariant-loop-piece : goal.invariant-loop-piece
invariant-loop-piece l = Gives (λ steps. AreWritten IsElementStep steps (map (λ p. trim_white p.now) (take l.piece-index l.pieces))) (steps_meaning l.scope) (Ok l.steps)
