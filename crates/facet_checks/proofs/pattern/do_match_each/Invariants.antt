use Rattle.std.proofs.Common.{◌↔◌, drop}
use Rattle.facet_checks.specs.Patterns.{MatchesEach}
use Rattle.facet_checks.proofs.pattern.do_match_each.Given as goal

abbrev pub invariant-loop-patterns : goal.invariant-loop-patterns
invariant-loop-patterns l = MatchesEach (drop l.patterns-index l.steps) l.text ↔ MatchesEach l.steps l.text
