use Rattle.std.proofs.Common.{◌↔◌, drop}
use Rattle.facet_checks.specs.Patterns.{MatchesSome}
use Rattle.facet_checks.proofs.pattern.do_match_some.Given as goal

abbrev pub invariant-loop-pattern : goal.invariant-loop-pattern
invariant-loop-pattern l = MatchesSome (drop l.pattern-index l.patterns) l.text ↔ MatchesSome l.patterns l.text
