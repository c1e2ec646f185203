use Rattle.std.proofs.Common.{◌≡◌, ◌++◌, drop}
use Rattle.redefine_names.specs.inside.Steps.{pairs_of}
use Rattle.redefine_names.proofs.finding.pairs_of.Given as goal

abbrev pub invariant-loop-version : goal.invariant-loop-version
invariant-loop-version l = l.pairs.items ++ pairs_of l.numbers l.marks l.version (drop l.version l.originals) ≡ pairs_of l.numbers l.marks 0 l.originals
