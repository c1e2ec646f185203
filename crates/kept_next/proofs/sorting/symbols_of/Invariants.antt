use Rattle.std.proofs.Common.{◌≡◌, map, take}
use Rattle.kept_next.specs.inside.Sorting.{symbol_of}
use Rattle.kept_next.proofs.sorting.symbols_of.Given as goal

abbrev pub invariant-loop-one : goal.invariant-loop-one
invariant-loop-one l = l.symbols ≡ map symbol_of (take l.one-index l.listed)
