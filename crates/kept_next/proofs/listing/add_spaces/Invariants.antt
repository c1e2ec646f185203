use Rattle.std.proofs.Common.{◌≡◌, ◌++◌, map, take}
use Rattle.std.specs.Prelude.{All}
use Rattle.kept_next.specs.declared.symbol.SymbolName.TheVariants.{Namespace}
use Rattle.kept_next.specs.Order.{numbered}
use Rattle.kept_next.specs.inside.Sorting.{HasTexts, symbol_of}
use Rattle.kept_next.proofs.listing.add_spaces.Given as goal

abbrev pub invariant-loop-place : goal.invariant-loop-place
invariant-loop-place l = record {
  symbols : map symbol_of l.listed ≡ map symbol_of l.initial.listed ++ numbered Namespace l.first (take l.place l.spaces);
  texts : All (HasTexts l.names) l.listed;
}
