use Rattle.std.proofs.Common.{◌≡◌, ◌++◌, map, take}
use Rattle.std.specs.Prelude.{All}
use Rattle.kept_next.specs.declared.symbol.SymbolName.TheVariants.{Name}
use Rattle.kept_next.specs.Order.{numbered}
use Rattle.kept_next.specs.inside.Sorting.{HasTexts, symbol_of}
use Rattle.kept_next.proofs.listing.add_names.Given as goal

abbrev pub invariant-loop-number : goal.invariant-loop-number
invariant-loop-number l = record {
  symbols : map symbol_of l.listed ≡ map symbol_of l.initial.listed ++ numbered Name 0 (take l.number l.own);
  texts : All (HasTexts l.names) l.listed;
}
