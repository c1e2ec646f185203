use Rattle.std.proofs.Common.{◌≡◌, List, map, ap, ◌∙◌, subst}
use Rattle.std.specs.Prelude.{IsPermutation}
use Rattle.std.proofs.lemmas.Result.{IfOk-weaker}
use Rattle.kept_next.specs.Order.{IsOrderOf}
use Rattle.kept_next.specs.inside.Sorting.{symbol_of}
use Rattle.kept_next.specs.declared.listing.ListedSymbol.{ListedSymbol}
use Rattle.kept_next.proofs.Orders.{order-is}
use Rattle.kept_next.proofs.order.symbol_order.Goals as goal

pub returns : goal.returns
returns c =
    let listed : List ListedSymbol = c.in_ok-list_symbols.field-0 in
    let same : c.into_vec-listed.result.items ≡ listed = c.into_vec-listed.ensures in
    let moved = subst (λ (xs : List ListedSymbol). IsPermutation xs c.sort_symbols.new.listed.items) same c.sort_symbols.ensures.same in
    IfOk-weaker c.symbols_of.result (λ symbols. symbols ≡ map symbol_of c.deref.result.now) (IsOrderOf c.args.names.now c.args.own.now c.args.spaces.now)
    (λ symbols is. order-is c.args.names.now c.args.own.now c.args.spaces.now listed c.sort_symbols.new.listed.items symbols c.in_ok-list_symbols.ensures.symbols c.in_ok-list_symbols.ensures.texts
    moved c.in_ok-sort_symbols.ensures.sorted (is ∙ ap (map symbol_of) c.deref.ensures.value))
    c.symbols_of.ensures
