-- Symbols with the texts that they are sorted by.
use Rattle.std.specs.Prelude.{◌≡◌, Bool}
use Rattle.std.specs.Cmp.Lexicographic.{slice_cmp}
use Rattle.std.specs.Ordering.{nat_cmp, ordering_then, is_lt}
use Rattle.std.specs.declared.cmp.Ordering.{Ordering}
use Rattle.xs_names.specs.Names.{NameTable}
use Rattle.kept_next.specs.Order.{kind_of, space_name, local_name}
use Rattle.kept_next.specs.declared.order.Symbol.{Symbol}
use Rattle.kept_next.specs.declared.listing.ListedSymbol.{ListedSymbol}

-- these are the texts of the symbol
pub record HasTexts (names : NameTable) (x : ListedSymbol) : Type 0 where
  pub space : x.space.now ≡ space_name names x.symbol.name
  pub local : x.local.now ≡ local_name names x.symbol.name

abbrev pub symbol_of : ListedSymbol → Symbol
symbol_of x = x.symbol

abbrev pub text_order : ListedSymbol → ListedSymbol → Ordering
text_order a b =
    ordering_then (nat_cmp (kind_of a.symbol.name) (kind_of b.symbol.name))
    (ordering_then (slice_cmp nat_cmp a.space.now b.space.now) (slice_cmp nat_cmp a.local.now b.local.now))

abbrev pub is_text_before : ListedSymbol → ListedSymbol → Bool
is_text_before a b = is_lt (text_order a b)
