-- Siblings by their first.
use Rattle.std.proofs.Common.{◌≡◌, ◌+◌, refl, sym, ap, subst, ◌∙◌}
use Rattle.xs_names.specs.Names.{NameTable}
use Rattle.identity_constraints.specs.Seen.{KeyElement, KeyForest, none, element}
use Rattle.path_walk.specs.Sight.{IsFirst, AreNamed, below_first, behind_first}
use Rattle.path_walk.specs.inside.Walk.{size}

pub opened : (f : KeyForest) (first : KeyElement) → IsFirst f first → f ≡ element first (below_first f) (behind_first f)
opened none first is = absurd is
opened (element own below next) first is = ap (λ own. element own below next) is

pub first_is : (f : KeyForest) (own first : KeyElement) (below next : KeyForest) → f ≡ element own below next → IsFirst f first → own ≡ first
first_is f own first below next e is = subst (λ (x : KeyForest). IsFirst x first) e is

pub not_none : (f : KeyForest) (own : KeyElement) (below next : KeyForest) → f ≡ element own below next → f ≡ none → ⊥
not_none f own below next e none_is = apart (sym e ∙ none_is)
  where
    apart : element own below next ≡ none → ⊥
    apart h = cc

pub size_first : (f : KeyForest) (first : KeyElement) → IsFirst f first → size f ≡ 1 + size (below_first f) + size (behind_first f)
size_first none first is = absurd is
size_first (element own below next) first is = refl

pub named_below : (names : NameTable) (f : KeyForest) → AreNamed names f → AreNamed names (below_first f)
named_below names none named = named
named_below names (element own below next) named = named.1.0

pub named_behind : (names : NameTable) (f : KeyForest) → AreNamed names f → AreNamed names (behind_first f)
named_behind names none named = named
named_behind names (element own below next) named = named.1.1
