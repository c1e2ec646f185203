-- A tree as one that the logic can keep: what a model's value needs.
use Rattle.std.specs.Prelude.{◌≡◌, ℕ, zero, suc, Option, Some, None, refl}
use Rattle.std.proofs.Common.{sym, ap, ◌∙◌}
use Rattle.std.specs.Coded.{Coded}
use base.Stored.{Gv, gnil, gnum, gcons, num}
use Rattle.xs_positions.specs.Tree.{Tree, one, empty, chain, nothing, either, repeat}

abbrev pub stored_bound : Option ℕ → Gv
stored_bound None = gnil
stored_bound (Some most) = gnum most

abbrev pub bound_back : Gv → Option ℕ
bound_back gnil = None
bound_back (gnum most) = Some most
bound_back (gcons a b) = None

abbrev pub stored : Tree → Gv
stored (one symbol) = gnum (suc symbol)
stored empty = gnil
stored (chain first rest) = gcons gnil (gcons (stored first) (stored rest))
stored nothing = gnum zero
stored (either first rest) = gcons (gnum zero) (gcons (stored first) (stored rest))
stored (repeat part least most) = gcons (gcons (gnum least) (stored_bound most)) (stored part)

abbrev pub tree_back : Gv → Tree
tree_back gnil = empty
tree_back (gnum zero) = nothing
tree_back (gnum (suc symbol)) = one symbol
tree_back (gcons gnil (gcons first rest)) = chain (tree_back first) (tree_back rest)
tree_back (gcons (gnum n) (gcons first rest)) = either (tree_back first) (tree_back rest)
tree_back (gcons (gcons least most) part) = repeat (tree_back part) (num least) (bound_back most)
tree_back (gcons _ _) = empty

bound_back-stored : (most : Option ℕ) → bound_back (stored_bound most) ≡ most
bound_back-stored None = refl
bound_back-stored (Some most) = refl

pub tree_back-stored : (tree : Tree) → tree_back (stored tree) ≡ tree
tree_back-stored (one symbol) = refl
tree_back-stored empty = refl
tree_back-stored (chain first rest) = λ i. chain (tree_back-stored first i) (tree_back-stored rest i)
tree_back-stored nothing = refl
tree_back-stored (either first rest) = λ i. either (tree_back-stored first i) (tree_back-stored rest i)
tree_back-stored (repeat part least most) = λ i. repeat (tree_back-stored part i) least (bound_back-stored most i)

pub stored_apart : (x y : Tree) → stored x ≡ stored y → x ≡ y
stored_apart x y e = sym (tree_back-stored x) ∙ (ap tree_back e ∙ tree_back-stored y)

abbrev pub coded_tree : Coded Tree
coded_tree = record { code = stored; inj = stored_apart }
