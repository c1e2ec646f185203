-- How a tree is kept balanced when a leaf comes or goes: the trees of Adelson-Velsky and Landis.
use Rattle.std.specs.Prelude.{ℕ, ◌+◌, ◌-◌, nat_lt, nat_le, ◌==◌, Option, Some, None, MatchBool, if◌then◌else◌}
use Rattle.leaf_trees.specs.Tree.{Item, Tree, leaf, fork, size, height, IsPart, item_of}
use Rattle.leaf_trees.specs.declared.node.Flags.{Flags}
use Rattle.leaf_trees.specs.declared.side.Side.{Side}
use Rattle.leaf_trees.specs.declared.side.Side.TheVariants.{Left, Right}
use Rattle.leaf_trees.specs.Side.{other, on, fork_on, place_on, nearest}

-- the root of t, on this side of i, comes to the top
abbrev pub turned : Side → ℕ → Tree → Tree → Tree
turned side i (leaf x) u = fork_on side i (leaf x) u
turned side i (fork b l r) u = fork_on side b (on side l r) (fork_on side i (on (other side) l r) u)

-- a tree whose own part on this side is the higher one
abbrev pub heavy : Side → Tree → Tree
heavy side (leaf x) = leaf x
heavy side (fork b l r) =
    if nat_le (height (on (other side) l r)) (height (on side l r)) then fork b l r else turned (other side) b (on (other side) l r) (on side l r)

-- t on this side of i, and u on the other, turned where one is more than one higher
abbrev pub balanced : Side → ℕ → Tree → Tree → Tree
balanced side i t u =
    if nat_lt (height u + 1) (height t) then turned side i (heavy side t) u
    else (if nat_lt (height t + 1) (height u) then turned (other side) i (heavy (other side) u) t else fork_on side i t u)

-- the leaf x put in at a place, below a new fork i
abbrev pub put_in : ℕ → Item → ℕ → Tree → Tree
put_in i x k (leaf y) = if nat_lt 0 k then fork i (leaf y) (leaf x) else fork i (leaf x) (leaf y)
put_in i x k (fork b l r) = if nat_le k (size l) then balanced Left b (put_in i x k l) r else balanced Right b (put_in i x (k - size l) r) l

-- what is left below b, where this side of it is now that, or gone, beside u
abbrev pub beside : Side → ℕ → Option Tree → Tree → Tree
beside side b None u = u
beside side b (Some t) u = balanced side b t u

-- what is left of a tree without the leaf at a place, if anything is
abbrev pub take_out : ℕ → Tree → Option Tree
take_out k (leaf x) = None
take_out k (fork b l r) = Some (if nat_lt k (size l) then beside Left b (take_out k l) r else beside Right b (take_out (k - size l) r) l)

-- the place of a leaf beside the one that went, where this is the place of that one
abbrev pub rest_place : ℕ → Tree → ℕ
rest_place k (leaf x) = 0
rest_place k (fork b l r) =
    if nat_lt k (size l) then (if height l == 0 then nearest Left (size r) else place_on Left (size r) (rest_place k l))
    else (if height r == 0 then nearest Right (size l) else place_on Right (size l) (rest_place (k - size l) r))

-- the tree with other flags at the leaf at a place
abbrev pub flag_at : Flags → ℕ → Tree → Tree
flag_at flags k (leaf x) = leaf (item_of x.number flags)
flag_at flags k (fork b l r) = if nat_lt k (size l) then fork b (flag_at flags k l) r else fork b l (flag_at flags (k - size l) r)

-- the sides of this part, where it is a fork, are parts of the old tree
abbrev pub HasOldSides : Tree → Tree → Type 0
HasOldSides was (leaf x) = Unit {0}
HasOldSides was (fork i l r) = IsPart was l × IsPart was r

-- each part is a part of the old tree, but for the way down to the leaf at this place, and for the forks beside that way
abbrev pub ChangesAlong : Tree → ℕ → Tree → Type 0
ChangesAlong was k (leaf x) = Unit {0}
ChangesAlong was k (fork i l r) =
    MatchBool (nat_lt k (size l)) (ChangesAlong was k l × HasOldSides was r) (HasOldSides was l × ChangesAlong was (k - size l) r)
