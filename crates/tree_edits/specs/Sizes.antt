-- The nodes of a block and their depth, counted off its items.
use Rattle.std.specs.Prelude.{◌≡◌, ℕ, ◌+◌, ◌-◌, List, [], ◌∷◌, Bool, true, false, ◌==◌, length, max, if◌then◌else◌}
use Rattle.item_listing.specs.declared.item.Item.{Item}
use Rattle.item_listing.specs.declared.item.Item.TheVariants as items
use Rattle.tree_edits.specs.declared.size.BlockSize.{BlockSize}

-- how many nodes begin with the items that come next, inside of so many elements, where a text may still get characters or not:
-- one with each start, and one with characters that follow no others; instructions end no text
abbrev pub nodes_in : ℕ → Bool → List Item → ℕ
nodes_in around in_text [] = 0
nodes_in around in_text (items.Start name ∷ more) = 1 + nodes_in (around + 1) false more
nodes_in around in_text (items.Attr name value ∷ more) = nodes_in around in_text more
nodes_in around in_text (items.Chars chars ∷ more) =
    if in_text then nodes_in around true more
    else (if around == 0 then nodes_in around false more
    else (if length chars == 0 then nodes_in around false more else 1 + nodes_in around true more))
nodes_in around in_text (items.Close name ∷ more) = nodes_in (around - 1) false more
nodes_in around in_text (items.Instruction ∷ more) = nodes_in around in_text more
nodes_in around in_text (items.Schema locations ∷ more) = nodes_in around in_text more
nodes_in around in_text (items.Document ∷ more) = nodes_in around in_text more
nodes_in around in_text (items.Edits ∷ more) = nodes_in around in_text more
nodes_in around in_text (items.End ∷ more) = nodes_in around in_text more
nodes_in around in_text (items.Dot ∷ more) = nodes_in around in_text more
nodes_in around in_text (items.Command line ∷ more) = nodes_in around in_text more

-- the depth of the deepest element that starts in the items that come next, inside of so many elements; 0 where there is none
abbrev pub deepest_in : ℕ → List Item → ℕ
deepest_in around [] = 0
deepest_in around (items.Start name ∷ more) = max (around + 1) (deepest_in (around + 1) more)
deepest_in around (items.Attr name value ∷ more) = deepest_in around more
deepest_in around (items.Chars chars ∷ more) = deepest_in around more
deepest_in around (items.Close name ∷ more) = deepest_in (around - 1) more
deepest_in around (items.Instruction ∷ more) = deepest_in around more
deepest_in around (items.Schema locations ∷ more) = deepest_in around more
deepest_in around (items.Document ∷ more) = deepest_in around more
deepest_in around (items.Edits ∷ more) = deepest_in around more
deepest_in around (items.End ∷ more) = deepest_in around more
deepest_in around (items.Dot ∷ more) = deepest_in around more
deepest_in around (items.Command line ∷ more) = deepest_in around more

-- what a count comes to with the items that are left
abbrev pub all_nodes : BlockSize → List Item → ℕ
all_nodes size more = size.nodes + nodes_in size.inside size.in_text more

abbrev pub all_deepest : BlockSize → List Item → ℕ
all_deepest size more = max size.depth (deepest_in size.inside more)

-- the item was counted
pub record Counts (old new : BlockSize) (item : Item) : Type 0 where
  pub nodes : (more : List Item) → all_nodes new more ≡ all_nodes old (item ∷ more)
  pub depth : (more : List Item) → all_deepest new more ≡ all_deepest old (item ∷ more)
