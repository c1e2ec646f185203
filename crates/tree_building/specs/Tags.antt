-- What is known of one element while its items come.
use Rattle.std.specs.Prelude.{◌≡◌, List, ◌∷◌, Bool, false, reverse, if◌then◌else◌}
use Rattle.item_listing.specs.declared.item.Item.{Item}
use Rattle.tree_building.specs.Blocks.{one_from}
use Rattle.tree_building.specs.declared.block.Tags.{Tags}

-- these items complete one element
abbrev pub outcome : Tags → List Item → Bool
outcome t more = one_from (reverse t.open.items) t.rooted t.tag_open more

-- an item goes on with the element, or breaks it whatever comes
abbrev pub Takes : Tags → Item → Tags → Bool → Type 0
Takes old item new goes_on = (more : List Item) → outcome old (item ∷ more) ≡ (if goes_on then outcome new more else false)
