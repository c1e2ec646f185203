-- The tree of a section, built item by item.
use Rattle.std.proofs.Common.{◌≡◌, List, [], ◌∷◌, ◌++◌, Result, Ok, Err, refl, ap}
use Rattle.item_listing.specs.declared.item.Item.{Item}
use Rattle.tree_rows.specs.Forest.{Document}
use Rattle.tree_building.specs.Building.{◌>>=◌, after, after_all, ended_all, document, tree}
use Rattle.tree_building.specs.Builder.{end_of}
use Rattle.tree_building.specs.declared.building.Building.{Building}
use Rattle.tree_building.specs.declared.fault.TreeFault.{TreeFault}
use Rattle.stream_sections.specs.Sections.{built_so_far}
use Rattle.stream_sections.specs.inside.SchemaTurns.{tree_of}

end_then : (b : Result Building TreeFault) → end_of b ≡ (b >>= ended_all)
end_then (Ok b) = refl
end_then (Err fault) = refl

pub tree_is : (its : List Item) → tree_of (built_so_far its) ≡ tree its
tree_is its = ap document (end_then (built_so_far its))

pub all_more : (s : Result Building TreeFault) (its more : List Item) → after_all s (its ++ more) ≡ after_all (after_all s its) more
all_more s [] more = refl
all_more s (x ∷ its) more = all_more (after s x) its more

pub built_more : (its : List Item) (it : Item) → built_so_far (its ++ it ∷ []) ≡ after (built_so_far its) it
built_more its it = all_more (built_so_far []) its (it ∷ [])
