-- A builder of a document keeps to what will be sound.
use Rattle.std.proofs.Common.{◌≡◌, [], ◌∷◌, Result, Ok, Err, OnOk, OnErr, refl, sym, ◌∙◌, subst}
use Rattle.item_listing.specs.declared.item.Item.{Item}
use Rattle.tree_building.specs.Building.{◌>>=◌, after, ended_all}
use Rattle.tree_building.specs.Builder.{end_of}
use Rattle.tree_building.specs.Sound.{IsWell, WillBeSound}
use Rattle.tree_building.specs.declared.building.Building.{Building}
use Rattle.tree_building.specs.declared.build.Built.{Built}
use Rattle.tree_building.specs.declared.fault.TreeFault.{TreeFault}

pub after_item : {X E : Type 0} (r : Result X E) (old new : Result Building TreeFault) (item : Item) → OnOk r (new ≡ after old item) → OnErr r (new ≡ old)
    → WillBeSound old → WillBeSound new
after_item (Ok x) old new item ok err sound = subst WillBeSound (sym ok) (λ more end e. sound (item ∷ more) end e)
after_item (Err x) old new item ok err sound = subst WillBeSound (sym err) sound

end_is : (state : Result Building TreeFault) → end_of state ≡ (state >>= ended_all)
end_is (Ok b) = refl
end_is (Err fault) = refl

pub end_sound : (state : Result Building TreeFault) (end : Built) → WillBeSound state → end_of state ≡ Ok end → IsWell end
end_sound state end sound e = sound [] end (sym (end_is state) ∙ e)
