use Rattle.std.specs.Prelude.{◌-◌, length}
use Rattle.item_listing.proofs.names.RecentNames.make_places.Given as goal

abbrev pub invariant-loop-self : goal.invariant-loop-self
invariant-loop-self l = Unit {0}

abbrev pub decreases-loop-self : goal.decreases-loop-self
decreases-loop-self l = 256 - length l.self.places.items
