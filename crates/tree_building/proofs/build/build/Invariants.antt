use Rattle.std.proofs.Common.{◌≡◌, Ok, drop}
use Rattle.tree_building.specs.Building.{nothing, after_all}
use Rattle.tree_building.proofs.build.build.Given as goal

abbrev pub invariant-loop-item : goal.invariant-loop-item
invariant-loop-item l = after_all l.builder (drop l.item-index l.items) ≡ after_all (Ok (nothing l.fn.rules l.fn.scope)) l.items
