-- What a builder stands for.
use Rattle.std.specs.Prelude.{Result, Ok, Err, Option, Some, None}
use Rattle.tree_building.specs.Building.{ended_all}
use Rattle.tree_building.specs.declared.building.Building.{Building}
use Rattle.tree_building.specs.declared.build.Built.{Built}
use Rattle.tree_building.specs.declared.fault.TreeFault.{TreeFault}

abbrev pub state_of : Building → Option TreeFault → Result Building TreeFault
state_of b None = Ok b
state_of b (Some fault) = Err fault

-- an item was taken, or the fault that there is
abbrev pub answer_of : Result Building TreeFault → Result (Unit {0}) TreeFault
answer_of (Ok b) = Ok tt
answer_of (Err fault) = Err fault

abbrev pub end_of : Result Building TreeFault → Result Built TreeFault
end_of (Ok b) = ended_all b
end_of (Err fault) = Err fault
