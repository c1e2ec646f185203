-- Components that were completed: ranks are heights, and contents are set.
use Rattle.std.specs.Prelude.{Option}
use Rattle.xs_codes.specs.declared.fault.Fault.{Fault}
use Rattle.xs_codes.specs.Least.{IsLeast}
use Rattle.xs_components.specs.Tables.{Tables}
use Rattle.component_references.specs.Circles.{Ranks, with_all_ranks}
use Rattle.simple_types.specs.Broken.{IsBroken}
use Rattle.type_derivation.specs.Filled.{IsCompleted}

-- these are the components as they are completed
abbrev pub AreCompleted : Tables → Tables → Type 0
AreCompleted parts new = (ranks : Ranks) × IsCompleted (with_all_ranks parts ranks) new

-- the first of what the simple types of the completed components and their facets break, or nothing
abbrev pub IsFirstTypeFault : Tables → Option Fault → Type 0
IsFirstTypeFault parts found = (new : Tables) × AreCompleted parts new × IsLeast (IsBroken new) found
