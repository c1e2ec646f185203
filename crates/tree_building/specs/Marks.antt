-- Open elements, as they are kept: the bindings of all of them, and how many there were before each.
use Rattle.std.specs.Prelude.{◌-◌, List, [], ◌∷◌, drop, length, reverse}
use Rattle.tree_rows.specs.declared.row.Binding.{Binding}
use Rattle.tree_building.specs.Nest.{OpenElement, Opened}
use Rattle.tree_building.specs.declared.nest.Mark.{Mark}
use Rattle.tree_building.specs.declared.nest.Nest.TheInside.{Inside}

-- the bindings before those of an element
abbrev pub before : Mark → List Binding → List Binding
before mark bindings = drop (length bindings - mark.before) bindings

abbrev pub elements_of : List Binding → List Mark → List OpenElement
elements_of bindings [] = []
elements_of bindings (mark ∷ marks) = record { name = mark.name; scope = bindings } ∷ elements_of (before mark bindings) marks

abbrev pub outer_of : List Binding → List Mark → List Binding
outer_of bindings [] = bindings
outer_of bindings (mark ∷ marks) = outer_of (before mark bindings) marks

abbrev pub nest_of : List Binding → List Mark → Opened
nest_of bindings marks = record { outer = outer_of bindings marks; elements = elements_of bindings marks }

abbrev pub opened_of : Inside → Opened
opened_of n = nest_of n.prefixes (reverse n.marks.items)
