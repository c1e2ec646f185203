-- The nodes of a field, summed up.
use Rattle.std.specs.Prelude.{◌≡◌, List, [], ◌∷◌, ◌++◌}
use Rattle.std.specs.List.{list_any}
use Rattle.xs_components.specs.Tables.{Tables}
use Rattle.identity_constraints.specs.Targets.{FieldNode, field_key, is_misused, is_nillable}
use Rattle.path_walk.specs.declared.nodes.FieldNodes.{FieldNodes}
use Rattle.path_walk.specs.declared.nodes.NodeCount.{NodeCount}
use Rattle.path_walk.specs.declared.nodes.NodeCount.TheVariants.{NoNode, OneNode, Several}

abbrev pub count_of : List FieldNode → NodeCount
count_of [] = NoNode
count_of (node ∷ []) = OneNode
count_of (node ∷ other ∷ nodes) = Several

abbrev pub summed : Tables → List FieldNode → FieldNodes
summed t nodes = record {
  count = count_of nodes;
  key = field_key nodes;
  misused = is_misused t nodes;
  nillable = list_any (is_nillable t) nodes;
}

-- these nodes came behind all that were there
abbrev pub AreAdded : Tables → List FieldNode → FieldNodes → FieldNodes → Type 0
AreAdded t more old new = (nodes : List FieldNode) → old ≡ summed t nodes → new ≡ summed t (nodes ++ more)
