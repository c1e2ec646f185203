-- What a walk has found.
use Rattle.std.specs.Prelude.{ℕ, List, ◌∷◌, ◌++◌}
use Rattle.tree_rows.specs.Forest.{Forest}
use Rattle.tree_rows.specs.declared.row.Binding.{Binding}
use Rattle.tree_rows.specs.declared.row.Row.{Row}
use Rattle.schema_values.specs.declared.grammar_kinds.Kind.{Kind}
use Rattle.schema_faults.specs.Constructs.{Construct, constructs, nearest}
use Rattle.schema_faults.specs.Faults.{fault_of, least_fault, lesser}
use Rattle.schema_shape.specs.Shapes.{shapes, shapes_of}
use Rattle.schema_shape.specs.declared.walk.Findings.{Findings}

-- what was found, and then what an element has, and what these elements have
abbrev pub with_construct : Findings → Construct → Findings
with_construct found e = record { fault = lesser found.fault (fault_of e); shapes = found.shapes ++ shapes_of e }

abbrev pub with_constructs : Findings → List Construct → Findings
with_constructs found es = record { fault = lesser found.fault (least_fault es); shapes = found.shapes ++ shapes es }

-- an element and those below it
abbrev pub element_constructs : Kind → ℕ → List Binding → Row → Forest → List Construct
element_constructs kind above scope row children =
    record {
      item = row.number;
      kind = kind;
      above = above;
      bindings = row.bindings;
      scope = row.bindings ++ scope;
      attributes = row.attributes;
      children = children;
    }
    ∷ constructs kind (nearest above row.number row.bindings) (row.bindings ++ scope) children
