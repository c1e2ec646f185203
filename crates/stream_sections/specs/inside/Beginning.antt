-- A schema section that ends where another one begins.
use Rattle.std.specs.Prelude.{ℕ, List, [], ◌∷◌, ◌++◌, Some}
use Rattle.stream_sections.specs.Sections.{with_tree}
use Rattle.stream_sections.specs.inside.SchemaTurns.{Turned, goes, stops, tree_of, begun_at}
use Rattle.stream_sections.specs.declared.schemas.Begun.{Begun}
use Rattle.stream_sections.specs.declared.schemas.SchemaSection.{SchemaSection}

-- the open section's tree is taken, and the next section begins
abbrev pub begun_after : ℕ → List SchemaSection → List (List ℕ) → Begun → Turned
begun_after line done locations s = with_tree s.start (tree_of s.builder) stops
    (λ d. goes (record { sections = done ++ record { locations = s.locations; tree = d } ∷ []; begun = Some (begun_at line locations) }))
