-- What targets come to.
use Rattle.std.specs.Prelude.{List, [], map}
use Rattle.xs_names.specs.Names.{NameTable}
use Rattle.xs_components.specs.Tables.{Tables}
use Rattle.xpath_subset.specs.declared.path.Path.{Path}
use Rattle.identity_constraints.specs.Seen.{KeyElement, KeyForest}
use Rattle.identity_constraints.specs.Targets.{Outcome, outcome_by, field_nodes}
use Rattle.path_walk.specs.declared.tuples.TargetOutcome.{TargetOutcome}

abbrev pub outcome_of : TargetOutcome → Outcome
outcome_of o = record { tuple = o.tuple; misused = o.misused; nillable = o.nillable }

-- with these fields
abbrev pub outcome_in : NameTable → Tables → List (List Path) → KeyElement → KeyForest → Outcome
outcome_in names t fields own below = outcome_by names t [] (map (λ field. field_nodes names field (record { way = []; own = own; below = below })) fields)
