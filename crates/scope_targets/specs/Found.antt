-- What is found of an element as a target.
use Rattle.std.specs.Prelude.{◌<◌, List, length, All}
use Rattle.xs_names.specs.Names.{NameTable}
use Rattle.identity_constraints.specs.Seen.{KeyElement}
use Rattle.path_walk.specs.Outcomes.{outcome_of}
use Rattle.scope_targets.specs.Targetings.{Targeting}
use Rattle.scope_targets.specs.declared.targetings.ElementTargeting.{ElementTargeting}

abbrev pub targeting_of : ElementTargeting → Targeting
targeting_of a = record { scope = a.scope; constraint = a.constraint; outcome = outcome_of a.outcome }

-- the elements have names of the table
abbrev pub AreNamesOf : NameTable → List KeyElement → Type 0
AreNamesOf names es = All (λ (e : KeyElement). e.name < length names.names) es
