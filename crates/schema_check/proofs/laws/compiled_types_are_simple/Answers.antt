use Rattle.schema_check.proofs.CompiledLaws.{set-simple, shaped-set, compiled-simple}
use Rattle.schema_check.proofs.laws.compiled_types_are_simple.Goals as goal

pub returns-clause-set : goal.returns-clause-set
returns-clause-set c =
    set-simple c.names_resolve.ensures.resolved c.components_are_simple.ensures.simple c.components_are_simple.ensures.types c.representations_are_shaped.ensures.shaped
    c.versions_are_shaped.ensures.shaped c.set_types_are_simple.ensures.grown

pub returns-clause-shaped : goal.returns-clause-shaped
returns-clause-shaped c = λ documents start made trees is. shaped-set documents start trees made is

pub returns-clause-compiled : goal.returns-clause-compiled
returns-clause-compiled c =
    compiled-simple c.names_resolve.ensures.resolved c.components_are_simple.ensures.simple c.components_are_simple.ensures.types c.representations_are_shaped.ensures.shaped
    c.versions_are_shaped.ensures.shaped c.set_types_are_simple.ensures.grown
