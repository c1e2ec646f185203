use Rattle.schema_check.proofs.SimpleLaws.{alike-simple}
use Rattle.schema_check.proofs.ContentLaws.{tables-simple, types-simple}
use Rattle.schema_check.proofs.resolved.components_are_simple.Goals as goal

pub returns-clause-simple : goal.returns-clause-simple
returns-clause-simple c = tables-simple

pub returns-clause-types : goal.returns-clause-types
returns-clause-types c = types-simple

pub returns-clause-alike : goal.returns-clause-alike
returns-clause-alike c = alike-simple
