use Rattle.build_components.proofs.ClosedLaws.{tables-closed, tables-there, contents-none}
use Rattle.build_components.proofs.laws.tables_are_closed.Goals as goal

pub returns-clause-closed : goal.returns-clause-closed
returns-clause-closed c = tables-closed

pub returns-clause-none : goal.returns-clause-none
returns-clause-none c = contents-none

pub returns-clause-there : goal.returns-clause-there
returns-clause-there c = tables-there
