use Rattle.std.proofs.Common.{subst}
use Rattle.schema_compile.specs.Outcomes.{IsOutcome}
use Rattle.open_document.proofs.Accepted.{accepted_usable}
use Rattle.open_document.proofs.compiling.take.Goals as goal

pub accept-requires-clause-usable : goal.accept-requires-clause-usable
accept-requires-clause-usable c =
    accepted_usable c.requires.usable.0 c.requires.usable.1 c.in-Accepted.set (subst (IsOutcome c.requires.usable.0 c.requires.usable.1) c.in-Accepted.is c.requires.usable.2)

pub accept-requires-clause-spaced : goal.accept-requires-clause-spaced
accept-requires-clause-spaced c =
    c.wildcards_name_spaces_of_their_table.ensures c.requires.usable.0 c.requires.usable.1 c.in-Accepted.set (subst (IsOutcome c.requires.usable.0 c.requires.usable.1) c.in-Accepted.is c.requires.usable.2)
