use Rattle.attr_assess.proofs.known.KnownUses.of.Goals as goal

pub returns-clause-known : goal.returns-clause-known
returns-clause-known c = record { types = c.in_ok-of_types.ensures.known; groups = c.in_ok-of_groups.ensures.known }
