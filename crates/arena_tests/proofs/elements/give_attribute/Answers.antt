use Rattle.arena_tests.proofs.elements.give_attribute.Goals as goal

pub returns-in-Ok-clause-stands : goal.returns-in-Ok-clause-stands
returns-in-Ok-clause-stands c = let q = c.requires.stands in (_, c.in-Ok.ensures.tree c.args.names.now q.0 q.1 c.requires.name)
