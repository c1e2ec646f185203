use Rattle.arena_tests.proofs.elements.give_name.Goals as goal

pub returns : goal.returns
returns c = let q = c.requires.stands in (_, c.rename.ensures.tree c.args.names.now q.0 q.1 c.requires.name)
