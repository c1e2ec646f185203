use Rattle.forest_keys.proofs.assessed.join_set.Goals as goal

pub join_identity-requires-clause-contents : goal.join_identity-requires-clause-contents
join_identity-requires-clause-contents c = c.requires.usable.judging.contents_are
