use Rattle.xs_regex.proofs.program.Program.is_done.Goals as goal

pub returns-in-Some : goal.returns-in-Some
returns-in-Some c = λ t. (c.in-Some.q, c.in-Some.is, c.follow_alike.ensures t)
