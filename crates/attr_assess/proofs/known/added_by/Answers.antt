use Rattle.attr_assess.proofs.KnownLaws.{use-known}
use Rattle.attr_assess.proofs.known.added_by.Goals as goal

pub returns-in_ok-judged-in-Some-clause-added : goal.returns-in_ok-judged-in-Some-clause-added
returns-in_ok-judged-in-Some-clause-added c =
    use-known c.args.parts.now c.args.found.now c.in-Some.constraint.now c.in_ok-judged-in-Some.judged c.requires.written c.in-Some.ensures c.in_ok-judged-in-Some.ensures.judged
