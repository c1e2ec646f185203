use Rattle.std.proofs.Common.{◌∙◌}
use Rattle.content_automaton.proofs.Numbering.{numbered_dead, numbered_same, not_empty_set}
use Rattle.content_automaton.proofs.numbers.States.number_in.Goals as goal

pub returns-then-is_empty-clause-ok : goal.returns-then-is_empty-clause-ok
returns-then-is_empty-clause-ok c =
    numbered_dead _ c.args.self.now.sets.keys c.args.set.now.items c.args.set.now.len c.is_empty.result c.requires.few c.is_empty.ensures c.if-is_empty.true c.args.set.now.ok.0

pub look_up-requires-clause-filled : goal.look_up-requires-clause-filled
look_up-requires-clause-filled c =
    not_empty_set c.args.set.now.items c.args.set.now.len c.is_empty.result c.is_empty.ensures c.if-is_empty.false c.args.set.now.ok.0

pub returns-in-Some-clause-ok : goal.returns-in-Some-clause-ok
returns-in-Some-clause-ok c =
    numbered_same (λ state. state.items) c.args.self.now.sets.keys c.args.set.now.items c.in-Some.number c.requires.few c.in-Some.ensures.0 (c.in-Some.ensures.1 ∙ c.deref.ensures.value) c.requires.start
    (not_empty_set c.args.set.now.items c.args.set.now.len c.is_empty.result c.is_empty.ensures c.if-is_empty.false c.args.set.now.ok.0)
