use Rattle.std.proofs.Common.{arith}
use Rattle.content_automaton.proofs.Adding.{item_kept, item_there}
use Rattle.content_automaton.proofs.symbols.Symbols.add_space.Goals as goal

pub invariant_of-self-2 : goal.invariant_of-self-2
invariant_of-self-2 c =
    let k = item_kept c.self.inside.spaces c.args.space c.insert.new.self c.self.invariant.3 c.in_ok-insert.ensures.keys (let l = c.if-len-ge-MOST.false in omega arith) in
    (c.self.invariant.0, k.0, c.self.invariant.2, k.1)

pub returns-then-is_some-clause-spaces : goal.returns-then-is_some-clause-spaces
returns-then-is_some-clause-spaces c = rw (← c.self.view_is) (item_there c.self.inside.spaces c.args.space c.get_index_of.result c.get_index_of.ensures.index c.if-is_some.ensures)
