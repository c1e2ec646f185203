use Rattle.std.proofs.Common.{◌+◌, arith}
use Rattle.std.specs.Prelude.{nat_lt}
use Rattle.content_automaton.specs.Automaton.{dead_of}
use Rattle.assessment.proofs.Walking.{states-step, lives-by}
use Rattle.assessment.proofs.state_walk.take_child.Goals as goal

pub overflow_add-begins : goal.overflow_add-begins
overflow_add-begins c = let l = c.step-next.ensures.below in let e = c.width-width.ensures in let r = c.width-width.type_inv in omega arith

pub returns-clause-found : goal.returns-clause-found
returns-clause-found c = λ s p children same kept at found.
    states-step s p c.args.names.now same children c.args.name (nat_lt (c.step-next.result + 1) c.width-width.result) c.symbol-symbol.result
    c.args.found.now.stuck c.add.new.self.stuck c.next_term.result c.args.found.now.terms.items c.add.new.self.terms.items found c.in_ok-add.ensures.stuck c.in_ok-add.ensures.terms
    c.args.automaton.now kept c.args.state c.step-next.result at c.symbol-symbol.ensures.symbol c.step-next.ensures.state
    (lives-by c.step-next.result c.width-width.result (dead_of c.args.automaton.now.machine) c.width-width.ensures)
    (λ t q before name known both lives. c.next_term.ensures t q before name known both.0 both.1 lives)
