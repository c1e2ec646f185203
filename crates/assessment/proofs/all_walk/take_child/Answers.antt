use Rattle.std.specs.Prelude.{not}
use Rattle.assessment.proofs.Walking.{all-step, lives-not}
use Rattle.assessment.proofs.all_walk.take_child.Goals as goal

pub returns-clause-found : goal.returns-clause-found
returns-clause-found c = λ s p children same kept at found.
    all-step s p c.args.names.now same children c.args.name (not c.step-next.result.dead) c.symbol-symbol.result
    c.args.found.now.stuck c.add.new.self.stuck c.next_term.result c.args.found.now.terms.items c.add.new.self.terms.items found c.in_ok-add.ensures.stuck c.in_ok-add.ensures.terms
    c.args.automaton.now kept c.args.state c.step-next.result at c.symbol-symbol.ensures.symbol c.step-next.ensures (lives-not c.step-next.result.dead) c.next_term.ensures
