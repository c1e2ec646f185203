use Rattle.std.proofs.Common.{◌≡◌, ◌+◌, ◌∙◌, take, get_or, ap}
use Rattle.std.proofs.lemmas.List.{get_or_default}
use Rattle.assessment.proofs.Walking.{all-states-next, found-next, all-end}
use Rattle.assessment.proofs.all_walk.terms_by_all.Goals as goal

pub loop-name-preserved : goal.loop-name-preserved
loop-name-preserved c =
    let is : c.name-item.result ≡ get_or c.args.children.now c.loop-name.name-index 0 =
    c.name-item.is ∙ get_or_default c.args.children.now c.loop-name.name-index c.name-item.result 0 c.loop-name-test.true in
    record {
      state = all-states-next c.args.names.now c.args.children.now c.loop-name.name-index c.name-item.result c.loop-name-test.true is c.args.automaton.now c.loop-name.state c.in_ok-state.state
          c.loop-name.invariant.state c.in_ok-state.ensures.state;
      count = c.in_ok-state.ensures.count ∙ ap (λ n. n + 1) c.loop-name.invariant.count;
      found = λ s p same kept.
          found-next c.args.names.now c.args.children.now c.loop-name.name-index c.name-item.result c.loop-name-test.true is s p c.take_child.new.found.stuck c.take_child.new.found.terms.items
          (c.in_ok-state.ensures.found s p (take c.loop-name.name-index c.args.children.now) same kept c.loop-name.invariant.state (c.loop-name.invariant.found s p same kept));
    }

pub returns : goal.returns
returns c = λ s p same kept.
    all-end s p c.args.names.now same c.args.children.now c.loop-name.name-index c.loop-name-test.false c.all_accepting.result
    c.loop-name.found.stuck c.note.new.self.stuck c.loop-name.found.terms.items c.note.new.self.terms.items (c.loop-name.invariant.found s p same kept)
    c.note.ensures.stuck c.note.ensures.terms c.args.automaton.now kept c.loop-name.state c.loop-name.invariant.state c.all_accepting.ensures
