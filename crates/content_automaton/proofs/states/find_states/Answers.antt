use Rattle.std.proofs.Common.{length, ap, arith}
use Rattle.content_automaton.proofs.Building.{start_alone, start_few}
use Rattle.content_automaton.proofs.states.find_states.Goals as goal

pub loop-state-init : goal.loop-state-init
loop-state-init c =
    let table = c.args.form.now.table in
    let keys = c.in_ok-states.states.sets.keys in
    let alone = c.in_ok-states.ensures in
    let none = ap length c.new-cells.ensures.items in
    let one = start_few table c.args.accepted.now c.args.symbols (λ state. state.items) keys alone in
    record {
      states = start_alone table c.args.accepted.now c.args.symbols (λ state. state.items) keys alone;
      few = omega (arith, one);
      sets = c.in_ok-sets.ensures;
      here = omega (arith, one);
      steps = λ s n l m. absurd (omega (arith, m, none));
      cells = omega (arith, none);
    }
