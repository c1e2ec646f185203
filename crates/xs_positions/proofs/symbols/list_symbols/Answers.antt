use Rattle.std.proofs.Common.{◌<◌, ◌++◌, Some, length, sym, ap, ◌∙◌, arith}
use Rattle.std.proofs.lemmas.List.Elements.{All-pop}
use Rattle.xs_positions.specs.Tree.{symbols}
use Rattle.xs_positions.specs.Walk.{tree_in}
use Rattle.xs_positions.specs.Listing.{waiting, steps_of}
use Rattle.xs_positions.proofs.Listed.{waiting_push, steps_push, waiting_none}
use Rattle.xs_positions.proofs.symbols.list_symbols.Goals as goal

pub list_node-requires-clause-id : goal.list_node-requires-clause-id
list_node-requires-clause-id c = (All-pop (λ id. id < length c.args.nodes.now) c.loop-id.todo.items c.pop.new.self.items (Some c.in-Some.id) c.in-Some.ensures.items c.loop-id.invariant.known).1

pub loop-id-smaller : goal.loop-id-smaller
loop-id-smaller c =
    let a = c.in_ok-list_node.ensures.less in
    let b = steps_push c.args.nodes.now c.pop.new.self.items c.in-Some.id in
    let e = ap (steps_of c.args.nodes.now) c.in-Some.ensures.items in
    omega arith

pub loop-id-preserved : goal.loop-id-preserved
loop-id-preserved c =
    let step = c.in_ok-list_node.ensures in
    let others = (All-pop (λ id. id < length c.args.nodes.now) c.loop-id.todo.items c.pop.new.self.items (Some c.in-Some.id) c.in-Some.ensures.items c.loop-id.invariant.known).0 in
    let split = ap (waiting c.args.nodes.now) c.in-Some.ensures.items ∙ waiting_push c.args.nodes.now c.pop.new.self.items c.in-Some.id in
    record { known = step.known others; same = step.same ∙ (ap (λ l. c.loop-id.listed.items ++ l) (sym split) ∙ c.loop-id.invariant.same) }

pub returns : goal.returns
returns c =
    waiting_none c.args.nodes.now c.loop-id.listed.items c.loop-id.todo.items (symbols (tree_in c.args.nodes.now c.args.root))
    (omega (arith, c.loop-id.todo.ok.0, c.in_default.ensures.cases.0)) c.loop-id.invariant.same
