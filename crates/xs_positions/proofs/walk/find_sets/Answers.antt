use Rattle.std.proofs.Common.{◌≡◌, ◌<◌, ◌∷◌, [], reverse, refl, ap, ◌∙◌, arith}
use Rattle.std.proofs.lemmas.List.{reverse-append, nil_from_length}
use Rattle.xs_positions.specs.Walk.{tree_in}
use Rattle.xs_positions.specs.declared.walk.Walk.{Walk}
use Rattle.xs_positions.proofs.Tasks.{work, can_do, does_stand, does_less, stands_first, stands_last}
use Rattle.xs_positions.proofs.walk.find_sets.Goals as goal

pub loop-task-init : goal.loop-task-init
loop-task-init c = rw (c.in_ok-vec.ensures.items, c.new.ensures.items) (stands_first c.args.nodes.now (tree_in c.args.nodes.now c.args.root) c.requires.measured.ordered c.args.root c.requires.root refl)

pub step-requires-clause-can : goal.step-requires-clause-can
step-requires-clause-can c =
    let old : Walk = record { alloc = c.loop-task.walk.alloc; tasks = c.pop.new.self; found = c.loop-task.walk.found; count = c.loop-task.walk.count } in
    let e : reverse c.loop-task.walk.tasks.items ≡ c.in-Some.task ∷ reverse c.pop.new.self.items = ap reverse c.in-Some.ensures.items ∙ reverse-append c.pop.new.self.items (c.in-Some.task ∷ []) in
    can_do c.args.nodes.now (tree_in c.args.nodes.now c.args.root) c.requires.measured.ordered c.in-Some.task old c.requires.fits (rw e at c.loop-task.invariant)

pub loop-task-preserved : goal.loop-task-preserved
loop-task-preserved c =
    let old : Walk = record { alloc = c.loop-task.walk.alloc; tasks = c.pop.new.self; found = c.loop-task.walk.found; count = c.loop-task.walk.count } in
    let e : reverse c.loop-task.walk.tasks.items ≡ c.in-Some.task ∷ reverse c.pop.new.self.items = ap reverse c.in-Some.ensures.items ∙ reverse-append c.pop.new.self.items (c.in-Some.task ∷ []) in
    does_stand c.args.nodes.now (tree_in c.args.nodes.now c.args.root) c.requires.measured.ordered c.in-Some.task old c.step.new.self (rw e at c.loop-task.invariant) c.in_ok-step.ensures

pub loop-task-smaller : goal.loop-task-smaller
loop-task-smaller c =
    let old : Walk = record { alloc = c.loop-task.walk.alloc; tasks = c.pop.new.self; found = c.loop-task.walk.found; count = c.loop-task.walk.count } in
    let e : reverse c.loop-task.walk.tasks.items ≡ c.in-Some.task ∷ reverse c.pop.new.self.items = ap reverse c.in-Some.ensures.items ∙ reverse-append c.pop.new.self.items (c.in-Some.task ∷ []) in
    let can = can_do c.args.nodes.now (tree_in c.args.nodes.now c.args.root) c.requires.measured.ordered c.in-Some.task old c.requires.fits (rw e at c.loop-task.invariant) in
    let less : work c.args.nodes.now c.step.new.self.tasks.items < work c.args.nodes.now c.loop-task.walk.tasks.items =
    rw c.in-Some.ensures.items (does_less c.args.nodes.now c.requires.measured.ordered c.in-Some.task old c.step.new.self can c.in_ok-step.ensures) in
    less

pub swap_remove-requires : goal.swap_remove-requires
swap_remove-requires c =
    let none = nil_from_length c.loop-task.walk.tasks.items (omega (arith, c.loop-task.walk.tasks.ok.0, c.in_default.ensures.cases.0)) in
    let some = (stands_last c.args.nodes.now (tree_in c.args.nodes.now c.args.root) c.requires.measured.ordered c.loop-task.walk.found.items c.loop-task.walk.count (rw none at c.loop-task.invariant)).0 in
    omega (arith, c.loop-task.walk.found.ok.0)

pub returns : goal.returns
returns c =
    let none = nil_from_length c.loop-task.walk.tasks.items (omega (arith, c.loop-task.walk.tasks.ok.0, c.in_default.ensures.cases.0)) in
    (stands_last c.args.nodes.now (tree_in c.args.nodes.now c.args.root) c.requires.measured.ordered c.loop-task.walk.found.items c.loop-task.walk.count (rw none at c.loop-task.invariant)).1
    c.swap_remove.result c.swap_remove.ensures.value
