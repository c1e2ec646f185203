use Rattle.std.proofs.Common.{◌<◌, ◌∙◌, List, ℕ, sym, ap, subst}
use Rattle.particle_models.specs.Numbering.{State, outcome, IsTaskWithin, weight_of}
use Rattle.particle_models.specs.declared.numbering.Task.TheVariants.{Enter, Copy}
use Rattle.particle_models.proofs.Walking.{popped_outcome, popped_weight, popped_within, root_fits, copy_less}
use Rattle.particle_models.proofs.numbering.number_terms.Goals as goal

pub enter-requires-clause-fits : goal.enter-requires-clause-fits
enter-requires-clause-fits c =
    root_fits c.args.nodes.now c.args.root _ (popped_outcome c.args.nodes.now c.loop-task.todo.items c.pop.new.self.items (Enter c.in-Enter.id) (rw c.in-Enter.is at c.in-Some.ensures.items) c.loop-task.numbering _ c.loop-task.invariant.outcome)
    c.requires.fits

pub loop-task-smaller-in-Continue-branch-2 : goal.loop-task-smaller-in-Continue-branch-2
loop-task-smaller-in-Continue-branch-2 c =
    subst (λ (k : ℕ). weight_of c.args.nodes.now c.enter.new.todo.items < k) (sym (popped_weight c.args.nodes.now c.loop-task.todo.items c.pop.new.self.items (Enter c.in-Enter.id) (rw c.in-Enter.is at c.in-Some.ensures.items)))
    c.in_ok-enter-in-Enter.ensures.weight

pub loop-task-preserved-in-Continue-branch-2 : goal.loop-task-preserved-in-Continue-branch-2
loop-task-preserved-in-Continue-branch-2 c = record {
  within = c.in_ok-enter-in-Enter.ensures.todo;
  outcome = c.in_ok-enter-in-Enter.ensures.outcome ∙
      popped_outcome c.args.nodes.now c.loop-task.todo.items c.pop.new.self.items (Enter c.in-Enter.id) (rw c.in-Enter.is at c.in-Some.ensures.items) c.loop-task.numbering _ c.loop-task.invariant.outcome;
}

pub loop-task-smaller : goal.loop-task-smaller
loop-task-smaller c =
    copy_less c.args.nodes.now c.loop-task.todo.items c.pop.new.self.items c.in-Copy.from c.in-Copy.more (rw c.in-Copy.is at c.in-Some.ensures.items)

pub loop-task-preserved : goal.loop-task-preserved
loop-task-preserved c = record {
  within = popped_within c.args.nodes.now c.loop-task.todo.items c.pop.new.self.items (Copy c.in-Copy.from c.in-Copy.more) (rw c.in-Copy.is at c.in-Some.ensures.items) (IsTaskWithin c.args.nodes.now) c.loop-task.invariant.within;
  outcome = ap (λ (ns : List ℕ). outcome c.args.nodes.now c.pop.new.self.items (let s : State = record { numbers = ns; terms = c.numbering-in-Copy.inside.terms.items } in s)) c.in_ok-say_again-in-Copy.ensures ∙
      popped_outcome c.args.nodes.now c.loop-task.todo.items c.pop.new.self.items (Copy c.in-Copy.from c.in-Copy.more) (rw c.in-Copy.is at c.in-Some.ensures.items)
      (let s : State = record { numbers = c.numbering-in-Copy.inside.numbers.items; terms = c.numbering-in-Copy.inside.terms.items } in s) _
      (ap (outcome c.args.nodes.now c.loop-task.todo.items) c.numbering-in-Copy.view_is ∙ c.loop-task.invariant.outcome);
}
