use Rattle.std.proofs.Common.{sym, ap, ◌∙◌}
use Rattle.xs_names.proofs.ScopeLaws.{found_number, binding-found, binding-first}
use Rattle.xs_names.proofs.scope.Scope.binding.Goals as goal

pub returns-in-None : goal.returns-in-None
returns-in-None c =
    rw (← c.self.view_is)
    (c.first_binding.ensures ∙ sym (binding-first c.args.prefix.now c.self.inside.bindings.items (sym (ap found_number (rw c.deref.ensures.value at c.in-None.ensures)))))

pub returns-in-Some : goal.returns-in-Some
returns-in-Some c =
    rw (← c.self.view_is)
    (sym (binding-found c.args.prefix.now c.self.inside.bindings.items _ (sym (ap found_number (rw c.deref.ensures.value at c.in-Some.ensures)))))
