use Rattle.std.proofs.Common.{◌≡◌, drop}
use Rattle.assess_records.specs.Numbered.{scope_in}
use Rattle.elem_governing.proofs.head.scope_in.Given as goal

abbrev pub invariant-loop-binding : goal.invariant-loop-binding
invariant-loop-binding l = record {
  scope : scope_in l.initial.names (drop l.binding-index l.bindings) l.scope ≡ scope_in l.initial.names l.bindings l.outer;
  same : l.names ≡ l.initial.names;
}
