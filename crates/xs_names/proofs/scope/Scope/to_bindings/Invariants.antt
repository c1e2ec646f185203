use Rattle.std.proofs.Common.{◌≡◌, ◌∷◌, codes, take, map}
use Rattle.xs_names.specs.Scope.{prefix_and_space}
use Rattle.xs_names.proofs.scope.Scope.to_bindings.Given as goal

abbrev pub invariant-loop-binding : goal.invariant-loop-binding
invariant-loop-binding l = map prefix_and_space l.all.items ≡ (codes "xml", 1) ∷ map prefix_and_space (take l.binding-index l.held)
