use Rattle.std.proofs.Common.{◌≡◌, map, take, reverse}
use Rattle.xs_names.specs.Scope.{prefix_and_space}
use Rattle.tag_names.specs.Scopes.{binding_in}
use Rattle.tag_names.proofs.prefixes.bound_by_name.Given as goal

abbrev pub invariant-loop-bound : goal.invariant-loop-bound
invariant-loop-bound l = l.scope ≡ map (λ bound. binding_in l.names (prefix_and_space bound)) (reverse (take l.bound-index l.bindings))
