use Rattle.std.proofs.Common.{map, take_all, arith, ap, ◌∙◌}
use Rattle.xs_names.specs.Scope.{prefix_and_space}
use Rattle.xs_names.proofs.ScopeLaws.{all-bindings, xml-before}
use Rattle.xs_names.proofs.scope.Scope.to_bindings.Goals as goal

pub returns : goal.returns
returns c =
    let all = ap (map prefix_and_space) (take_all c.loop-binding.binding-index c.as_slice-held.result.now (omega arith) ∙ c.as_slice-held.ensures.value) in
    rw (← c.self.view_is) (c.loop-binding.invariant ∙ ap xml-before all ∙ all-bindings (map prefix_and_space c.self.inside.bindings.items))
