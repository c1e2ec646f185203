use Rattle.std.proofs.Common.{◌≡◌, length, map, reverse, ap, ◌∙◌}
use Rattle.xs_names.specs.Scope.{prefix_and_space}
use Rattle.tag_names.proofs.NumberedScopes.{spaces_below, by_names}
use Rattle.tag_names.proofs.prefixes.Prefixes.of_scope.Goals as goal

pub bound_by_name-requires : goal.bound_by_name-requires
bound_by_name-requires c =
    let bound : map prefix_and_space c.as_slice.result.now ≡ reverse c.args.scope.now = ap (map prefix_and_space) c.as_slice.ensures.value ∙ c.in_ok-bindings.ensures in
    spaces_below (length c.args.names.now.spaces) c.as_slice.result.now c.args.scope.now bound c.requires

pub returns : goal.returns
returns c =
    let bound : map prefix_and_space c.as_slice.result.now ≡ reverse c.args.scope.now = ap (map prefix_and_space) c.as_slice.ensures.value ∙ c.in_ok-bindings.ensures in
    rw (← by_names c.args.names.now c.as_slice.result.now c.args.scope.now bound) c.bound_by_name.ensures
