use Rattle.std.proofs.Common.{◌++◌, map, ◌∙◌}
use Rattle.path_walk.specs.Sight.{seen}
use Rattle.path_walk.specs.inside.Walk.{reached}
use Rattle.scope_targets.specs.Found.{targeting_of}
use Rattle.scope_targets.specs.Targetings.{targetings_for}
use Rattle.scope_targets.proofs.Upwards.{in-front}
use Rattle.scope_targets.proofs.targetings.add_scope.Goals as goal

pub returns-clause-way : goal.returns-clause-way
returns-clause-way g c = c.in_ok-insert.ensures.items ∙ in-front c.args.way.now.items (seen c.args.scope.now).name

pub returns-clause-found : goal.returns-clause-found
returns-clause-found g c = λ own below next at.
    let set = c.args.set.now in
    c.in_ok-add_targets.ensures own below next at
    ∙ (λ i.
    map targeting_of c.args.found.now.items
    ++ targetings_for set.names.now set.parts.now set.identities.now c.args.scope.now.number (c.constraints_of-constraints.ensures i) (reached (c.as_slice.ensures.value i) own below))
