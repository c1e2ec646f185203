use Rattle.std.proofs.lemmas.Result.{on_ok_weaker}
use Rattle.std.specs.List.{flat_map}
use Rattle.identity_constraints.specs.Targets.{element_at, attribute_at}
use Rattle.path_walk.specs.Sight.{seen}
use Rattle.path_walk.specs.inside.Walk.{reached}
use Rattle.path_walk.proofs.Adding.{added_both}
use Rattle.path_walk.proofs.attributes.add_nodes.Goals as goal

pub returns : goal.returns
returns c =
    let names = c.args.set.now.names.now in
    let field = c.args.field.now in
    let way = c.args.way.now in
    let own = seen c.args.own.now in
    on_ok_weaker c.add_attributes.result
    (λ more below. added_both c.args.set.now.parts.now (element_at names field (reached way own below)) (flat_map (attribute_at names field way) own.attributes) c.args.nodes.now c.add_element.new.nodes c.add_attributes.new.nodes
    (c.in_ok-add_element.ensures below) more) c.add_attributes.ensures
