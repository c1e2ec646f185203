use Rattle.std.proofs.Common.{◌∙◌, ap, Some}
use Rattle.std.specs.Prelude.{IsSome, nat_eq}
use Rattle.std.specs.HashMap.{get}
use Rattle.particle_forms.proofs.ModelLaws.{part-read}
use Rattle.particle_forms.proofs.MadeLaws.{part-group, term-known}
use Rattle.particle_forms.proofs.NodeLaws.{part-right}
use Rattle.particle_forms.proofs.ordered_nodes.add_part.Goals as goal

pub add_term-requires-clause-group : goal.add_term-requires-clause-group
add_term-requires-clause-group c =
    part-group c.args.parts.now c.requires.ranked c.args.id _ (part-read _ _ c.args.id _ c.particles.ensures.parts c.index-particles-id.is c.requires.there)

pub add_term-requires-clause-known : goal.add_term-requires-clause-known
add_term-requires-clause-known c =
    term-known c.args.parts.now c.requires.ranked c.args.id _ (part-read _ _ c.args.id _ c.particles.ensures.parts c.index-particles-id.is c.requires.there) (λ y. IsSome (get nat_eq c.args.numbers.now y)) c.requires.known

pub returns-clause-right : goal.returns-clause-right
returns-clause-right c =
    part-right c.args.parts.now c.requires.ranked c.args.id c.index-particles-id.result (part-read _ _ c.args.id _ c.particles.ensures.parts c.index-particles-id.is c.requires.there)
    (get nat_eq c.args.numbers.now) (get nat_eq c.insert.new.self) c.args.nodes.now.items c.add_term.new.nodes.items c.add_node.new.nodes.items c.in_ok-term.term c.requires.right c.in_ok-term.ensures
    c.in_ok-number.ensures.nodes (c.in_ok-insert.ensures.updates.1 ∙ ap Some c.in_ok-number.ensures.number) c.in_ok-insert.ensures.updates.2
