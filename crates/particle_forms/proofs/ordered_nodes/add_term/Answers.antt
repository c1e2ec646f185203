use Rattle.std.proofs.Common.{◌∙◌, ap, map, inl, inr}
use Rattle.std.specs.Prelude.{nat_eq}
use Rattle.std.specs.HashMap.{get}
use Rattle.particle_forms.specs.Models.{term_model, model_of}
use Rattle.particle_forms.specs.Made.{number_at}
use Rattle.particle_forms.proofs.NodeLaws.{added-leaf, added-sequence, added-choice, added-all, added-none}
use Rattle.particle_forms.proofs.ordered_nodes.add_term.Goals as goal

pub returns-in-None : goal.returns-in-None
returns-in-None c =
    added-none c.args.parts.now (get nat_eq c.args.numbers.now) c.args.nodes.now.items c.requires.right c.args.id c.args.term.now c.requires.known c.add_node.result c.add_node.new.nodes.items
    c.in-Group.group c.group.result.now c.new.result c.in-Group.is c.group.ensures.part c.in-None.is c.new.ensures c.add_node.ensures.number c.add_node.ensures.nodes

pub returns-in_ok-below-in-Sequence : goal.returns-in_ok-below-in-Sequence
returns-in_ok-below-in-Sequence c =
    added-sequence c.args.parts.now (get nat_eq c.args.numbers.now) c.args.nodes.now.items c.requires.right c.args.id c.args.term.now c.requires.known c.add_node-in-Sequence.result c.add_node-in-Sequence.new.nodes.items
    c.in-Sequence.members c.in_ok-below-in-Sequence.below c.in-Sequence.is (c.in_ok-below-in-Sequence.ensures ∙ ap (map (number_at (get nat_eq c.args.numbers.now))) c.as_slice.ensures)
    c.add_node-in-Sequence.ensures.number c.add_node-in-Sequence.ensures.nodes

pub returns-in_ok-below-in-Choice : goal.returns-in_ok-below-in-Choice
returns-in_ok-below-in-Choice c =
    added-choice c.args.parts.now (get nat_eq c.args.numbers.now) c.args.nodes.now.items c.requires.right c.args.id c.args.term.now c.requires.known c.add_node-in-Choice.result c.add_node-in-Choice.new.nodes.items
    c.in-Choice.members c.in_ok-below-in-Choice.below c.in-Choice.is (c.in_ok-below-in-Choice.ensures ∙ ap (map (number_at (get nat_eq c.args.numbers.now))) c.as_slice-in-Choice.ensures)
    c.add_node-in-Choice.ensures.number c.add_node-in-Choice.ensures.nodes

pub returns-in_ok-below-in-All : goal.returns-in_ok-below-in-All
returns-in_ok-below-in-All c =
    added-all c.args.parts.now (get nat_eq c.args.numbers.now) c.args.nodes.now.items c.requires.right c.args.id c.args.term.now c.requires.known c.add_node-in-All.result c.add_node-in-All.new.nodes.items
    c.in-All.members c.in_ok-below-in-All.below c.in-All.is (c.in_ok-below-in-All.ensures ∙ ap (map (number_at (get nat_eq c.args.numbers.now))) c.as_slice-in-All.ensures)
    c.add_node-in-All.ensures.number c.add_node-in-All.ensures.nodes

pub returns-in-Element : goal.returns-in-Element
returns-in-Element c =
    added-leaf c.args.parts.now (get nat_eq c.args.numbers.now) c.args.nodes.now.items c.requires.right c.args.id c.args.term.now c.requires.known c.add_node-in-Element.result c.add_node-in-Element.new.nodes.items
    (elim c.in-Element.is [ inl e ↦ ap (term_model c.args.parts.now (model_of c.args.parts.now) c.args.id) e.1 | inr e ↦ ap (term_model c.args.parts.now (model_of c.args.parts.now) c.args.id) e.1 ])
    c.add_node-in-Element.ensures.number c.add_node-in-Element.ensures.nodes
