use Rattle.std.proofs.Common.{ap, sym, ◌∙◌, refl}
use Rattle.tree_rows.specs.Forest.{none}
use Rattle.tree_rows.specs.declared.row.Content.TheVariants as rows
use Rattle.doc_nodes.specs.declared.content.Content.TheVariants as contents
use Rattle.doc_changes.proofs.Known.{names_of_tag}
use Rattle.doc_changes.proofs.Spread.{text_node, element_node, named_row}
use Rattle.doc_changes.proofs.spreading.new_node.Goals as goal

pub name_element-requires : goal.name_element-requires
name_element-requires c = named_row c.args.row.now c.in-Element.name c.in-Element.is c.requires.called

pub returns-in_ok-text-in-Chars-clause-node : goal.returns-in_ok-text-in-Chars-clause-node
returns-in_ok-text-in-Chars-clause-node c =
    text_node c.args.names.now (record { number = c.args.row.now.number; content = contents.Chars c.in_ok-text-in-Chars.text }) c.args.row.now c.in_ok-text-in-Chars.text (c.in-Chars.is ∙ ap rows.Chars (sym c.in_ok-text-in-Chars.ensures)) refl refl

pub returns-in_ok-element-in-Element-clause-node : goal.returns-in_ok-element-in-Element-clause-node
returns-in_ok-element-in-Element-clause-node c =
    element_node c.name_element.new.names (record { number = c.args.row.now.number; content = contents.Element c.in_ok-element-in-Element.element }) c.args.row.now c.in-Element.name c.in_ok-element-in-Element.element c.in-Element.is refl refl c.in_ok-element-in-Element.ensures.called

pub returns-in_err-element-in-Element-clause-known : goal.returns-in_err-element-in-Element-clause-known
returns-in_err-element-in-Element-clause-known c = λ h. c.in_err-element-in-Element.ensures.known c.requires.names (names_of_tag c.args.names.now c.args.row.now none c.in-Element.name c.in-Element.is h).0

pub returns-in_ok-element-in-Element-clause-known : goal.returns-in_ok-element-in-Element-clause-known
returns-in_ok-element-in-Element-clause-known c = λ h. c.in_ok-element-in-Element.ensures.known c.requires.names (names_of_tag c.args.names.now c.args.row.now none c.in-Element.name c.in-Element.is h).0
