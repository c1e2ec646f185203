use Rattle.doc_edits.specs.declared.change.Change.TheVariants as changes
use Rattle.doc_edits.proofs.Making.{can_same, made_same, nodes_same}
use Rattle.doc_edits.proofs.change.make_change.Goals as goal

pub insert-requires : goal.insert-requires
insert-requires c =
    let q = c.requires.can in
    let can = can_same _ (changes.Insert c.in-Insert.parent c.in-Insert.index c.in-Insert.part) c.in-Insert.is c.args.names.now c.args.doc.now q.0 q.2 in
    record { fits = (q.0, q.1, can.0) }

pub returns-in_ok-add_text-in-AddText-clause-made : goal.returns-in_ok-add_text-in-AddText-clause-made
returns-in_ok-add_text-in-AddText-clause-made c =
    made_same _ (changes.AddText c.in-AddText.parent c.in-AddText.index c.in-AddText.text) c.in-AddText.is c.args.names.now c.args.names.now c.args.doc.now c.add_text.new.self
    (λ d z. c.in_ok-add_text-in-AddText.ensures.tree c.args.names.now d z)

pub returns-in_ok-add_text-in-AddText-clause-nodes : goal.returns-in_ok-add_text-in-AddText-clause-nodes
returns-in_ok-add_text-in-AddText-clause-nodes c =
    nodes_same _ (changes.AddText c.in-AddText.parent c.in-AddText.index c.in-AddText.text) c.in-AddText.is c.args.names.now c.args.doc.now c.add_text.new.self
    (c.in_ok-add_text-in-AddText.ensures.change c.args.names.now)

pub returns-in-SetText-clause-made : goal.returns-in-SetText-clause-made
returns-in-SetText-clause-made c =
    made_same _ (changes.SetText c.in-SetText.node c.in-SetText.text) c.in-SetText.is c.args.names.now c.args.names.now c.args.doc.now c.set_text.new.self
    (λ d z. c.set_text.ensures.tree c.args.names.now d z)

pub returns-in-Remove-clause-made : goal.returns-in-Remove-clause-made
returns-in-Remove-clause-made c =
    made_same _ (changes.Remove c.in-Remove.node) c.in-Remove.is c.args.names.now c.args.names.now c.args.doc.now c.remove.new.self
    (λ d z. c.remove.ensures.tree c.args.names.now d z)

pub returns-in-Remove-clause-nodes : goal.returns-in-Remove-clause-nodes
returns-in-Remove-clause-nodes c =
    nodes_same _ (changes.Remove c.in-Remove.node) c.in-Remove.is c.args.names.now c.args.doc.now c.remove.new.self
    (c.remove.ensures.change c.args.names.now)

pub returns-in-UnsetAttr-clause-made : goal.returns-in-UnsetAttr-clause-made
returns-in-UnsetAttr-clause-made c =
    made_same _ (changes.UnsetAttr c.in-UnsetAttr.node c.in-UnsetAttr.name) c.in-UnsetAttr.is c.args.names.now c.args.names.now c.args.doc.now c.unset_attr.new.self
    (λ d z. c.unset_attr.ensures.tree c.args.names.now d z)
