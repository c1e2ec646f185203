use Rattle.std.proofs.Common.{◌<◌, List, All, length, map, sym, ap, subst, ◌∙◌}
use Rattle.assess_records.specs.Instance.{instance_text}
use Rattle.assess_records.specs.declared.instance_names.InstanceAttribute.TheVariants.{TypeName}
use Rattle.assess_records.specs.declared.shape.NamedText.{NamedText}
use Rattle.doc_nodes.specs.Nodes.{node}
use Rattle.doc_nodes.specs.declared.content.NameAttribute.{NameAttribute}
use Rattle.doc_readers.specs.Heads.{text_named}
use Rattle.doc_readers.proofs.Shown.{held}
use Rattle.doc_readers.proofs.heads.untyped_name.Goals as goal

pub say_type-requires : goal.say_type-requires
say_type-requires c =
    let kept = held (node c.args.doc.now c.args.node) c.in-Some-Element.element (rw c.in-Some-Element.field-0-is at c.in-Some-Element.ensures.content) in
    subst (λ (l : List NameAttribute). All (λ (a : NamedText). a.name < length c.args.names.now.names) (map text_named l)) (kept.attributes ∙ sym c.as_slice.ensures) c.requires

pub returns-else-say_type-clause-name : goal.returns-else-say_type-clause-name
returns-else-say_type-clause-name c =
    sym (held (node c.args.doc.now c.args.node) c.in-Some-Element.element (rw c.in-Some-Element.field-0-is at c.in-Some-Element.ensures.content)).name

pub returns-else-say_type-clause-untyped : goal.returns-else-say_type-clause-untyped
returns-else-say_type-clause-untyped c =
    let kept = held (node c.args.doc.now c.args.node) c.in-Some-Element.element (rw c.in-Some-Element.field-0-is at c.in-Some-Element.ensures.content) in
    ap (λ (l : List NameAttribute). instance_text c.args.names.now (map text_named l) TypeName) (kept.attributes ∙ sym c.as_slice.ensures) ∙ c.say_type.ensures c.if-say_type.false
