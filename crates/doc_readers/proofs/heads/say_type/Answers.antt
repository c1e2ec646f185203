use Rattle.std.proofs.Common.{◌<◌, length, map, ap, subst, sym, ◌∙◌}
use Rattle.std.proofs.lemmas.List.{get_or-map, length-map}
use Rattle.std.proofs.lemmas.List.Elements.{All-get_or}
use Rattle.assess_records.specs.declared.shape.NamedText.{NamedText}
use Rattle.doc_readers.specs.Heads.{text_named}
use Rattle.doc_readers.proofs.heads.say_type.Goals as goal

pub is_named-requires : goal.is_named-requires
is_named-requires c =
    let attributes = c.args.attributes.now in
    let i = c.loop-attribute.attribute-index in
    let it = c.attribute-item.result in
    let within = c.loop-attribute-test.true in
    let known = λ (a : NamedText). a.name < length c.args.names.now.names in
    subst known (get_or-map text_named attributes i it (text_named it) within ∙ ap text_named (sym c.attribute-item.is))
    (All-get_or known (map text_named attributes) i (text_named it) (subst (λ n. i < n) (sym (length-map attributes text_named)) within) c.requires)
