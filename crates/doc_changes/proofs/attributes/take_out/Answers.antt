use Rattle.std.proofs.Common.{◌==◌, sym, ap, ◌∙◌}
use Rattle.std.specs.List.{position}
use Rattle.std.proofs.lemmas.Bool.{true≢false}
use Rattle.std.proofs.lemmas.List.Quantifiers.{position-Some}
use Rattle.doc_nodes.specs.declared.content.NameAttribute.{NameAttribute}
use Rattle.doc_changes.proofs.Attributing.{unset_is, none_of}
use Rattle.doc_changes.proofs.attributes.take_out.Goals as goal

pub unreachable-requires : goal.unreachable-requires
unreachable-requires c =
    let xs = c.args.attributes.now.items in
    let none = none_of c.args.name xs (ap (position (λ (a : NameAttribute). a.name == c.args.name)) (sym c.as_slice.ensures.value) ∙ sym c.place_of.ensures ∙ c.in-None.is) in
    true≢false (sym c.requires ∙ none)

pub returns : goal.returns
returns c =
    let xs = c.args.attributes.now.items in
    let p = position-Some (λ (a : NameAttribute). a.name == c.args.name) xs c.in-Some.place c.remove.result
    (ap (position (λ (a : NameAttribute). a.name == c.args.name)) (sym c.as_slice.ensures.value) ∙ sym c.place_of.ensures ∙ c.in-Some.is) in
    c.remove.ensures.items ∙ unset_is c.args.name xs c.in-Some.place c.remove.result p.0 p.1 p.2
