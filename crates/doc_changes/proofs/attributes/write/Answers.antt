use Rattle.std.proofs.Common.{◌==◌, sym, ap, ◌∙◌}
use Rattle.std.specs.List.{position}
use Rattle.std.proofs.lemmas.List.Quantifiers.{position-Some}
use Rattle.doc_nodes.specs.declared.content.NameAttribute.{NameAttribute}
use Rattle.doc_changes.proofs.Attributing.{set_is, set_behind, none_of}
use Rattle.doc_changes.proofs.attributes.write.Goals as goal

pub returns-in-Some-clause-ok : goal.returns-in-Some-clause-ok
returns-in-Some-clause-ok c =
    let new : NameAttribute = record { name = c.args.name; value = c.args.value } in let xs = c.args.attributes.now.items in
    let p = position-Some (λ (a : NameAttribute). a.name == c.args.name) xs c.in-Some.place new
    (ap (position (λ (a : NameAttribute). a.name == c.args.name)) (sym c.as_slice.ensures.value) ∙ sym c.place_of.ensures ∙ c.in-Some.is) in
    set_is c.args.name c.args.value xs c.in-Some.place new p.0 p.1 p.2

pub returns-in_ok-push-in-None-clause-ok : goal.returns-in_ok-push-in-None-clause-ok
returns-in_ok-push-in-None-clause-ok c =
    let xs = c.args.attributes.now.items in
    let none = none_of c.args.name xs (ap (position (λ (a : NameAttribute). a.name == c.args.name)) (sym c.as_slice.ensures.value) ∙ sym c.place_of.ensures ∙ c.in-None.is) in
    c.in_ok-push-in-None.ensures.items ∙ sym (set_behind c.args.name c.args.value xs none)
