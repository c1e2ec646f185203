use Rattle.std.proofs.Common.{◌==◌, ℕ, List, Option, Some, sym, ap, ◌∙◌}
use Rattle.std.specs.List.{position}
use Rattle.std.proofs.Math.ListN.{set}
use Rattle.std.proofs.lemmas.List.Quantifiers.{position-Some}
use Rattle.doc_nodes.specs.declared.content.NameAttribute.{NameAttribute}
use Rattle.doc_changes.proofs.Attributing.{set_is, unset_is, none_of}
use Rattle.doc_tree.specs.Changes.{written_number}
use Rattle.doc_tree.proofs.Numbers.{value_is, value_absent, unset_absent, written_there, written_new}
use Rattle.doc_tree.proofs.attributes.write.Goals as goal

pub returns-in-Some-value-clause-ok : goal.returns-in-Some-value-clause-ok
returns-in-Some-value-clause-ok c =
    let xs = c.args.attributes.now.items in
    let p = position-Some (λ (a : NameAttribute). a.name == c.args.name) xs c.in-Some.at c.index_mut.result.now
    (ap (position (λ (a : NameAttribute). a.name == c.args.name)) (sym c.as_slice.ensures.value) ∙ sym c.place_of.ensures ∙ c.in-Some.is) in
    let h = value_is c.args.name xs c.in-Some.at c.index_mut.result.now p.0 p.1 p.2 in
    ap (set xs c.in-Some.at) c.replace-old.ensures.after
    ∙ set_is c.args.name c.in-Some-value.value xs c.in-Some.at c.index_mut.result.now p.0 p.1 p.2
    ∙ sym (written_there c.args.name c.args.place c.in-Some-value.value xs h.1)
    ∙ ap (λ (v : Option (List ℕ)). written_number c.args.name c.args.place v xs) (sym c.in-Some-value.is)

pub returns-in-Some-value-clause-old : goal.returns-in-Some-value-clause-old
returns-in-Some-value-clause-old c =
    let xs = c.args.attributes.now.items in
    let p = position-Some (λ (a : NameAttribute). a.name == c.args.name) xs c.in-Some.at c.index_mut.result.now
    (ap (position (λ (a : NameAttribute). a.name == c.args.name)) (sym c.as_slice.ensures.value) ∙ sym c.place_of.ensures ∙ c.in-Some.is) in
    let h = value_is c.args.name xs c.in-Some.at c.index_mut.result.now p.0 p.1 p.2 in
    ap (λ (a : NameAttribute). Some a.value) (c.replace-old.ensures.value ∙ c.index_mut.ensures.value) ∙ sym h.0

pub returns-in-None-value-clause-ok : goal.returns-in-None-value-clause-ok
returns-in-None-value-clause-ok c =
    let xs = c.args.attributes.now.items in
    let p = position-Some (λ (a : NameAttribute). a.name == c.args.name) xs c.in-Some.at c.remove-old.result
    (ap (position (λ (a : NameAttribute). a.name == c.args.name)) (sym c.as_slice.ensures.value) ∙ sym c.place_of.ensures ∙ c.in-Some.is) in
    c.remove-old.ensures.items ∙ unset_is c.args.name xs c.in-Some.at c.remove-old.result p.0 p.1 p.2 ∙ ap (λ (v : Option (List ℕ)). written_number c.args.name c.args.place v xs) (sym c.in-None-value.is)

pub returns-in-None-value-clause-old : goal.returns-in-None-value-clause-old
returns-in-None-value-clause-old c =
    let xs = c.args.attributes.now.items in
    let p = position-Some (λ (a : NameAttribute). a.name == c.args.name) xs c.in-Some.at c.remove-old.result
    (ap (position (λ (a : NameAttribute). a.name == c.args.name)) (sym c.as_slice.ensures.value) ∙ sym c.place_of.ensures ∙ c.in-Some.is) in
    let h = value_is c.args.name xs c.in-Some.at c.remove-old.result p.0 p.1 p.2 in
    ap (λ (a : NameAttribute). Some a.value) c.remove-old.ensures.value ∙ sym h.0

pub returns-in_ok-insert-in-Some-value-2-clause-ok : goal.returns-in_ok-insert-in-Some-value-2-clause-ok
returns-in_ok-insert-in-Some-value-2-clause-ok c =
    let xs = c.args.attributes.now.items in
    let none = none_of c.args.name xs (ap (position (λ (a : NameAttribute). a.name == c.args.name)) (sym c.as_slice.ensures.value) ∙ sym c.place_of.ensures ∙ c.in-None.is) in
    c.in_ok-insert-in-Some-value-2.ensures.items ∙ sym (written_new c.args.name c.args.place c.in-Some-value-2.value xs none) ∙ ap (λ (v : Option (List ℕ)). written_number c.args.name c.args.place v xs) (sym c.in-Some-value-2.is)

pub returns-in_ok-insert-in-Some-value-2-clause-old : goal.returns-in_ok-insert-in-Some-value-2-clause-old
returns-in_ok-insert-in-Some-value-2-clause-old c =
    let xs = c.args.attributes.now.items in
    let none = none_of c.args.name xs (ap (position (λ (a : NameAttribute). a.name == c.args.name)) (sym c.as_slice.ensures.value) ∙ sym c.place_of.ensures ∙ c.in-None.is) in
    sym (value_absent c.args.name xs none)

pub returns-in-None-value-2-clause-ok : goal.returns-in-None-value-2-clause-ok
returns-in-None-value-2-clause-ok c =
    let xs = c.args.attributes.now.items in
    let none = none_of c.args.name xs (ap (position (λ (a : NameAttribute). a.name == c.args.name)) (sym c.as_slice.ensures.value) ∙ sym c.place_of.ensures ∙ c.in-None.is) in
    sym (unset_absent c.args.name xs none) ∙ ap (λ (v : Option (List ℕ)). written_number c.args.name c.args.place v xs) (sym c.in-None-value-2.is)

pub returns-in-None-value-2-clause-old : goal.returns-in-None-value-2-clause-old
returns-in-None-value-2-clause-old c =
    let xs = c.args.attributes.now.items in
    let none = none_of c.args.name xs (ap (position (λ (a : NameAttribute). a.name == c.args.name)) (sym c.as_slice.ensures.value) ∙ sym c.place_of.ensures ∙ c.in-None.is) in
    sym (value_absent c.args.name xs none)
