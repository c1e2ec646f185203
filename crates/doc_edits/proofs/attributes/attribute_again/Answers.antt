use Rattle.std.proofs.Common.{◌≡◌, ◌==◌, length, get_or, List, None, Some, refl, sym, ap, ◌∙◌, arith}
use Rattle.std.specs.List.{position}
use Rattle.std.proofs.lemmas.List.Quantifiers.{position-Some}
use Rattle.doc_changes.specs.Held.{attributes_at}
use Rattle.doc_changes.proofs.Holding.{holds_element}
use Rattle.doc_nodes.specs.declared.content.NameAttribute.{NameAttribute}
use Rattle.doc_edits.proofs.Naming.{few_here}
use Rattle.doc_edits.proofs.Own.{there-place, there-value, absent-place, absent-value}
use Rattle.doc_edits.proofs.attributes.attribute_again.Goals as goal

pub overflow_cast-result : goal.overflow_cast-result
overflow_cast-result c =
    let q = c.requires.stands in
    let few = few_here q.0 c.args.doc.now q.1 q.2 c.args.node c.requires.element in
    let many = ap length c.attributes_of-attributes.ensures in
    let p = position-Some (λ (a : NameAttribute). a.name == c.args.name) c.attributes_of-attributes.result.now c.in-Some.place c.index-attributes-place.result (sym c.place_of.ensures ∙ c.in-Some.is) in
    let within = p.0 in
    omega (arith, few, many, within)

pub overflow_cast-result-in-None : goal.overflow_cast-result-in-None
overflow_cast-result-in-None c =
    let q = c.requires.stands in
    let few = few_here q.0 c.args.doc.now q.1 q.2 c.args.node c.requires.element in
    let many = ap length c.attributes_of-attributes.ensures in
    omega (arith, few, many)

pub returns-in_ok-value-in-Some : goal.returns-in_ok-value-in-Some
returns-in_ok-value-in-Some c = λ t d z l.
    let ns = c.args.doc.now in
    let h = holds_element ns c.args.node c.requires.element in
    let x = c.index-attributes-place.result in
    let is : position (λ (a : NameAttribute). a.name == c.args.name) (attributes_at ns c.args.node) ≡ Some c.in-Some.place =
    ap (position (λ (a : NameAttribute). a.name == c.args.name)) (sym c.attributes_of-attributes.ensures) ∙ sym c.place_of.ensures ∙ c.in-Some.is in
    let value = ap Some c.in_ok-value-in-Some.ensures ∙ ap (λ (xs : List NameAttribute). Some (get_or xs c.in-Some.place x).value) c.attributes_of-attributes.ensures
    ∙ there-value t ns d z c.args.node h c.args.name l c.in-Some.place x is in
    (refl, l, refl, there-place t ns d z c.args.node h c.args.name l c.in-Some.place x is, value)

pub returns-in-None : goal.returns-in-None
returns-in-None c = λ t d z l.
    let ns = c.args.doc.now in
    let h = holds_element ns c.args.node c.requires.element in
    let is : position (λ (a : NameAttribute). a.name == c.args.name) (attributes_at ns c.args.node) ≡ None =
    ap (position (λ (a : NameAttribute). a.name == c.args.name)) (sym c.attributes_of-attributes.ensures) ∙ sym c.place_of.ensures ∙ c.in-None.is in
    (refl, l, refl, ap length c.attributes_of-attributes.ensures ∙ absent-place t ns d z c.args.node h c.args.name l is, absent-value t ns d z c.args.node h c.args.name l is)
