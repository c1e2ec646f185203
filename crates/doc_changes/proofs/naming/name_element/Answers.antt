use Rattle.std.proofs.Common.{◌≡◌, sym, ◌∙◌, subst}
use Rattle.xs_names.proofs.GrownLaws.{Grown-trans}
use Rattle.plain_tree.specs.Found.{HasBindings, HasAttributes}
use Rattle.doc_nodes.specs.declared.content.Element.{Element}
use Rattle.doc_changes.proofs.PlantedNames.{called}
use Rattle.doc_changes.proofs.naming.name_element.Goals as goal

pub returns-in_err-bindings-clause-grown : goal.returns-in_err-bindings-clause-grown
returns-in_err-bindings-clause-grown c = Grown-trans c.args.names.now c.name_id.new.names c.name_bindings.new.names c.name_id.ensures.grown c.name_bindings.ensures.grown

pub returns-in_err-attributes-clause-grown : goal.returns-in_err-attributes-clause-grown
returns-in_err-attributes-clause-grown c =
    Grown-trans c.args.names.now c.name_bindings.new.names c.name_attributes.new.names
    (Grown-trans c.args.names.now c.name_id.new.names c.name_bindings.new.names c.name_id.ensures.grown c.name_bindings.ensures.grown) c.name_attributes.ensures.grown

pub returns-clause-grown : goal.returns-clause-grown
returns-clause-grown c =
    Grown-trans c.args.names.now c.name_bindings.new.names c.name_attributes.new.names
    (Grown-trans c.args.names.now c.name_id.new.names c.name_bindings.new.names c.name_id.ensures.grown c.name_bindings.ensures.grown) c.name_attributes.ensures.grown

pub returns-clause-called : goal.returns-clause-called
returns-clause-called c =
    let row = c.args.row.now in
    let e : Element = record { name = c.in_ok-number.number; bindings = c.in_ok-bindings.bindings; attributes = c.in_ok-attributes.attributes } in
    called c.name_id.new.names c.name_bindings.new.names c.name_attributes.new.names e c.args.name.now row.bindings row.attributes
    c.name_id.ensures.sound c.name_bindings.ensures.sound c.in_ok-number.ensures.name c.in_ok-number.ensures.within c.name_bindings.ensures.grown
    (rw c.as_slice.ensures at c.in_ok-bindings.ensures.named) c.name_attributes.ensures.grown (rw c.as_slice-2.ensures at c.in_ok-attributes.ensures.named)

pub returns-in_err-number-clause-known : goal.returns-in_err-number-clause-known
returns-in_err-number-clause-known c = λ sound h. c.name_id.ensures.known sound h.own

pub returns-in_err-bindings-clause-known : goal.returns-in_err-bindings-clause-known
returns-in_err-bindings-clause-known c = λ sound h.
    let t = c.args.names.now in let row = c.args.row.now in
    let a = c.name_id.ensures.known sound h.own in
    let b = c.name_bindings.ensures.known (subst (λ l. HasBindings c.name_id.new.names l) (sym c.as_slice.ensures) (subst (λ u. HasBindings u row.bindings) (sym a) h.spaces)) in
    b ∙ a

pub returns-in_err-attributes-clause-known : goal.returns-in_err-attributes-clause-known
returns-in_err-attributes-clause-known c = λ sound h.
    let t = c.args.names.now in let row = c.args.row.now in
    let a = c.name_id.ensures.known sound h.own in
    let b = c.name_bindings.ensures.known (subst (λ l. HasBindings c.name_id.new.names l) (sym c.as_slice.ensures) (subst (λ u. HasBindings u row.bindings) (sym a) h.spaces)) in
    c.name_attributes.ensures.known (subst (λ l. HasAttributes c.name_bindings.new.names l) (sym c.as_slice-2.ensures) (subst (λ u. HasAttributes u row.attributes) (sym (b ∙ a)) h.names)) ∙ b ∙ a

pub returns-clause-known : goal.returns-clause-known
returns-clause-known c = λ sound h.
    let t = c.args.names.now in let row = c.args.row.now in
    let a = c.name_id.ensures.known sound h.own in
    let b = c.name_bindings.ensures.known (subst (λ l. HasBindings c.name_id.new.names l) (sym c.as_slice.ensures) (subst (λ u. HasBindings u row.bindings) (sym a) h.spaces)) in
    c.name_attributes.ensures.known (subst (λ l. HasAttributes c.name_bindings.new.names l) (sym c.as_slice-2.ensures) (subst (λ u. HasAttributes u row.attributes) (sym (b ∙ a)) h.names)) ∙ b ∙ a
