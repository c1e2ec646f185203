use Rattle.std.proofs.Common.{List, sym, ap, ◌∙◌, subst}
use Rattle.std.proofs.lemmas.Result.{on_ok_weaker, on_err_weaker}
use Rattle.doc_nodes.specs.Nodes.{Holds}
use Rattle.doc_nodes.specs.declared.content.Content.TheVariants as contents
use Rattle.doc_nodes.specs.declared.content.NameAttribute.{NameAttribute}
use Rattle.doc_changes.specs.Held.{set_number}
use Rattle.doc_changes.proofs.Attributed.{set_stands, same_nodes}
use Rattle.doc_changes.proofs.Holding.{HoldsElement, holds_element, holds_after}
use Rattle.doc_changes.proofs.attributes.set_attribute.Goals as goal

pub returns-clause-tree : goal.returns-clause-tree
returns-clause-tree c =
    let old = c.args.links.now in let new = c.replace.new.self in let n = c.args.number in
    let h = holds_element old n c.requires.element in let k = c.take_element-own.ensures.left in let e = c.take_element-own.result in
    let own : HoldsElement old n = record { it = h.it; is = h.is; e = e; holds = c.take_element-own.ensures.held h.it h.is } in
    on_ok_weaker c.write-written.result (λ w t d z l.
    let are = c.from_vec.ensures ∙ w ∙ ap (set_number c.args.name c.args.value) c.into_vec-items.ensures in
    set_stands t old new d z n c.args.name own c.replace.ensures.sound l c.args.value c.requires.room
    (subst (λ (xs : List NameAttribute). Holds old new n (contents.Element (record e { attributes = xs }))) are
    (holds_after old c.take_element-own.new.links new n (contents.Element k.0) _ h.it h.is k.1 c.replace.ensures.change))) c.write-written.ensures.ok

pub returns-clause-err : goal.returns-clause-err
returns-clause-err c =
    let old = c.args.links.now in let new = c.replace.new.self in let n = c.args.number in
    let h = holds_element old n c.requires.element in let k = c.take_element-own.ensures.left in let e = c.take_element-own.result in
    on_err_weaker c.write-written.result (λ w.
    let are = c.from_vec.ensures ∙ w ∙ c.into_vec-items.ensures in
    same_nodes old new n h.it h.is
    (subst (Holds old new n) (ap (λ (xs : List NameAttribute). contents.Element (record e { attributes = xs })) are ∙ sym (c.take_element-own.ensures.held h.it h.is))
    (holds_after old c.take_element-own.new.links new n (contents.Element k.0) _ h.it h.is k.1 c.replace.ensures.change))) c.write-written.ensures.err
