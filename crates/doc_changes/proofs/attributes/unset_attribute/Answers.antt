use Rattle.std.proofs.Common.{◌≡◌, ◌<◌, List, length, true, sym, ap, ◌∙◌, subst}
use Rattle.doc_nodes.specs.Nodes.{Holds}
use Rattle.doc_nodes.specs.declared.content.Content.TheVariants as contents
use Rattle.doc_nodes.specs.declared.content.NameAttribute.{NameAttribute}
use Rattle.doc_changes.specs.Held.{has_number, unset_number}
use Rattle.doc_changes.proofs.Attributed.{known_of, attributes_held, has_within, holds_attribute, unset_stands}
use Rattle.doc_changes.proofs.Holding.{HoldsElement, holds_after}
use Rattle.doc_changes.proofs.attributes.unset_attribute.Goals as goal

pub returns-clause-tree : goal.returns-clause-tree
returns-clause-tree c = λ t d z.
    let old = c.args.links.now in let new = c.replace.new.self in let n = c.args.number in let name = c.args.name in
    let h = holds_attribute old n name c.requires in let k = c.take_element-own.ensures.left in let e = c.take_element-own.result in
    let own : HoldsElement old n = record { it = h.it; is = h.is; e = e; holds = c.take_element-own.ensures.held h.it h.is } in
    let has : has_number name e.attributes ≡ true = sym (ap (has_number name) (attributes_held old n own)) ∙ c.requires in
    let within = has_within (λ m. m < length t.names) name e.attributes has (known_of t old d z n own).attributes in
    let are = c.from_vec.ensures ∙ c.take_out.ensures ∙ ap (unset_number name) c.into_vec-items.ensures in
    unset_stands t old new d z n name own c.replace.ensures.sound within
    (subst (λ (xs : List NameAttribute). Holds old new n (contents.Element (record e { attributes = xs }))) are
    (holds_after old c.take_element-own.new.links new n (contents.Element k.0) _ h.it h.is k.1 c.replace.ensures.change))
