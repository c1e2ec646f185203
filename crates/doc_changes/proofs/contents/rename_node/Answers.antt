use Rattle.std.proofs.Common.{◌≡◌, refl, sym, ◌∙◌, subst}
use Rattle.doc_nodes.specs.Nodes.{Holds}
use Rattle.doc_nodes.specs.declared.content.Content.TheVariants as contents
use Rattle.doc_nodes.specs.declared.content.Element.{Element}
use Rattle.doc_changes.proofs.Holding.{HoldsElement, holds_element, holds_after, renamed_stands}
use Rattle.doc_changes.proofs.contents.rename_node.Goals as goal

same_element : (a b : Element) → contents.Element a ≡ contents.Element b → a ≡ b
same_element a b e = cc e

pub replace-requires : goal.replace-requires
replace-requires c =
    let h = holds_element c.args.links.now c.args.number c.requires in let k = c.take_element-bindings.ensures.left in
    (record h.it { content = contents.Element k.0 }, k.1.here h.it h.is, refl)

pub returns-clause-tree : goal.returns-clause-tree
returns-clause-tree c = λ t d z l.
    let old = c.args.links.now in let n = c.args.number in
    let h = holds_element old n c.requires in let k = c.take_element-bindings.ensures.left in
    let e = c.take_element-bindings.ensures.held h.it h.is in
    let own : HoldsElement old n = record { it = h.it; is = h.is; e = c.take_element-bindings.result; holds = e } in
    renamed_stands t old c.replace.new.self d z n c.args.name own
    (holds_after old c.take_element-bindings.new.links c.replace.new.self n (contents.Element k.0) _ h.it h.is k.1 c.replace.ensures.change) c.replace.ensures.sound l

pub returns-clause-change : goal.returns-clause-change
returns-clause-change c = λ it e i q.
    let old = c.args.links.now in let n = c.args.number in let k = c.take_element-bindings.ensures.left in
    let same = same_element c.take_element-bindings.result e (sym (c.take_element-bindings.ensures.held it i) ∙ q) in
    subst (λ (x : Element). Holds old c.replace.new.self n (contents.Element (record x { name = c.args.name }))) same
    (holds_after old c.take_element-bindings.new.links c.replace.new.self n (contents.Element k.0) _ it i k.1 c.replace.ensures.change)
