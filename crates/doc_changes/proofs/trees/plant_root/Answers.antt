use Rattle.std.proofs.Common.{length, sym, ap, ◌∙◌, subst, refl, arith}
use Rattle.doc_nodes.specs.declared.content.Content.TheVariants as contents
use Rattle.doc_nodes.specs.Nodes.{node}
use Rattle.xs_names.proofs.GrownLaws.{Grown-trans}
use Rattle.doc_changes.specs.Stands.{StandsFor}
use Rattle.plain_tree.specs.Found.{HasNames}
use Rattle.doc_changes.proofs.Known.{names_of_tag}
use Rattle.doc_changes.proofs.PlantedNames.{called_grown}
use Rattle.doc_changes.proofs.Rooting.{as_root, root_tree, root_named, root_below, can_root, bare_root, root_stands}
use Rattle.doc_changes.proofs.trees.plant_root.Goals as goal

pub name_element-requires : goal.name_element-requires
name_element-requires c = root_named c.args.row.now c.args.children c.args.next_free c.requires c.in-Element.name c.in-Element.is

pub give_numbers-requires : goal.give_numbers-requires
give_numbers-requires c =
    let low = root_below c.args.row.now c.args.children c.args.next_free c.requires c.in-Element.name c.in-Element.is in let size = ap length c.in_ok-links-in-Element.ensures.root in omega (arith, low, size)

pub put_below-requires : goal.put_below-requires
put_below-requires c =
    let row = c.args.row.now in let g = c.in_ok-give_numbers-in-Element.ensures in
    record {
      can = can_root c.give_numbers.new.links c.args.next_free (contents.Element c.in_ok-element-in-Element.element) c.in-Element.name row.bindings row.attributes c.args.children
          (root_tree row c.args.children c.args.next_free c.requires c.in-Element.name c.in-Element.is) (λ m. g.nodes m ∙ ap (λ ns. node ns m) c.in_ok-links-in-Element.ensures.root) g.size g.sound;
      bare = λ it h. bare_root c.give_numbers.new.links (contents.Element c.in_ok-element-in-Element.element) it (g.nodes 1 ∙ ap (λ ns. node ns 1) c.in_ok-links-in-Element.ensures.root) h;
      names = c.in_ok-element-in-Element.ensures.sound;
    }

pub returns-clause-stands : goal.returns-clause-stands
returns-clause-stands c =
    let row = c.args.row.now in let g = c.in_ok-give_numbers-in-Element.ensures in let p = c.in_ok-put_below-in-Element.ensures in let parts = c.in_ok-element-in-Element.element in
    subst (λ f. StandsFor c.put_below.new.names c.put_below.new.links (record { forest = f; next_free = c.args.next_free })) (sym (as_root row c.args.children c.args.next_free c.requires c.in-Element.name c.in-Element.is))
    (root_stands c.give_numbers.new.links c.args.next_free (contents.Element parts) c.in-Element.name row.bindings row.attributes c.args.children
    (root_tree row c.args.children c.args.next_free c.requires c.in-Element.name c.in-Element.is) (λ m. g.nodes m ∙ ap (λ ns. node ns m) c.in_ok-links-in-Element.ensures.root) g.size g.sound
    c.put_below.new.names c.put_below.new.links parts refl p.names
    (called_grown c.name_element.new.names c.put_below.new.names p.grown c.in_ok-element-in-Element.ensures.sound parts c.in-Element.name row.bindings row.attributes c.in_ok-element-in-Element.ensures.called) p.planted)

pub returns-clause-grown : goal.returns-clause-grown
returns-clause-grown c = Grown-trans c.args.names.now c.name_element.new.names c.put_below.new.names c.in_ok-element-in-Element.ensures.grown c.in_ok-put_below-in-Element.ensures.grown

pub returns-in_err-element-in-Element-clause-known : goal.returns-in_err-element-in-Element-clause-known
returns-in_err-element-in-Element-clause-known c = λ sound h.
    let p = names_of_tag c.args.names.now c.args.row.now c.args.children c.in-Element.name c.in-Element.is h in
    let e = c.name_element.ensures.known sound p.0 in
    e

pub returns-in_err-links-in-Element-clause-known : goal.returns-in_err-links-in-Element-clause-known
returns-in_err-links-in-Element-clause-known c = λ sound h.
    let p = names_of_tag c.args.names.now c.args.row.now c.args.children c.in-Element.name c.in-Element.is h in
    let e = c.name_element.ensures.known sound p.0 in
    e

pub returns-in_err-give_numbers-in-Element-clause-known : goal.returns-in_err-give_numbers-in-Element-clause-known
returns-in_err-give_numbers-in-Element-clause-known c = λ sound h.
    let p = names_of_tag c.args.names.now c.args.row.now c.args.children c.in-Element.name c.in-Element.is h in
    let e = c.name_element.ensures.known sound p.0 in
    e

pub returns-in_err-put_below-in-Element-clause-known : goal.returns-in_err-put_below-in-Element-clause-known
returns-in_err-put_below-in-Element-clause-known c = λ sound h.
    let p = names_of_tag c.args.names.now c.args.row.now c.args.children c.in-Element.name c.in-Element.is h in
    let e = c.name_element.ensures.known sound p.0 in
    c.put_below.ensures.known (subst (λ u. HasNames u c.args.children) (sym e) p.1) ∙ e

pub returns-clause-known : goal.returns-clause-known
returns-clause-known c = λ sound h.
    let p = names_of_tag c.args.names.now c.args.row.now c.args.children c.in-Element.name c.in-Element.is h in
    let e = c.name_element.ensures.known sound p.0 in
    c.put_below.ensures.known (subst (λ u. HasNames u c.args.children) (sym e) p.1) ∙ e
