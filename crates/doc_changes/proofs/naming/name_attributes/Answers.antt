use Rattle.std.proofs.Common.{◌+◌, [], take, refl, sym, ◌∙◌, subst, arith}
use Rattle.xs_names.proofs.GrownLaws.{Grown-refl, Grown-trans}
use Rattle.plain_tree.specs.Found.{HasName}
use Rattle.doc_changes.proofs.Known.{attributes_taken, attribute_there}
use Rattle.doc_changes.proofs.PlantedNames.{AttributesSoFar, attributes_next, namespace_at}
use Rattle.doc_changes.proofs.naming.name_attributes.Goals as goal

pub name_attribute-requires : goal.name_attribute-requires
name_attribute-requires c = namespace_at c.args.attributes.now c.loop-attribute.attribute-index c.attribute-item.result c.requires.namespaces c.loop-attribute-test.true c.attribute-item.is

pub loop-attribute-init : goal.loop-attribute-init
loop-attribute-init c =
    let t = c.args.names.now in
    subst (λ made. AttributesSoFar t t made []) (sym (c.from_vec-made.ensures ∙ c.in_ok-with_capacity.ensures.items)) (record { has = record { known = λ k d l. absurd (omega (arith, l)); are = refl }; grown = Grown-refl t; sound = c.requires.sound; known = λ h. refl })

pub loop-attribute-preserved : goal.loop-attribute-preserved
loop-attribute-preserved c =
    let t = c.args.names.now in let w = c.name_attribute.new.names in
    subst (λ made. AttributesSoFar t w made (take (c.loop-attribute.attribute-index + 1) c.args.attributes.now)) (sym c.in_ok-push.ensures.ok)
    (attributes_next t c.loop-attribute.names w c.loop-attribute.made c.args.attributes.now c.loop-attribute.attribute-index c.in_ok-named.named c.attribute-item.result c.loop-attribute.invariant c.name_attribute.ensures.grown c.name_attribute.ensures.sound c.name_attribute.ensures.known
    c.in_ok-named.ensures.attribute c.in_ok-named.ensures.within c.loop-attribute-test.true c.attribute-item.is)

pub returns-in_err-named-clause-grown : goal.returns-in_err-named-clause-grown
returns-in_err-named-clause-grown c = Grown-trans c.args.names.now c.loop-attribute.names c.name_attribute.new.names c.loop-attribute.invariant.grown c.name_attribute.ensures.grown

pub returns-in_err-push-clause-grown : goal.returns-in_err-push-clause-grown
returns-in_err-push-clause-grown c = Grown-trans c.args.names.now c.loop-attribute.names c.name_attribute.new.names c.loop-attribute.invariant.grown c.name_attribute.ensures.grown

pub returns-in_err-named-clause-known : goal.returns-in_err-named-clause-known
returns-in_err-named-clause-known c = λ h.
    let t = c.args.names.now in let xs = c.args.attributes.now in let i = c.loop-attribute.attribute-index in let x = c.attribute-item.result in
    let e = c.loop-attribute.invariant.known (attributes_taken t xs i h) in
    c.name_attribute.ensures.known (c.loop-attribute.invariant.sound) (subst (λ y. HasName y x.name) (sym e) (attribute_there t xs i x h c.loop-attribute-test.true c.attribute-item.is)) ∙ e

pub returns-in_err-push-clause-known : goal.returns-in_err-push-clause-known
returns-in_err-push-clause-known c = λ h.
    let t = c.args.names.now in let xs = c.args.attributes.now in let i = c.loop-attribute.attribute-index in let x = c.attribute-item.result in
    let e = c.loop-attribute.invariant.known (attributes_taken t xs i h) in
    c.name_attribute.ensures.known (c.loop-attribute.invariant.sound) (subst (λ y. HasName y x.name) (sym e) (attribute_there t xs i x h c.loop-attribute-test.true c.attribute-item.is)) ∙ e

pub returns-clause-known : goal.returns-clause-known
returns-clause-known c = λ h. c.loop-attribute.invariant.known (attributes_taken c.args.names.now c.args.attributes.now c.loop-attribute.attribute-index h)
