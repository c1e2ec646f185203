use Rattle.std.proofs.Common.{◌+◌, [], take, refl, sym, ◌∙◌, subst, arith}
use Rattle.std.specs.Prelude.{IsSome}
use Rattle.xs_names.proofs.GrownLaws.{Grown-refl, Grown-trans}
use Rattle.xs_names.specs.Names.{space_number}
use Rattle.doc_changes.proofs.Known.{bindings_taken, binding_there}
use Rattle.doc_changes.proofs.PlantedNames.{BindingsSoFar, bindings_next}
use Rattle.doc_changes.proofs.naming.name_bindings.Goals as goal

pub loop-binding-init : goal.loop-binding-init
loop-binding-init c =
    let t = c.args.names.now in
    subst (λ made. BindingsSoFar t t made []) (sym (c.from_vec-made.ensures ∙ c.in_ok-with_capacity.ensures.items)) (record { has = record { known = λ k d l. absurd (omega (arith, l)); are = refl }; grown = Grown-refl t; sound = c.requires.sound; known = λ h. refl })

pub loop-binding-preserved : goal.loop-binding-preserved
loop-binding-preserved c =
    let t = c.args.names.now in let w = c.name_binding.new.names in
    subst (λ made. BindingsSoFar t w made (take (c.loop-binding.binding-index + 1) c.args.bindings.now)) (sym c.in_ok-push.ensures.ok)
    (bindings_next t c.loop-binding.names w c.loop-binding.made c.args.bindings.now c.loop-binding.binding-index c.in_ok-named.named c.binding-item.result c.loop-binding.invariant c.name_binding.ensures.grown c.name_binding.ensures.sound c.name_binding.ensures.known
    c.in_ok-named.ensures.binding c.in_ok-named.ensures.within c.loop-binding-test.true c.binding-item.is)

pub returns-in_err-named-clause-grown : goal.returns-in_err-named-clause-grown
returns-in_err-named-clause-grown c = Grown-trans c.args.names.now c.loop-binding.names c.name_binding.new.names c.loop-binding.invariant.grown c.name_binding.ensures.grown

pub returns-in_err-push-clause-grown : goal.returns-in_err-push-clause-grown
returns-in_err-push-clause-grown c = Grown-trans c.args.names.now c.loop-binding.names c.name_binding.new.names c.loop-binding.invariant.grown c.name_binding.ensures.grown

pub returns-in_err-named-clause-known : goal.returns-in_err-named-clause-known
returns-in_err-named-clause-known c = λ h.
    let t = c.args.names.now in let xs = c.args.bindings.now in let i = c.loop-binding.binding-index in let x = c.binding-item.result in
    let e = c.loop-binding.invariant.known (bindings_taken t xs i h) in
    c.name_binding.ensures.known (subst (λ y. IsSome (space_number y x.namespace)) (sym e) (binding_there t xs i x h c.loop-binding-test.true c.binding-item.is)) ∙ e

pub returns-in_err-push-clause-known : goal.returns-in_err-push-clause-known
returns-in_err-push-clause-known c = λ h.
    let t = c.args.names.now in let xs = c.args.bindings.now in let i = c.loop-binding.binding-index in let x = c.binding-item.result in
    let e = c.loop-binding.invariant.known (bindings_taken t xs i h) in
    c.name_binding.ensures.known (subst (λ y. IsSome (space_number y x.namespace)) (sym e) (binding_there t xs i x h c.loop-binding-test.true c.binding-item.is)) ∙ e

pub returns-clause-known : goal.returns-clause-known
returns-clause-known c = λ h. c.loop-binding.invariant.known (bindings_taken c.args.names.now c.args.bindings.now c.loop-binding.binding-index h)
