use Rattle.std.proofs.Common.{arith, refl, length, ◌∙◌, ap, sym, subst}
use Rattle.std.proofs.lemmas.Result.{IfOk-weaker}
use Rattle.compiled_schema.specs.Usable.{set_of}
use Rattle.content_automaton.specs.Symbols.{AreNamesOf}
use Rattle.assessment.specs.Attribution.{content_particle}
use Rattle.tree_assess.proofs.Same.{names_same, usable_still}
use Rattle.tree_assess.proofs.Forests.{few_names}
use Rattle.tree_assess.proofs.Pairs.{fitting, terms_alike}
use Rattle.tree_assess.proofs.governing.attributed.Goals as goal

pub child_terms-requires-clause-names : goal.child_terms-requires-clause-names
child_terms-requires-clause-names c =
    subst (λ t. AreNamesOf t c.deref.result.now) (sym c.child_names.ensures.same) (subst (AreNamesOf c.args.compiled.now.names) (sym c.deref.ensures.value) c.in_ok-names.ensures.known)

pub child_terms-requires-clause-few : goal.child_terms-requires-clause-few
child_terms-requires-clause-few c =
    let t = c.args.compiled.now.names in
    let size = ap length (c.deref.ensures.value ∙ c.in_ok-names.ensures.named c.args.scope.now) in
    let few = few_names t c.args.scope.now c.args.children.now in
    let most = c.requires.can.few in omega arith

pub child_terms-requires-clause-model : goal.child_terms-requires-clause-model
child_terms-requires-clause-model c =
    let k = c.args.compiled.now in
    let d = record k { names = c.child_names.new.names } in
    let models = (usable_still k c.child_names.new.names c.child_names.ensures.same c.requires.can.usable).models_are in
    let first = (usable_still k c.child_names.new.names c.child_names.ensures.same c.requires.can.usable).first in
    (set_of d, content_particle d.parts c.args.parent.now.of, refl, fitting d first c.args.parent.now.of c.model-model.result models (c.model-model.ensures.model first models))

pub returns-clause-terms : goal.returns-clause-terms
returns-clause-terms c =
    let k = c.args.compiled.now in
    let d = record k { names = c.child_names.new.names } in
    let usable = usable_still k c.child_names.new.names c.child_names.ensures.same c.requires.can.usable in
    let of = c.args.parent.now.of in
    let fits = fitting d usable.first of c.model-model.result usable.models_are (c.model-model.ensures.model usable.first usable.models_are) in
    IfOk-weaker c.child_terms.result _ _ (λ found h. terms_alike k d of c.deref.result.now c.args.scope.now c.args.children.now found.stuck found.terms.items
    (names_same k c.child_names.new.names c.child_names.ensures.same) (c.deref.ensures.value ∙ c.in_ok-names.ensures.named c.args.scope.now) (h (set_of d) (content_particle d.parts of) refl fits)) c.child_terms.ensures.terms

pub returns-clause-same : goal.returns-clause-same
returns-clause-same c = names_same c.args.compiled.now c.child_names.new.names c.child_names.ensures.same

pub returns-in_err-names-clause-same : goal.returns-in_err-names-clause-same
returns-in_err-names-clause-same c = names_same c.args.compiled.now c.child_names.new.names c.child_names.ensures.same
