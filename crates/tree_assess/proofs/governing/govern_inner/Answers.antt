use Rattle.std.proofs.Common.{length, ap, subst, sym, ◌∙◌}
use Rattle.compiled_schema.specs.declared.compiled.Compiled.{Compiled}
use Rattle.compiled_schema.specs.Usable.{set_of}
use Rattle.assess_records.specs.Numbered.{heads}
use Rattle.assessment.specs.Attribution.{content_particle}
use Rattle.tree_assess.specs.inside.Steps.{CanAssess, pairs_in}
use Rattle.tree_assess.proofs.Pairs.{terms_each, inner, pairs_alike}
use Rattle.tree_assess.proofs.governing.govern_inner.Goals as goal

pub begin_children-requires-clause-can : goal.begin_children-requires-clause-can
begin_children-requires-clause-can c = subst (λ (d : Compiled). CanAssess d c.args.scope.now c.args.children.now) (sym c.attributed.ensures.same) c.requires.can

pub begin_children-requires-clause-each : goal.begin_children-requires-clause-each
begin_children-requires-clause-each c =
    let k = c.args.compiled.now in
    ap length c.deref.ensures.value
    ∙ terms_each (set_of k) (content_particle k.parts c.args.parent.now.of) (heads k.names c.args.scope.now c.args.children.now) c.in_ok-found.found.stuck c.in_ok-found.found.terms.items c.in_ok-found.ensures.terms
    ∙ ap (λ (d : Compiled). length (heads d.names c.args.scope.now c.args.children.now)) (sym c.attributed.ensures.same)

pub returns-clause-inner : goal.returns-clause-inner
returns-clause-inner c =
    let k = c.args.compiled.now in
    inner k c.args.parent.now c.args.scope.now c.args.children.now c.in_ok-found.found.stuck c.in_ok-found.found.terms.items (pairs_in c.in_ok-begun.begun.items) c.requires.can.usable c.in_ok-found.ensures.terms
    (pairs_alike k c.attributed.new.compiled c.args.parent.now c.args.scope.now c.args.children.now c.deref.result.now c.in_ok-found.found.terms.items (pairs_in c.in_ok-begun.begun.items) c.attributed.ensures.same c.deref.ensures.value c.in_ok-begun.ensures.pairs)
