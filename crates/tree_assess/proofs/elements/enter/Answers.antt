use Rattle.std.proofs.Common.{refl, subst, sym, ◌∙◌}
use Rattle.compiled_schema.specs.Usable.{set_of}
use Rattle.compiled_schema.specs.declared.compiled.Compiled.{Compiled}
use Rattle.tree_assess.specs.inside.Steps.{CanAssess, AreInner, pairs_in}
use Rattle.tree_assess.proofs.Same.{names_same}
use Rattle.tree_assess.proofs.Forests.{can_inner}
use Rattle.tree_assess.proofs.elements.enter.Goals as goal

pub read_head-requires : goal.read_head-requires
read_head-requires c = c.requires.can.has.0

pub govern_inner-requires : goal.govern_inner-requires
govern_inner-requires c = record {
  can =
      let k = c.args.compiled.now in
      subst (λ (d : Compiled). CanAssess d c.in_ok-head.head.scope c.args.children.now) (sym (names_same k c.read_head.new.names c.read_head.ensures.same))
      (can_inner k c.args.outer.now c.args.name.now c.args.row.now c.args.children.now c.in_ok-head.head c.requires.can c.in_ok-head.ensures.head);
}

pub returns-clause-entered : goal.returns-clause-entered
returns-clause-entered c =
    let k = c.args.compiled.now in
    record {
      number_is = refl;
      bearer_is = refl;
      head_is = c.in_ok-head.ensures.head;
      text_is = c.in_ok-text.ensures;
      inner_are = subst (λ (d : Compiled). AreInner (set_of d) c.args.governing.now c.in_ok-head.head.scope c.args.children.now c.in_ok-inner.inner.stuck (pairs_in c.in_ok-inner.inner.begun.items))
          (names_same k c.read_head.new.names c.read_head.ensures.same) c.in_ok-inner.ensures.inner;
      can = can_inner k c.args.outer.now c.args.name.now c.args.row.now c.args.children.now c.in_ok-head.head c.requires.can c.in_ok-head.ensures.head;
    }

pub returns-clause-same : goal.returns-clause-same
returns-clause-same c = c.govern_inner.ensures.same ∙ names_same c.args.compiled.now c.read_head.new.names c.read_head.ensures.same

pub returns-in_err-inner-clause-same : goal.returns-in_err-inner-clause-same
returns-in_err-inner-clause-same c = c.govern_inner.ensures.same ∙ names_same c.args.compiled.now c.read_head.new.names c.read_head.ensures.same

pub returns-in_err-text-clause-same : goal.returns-in_err-text-clause-same
returns-in_err-text-clause-same c = names_same c.args.compiled.now c.read_head.new.names c.read_head.ensures.same

pub returns-in_err-head-clause-same : goal.returns-in_err-head-clause-same
returns-in_err-head-clause-same c = names_same c.args.compiled.now c.read_head.new.names c.read_head.ensures.same
