use Rattle.std.proofs.Common.{refl, ◌∙◌}
use Rattle.elem_governing.proofs.Tags.{space_asked, scope_next}
use Rattle.elem_governing.proofs.head.scope_in.Goals as goal

pub known_space-requires : goal.known_space-requires
known_space-requires c =
    let l = c.loop-binding in
    space_asked c.args.names.now l.names c.args.bindings.now l.binding-index c.binding-item.result c.as_str.result.now l.invariant.same c.requires c.loop-binding-test.true c.binding-item.is c.as_str.ensures

pub loop-binding-preserved : goal.loop-binding-preserved
loop-binding-preserved c =
    let l = c.loop-binding in
    record {
      scope = scope_next c.args.names.now l.names c.args.bindings.now l.binding-index c.binding-item.result l.scope c.bind.new.self c.as_str.result.now c.binding-item.result.prefix c.in_ok-space.space l.invariant.same
          c.loop-binding-test.true c.binding-item.is c.as_str.ensures refl c.in_ok-space.ensures.number c.in_ok-bind.ensures.ok ∙ l.invariant.scope;
      same = c.known_space.ensures.same ∙ l.invariant.same;
    }
