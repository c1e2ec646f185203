use Rattle.std.proofs.Common.{◌∙◌}
use Rattle.elem_governing.proofs.Tags.{name_asked, attrs_next}
use Rattle.elem_governing.proofs.head.named_texts.Goals as goal

pub named_text-requires : goal.named_text-requires
named_text-requires c =
    let l = c.loop-attribute in
    name_asked c.args.names.now l.names c.args.attributes.now l.attribute-index c.attribute-item.result l.invariant.same c.requires c.loop-attribute-test.true c.attribute-item.is

pub loop-attribute-preserved : goal.loop-attribute-preserved
loop-attribute-preserved c =
    let l = c.loop-attribute in
    record {
      attrs = attrs_next c.args.names.now l.names c.args.attributes.now l.attribute-index c.attribute-item.result l.attrs c.push.new.self c.in_ok-named.named l.invariant.same
          c.loop-attribute-test.true c.attribute-item.is c.in_ok-named.ensures.named c.in_ok-push.ensures.ok ∙ l.invariant.attrs;
      same = c.named_text.ensures.same ∙ l.invariant.same;
    }
