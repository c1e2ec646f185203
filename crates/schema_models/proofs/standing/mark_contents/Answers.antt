use Rattle.std.proofs.Common.{◌≡◌, ◌∙◌, Some, length, ap, sym, subst, arith}
use Rattle.schema_models.specs.SetModels.{content_of}
use Rattle.schema_models.specs.inside.Marks.{IsMarkedMore, IsContentBelow}
use Rattle.schema_models.proofs.MarkLaws.{none-more, content-read, content-next, contents-all}
use Rattle.schema_models.proofs.standing.mark_contents.Goals as goal

pub loop-content-init : goal.loop-content-init
loop-content-init c = none-more (IsContentBelow c.args.parts.now 0) c.args.marks.now (λ k h. absurd (omega (arith, h.1)))

pub mark_some-requires : goal.mark_some-requires
mark_some-requires c = record {
  there = λ k e.
      let is : content_of c.args.parts.now c.loop-content.content-index ≡ Some k =
      content-read c.args.parts.now c.contents-content-items.result.now c.loop-content.content-index c.content-item.result c.contents-content-items.ensures.contents c.loop-content-test.true c.content-item.is ∙ e in
      let there = c.requires.contents c.loop-content.content-index k is in
      let count = c.loop-content.invariant.count in
      let each = c.requires.each in
      omega (arith, there, count, each);
}

pub loop-content-preserved : goal.loop-content-preserved
loop-content-preserved c =
    content-next c.args.parts.now c.loop-content.content-index c.args.marks.now c.loop-content.marks c.mark_some.new.marks c.loop-content.invariant
    (subst (λ o. IsMarkedMore (λ k. o ≡ Some k) c.loop-content.marks c.mark_some.new.marks)
    (sym (content-read c.args.parts.now c.contents-content-items.result.now c.loop-content.content-index c.content-item.result c.contents-content-items.ensures.contents c.loop-content-test.true c.content-item.is))
    c.mark_some.ensures)

pub returns : goal.returns
returns c =
    let long = ap length c.contents-content-items.ensures.contents in
    contents-all c.args.parts.now c.loop-content.content-index c.args.marks.now c.loop-content.marks (let l = c.loop-content-test.false in omega (arith, l, long)) c.loop-content.invariant
