use Rattle.std.proofs.Common.{◌≡◌, ◌∙◌, Some, length, ap, sym, subst, arith}
use Rattle.particle_forms.specs.Models.{group_particle}
use Rattle.schema_models.specs.inside.Marks.{IsMarkedMore, IsGroupBelow}
use Rattle.schema_models.proofs.MarkLaws.{none-more, group-read, group-there, group-next, groups-all}
use Rattle.schema_models.proofs.standing.mark_groups.Goals as goal

pub loop-group-init : goal.loop-group-init
loop-group-init c = none-more (IsGroupBelow c.args.parts.now 0) c.args.marks.now (λ k h. absurd (omega (arith, h.1)))

pub mark_some-requires : goal.mark_some-requires
mark_some-requires c = record {
  there = λ k e.
      let is : group_particle c.args.parts.now c.loop-group.group-index ≡ Some k =
      group-read c.args.parts.now c.groups-group-items.result.now c.loop-group.group-index c.group-item.result c.groups-group-items.ensures.parts c.loop-group-test.true c.group-item.is ∙ e in
      let there = group-there c.args.parts.now c.requires.ranked c.loop-group.group-index k is in
      let count = c.loop-group.invariant.count in
      let each = c.requires.each in
      omega (arith, there, count, each);
}

pub loop-group-preserved : goal.loop-group-preserved
loop-group-preserved c =
    group-next c.args.parts.now c.loop-group.group-index c.args.marks.now c.loop-group.marks c.mark_some.new.marks c.loop-group.invariant
    (subst (λ o. IsMarkedMore (λ k. o ≡ Some k) c.loop-group.marks c.mark_some.new.marks)
    (sym (group-read c.args.parts.now c.groups-group-items.result.now c.loop-group.group-index c.group-item.result c.groups-group-items.ensures.parts c.loop-group-test.true c.group-item.is))
    c.mark_some.ensures)

pub returns : goal.returns
returns c =
    let long = ap length c.groups-group-items.ensures.parts in
    groups-all c.args.parts.now c.loop-group.group-index c.args.marks.now c.loop-group.marks (let l = c.loop-group-test.false in omega (arith, l, long)) c.loop-group.invariant
