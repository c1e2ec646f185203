use Rattle.std.proofs.Common.{◌<◌, length, get_or, length-set, arith, refl, ◌∙◌, slice_get}
use Rattle.std.proofs.lemmas.List.Elements.{All-get_or, All-weaker}
use Rattle.attr_uses.specs.Uses.{group_uses}
use Rattle.attr_uses.specs.Tables.{IsAnswer}
use Rattle.attr_uses.specs.inside.Kept.{IsGroupAnswer}
use Rattle.attr_uses.proofs.FillLaws.{items-below, items-more, items-all}
use Rattle.attr_uses.proofs.KeptLaws.{keeps-on, store-kept, answer-kept}
use Rattle.attr_uses.proofs.store.Store.fill_groups.Goals as goal

pub group_table-requires-clause-store : goal.group_table-requires-clause-store
group_table-requires-clause-store c = store-kept c.args.self.now c.loop-x.self c.loop-x.invariant.keeps c.requires.store

pub group_table-requires-clause-there : goal.group_table-requires-clause-there
group_table-requires-clause-there c = All-get_or (λ y. y < length c.args.parts.now.attr_groups.parts) c.args.order.now c.loop-x.x-index 0 c.loop-x-test.true c.requires.order.there

pub group_table-requires-clause-groups : goal.group_table-requires-clause-groups
group_table-requires-clause-groups c =
    items-below (λ o n. IsAnswer c.args.parts.now c.args.ids.now c.loop-x.self o (group_uses c.args.parts.now n)) (length c.args.parts.now.attr_groups.parts) c.args.parts.now.attr_groups.ranks c.args.order.now c.loop-x.x-index c.loop-x.groups c.requires.order c.loop-x-test.true c.loop-x.invariant.known

pub loop-x-preserved : goal.loop-x-preserved
loop-x-preserved c =
    let inv = c.loop-x.invariant in
    let made = c.in_ok-answer.ensures.made in
    let new = c.group_table.new.self in
    let x = get_or c.args.order.now c.loop-x.x-index 0 in
    let there : x < length c.loop-x.groups = rw inv.len (All-get_or (λ y. y < length c.args.parts.now.attr_groups.parts) c.args.order.now c.loop-x.x-index 0 c.loop-x-test.true c.requires.order.there) in
    record {
      keeps = keeps-on c.args.self.now c.loop-x.self new inv.keeps made.0;
      len = length-set c.loop-x.groups x c.in_ok-answer.answer ∙ inv.len;
      known = items-more (λ o n. IsAnswer c.args.parts.now c.args.ids.now new o (group_uses c.args.parts.now n)) c.args.order.now c.loop-x.x-index x c.loop-x.groups c.in_ok-answer.answer c.loop-x-test.true refl there made.1
          (All-weaker (IsGroupAnswer c.args.parts.now c.args.ids.now c.loop-x.self c.loop-x.groups) (IsGroupAnswer c.args.parts.now c.args.ids.now new c.loop-x.groups)
          (λ n is. answer-kept c.args.parts.now c.args.ids.now c.loop-x.self new made.0 (slice_get c.loop-x.groups n) (group_uses c.args.parts.now n) is) _ inv.known);
    }

pub returns : goal.returns
returns c = record {
  made = (
    c.loop-x.invariant.keeps,
    record {
      alike = c.loop-x.invariant.len;
      each = items-all (λ o n. IsAnswer c.args.parts.now c.args.ids.now c.loop-x.self o (group_uses c.args.parts.now n)) (length c.args.parts.now.attr_groups.parts) c.args.parts.now.attr_groups.ranks c.args.order.now c.loop-x.x-index c.loop-x.groups c.requires.order (omega arith) c.loop-x.invariant.known;
    },
  );
}
