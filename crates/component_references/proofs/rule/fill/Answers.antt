use Rattle.std.proofs.Common.{◌≡◌, length, take, get_or, take_all, length-set, ◌<◌, arith, refl, ◌∙◌}
use Rattle.std.proofs.lemmas.List.Elements.{All-contains, All-get_or}
use Rattle.component_references.proofs.OrderLaws.{IsIn, filled-below, filled-more}
use Rattle.component_references.proofs.rule.fill.Goals as goal

pub value-value-requires-clause-filled : goal.value-value-requires-clause-filled
value-value-requires-clause-filled g c =
    filled-below (g.R.Rule.value_of c.args.rule.now) (g.R.Rule.count c.args.rule.now) (g.R.Rule.ranks c.args.rule.now) c.args.order.now c.loop-x.x-index c.loop-x.table c.requires.order c.loop-x-test.true c.loop-x.invariant.known

pub loop-x-preserved : goal.loop-x-preserved
loop-x-preserved g c =
    let inv = c.loop-x.invariant in
    let value = g.R.Rule.value_of c.args.rule.now in
    let x = get_or c.args.order.now c.loop-x.x-index 0 in
    let there : x < length c.loop-x.table = rw inv.len (All-get_or (λ y. y < g.R.Rule.count c.args.rule.now) c.args.order.now c.loop-x.x-index 0 c.loop-x-test.true c.requires.order.there) in
    record {
      len = length-set c.loop-x.table x c.value-value.result ∙ inv.len;
      known = rw c.value-value.ensures.value (filled-more value c.args.order.now c.loop-x.x-index x c.loop-x.table c.loop-x-test.true refl there inv.known);
    }

pub returns : goal.returns
returns g c =
    let all : take c.loop-x.x-index c.args.order.now ≡ c.args.order.now = take_all _ _ (omega arith) in
    record {
      filled = λ n h. All-contains (IsIn (g.R.Rule.value_of c.args.rule.now) c.loop-x.table) c.args.order.now n (rw all at c.loop-x.invariant.known) (c.requires.order.each n h);
    }
