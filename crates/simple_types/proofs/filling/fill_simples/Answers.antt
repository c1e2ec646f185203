use Rattle.std.proofs.Common.{◌<◌, length, get_or, length-set, arith, refl, ◌∙◌}
use Rattle.std.proofs.lemmas.List.Elements.{All-get_or}
use Rattle.simple_types.specs.Judging.{IsSimpleAt}
use Rattle.simple_types.proofs.FilledLaws.{entries-more, entries-all}
use Rattle.simple_types.proofs.Stable.{simple-stable}
use Rattle.simple_types.proofs.filling.fill_simples.Goals as goal

pub judged_number-requires : goal.judged_number-requires
judged_number-requires c = record {
  there = All-get_or (λ y. y < length c.args.parts.now.simples.parts) c.args.order.now c.loop-x.x-index 0 c.loop-x-test.true c.requires.order.there;
}

pub loop-x-preserved : goal.loop-x-preserved
loop-x-preserved c =
    let inv = c.loop-x.invariant in
    let parts = c.args.parts.now in
    let x = get_or c.args.order.now c.loop-x.x-index 0 in
    let made = c.in_ok-judged.judged in
    let there : x < length c.loop-x.table = rw inv.len (All-get_or (λ y. y < length parts.simples.parts) c.args.order.now c.loop-x.x-index 0 c.loop-x-test.true c.requires.order.there) in
    rw c.put_at.ensures (record {
      len = length-set c.loop-x.table x made ∙ inv.len;
      known = entries-more (IsSimpleAt parts) parts.simples.ranks (λ table x y v made low is. simple-stable parts c.requires.ranked table x y v made low is) (length parts.simples.parts) c.args.order.now c.loop-x.x-index x c.loop-x.table made c.requires.order c.loop-x-test.true refl there c.in_ok-judged.ensures inv.known;
    })

pub returns : goal.returns
returns c = record {
  alike = c.loop-x.invariant.len;
  each = entries-all (IsSimpleAt c.args.parts.now) c.args.parts.now.simples.ranks (length c.args.parts.now.simples.parts) c.args.order.now c.loop-x.x-index c.loop-x.table c.requires.order (omega arith) c.loop-x.invariant.known;
}
