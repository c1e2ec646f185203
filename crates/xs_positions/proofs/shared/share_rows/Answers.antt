use Rattle.std.proofs.Common.{◌∙◌, length, ap, arith}
use Rattle.std.proofs.lemmas.List.{length_push}
use Rattle.std.proofs.lemmas.Iterator.Adapters.{YieldsList-from_vec}
use Rattle.std.proofs.lemmas.Iterator.Consumers.{YieldsList-turn, YieldsList-end}
use Rattle.xs_positions.proofs.Sharing.{all_rows, taken_row, taken_numbers, taken_few}
use Rattle.xs_positions.proofs.shared.share_rows.Goals as goal

pub number_of-requires : goal.number_of-requires
number_of-requires c =
    let given = c.into_iter-row-iterator.ensures.into_iter_gives in
    let t = YieldsList-turn (YieldsList-from_vec {s = c.into_iter-row-iterator.result} c.args.rows.items given.0 (given.1 ∙ c.args.rows.ok.0))
    c.loop-row.yielded c.loop-row.row-iterator c.loop-row.yielded_by c.next.result c.next.new.self c.in-Some.row c.in-Some.is c.next.ensures.steps in
    let a = t.0 in
    let few = c.loop-row.invariant.few in
    let count = c.loop-row.invariant.count in
    omega arith

pub loop-row-preserved : goal.loop-row-preserved
loop-row-preserved c =
    let inv = c.loop-row.invariant in
    let made = c.in_ok-push.ensures.items in
    let among = c.in_ok-number.ensures in
    record {
      count = (let n = length_push c.loop-row.yielded c.in-Some.row in let m = length_push c.loop-row.numbers.items c.in_ok-number.number in
          let f = ap length made in let e = inv.count in omega arith);
      few = taken_few c.loop-row.kept.items c.number_of.new.rows.items c.loop-row.numbers.items c.push.new.self.items c.in-Some.row.items c.in_ok-number.number among made inv.few;
      there = taken_numbers c.loop-row.kept.items c.number_of.new.rows.items c.loop-row.numbers.items c.push.new.self.items c.in-Some.row.items c.in_ok-number.number
          inv.there among made;
      rows = taken_row c.loop-row.kept.items c.number_of.new.rows.items c.loop-row.yielded c.loop-row.numbers.items c.push.new.self.items c.in-Some.row c.in_ok-number.number
          inv.there among made inv.rows;
    }

pub loop-row-preserved-then-size-len : goal.loop-row-preserved-then-size-len
loop-row-preserved-then-size-len c =
    let inv = c.loop-row.invariant in
    let made = c.in_ok-push.ensures.items in
    let among = c.in_ok-number.ensures in
    record {
      count = (let n = length_push c.loop-row.yielded c.in-Some.row in let m = length_push c.loop-row.numbers.items c.in_ok-number.number in
          let f = ap length made in let e = inv.count in omega arith);
      few = taken_few c.loop-row.kept.items c.number_of.new.rows.items c.loop-row.numbers.items c.push.new.self.items c.in-Some.row.items c.in_ok-number.number among made inv.few;
      there = taken_numbers c.loop-row.kept.items c.number_of.new.rows.items c.loop-row.numbers.items c.push.new.self.items c.in-Some.row.items c.in_ok-number.number
          inv.there among made;
      rows = taken_row c.loop-row.kept.items c.number_of.new.rows.items c.loop-row.yielded c.loop-row.numbers.items c.push.new.self.items c.in-Some.row c.in_ok-number.number
          inv.there among made inv.rows;
    }

pub returns : goal.returns
returns c =
    let given = c.into_iter-row-iterator.ensures.into_iter_gives in
    let t = YieldsList-end (YieldsList-from_vec {s = c.into_iter-row-iterator.result} c.args.rows.items given.0 (given.1 ∙ c.args.rows.ok.0))
    c.loop-row.yielded c.loop-row.row-iterator c.loop-row.yielded_by c.next.result c.next.new.self c.in-None.is c.next.ensures.steps in
    all_rows c.loop-row.yielded c.args.rows.items _ t.0 c.loop-row.invariant.rows
