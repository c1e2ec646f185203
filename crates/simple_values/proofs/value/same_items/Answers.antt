use Rattle.std.proofs.Common.{◌≡◌, false, sym, ◌∙◌, drop, length, ◌&&◌, ◌+◌}
use Rattle.std.specs.Cmp.Lexicographic.{pointwise}
use Rattle.std.specs.Iterator.Adapters.{zip_first, zip_second}
use Rattle.std.specs.Slice.Iter.{iter_rest}
use Rattle.std.proofs.lemmas.Slice.Zip.{zip_turn}
use Rattle.simple_values.specs.Same.{same_item}
use Rattle.simple_values.proofs.Pointwise.{next_pair}
use Rattle.simple_values.proofs.value.same_items.Goals as goal

pub returns-then-not-same_atom : goal.returns-then-not-same_atom
returns-then-not-same_atom c =
    let first : iter_rest (zip_first c.into_iter-x-iterator.result) ≡ c.args.a.now = cc in
    let second : iter_rest (zip_second c.into_iter-x-iterator.result) ≡ c.args.b.now = cc in
    let turn = zip_turn c.args.a.now c.args.b.now c.loop-x.yielded c.into_iter-x-iterator.result c.loop-x.x-iterator c.next.new.self c.next.result first second c.loop-x.yielded_by _ c.in-Some.is c.next.ensures.steps in
    let step : pointwise same_item (drop (length c.loop-x.yielded) c.args.a.now) (drop (length c.loop-x.yielded) c.args.b.now) ≡ (false && pointwise same_item (drop (length c.loop-x.yielded + 1) c.args.a.now) (drop (length c.loop-x.yielded + 1) c.args.b.now)) =
    next_pair same_item c.args.a.now c.args.b.now (length c.loop-x.yielded) c.in-Some.x.now c.in-Some.y.now false turn.0 turn.1 (turn.2 _) (turn.3 _) c.if-not-same_atom.ensures in
    sym step ∙ c.loop-x.invariant.1
