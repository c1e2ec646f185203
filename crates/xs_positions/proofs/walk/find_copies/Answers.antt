use Rattle.std.proofs.Common.{◌≡◌, ◌∙◌, length, inl, inr, refl, arith}
use Rattle.std.proofs.lemmas.List.{length_push}
use Rattle.std.proofs.lemmas.Iterator.Adapters.{YieldsList-from_vec}
use Rattle.std.proofs.lemmas.Iterator.Consumers.{YieldsList-turn, YieldsList-end}
use Rattle.xs_positions.proofs.Steps.{last_within, first_copies, more_copies}
use Rattle.xs_positions.proofs.walk.find_copies.Goals as goal

pub loop-part-init : goal.loop-part-init
loop-part-init c = record {
  counted = refl;
  joined = λ tree are word. rw c.new-ends.ensures.items (first_copies tree c.args.base c.args.least c.in_ok-whole.whole c.in_ok-whole.ensures.sets c.in_ok-whole.ensures.nullable);
}

pub then-requires : goal.then-requires
then-requires c = last_within _ _ _ c.loop-part.whole (c.loop-part.invariant.joined c.requires.0 c.requires.1 c.requires.2).sets

pub loop-part-preserved : goal.loop-part-preserved
loop-part-preserved c =
    let given = c.into_iter-part-iterator.ensures.into_iter_gives in
    let t = YieldsList-turn (YieldsList-from_vec {s = c.into_iter-part-iterator.result} c.args.parts.items given.0 (given.1 ∙ c.args.parts.ok.0))
    c.loop-part.yielded c.loop-part.part-iterator c.loop-part.yielded_by c.next.result c.next.new.self c.in-Some.part c.in-Some.is c.next.ensures.steps in
    let n = length_push c.loop-part.yielded c.in-Some.part in
    let e = c.loop-part.invariant.counted in
    record {
      counted = omega arith;
      joined = λ tree are word. more_copies tree c.args.base c.args.least (length c.args.parts.items) c.loop-part.count c.args.parts.items c.loop-part.whole c.in-Some.part c.in_ok-whole-2.whole
          c.loop-part.ends.items c.loop-part.ends.items are (let a = t.0 in omega arith) (rw e t.1) word (c.loop-part.invariant.joined tree are word)
          c.in_ok-whole-2.ensures.joined c.in_ok-whole-2.ensures.nullable (inr (c.if-least-count.false, refl));
    }

pub loop-part-preserved-in-Continue-branch-3 : goal.loop-part-preserved-in-Continue-branch-3
loop-part-preserved-in-Continue-branch-3 c =
    let given = c.into_iter-part-iterator.ensures.into_iter_gives in
    let t = YieldsList-turn (YieldsList-from_vec {s = c.into_iter-part-iterator.result} c.args.parts.items given.0 (given.1 ∙ c.args.parts.ok.0))
    c.loop-part.yielded c.loop-part.part-iterator c.loop-part.yielded_by c.next.result c.next.new.self c.in-Some.part c.in-Some.is c.next.ensures.steps in
    let n = length_push c.loop-part.yielded c.in-Some.part in
    let e = c.loop-part.invariant.counted in
    record {
      counted = omega arith;
      joined = λ tree are word. more_copies tree c.args.base c.args.least (length c.args.parts.items) c.loop-part.count c.args.parts.items c.loop-part.whole c.in-Some.part c.in_ok-whole-2.whole
          c.loop-part.ends.items c.add_ends.new.ends.items are (let a = t.0 in omega arith) (rw e t.1) word (c.loop-part.invariant.joined tree are word)
          c.in_ok-whole-2.ensures.joined c.in_ok-whole-2.ensures.nullable (inl (c.if-least-count.true, rw c.deref.ensures.value at c.in_ok-add_ends.ensures));
    }

pub overflow_add-count : goal.overflow_add-count
overflow_add-count c =
    let given = c.into_iter-part-iterator.ensures.into_iter_gives in
    let t = YieldsList-turn (YieldsList-from_vec {s = c.into_iter-part-iterator.result} c.args.parts.items given.0 (given.1 ∙ c.args.parts.ok.0))
    c.loop-part.yielded c.loop-part.part-iterator c.loop-part.yielded_by c.next.result c.next.new.self c.in-Some.part c.in-Some.is c.next.ensures.steps in
    let a = t.0 in
    let b = given.1 ∙ c.args.parts.ok.0 in
    let d = given.2 in
    let e = c.loop-part.invariant.counted in
    omega arith

pub returns : goal.returns
returns c = λ tree are word.
    let given = c.into_iter-part-iterator.ensures.into_iter_gives in
    let t = YieldsList-end (YieldsList-from_vec {s = c.into_iter-part-iterator.result} c.args.parts.items given.0 (given.1 ∙ c.args.parts.ok.0))
    c.loop-part.yielded c.loop-part.part-iterator c.loop-part.yielded_by c.next.result c.next.new.self c.in-None.is c.next.ensures.steps in
    let e : c.loop-part.count ≡ length c.args.parts.items = c.loop-part.invariant.counted ∙ t.1 in
    rw e at (c.loop-part.invariant.joined tree are word)
