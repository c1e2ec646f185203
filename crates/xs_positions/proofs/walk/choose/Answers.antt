use Rattle.std.proofs.Common.{length, ◌∙◌}
use Rattle.std.proofs.lemmas.List.{length_push}
use Rattle.std.proofs.lemmas.Iterator.Adapters.{YieldsList-from_vec}
use Rattle.std.proofs.lemmas.Iterator.Consumers.{YieldsList-turn, YieldsList-end}
use Rattle.xs_positions.proofs.Steps.{empty_choice, choose_more, all_taken}
use Rattle.xs_positions.proofs.walk.choose.Goals as goal

pub loop-part-init : goal.loop-part-init
loop-part-init c = λ trees are. empty_choice c.args.base c.in_ok-whole.whole c.in_ok-whole.ensures.sets c.in_ok-whole.ensures.nullable

pub loop-part-preserved : goal.loop-part-preserved
loop-part-preserved c = λ trees are.
    let t = YieldsList-turn (YieldsList-from_vec {s = c.into_iter-part-iterator.result} c.args.parts.items c.into_iter-part-iterator.ensures.into_iter_gives.0 (c.into_iter-part-iterator.ensures.into_iter_gives.1 ∙ c.args.parts.ok.0)) c.loop-part.yielded c.loop-part.part-iterator c.loop-part.yielded_by c.next.result c.next.new.self c.in-Some.part c.in-Some.is c.next.ensures.steps in
    let n = length_push c.loop-part.yielded c.in-Some.part in
    rw n (choose_more c.args.base trees c.args.parts.items are (length c.loop-part.yielded) c.loop-part.whole c.in-Some.part c.in_ok-whole-2.whole t.0 t.1
    (c.loop-part.invariant trees are) c.in_ok-whole-2.ensures.sets c.in_ok-whole-2.ensures.nullable)

pub returns : goal.returns
returns c = λ trees are.
    let t = YieldsList-end (YieldsList-from_vec {s = c.into_iter-part-iterator.result} c.args.parts.items c.into_iter-part-iterator.ensures.into_iter_gives.0 (c.into_iter-part-iterator.ensures.into_iter_gives.1 ∙ c.args.parts.ok.0)) c.loop-part.yielded c.loop-part.part-iterator c.loop-part.yielded_by c.next.result c.next.new.self c.in-None.is c.next.ensures.steps in
    rw (all_taken c.args.base trees c.args.parts.items (length c.loop-part.yielded) are t.1) at (c.loop-part.invariant trees are)
