use Rattle.std.proofs.Common.{◌≡◌, ◌+◌, ◌&&◌, length, ◌∙◌, arith}
use Rattle.std.proofs.lemmas.List.{length_push}
use Rattle.std.proofs.lemmas.Iterator.Adapters.{YieldsList-from_vec}
use Rattle.std.proofs.lemmas.Iterator.Consumers.{YieldsList-turn, YieldsList-end}
use Rattle.xs_positions.specs.Tree.{sequence_of}
use Rattle.xs_positions.specs.Parts.{sets_of, IsJoined, IsPartOf}
use Rattle.xs_positions.proofs.Steps.{all_taken, if_both}
use Rattle.xs_positions.proofs.Blocks.{no_blocks, whole_small, whole_within, block_within, block_more, block_joined, all_joined}
use Rattle.xs_positions.proofs.walk.join_all.Goals as goal

pub loop-part-init : goal.loop-part-init
loop-part-init c = λ trees are words. no_blocks trees c.args.base c.in_ok-whole.whole c.in_ok-block.block c.in_ok-whole.ensures.sets c.in_ok-whole.ensures.nullable c.in_ok-block.ensures.sets c.in_ok-block.ensures.nullable

pub overflow_cast-start : goal.overflow_cast-start
overflow_cast-start c =
    let l = whole_small c.requires.0 c.args.base (length c.loop-part.yielded) c.loop-part.whole c.loop-part.block (c.loop-part.invariant c.requires.0 c.requires.1 c.requires.2) c.requires.2 in
    omega (arith, l, c.requires.3, c.len.ensures)

pub overflow_add-start : goal.overflow_add-start
overflow_add-start c =
    let l = whole_small c.requires.0 c.args.base (length c.loop-part.yielded) c.loop-part.whole c.loop-part.block (c.loop-part.invariant c.requires.0 c.requires.1 c.requires.2) c.requires.2 in
    omega (arith, l, c.requires.3, c.len.ensures)

pub then-requires : goal.then-requires
then-requires c =
    rw c.len.ensures
    (block_within c.requires.0 c.args.base (length c.loop-part.yielded) c.loop-part.whole c.loop-part.block (c.loop-part.invariant c.requires.0 c.requires.1 c.requires.2) c.requires.2)

pub then-requires-then-len-ge-BLOCK : goal.then-requires-then-len-ge-BLOCK
then-requires-then-len-ge-BLOCK c =
    whole_within c.requires.0 c.args.base (length c.loop-part.yielded) c.loop-part.whole c.loop-part.block (c.loop-part.invariant c.requires.0 c.requires.1 c.requires.2) c.requires.2

pub then-requires-2 : goal.then-requires-2
then-requires-2 c =
    whole_within c.requires.0 c.args.base (length c.loop-part.yielded) c.loop-part.whole c.loop-part.block (c.loop-part.invariant c.requires.0 c.requires.1 c.requires.2) c.requires.2

pub loop-part-preserved-then-len-ge-BLOCK : goal.loop-part-preserved-then-len-ge-BLOCK
loop-part-preserved-then-len-ge-BLOCK c = λ trees are words.
    let t = YieldsList-turn (YieldsList-from_vec {s = c.into_iter-part-iterator.result} c.args.parts.items c.into_iter-part-iterator.ensures.into_iter_gives.0 (c.into_iter-part-iterator.ensures.into_iter_gives.1 ∙ c.args.parts.ok.0)) c.loop-part.yielded c.loop-part.part-iterator c.loop-part.yielded_by c.next.result c.next.new.self c.in-Some.part c.in-Some.is c.next.ensures.steps in
    let n = length_push c.loop-part.yielded c.in-Some.part in
    let more = block_more trees c.args.base (length c.loop-part.yielded) c.loop-part.whole c.loop-part.block (c.loop-part.invariant trees are words) words
    c.args.parts.items c.in-Some.part c.in_ok-block-2.block are t.0 t.1 (rw c.len.ensures at c.in_ok-block-2.ensures.joined) c.in_ok-block-2.ensures.nullable in
    rw n (block_joined trees c.args.base (length c.loop-part.yielded + 1) c.loop-part.whole c.in_ok-block-2.block more words
    c.in_ok-whole-2.whole c.in_ok-block-3.block c.in_ok-whole-2.ensures.joined c.in_ok-whole-2.ensures.nullable c.in_ok-block-3.ensures.sets c.in_ok-block-3.ensures.nullable)

pub loop-part-preserved : goal.loop-part-preserved
loop-part-preserved c = λ trees are words.
    let t = YieldsList-turn (YieldsList-from_vec {s = c.into_iter-part-iterator.result} c.args.parts.items c.into_iter-part-iterator.ensures.into_iter_gives.0 (c.into_iter-part-iterator.ensures.into_iter_gives.1 ∙ c.args.parts.ok.0)) c.loop-part.yielded c.loop-part.part-iterator c.loop-part.yielded_by c.next.result c.next.new.self c.in-Some.part c.in-Some.is c.next.ensures.steps in
    let n = length_push c.loop-part.yielded c.in-Some.part in
    rw n (block_more trees c.args.base (length c.loop-part.yielded) c.loop-part.whole c.loop-part.block (c.loop-part.invariant trees are words) words
    c.args.parts.items c.in-Some.part c.in_ok-block-2.block are t.0 t.1 (rw c.len.ensures at c.in_ok-block-2.ensures.joined) c.in_ok-block-2.ensures.nullable)

pub returns : goal.returns
returns c = λ trees are words.
    let t = YieldsList-end (YieldsList-from_vec {s = c.into_iter-part-iterator.result} c.args.parts.items c.into_iter-part-iterator.ensures.into_iter_gives.0 (c.into_iter-part-iterator.ensures.into_iter_gives.1 ∙ c.args.parts.ok.0)) c.loop-part.yielded c.loop-part.part-iterator c.loop-part.yielded_by c.next.result c.next.new.self c.in-None.is c.next.ensures.steps in
    let whole = c.loop-part.whole in
    let block = c.loop-part.block in
    if_both (λ part. IsJoined c.args.base (sets_of whole) whole.nullable (sets_of block) block.nullable (sets_of part)) (λ part. part.nullable ≡ (whole.nullable && block.nullable))
    (IsPartOf (sequence_of trees) c.args.base) c.then-2.result
    (λ part. all_joined trees c.args.base (length c.loop-part.yielded) whole block (c.loop-part.invariant trees are words) words part (all_taken c.args.base trees c.args.parts.items (length c.loop-part.yielded) are t.1))
    c.then-2.ensures.joined c.then-2.ensures.nullable
