use Rattle.std.proofs.Common.{◌<◌, length, get_or, slice_index_or, refl, ap, arith}
use Rattle.std.proofs.lemmas.List.Elements.{All-get_or}
use Rattle.type_derivation.proofs.GrowLaws.{grown-none, grown-on}
use Rattle.type_derivation.proofs.TypeOrderLaws.{by-rank}
use Rattle.type_derivation.proofs.FilledLaws.{filled-next, filled-all, open-next, only-next}
use Rattle.type_derivation.proofs.FillLaws.{next-done, known-more, all-done, same-complexes}
use Rattle.type_derivation.proofs.setting.set_all.Goals as goal

pub loop-number-init : goal.loop-number-init
loop-number-init c = record {
  filling = c.requires.filling;
  known = λ k d h. absurd (omega (arith, h));
  only = λ n is. absurd (c.requires.none n is);
  filled = refl;
  grown = grown-none c.args.parts.now;
}

pub set_content-requires-clause-undone : goal.set_content-requires-clause-undone
set_content-requires-clause-undone c =
    let t = c.args.parts.now in
    let order = c.args.order.now in
    let i = c.loop-number.number-index in
    let there : get_or order i 0 < length t.complexes.parts = All-get_or (λ n. n < length t.complexes.parts) order i 0 c.loop-number-test.true c.requires.order.there in
    let same = same-complexes t c.loop-number.parts c.loop-number.invariant.grown in
    open-next (length t.complexes.parts) t.complexes.ranks order c.loop-number.done i c.requires.order c.loop-number-test.true (omega (arith, there, c.loop-number.invariant.filling.len, ap (λ u. length u.parts) same)) c.loop-number.invariant.only

pub set_content-requires-clause-base : goal.set_content-requires-clause-base
set_content-requires-clause-base c = λ part e.
    next-done c.args.parts.now c.loop-number.parts c.loop-number.done c.args.order.now c.loop-number.number-index (slice_index_or c.args.order.now c.loop-number.number-index 0) part
    (by-rank (length c.args.parts.now.complexes.parts) c.args.parts.now.complexes.ranks c.args.order.now c.requires.order)
    c.loop-number.invariant.grown c.loop-number-test.true refl c.loop-number.invariant.known c.loop-number.invariant.filling e

pub loop-number-preserved : goal.loop-number-preserved
loop-number-preserved c = record {
  filling = c.in_ok-set_content.ensures.filling;
  known = known-more c.loop-number.done c.set_content.new.done c.args.order.now c.loop-number.number-index c.loop-number-test.true c.in_ok-set_content.ensures.kept c.in_ok-set_content.ensures.here c.loop-number.invariant.known;
  only = only-next c.loop-number.done c.set_content.new.done c.args.order.now c.loop-number.number-index c.loop-number-test.true c.loop-number.invariant.only c.in_ok-set_content.ensures.only;
  filled = filled-next c.args.parts.now c.loop-number.parts c.set_content.new.parts c.args.order.now c.loop-number.number-index c.loop-number-test.true c.loop-number.invariant.filled c.in_ok-set_content.ensures.filled;
  grown = grown-on c.args.parts.now c.loop-number.parts c.set_content.new.parts c.loop-number.invariant.grown c.in_ok-set_content.ensures.grown;
}

pub returns-clause-contents : goal.returns-clause-contents
returns-clause-contents c =
    all-done c.args.parts.now c.loop-number.parts c.loop-number.done c.args.order.now c.loop-number.number-index (by-rank (length c.args.parts.now.complexes.parts) c.args.parts.now.complexes.ranks c.args.order.now c.requires.order)
    c.loop-number.invariant.grown (omega arith) c.loop-number.invariant.known c.loop-number.invariant.filling

pub returns-clause-filled : goal.returns-clause-filled
returns-clause-filled c = filled-all c.args.parts.now c.loop-number.parts c.args.order.now c.loop-number.number-index (omega arith) c.requires.order c.loop-number.invariant.grown c.loop-number.invariant.filled
