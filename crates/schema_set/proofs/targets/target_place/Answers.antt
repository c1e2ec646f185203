use Rattle.std.proofs.Common.{◌≡◌, true, false, sym, ap, ◌∙◌, arith}
use Rattle.std.specs.Option.{option_copied}
use Rattle.schema_set.specs.EffectiveSet.{own_target}
use Rattle.schema_set.specs.Order.{same_target}
use Rattle.schema_set.proofs.PlaceLaws.{place-here, place-later, place-end, place-le}
use Rattle.schema_set.proofs.targets.target_place.Goals as goal

pub returns-then-is_same : goal.returns-then-is_same
returns-then-is_same c =
    let x = c.document-item.result in
    let t = option_copied c.args.target in
    let e : same_target (own_target x.shaped.shapes) t ≡ true = ap (λ o. same_target o t) (sym c.own_target.ensures) ∙ (sym c.is_same.ensures ∙ c.if-is_same.true) in
    let inv = c.loop-document.invariant in
    record {
      place = inv.counted ∙ place-here c.args.available.now t c.loop-document.document-index x c.loop-document-test.true c.document-item.is e inv.so_far;
      within = let h = c.loop-document-test.true in omega (arith, inv.counted, h);
    }

pub loop-document-preserved : goal.loop-document-preserved
loop-document-preserved c =
    let x = c.document-item.result in
    let t = option_copied c.args.target in
    let e : same_target (own_target x.shaped.shapes) t ≡ false = ap (λ o. same_target o t) (sym c.own_target.ensures) ∙ (sym c.is_same.ensures ∙ c.if-is_same.false) in
    let inv = c.loop-document.invariant in
    record {
      counted = omega (arith, inv.counted);
      so_far = place-later c.args.available.now t c.loop-document.document-index x c.loop-document-test.true c.document-item.is e inv.so_far;
    }

pub returns : goal.returns
returns c =
    let t = option_copied c.args.target in
    let inv = c.loop-document.invariant in
    let done = place-end c.args.available.now t c.loop-document.document-index (let l = c.loop-document-test.false in omega arith) inv.so_far in
    let low = place-le c.args.available.now t in
    record { place = inv.counted ∙ done; within = omega (arith, inv.counted, done, low) }
