use Rattle.std.proofs.Common.{◌≡◌, ◌≤◌, ◌+◌, ◌∙◌, Option, ap, refl, subst, arith}
use Rattle.key_records.specs.Tables.{ArePending, for_key, level}
use Rattle.key_records.specs.declared.carrying.Waiting.{Waiting}
use Rattle.key_records.proofs.ToldLaws.{told-none, told-both}
use Rattle.key_records.proofs.carrying.settle.Goals as goal

pub loop-waits-init : goal.loop-waits-init
loop-waits-init c = record {
  pending = λ t linked parents p. p;
  own = λ n y. refl;
  told = told-none (for_key c.args.key c.args.tuple.now) c.args.tables.now c.args.told.now.items;
}

pub loop-waits-preserved : goal.loop-waits-preserved
loop-waits-preserved c =
    let inv = c.loop-waits.invariant in
    record {
      pending = λ t linked parents p. c.in_ok-waits.ensures.pending t linked parents
          (subst (λ (o : Option Waiting). ArePending t c.args.key c.args.tuple.now c.loop-waits.tables o) c.in-Some.is (inv.pending t linked parents p));
      own = λ n y. c.in_ok-waits.ensures.own n y ∙ inv.own n y;
      told = told-both (for_key c.args.key c.args.tuple.now) c.args.tables.now c.loop-waits.tables c.settle_at.new.tables c.args.told.now.items c.loop-waits.told.items c.settle_at.new.told.items inv.told c.in_ok-waits.ensures.told;
    }

pub loop-waits-smaller : goal.loop-waits-smaller
loop-waits-smaller c =
    let e : level c.loop-waits.waits ≡ c.in-Some.next.at + 1 = ap level c.in-Some.is in
    let next : level c.in_ok-waits.waits ≤ c.in-Some.next.at = c.in_ok-waits.ensures.upward in
    omega (arith, e, next)
