use Rattle.std.proofs.Common.{◌≡◌, ◌+◌, ℕ, length, arith}
use Rattle.std.specs.Global.{Vec}
use Rattle.redefine_originals.specs.inside.Orders.{IsOrder}
use Rattle.redefine_originals.proofs.OrderLaws.{numbered-more}
use Rattle.redefine_originals.proofs.orders.all_orders.Goals as goal

pub loop-preserved : goal.loop-preserved
loop-preserved c =
    let counted = c.loop.invariant.counted in
    let len = c.loop.invariant.len in
    let last : c.loop.number ≡ length c.loop.orders.items + 1 = omega arith in
    record {
      counted = omega arith;
      len = omega (arith, c.in_ok-push.ensures.len);
      each = numbered-more (λ number (x : Vec ℕ). IsOrder c.args.sources.now.available.now number x.items) c.loop.orders.items c.push.new.self.items c.in_ok-order.order c.loop.number
          c.loop.invariant.each last c.in_ok-order.ensures c.in_ok-push.ensures.items;
    }
