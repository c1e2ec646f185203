use Rattle.std.proofs.Common.{◌≡◌, ℕ, ◌+◌, length}
use Rattle.std.specs.Prelude.{slice_get, Some}
use Rattle.std.specs.Global.{Vec}
use Rattle.redefine_originals.specs.inside.Orders.{IsOrder}
use Rattle.redefine_originals.proofs.orders.all_orders.Given as goal

abbrev pub invariant-loop : goal.invariant-loop
invariant-loop l = record {
  counted : l.number ≡ l.index + 1;
  len : length l.orders.items ≡ l.index;
  each : (place : ℕ) (x : Vec ℕ) → slice_get l.orders.items place ≡ Some x → IsOrder l.sources.available.now (place + 1) x.items;
}
