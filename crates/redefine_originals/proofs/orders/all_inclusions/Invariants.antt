use Rattle.std.proofs.Common.{◌≡◌, ℕ, ◌+◌, [], length}
use Rattle.std.specs.Prelude.{slice_get, Some}
use Rattle.std.specs.Global.{Vec}
use Rattle.redefine_originals.specs.Versions.{inclusions}
use Rattle.redefine_originals.specs.inside.Orders.{firsts}
use Rattle.redefine_originals.proofs.orders.all_inclusions.Given as goal

abbrev pub invariant-loop-document : goal.invariant-loop-document
invariant-loop-document l = record {
  len : length l.inclusions.items ≡ l.document-index;
  each : (place : ℕ) (x : Vec ℕ) → slice_get l.inclusions.items place ≡ Some x → x.items ≡ firsts [] (inclusions l.sources.available.now (place + 1));
}
