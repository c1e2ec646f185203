use Rattle.std.proofs.Common.{◌≡◌, ◌++◌}
use Rattle.std.specs.Prelude.{reverse}
use Rattle.redefine_originals.proofs.orders.put_all_before.Given as goal

abbrev pub invariant-loop-document : goal.invariant-loop-document
invariant-loop-document l = l.document-iterator.iter.rest.now ++ reverse l.left.items ≡ l.initial.document-iterator.iter.rest.now ++ reverse l.initial.left.items
