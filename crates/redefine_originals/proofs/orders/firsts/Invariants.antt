use Rattle.std.proofs.Common.{◌≡◌, ◌==◌, ◌++◌, [], ℕ, take, drop}
use Rattle.std.specs.Prelude.{nat_eq}
use Rattle.std.specs.HashSet.{contains}
use Rattle.std.specs.List.{list_any}
use Rattle.redefine_originals.specs.inside.Orders.{firsts}
use Rattle.redefine_originals.proofs.orders.firsts.Given as goal

abbrev pub invariant-loop-document : goal.invariant-loop-document
invariant-loop-document l = record {
  noted : (q : ℕ) → contains nat_eq l.noted q ≡ list_any (λ other. other == q) (take l.document-index l.documents);
  found : l.found.items ++ firsts (take l.document-index l.documents) (drop l.document-index l.documents) ≡ firsts [] l.documents;
}
