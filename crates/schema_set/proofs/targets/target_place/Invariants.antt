use Rattle.std.proofs.Common.{◌≡◌, ◌+◌, drop}
use Rattle.std.specs.Option.{option_copied}
use Rattle.schema_set.specs.Order.{target_place}
use Rattle.schema_set.proofs.targets.target_place.Given as goal

abbrev pub invariant-loop-document : goal.invariant-loop-document
invariant-loop-document l = record {
  counted : l.place ≡ l.document-index;
  so_far : target_place l.available (option_copied l.target) ≡ l.document-index + target_place (drop l.document-index l.available) (option_copied l.target);
}
