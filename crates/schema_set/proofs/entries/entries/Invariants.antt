use Rattle.std.proofs.Common.{◌≡◌, ◌++◌, map, drop}
use Rattle.schema_set.specs.inside.Entries.{entry_of, entry_at}
use Rattle.schema_set.specs.inside.Marks.{marks}
use Rattle.schema_set.proofs.entries.entries.Given as goal

abbrev pub invariant-loop-wanted : goal.invariant-loop-wanted
invariant-loop-wanted l = record {
  counted : l.x ≡ l.wanted-index;
  so_far : map entry_of l.documents ++ map (entry_at l.available) (marks l.wanted-index (drop l.wanted-index l.seen)) ≡ map (entry_at l.available) (marks 0 l.seen);
}
