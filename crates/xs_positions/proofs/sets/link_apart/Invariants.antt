use Rattle.std.proofs.Common.{map, take}
use Rattle.xs_positions.specs.Sets.{IsLinked, IsSeen}
use Rattle.xs_positions.proofs.sets.link_apart.Given as goal

abbrev pub invariant-loop-p : goal.invariant-loop-p
invariant-loop-p l = record {
  seen : IsSeen l.loops l.to l.linked;
  so_far : IsLinked l.base (take l.p-index l.from) l.to (map (λ row. row.items) l.initial.rows.items) (map (λ row. row.items) l.rows.items);
}
