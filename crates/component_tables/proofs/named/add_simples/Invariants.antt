use Rattle.std.proofs.Common.{◌≡◌, ◌++◌, map, take}
use Rattle.component_tables.proofs.named.add_simples.Given as goal

abbrev pub invariant-loop-part : goal.invariant-loop-part
invariant-loop-part l = l.names ≡ l.fn.names ++ map (λ part. part.name) (take l.part-index l.part-items)
