use Rattle.std.proofs.Common.{map, take}
use Rattle.content_automaton.specs.Moves.{ArePut}
use Rattle.content_automaton.proofs.sets.put_at.Given as goal

abbrev pub invariant-loop-n : goal.invariant-loop-n
invariant-loop-n l = ArePut (map (λ set. set.items) l.initial.sets.items) (map (λ set. set.items) l.sets.items) (take l.n-index l.row) l.p
