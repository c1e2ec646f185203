use Rattle.std.proofs.Common.{ℕ, Option, drop}
use Rattle.facets.specs.Trying.{IsShut}
use Rattle.facets.proofs.trying.shut_by.Given as goal

abbrev pub invariant-loop-gate : goal.invariant-loop-gate
invariant-loop-gate l = (next : Option ℕ) → IsShut (drop l.gate-index l.gates) l.index l.accepted next → IsShut l.gates l.index l.accepted next
