use Rattle.std.proofs.Common.{◌≡◌, ℕ, List, length}
use Rattle.particle_restrict.proofs.Firsts.{IsTaking}
use Rattle.particle_restrict.proofs.first.has_first_map.Given as goal

abbrev pub invariant-loop-member : goal.invariant-loop-member
invariant-loop-member g l = record {
  len : length l.taken.items ≡ length l.optional;
  taking : (targets : List ℕ) × IsTaking (g.P.Pairs.restricts l.pairs) (length l.optional) l.member l.taken.items targets;
}
