use Rattle.std.proofs.Common.{◌≡◌, ℕ, ◌↔◌, ◌⊎◌, take, length}
use Rattle.std.specs.Prelude.{Contains}
use Rattle.content_automaton.specs.Moves.{AreListed}
use Rattle.content_automaton.proofs.sets.put_all.Given as goal

abbrev pub invariant-loop-p : goal.invariant-loop-p
invariant-loop-p l = record {
  members : (q : ℕ) → Contains l.list.items q ↔ (Contains l.initial.list.items q ⊎ Contains (take l.p-index l.more) q);
  listed : AreListed l.flags.items l.list.items;
  count : length l.flags.items ≡ length l.initial.flags.items;
}
