use Rattle.std.proofs.Common.{◌≡◌, ℕ, ◌↔◌, take, length}
use Rattle.std.specs.Prelude.{Contains}
use Rattle.content_automaton.specs.Moves.{AreListed, Comes}
use Rattle.content_automaton.proofs.sets.coming.Given as goal

abbrev pub invariant-loop-p : goal.invariant-loop-p
invariant-loop-p l = record {
  members : (q : ℕ) → Contains l.next.items q ↔ Comes l.form.table l.starts (take l.p-index l.set) q;
  listed : AreListed l.flags.items l.next.items;
  count : length l.flags.items ≡ length l.form.table.symbols;
}
