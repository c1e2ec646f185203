use Rattle.std.proofs.Common.{◌≡◌, ℕ, ◌<◌, ◌↔◌, ◌==◌, map, length, IsTrue}
use Rattle.std.specs.Prelude.{slice_index_or, false}
use Rattle.content_automaton.specs.Built.{set_of}
use Rattle.content_automaton.specs.Automaton.{MayEnd}
use Rattle.content_automaton.proofs.ends.ends_of.Given as goal

abbrev pub invariant-loop-number : goal.invariant-loop-number
invariant-loop-number l = record {
  ends : (s : ℕ) → s < l.number → IsTrue (slice_index_or l.ends.items s false) ↔ MayEnd l.form.table (s == 0) (set_of (map (λ state. state.items) l.states) s);
  count : length l.ends.items ≡ l.number;
}
