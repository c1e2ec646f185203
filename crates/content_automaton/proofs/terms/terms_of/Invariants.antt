use Rattle.std.proofs.Common.{◌≡◌, ℕ, ◌<◌, None, map, length}
use Rattle.std.specs.Prelude.{slice_index_or}
use Rattle.content_automaton.specs.Built.{set_of}
use Rattle.content_automaton.specs.Moves.{term_in}
use Rattle.content_automaton.proofs.terms.terms_of.Given as goal

abbrev pub invariant-loop-set : goal.invariant-loop-set
invariant-loop-set l = record {
  terms : (s : ℕ) → s < l.set-index → slice_index_or l.terms.items s None ≡ term_in l.form.table (set_of (map (λ set. set.items) l.states) s);
  count : length l.terms.items ≡ l.set-index;
}
