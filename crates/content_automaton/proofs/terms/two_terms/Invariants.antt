use Rattle.std.proofs.Common.{ℕ, ◌≡◌, take}
use Rattle.std.specs.Prelude.{Contains}
use Rattle.content_automaton.specs.Moves.{symbol_at}
use Rattle.content_automaton.proofs.terms.two_terms.Given as goal

abbrev pub invariant-loop-p : goal.invariant-loop-p
invariant-loop-p l = (q : ℕ) → Contains (take l.p-index l.set) q → symbol_at l.form.table q ≡ l.term
