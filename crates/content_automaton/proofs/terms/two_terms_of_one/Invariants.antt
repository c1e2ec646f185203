use Rattle.std.proofs.Common.{ℕ, ◌<◌, map}
use Rattle.content_automaton.specs.Built.{set_of}
use Rattle.content_automaton.specs.Moves.{IsOfOneTerm}
use Rattle.content_automaton.proofs.terms.two_terms_of_one.Given as goal

abbrev pub invariant-loop-set : goal.invariant-loop-set
invariant-loop-set l = (s : ℕ) → s < l.set-index → IsOfOneTerm l.form.table (set_of (map (λ set. set.items) l.sets) s)
