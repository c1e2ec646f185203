-- The rows of symbols lead along the states of an automaton.
use Rattle.std.proofs.Common.{◌≡◌, ℕ, suc, ◌+◌, ◌<◌, ◌≤◌, Bool, true, false, List, [], ◌∷◌, map, get_or, refl, sym, ap, subst, ◌∙◌, arith}
use Rattle.std.specs.Prelude.{nat_lt, slice_index}
use Rattle.child_trees.specs.Lists.{Entry, acts_along}
use Rattle.map_rows.proofs.Lists.{values_at}
use Rattle.content_automaton.specs.Automaton.{Automaton, run, step_of, dead_of}
use Rattle.content_automaton.specs.Modelled.{ModelAutomaton}
use Rattle.model_summaries.specs.Maps.{width_of, leaf_of}

pub step-within : (a : Automaton) (s n : ℕ) → step_of a s n ≤ dead_of a
step-within a s n = by (nat_lt s a.count) refl
  where
    by : (b : Bool) → nat_lt s a.count ≡ b → step_of a s n ≤ dead_of a
    by true e = rw e (omega arith)
    by false e = rw e (omega arith)

pub run-within : (a : Automaton) (s : ℕ) (symbols : List ℕ) → s ≤ dead_of a → run a s symbols ≤ dead_of a
run-within a s [] l = l
run-within a s (n ∷ symbols) l = run-within a (step_of a s n) symbols (step-within a s n)

pub leaf-at : (a : ModelAutomaton) (n s : ℕ) → s ≤ dead_of a.machine → slice_index (leaf_of a n) s ≡ step_of a.machine s n
leaf-at a n s l = values_at (λ s. step_of a.machine s n) 0 (width_of a) s (omega arith) ∙ ap (λ k. step_of a.machine k n) (omega arith)

pub rows_are : (a : ModelAutomaton) (symbols : List ℕ) (s : ℕ) (xs : List (Entry (List ℕ))) → s ≤ dead_of a.machine → map (λ e. e.act) xs ≡ map (leaf_of a) symbols →
    acts_along slice_index s xs ≡ run a.machine s symbols
rows_are a [] s [] l e = refl
rows_are a [] s (x ∷ xs) l e = absurd (cc)
rows_are a (n ∷ symbols) s [] l e = absurd (cc)
rows_are a (n ∷ symbols) s (x ∷ xs) l e =
    let here : x.act ≡ leaf_of a n = cc in
    let rest : map (λ (e : Entry (List ℕ)). e.act) xs ≡ map (leaf_of a) symbols = cc in
    let next : slice_index x.act s ≡ step_of a.machine s n = ap (λ m. slice_index m s) here ∙ leaf-at a n s l in
    rows_are a symbols (slice_index x.act s) xs (subst (λ k. k ≤ dead_of a.machine) (sym next) (step-within a.machine s n)) rest ∙ ap (λ k. run a.machine k symbols) next
