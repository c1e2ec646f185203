-- Fewer symbols begin a word too.
use Rattle.std.proofs.Common.{◌≡◌, ℕ, ◌<◌, ◌≤◌, Bool, true, false, List, [], ◌∷◌, ◌++◌, map, take, drop, refl, sym, ap, subst, ◌∙◌, arith}
use Rattle.std.specs.Prelude.{not, nat_lt}
use Rattle.std.proofs.lemmas.Bool.{ltb-true, lt-ltb, false≢true}
use Rattle.std.proofs.lemmas.List.{map-append, take-take, take-append-drop}
use Rattle.content_automaton.specs.Automaton.{Automaton, run, step_of, start_of, dead_of}
use Rattle.content_models.specs.States as alls
use Rattle.content_models.specs.declared.state.AllState.{AllState}
use Rattle.content_models.specs.Modelled.{letter_of}
use Rattle.content_models.specs.declared.automaton.ContentAutomaton.{ContentAutomaton}
use Rattle.content_models.specs.declared.automaton.ContentAutomaton.TheVariants.{States, All}
use Rattle.model_terms.specs.Terms.{begins}

-- ---- by states
pub run-append : (a : Automaton) (s : ℕ) (xs ys : List ℕ) → run a s (xs ++ ys) ≡ run a (run a s xs) ys
run-append a s [] ys = refl
run-append a s (x ∷ xs) ys = run-append a (step_of a s x) xs ys

live-before : (a : Automaton) (s n : ℕ) → step_of a s n < dead_of a → s < dead_of a
live-before a s n l = by (nat_lt s a.count) refl
  where
    by : (b : Bool) → nat_lt s a.count ≡ b → s < dead_of a
    by true e = ltb-true s a.count e
    by false e = let d : step_of a s n ≡ dead_of a = rw e refl in absurd (omega arith)

live-first : (a : Automaton) (s : ℕ) (ys : List ℕ) → run a s ys < dead_of a → s < dead_of a
live-first a s [] l = l
live-first a s (y ∷ ys) l = live-before a s y (live-first a (step_of a s y) ys l)

-- ---- by the members of an all
pub all-run-append : (s : AllState) (xs ys : List ℕ) → alls.run s (xs ++ ys) ≡ alls.run (alls.run s xs) ys
all-run-append s [] ys = refl
all-run-append s (x ∷ xs) ys = all-run-append (alls.next_of s x) xs ys

all-live-before : (s : AllState) (n : ℕ) → (alls.next_of s n).dead ≡ false → s.dead ≡ false
all-live-before s n e = by (alls.is_new s n) refl
  where
    by : (b : Bool) → alls.is_new s n ≡ b → s.dead ≡ false
    by true h = let d : (alls.next_of s n).dead ≡ s.dead = rw h refl in sym d ∙ e
    by false h = let d : (alls.next_of s n).dead ≡ true = rw h refl in absurd (false≢true (sym e ∙ d))

all-live-first : (s : AllState) (ys : List ℕ) → (alls.run s ys).dead ≡ false → s.dead ≡ false
all-live-first s [] e = e
all-live-first s (y ∷ ys) e = all-live-before s y (all-live-first (alls.next_of s y) ys e)

pub not-true : (b : Bool) → not b ≡ true → b ≡ false
not-true true e = sym e
not-true false e = refl

pub not-false : (b : Bool) → b ≡ false → not b ≡ true
not-false b e = ap not e

-- ---- by either
pub begins-front : (a : ContentAutomaton) (xs ys : List ℕ) → begins a (xs ++ ys) ≡ true → begins a xs ≡ true
begins-front (States a) xs ys e =
    let l = ltb-true (run a.machine (start_of a.machine) (xs ++ ys)) (dead_of a.machine) e in
    lt-ltb (run a.machine (start_of a.machine) xs) (dead_of a.machine)
    (live-first a.machine (run a.machine (start_of a.machine) xs) ys (subst (λ s. s < dead_of a.machine) (run-append a.machine (start_of a.machine) xs ys) l))
begins-front (All a) xs ys e =
    let same : map (letter_of a) (xs ++ ys) ≡ map (letter_of a) xs ++ map (letter_of a) ys = map-append (letter_of a) xs ys in
    let there : (alls.run (alls.start_of a.machine) (map (letter_of a) (xs ++ ys))).dead ≡ false = not-true (alls.state_of a.machine (map (letter_of a) (xs ++ ys))).dead e in
    let apart = ap (alls.run (alls.start_of a.machine)) same ∙ all-run-append (alls.start_of a.machine) (map (letter_of a) xs) (map (letter_of a) ys) in
    not-false (alls.state_of a.machine (map (letter_of a) xs)).dead
    (all-live-first (alls.run (alls.start_of a.machine) (map (letter_of a) xs)) (map (letter_of a) ys) (subst (λ (s : AllState). s.dead ≡ false) apart there))

pub begins-take : (a : ContentAutomaton) (symbols : List ℕ) (k n : ℕ) → k ≤ n → begins a (take n symbols) ≡ true → begins a (take k symbols) ≡ true
begins-take a symbols k n l e =
    let whole : take k symbols ++ drop k (take n symbols) ≡ take n symbols = ap (λ xs. xs ++ drop k (take n symbols)) (sym (take-take k n symbols l)) ∙ take-append-drop k (take n symbols) in
    begins-front a (take k symbols) (drop k (take n symbols)) (subst (λ xs. begins a xs ≡ true) (sym whole) e)
