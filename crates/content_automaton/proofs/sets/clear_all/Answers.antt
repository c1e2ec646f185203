use Rattle.std.proofs.Common.{◌≡◌, ℕ, ◌+◌, ◌<◌, ◌≤◌, List, [], length, map, get_or, set, ap, ◌∙◌, inl, inr, arith}
use Rattle.std.proofs.lemmas.Bool.{cases_eq, cases_lt}
use Rattle.std.proofs.lemmas.List.{map-set, length-map, length-set, get_or-set_same, get_or-set_other, get_or_past}
use Rattle.content_automaton.proofs.sets.clear_all.Goals as goal

cleared_more : {X : Type 0} (f : X → List ℕ) (xs : List X) (n : ℕ) (y : X) → f y ≡ [] → n < length xs → ((k : ℕ) → k < n → get_or (map f xs) k [] ≡ []) →
    (k : ℕ) → k < n + 1 → get_or (map f (set xs n y)) k [] ≡ []
cleared_more f xs n y e l before k b =
    let m : length (map f xs) ≡ length xs = length-map xs f in
    ap (λ zs. get_or zs k []) (map-set f xs n y) ∙ elim (cases_eq k n) [
      | inl same ↦ ap (λ j. get_or (set (map f xs) n (f y)) j []) same ∙ (get_or-set_same (map f xs) n (f y) [] (omega arith) ∙ e)
      | inr other ↦ get_or-set_other (map f xs) n k (f y) [] other ∙ before k (omega arith)
    ]

cleared_all : {X : Type 0} (f : X → List ℕ) (xs : List X) (m : ℕ) → length xs ≤ m → ((k : ℕ) → k < m → get_or (map f xs) k [] ≡ []) → (n : ℕ) → get_or (map f xs) n [] ≡ []
cleared_all f xs m l before n =
    let c : length (map f xs) ≡ length xs = length-map xs f in
    elim (cases_lt n m) [
      | inl below ↦ before n below
      | inr past ↦ get_or_past (map f xs) n [] (omega arith)
    ]

pub loop-n-preserved : goal.loop-n-preserved
loop-n-preserved c =
    let there : c.loop-n.n < length c.loop-n.sets.items = (let count = c.loop-n.invariant.count in omega (arith, c.args.sets.now.ok.0)) in
    record {
      empty = cleared_more (λ set. set.items) c.loop-n.sets.items c.loop-n.n c.clear.new.self c.clear.ensures.items there c.loop-n.invariant.empty;
      count = length-set c.loop-n.sets.items c.loop-n.n c.clear.new.self ∙ c.loop-n.invariant.count;
    }

pub returns-clause-empty : goal.returns-clause-empty
returns-clause-empty c =
    cleared_all (λ set. set.items) c.loop-n.sets.items c.loop-n.n (let count = c.loop-n.invariant.count in omega (arith, c.args.sets.now.ok.0)) c.loop-n.invariant.empty
