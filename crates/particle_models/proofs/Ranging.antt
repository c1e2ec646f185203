-- The symbols of an unrolled model are the numbers of its terms.
use Rattle.std.proofs.Common.{◌≡◌, ℕ, zero, suc, ◌+◌, ◌<◌, ◌≤◌, None, Some, Bool, true, false, List, [], ◌∷◌, ◌++◌, sym, inl, inr, arith, if◌then◌else◌}
use Rattle.std.specs.Prelude.{Contains}
use Rattle.std.proofs.lemmas.List.Elements.{Contains-append_cases}
use Rattle.xs_positions.specs.Tree.{one, symbols, times, copies}
use Rattle.particle_models.specs.Particles.{Particle, Particles, term, sequence, choice, all_of, occurs, none, member}
use Rattle.particle_models.specs.Unrolled.{count, count_in, wordless, unrolled, unrolled_chain, unrolled_either}

none_contained : (q : ℕ) → Contains [] q → ⊥
none_contained q (k, l, e) = omega arith

only_one : (x q : ℕ) → Contains (x ∷ []) q → q ≡ x
only_one x q (zero, l, e) = sym e
only_one x q (suc k, l, e) = absurd (omega arith)

-- all of the list lies from here up to there
abbrev Within : ℕ → ℕ → List ℕ → Type 0
Within from to xs = (q : ℕ) → Contains xs q → (from ≤ q) × (q < to)

join_within : (from mid to : ℕ) (xs ys : List ℕ) → from ≤ mid → mid ≤ to → Within from mid xs → Within mid to ys → Within from to (xs ++ ys)
join_within from mid to xs ys a b x y q c = elim (Contains-append_cases xs ys q c) [
  | inl k ↦ (let h = x q k in (omega arith, omega arith))
  | inr k ↦ (let h = y q k in (omega arith, omega arith))
]

times_within : (from to n : ℕ) (xs : List ℕ) → Within from to xs → Within from to (times n xs)
times_within from to zero xs h q c = absurd (none_contained q c)
times_within from to (suc n) xs h q c = elim (Contains-append_cases xs (times n xs) q c) [
  | inl k ↦ h q k
  | inr k ↦ times_within from to n xs h q k
]

one_within : (b : Bool) (next : ℕ) → Within next (next + 1) (symbols (if b then one next else wordless next))
one_within true next q c = let e = only_one next q c in (omega arith, omega arith)
one_within false next q c = let e = only_one next q c in (omega arith, omega arith)

module _ (inhabited : ℕ → Bool) where
  mutual
    pub symbols_within : (model : Particle) (next : ℕ) → Within next (next + count model) (symbols (unrolled inhabited model next))
    symbols_within (term number) next = one_within (inhabited number) next
    symbols_within (sequence members) next = symbols_within_chain members next
    symbols_within (choice members) next = symbols_within_either members next
    symbols_within (all_of members) next = λ q c. absurd (none_contained q c)
    symbols_within (occurs least None part) next =
        times_within next (next + count part) (copies least None) (symbols (unrolled inhabited part next)) (symbols_within part next)
    symbols_within (occurs least (Some zero) part) next = λ q c. absurd (none_contained q c)
    symbols_within (occurs least (Some (suc most)) part) next =
        times_within next (next + count part) (suc most) (symbols (unrolled inhabited part next)) (symbols_within part next)

    symbols_within_chain : (members : Particles) (next : ℕ) → Within next (next + count_in members) (symbols (unrolled_chain inhabited members next))
    symbols_within_chain none next = λ q c. absurd (none_contained q c)
    symbols_within_chain (member first rest) next = λ q c.
        let r = join_within next (next + count first) ((next + count first) + count_in rest) (symbols (unrolled inhabited first next)) (symbols (unrolled_chain inhabited rest (next + count first)))
        (omega arith) (omega arith) (symbols_within first next) (symbols_within_chain rest (next + count first)) q c in (r.0, omega arith)

    symbols_within_either : (members : Particles) (next : ℕ) → Within next (next + count_in members) (symbols (unrolled_either inhabited members next))
    symbols_within_either none next = λ q c. absurd (none_contained q c)
    symbols_within_either (member first rest) next = λ q c.
        let r = join_within next (next + count first) ((next + count first) + count_in rest) (symbols (unrolled inhabited first next)) (symbols (unrolled_either inhabited rest (next + count first)))
        (omega arith) (omega arith) (symbols_within first next) (symbols_within_either rest (next + count first)) q c in (r.0, omega arith)
