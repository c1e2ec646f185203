-- Entries made right one by one.
use Rattle.std.proofs.Common.{◌≡◌, ◌⊎◌, ◌<◌, ℕ, List, [], ◌∷◌, length, inl, inr, ap, subst, arith}
use Rattle.simple_values.specs.declared.key.Key.{Key}
use Rattle.identity_constraints.specs.Counting.{Has}
use Rattle.key_records.specs.Records.{IsMatched, IsRematched}
use Rattle.key_records.specs.declared.references.References.{References}
use Rattle.key_records.specs.declared.records.KeyRecords.{KeyRecords}

pub shorter : (xs rest : List ℕ) (x : ℕ) → xs ≡ x ∷ rest → length rest < length xs
shorter xs rest x e = let size = ap length e in omega (arith, size)

nothing-left : (xs : List ℕ) (x : ℕ) → length xs ≡ 0 → Has x xs → ⊥
nothing-left [] x e h = h
nothing-left (y ∷ ys) x e h = absurd (omega (arith, e))

module _ (refs : References) (old new : KeyRecords) (scope : ℕ) (tuple : List Key) (all left rest : List ℕ) (x : ℕ) where
  pub keyrefs-more : IsRematched refs old new → IsMatched refs new scope x tuple → left ≡ x ∷ rest → ((keyref : ℕ) → Has keyref all → Has keyref left ⊎ IsMatched refs old scope keyref tuple)
      → (keyref : ℕ) → Has keyref all → Has keyref rest ⊎ IsMatched refs new scope keyref tuple
  keyrefs-more again right e so keyref h =
      elim (so keyref h) [
        | inl there ↦ first (subst (Has keyref) e there)
        | inr done ↦ inr (again.still scope keyref tuple done)
      ]
    where
      first : Has keyref (x ∷ rest) → Has keyref rest ⊎ IsMatched refs new scope keyref tuple
      first there = elim there [ inl same ↦ inr (subst (λ (k : ℕ). IsMatched refs new scope k tuple) same right) | inr later ↦ inl later ]

pub keyrefs-all : (refs : References) (r : KeyRecords) (scope : ℕ) (tuple : List Key) (all left : List ℕ) → length left ≡ 0 → ((keyref : ℕ) → Has keyref all → Has keyref left ⊎ IsMatched refs r scope keyref tuple)
    → (keyref : ℕ) → Has keyref all → IsMatched refs r scope keyref tuple
keyrefs-all refs r scope tuple all left none so keyref h = elim (so keyref h) [ inl there ↦ absurd (nothing-left left keyref none there) | inr done ↦ done ]

module _ (refs : References) (old new : KeyRecords) (tuple : List Key) (keyrefs all left rest : List ℕ) (x : ℕ) where
  pub told-more : IsRematched refs old new → ((keyref : ℕ) → Has keyref keyrefs → IsMatched refs new x keyref tuple) → left ≡ x ∷ rest
      → ((n : ℕ) → Has n all → Has n left ⊎ ((keyref : ℕ) → Has keyref keyrefs → IsMatched refs old n keyref tuple))
      → (n : ℕ) → Has n all → Has n rest ⊎ ((keyref : ℕ) → Has keyref keyrefs → IsMatched refs new n keyref tuple)
  told-more again right e so n h =
      elim (so n h) [
        | inl there ↦ first (subst (Has n) e there)
        | inr done ↦ inr (λ keyref k. again.still n keyref tuple (done keyref k))
      ]
    where
      first : Has n (x ∷ rest) → Has n rest ⊎ ((keyref : ℕ) → Has keyref keyrefs → IsMatched refs new n keyref tuple)
      first there = elim there [ inl same ↦ inr (subst (λ (m : ℕ). (keyref : ℕ) → Has keyref keyrefs → IsMatched refs new m keyref tuple) same right) | inr later ↦ inl later ]

pub told-all : (refs : References) (r : KeyRecords) (tuple : List Key) (keyrefs all left : List ℕ) → length left ≡ 0
    → ((n : ℕ) → Has n all → Has n left ⊎ ((keyref : ℕ) → Has keyref keyrefs → IsMatched refs r n keyref tuple))
    → (n keyref : ℕ) → Has n all → Has keyref keyrefs → IsMatched refs r n keyref tuple
told-all refs r tuple keyrefs all left none so n keyref h k = elim (so n h) [ inl there ↦ absurd (nothing-left left n none there) | inr done ↦ done keyref k ]
