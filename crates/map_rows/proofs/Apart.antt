-- Different rows take different cells.
use Rattle.std.proofs.Common.{◌≡◌, ◌≢◌, ◌⊎◌, ℕ, ◌+◌, ◌*◌, ◌/◌, ◌%◌, ◌<◌, ◌≤◌, List, sym, ap, ◌∙◌, subst, inl, inr, arith}
use Rattle.std.proofs.lemmas.Bool.{cases_eq, cases_order}
use Rattle.std.proofs.lemmas.Nat.{div-add-mod', row_fits}
use Rattle.map_rows.specs.Piece.{Piece}
use Rattle.map_rows.specs.Places.{IsPlace, ChangesOnly, AreApart, number, cell, next, link_of, block_of, start_of}
use Rattle.map_rows.specs.declared.place.Place.{Place}

same_number : (q r : ℕ) → block_of r ≡ block_of q → r % 1024 ≡ q % 1024 → r ≡ q
same_number q r b s = sym (div-add-mod' r 1024) ∙ ap (λ k. k * 1024 + r % 1024) b ∙ ap (λ k. q / 1024 * 1024 + k) s ∙ div-add-mod' q 1024

-- of two rows in a block one ends before the other begins
one_before : (stride q r : ℕ) → block_of r ≡ block_of q → r ≢ q → (start_of stride r + stride ≤ start_of stride q) ⊎ (start_of stride q + stride ≤ start_of stride r)
one_before stride q r b other = elim (cases_order (r % 1024) (q % 1024)) [
  | inl e ↦ absurd (other (same_number q r b e))
  | inr apart ↦ elim apart [
    | inl l ↦ inl (row_fits (r % 1024) stride (q % 1024) stride l (omega arith))
    | inr l ↦ inr (row_fits (q % 1024) stride (r % 1024) stride l (omega arith))
  ]
]

-- where another row's cell lies
pub other_cell : (stride q r i d n : ℕ) → r ≢ q → i < stride → d + n ≤ stride → (block_of r ≢ block_of q) ⊎ (start_of stride r + i < start_of stride q + d) ⊎ (start_of stride q + d + n ≤ start_of stride r + i)
other_cell stride q r i d n other l m = elim (cases_eq (block_of r) (block_of q)) [
  | inl e ↦ inr (elim (one_before stride q r e other) [
    | inl first ↦ inl (omega (arith, first, l))
    | inr last ↦ inr (omega (arith, last, m))
  ])
  | inr e ↦ inl e
]

pub cell_other : (old new : List Piece) (stride q r i d n : ℕ) → ChangesOnly old new (block_of q) (start_of stride q + d) n → d + n ≤ stride → r ≢ q → i < stride → cell new stride r i ≡ cell old stride r i
cell_other old new stride q r i d n only m other l = only.others (block_of r) (start_of stride r + i) (other_cell stride q r i d n other l m)

-- the cells of two rows are apart
pub rows_apart : (p o : Place) (stride q r n : ℕ) → p.block ≡ block_of r → p.start ≡ start_of stride r → o.block ≡ block_of q → o.start ≡ start_of stride q → q ≢ r → n ≤ stride → AreApart o p n
rows_apart p o stride q r n pb ps ob os other l = elim (cases_eq (block_of q) (block_of r)) [
  | inl e ↦ inr (elim (one_before stride q r (sym e) (λ x. other (sym x))) [
    | inl first ↦ inr (omega (arith, first, ps, os, l))
    | inr last ↦ inl (omega (arith, last, ps, os, l))
  ])
  | inr e ↦ inl (λ x. e (sym ob ∙ x ∙ pb))
]

pub IsPlace_change : (old new : List Piece) (k from n stride r : ℕ) → ChangesOnly old new k from n → IsPlace old stride r → IsPlace new stride r
IsPlace_change old new k from n stride r only p = record {
  block = rw only.blocks p.block;
  room = rw (only.sizes (block_of r)) p.room;
}

pub next_other : (old new : List Piece) (stride q r d n : ℕ) → ChangesOnly old new (block_of q) (start_of stride q + d) n → d + n ≤ stride → 2 ≤ stride → r ≢ q → next new stride r ≡ next old stride r
next_other old new stride q r d n only m two other =
    let low : number new (block_of r) (start_of stride r) ≡ number old (block_of r) (start_of stride r) = subst (λ k. number new (block_of r) k ≡ number old (block_of r) k) (omega arith) (cell_other old new stride q r 0 d n only m other (omega (arith, two))) in
    let high = cell_other old new stride q r 1 d n only m other (omega (arith, two)) in
    ap (λ x. link_of x (number new (block_of r) (start_of stride r + 1))) low ∙ ap (λ x. link_of (number old (block_of r) (start_of stride r)) x) high
