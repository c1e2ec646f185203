-- What contracts say of a write into a live row.
use Rattle.std.proofs.Common.{◌≡◌, ℕ, ◌+◌, ◌<◌, ◌≤◌, min, max, List, get_or, set, Bool, Some, sym, ap, ◌∙◌, subst, inl, inr, arith}
use Rattle.std.proofs.lemmas.Bool.{cases_order}
use Rattle.map_rows.specs.Piece.{Piece}
use Rattle.map_rows.specs.Places.{ChangesOnly, number, cell, block_of, start_of}
use Rattle.map_rows.specs.Marks.{IsMarked}
use Rattle.map_rows.specs.Rows.{RowMap, AreRows, Updates, values_from, composed, added}
use Rattle.map_rows.specs.Kept.{row_of, row_map, AreKept}
use Rattle.map_rows.specs.declared.place.Place.{Place}
use Rattle.map_rows.specs.declared.spare.Spare.{Spare}
use Rattle.map_rows.proofs.Keeping.{only_at, kept_change, updates_change, updates_said, AreRows-kept, cell_beside}
use Rattle.map_rows.proofs.Lists.{values_at, values_alike, values-set, composed-values, added-values}

-- the rows are kept, and one has become xs
pub record Said (width cap : ℕ) (bs : List Piece) (marks : List Bool) (sp : Spare) (v : RowMap) (row : ℕ) (xs : List ℕ) : Type 0 where
  pub kept : AreKept width cap bs marks sp
  pub row_is : Updates v (row_map width cap bs marks) row (Some xs)
  pub rows : AreRows (row_map width cap bs marks)

said_of : (width cap : ℕ) (old new final : List Piece) (marks : List Bool) (sp : Spare) (v : RowMap) (q row d n : ℕ) (xs : List ℕ) → AreKept width cap old marks sp → ChangesOnly old new (block_of q) (start_of (max width 2) q + d) n → d + n ≤ width
    → IsMarked marks q → ((j : ℕ) → j < n → cell new (max width 2) q (d + j) ≤ cap) → row_of new width q ≡ xs → row_map width cap old marks ≡ v → q ≡ row → final ≡ new → Said width cap final marks sp v row xs
said_of width cap old new final marks sp v q row d n xs k only within live small ex ev eq ef =
    let kept = subst (λ (bs : List Piece). AreKept width cap bs marks sp) (sym ef) (kept_change width cap old new marks sp q d n k only within live small) in
    record {
      kept = kept;
      row_is = updates_said width cap old new final marks v q row xs ef ev eq (updates_change width cap old new marks sp q d n k only within live) ex;
      rows = AreRows-kept width cap final marks sp kept;
    }

-- where the cells lie in the blocks as the place says it
placed : (bs : List Piece) (p : Place) (stride q i x : ℕ) → p.block ≡ block_of q → p.start ≡ start_of stride q → number bs p.block (p.start + i) ≡ x → cell bs stride q i ≡ x
placed bs p stride q i x eb es e = ap (λ k. number bs (block_of q) (k + i)) (sym es) ∙ ap (λ k. number bs k (p.start + i)) (sym eb) ∙ e

-- all cells were written
pub whole_said : (width cap : ℕ) (old now new final : List Piece) (marks : List Bool) (sp : Spare) (v : RowMap) (p : Place) (q row : ℕ) (f : ℕ → ℕ) (xs : List ℕ) → AreKept width cap old marks sp → IsMarked marks q
    → now ≡ old → p.block ≡ block_of q → p.start ≡ start_of (max width 2) q → ChangesOnly now new p.block p.start width → ((i : ℕ) → i < width → number new p.block (p.start + i) ≡ f i)
    → ((i : ℕ) → i < width → f i ≤ cap) → values_from f 0 width ≡ xs → row_map width cap old marks ≡ v → q ≡ row → final ≡ new → Said width cap final marks sp v row xs
whole_said width cap old now new final marks sp v p q row f xs k live en eb es only written small ex ev eq ef =
    let stride = max width 2 in
    let only' = only_at now old new p.block (block_of q) p.start (start_of stride q + 0) width en eb (es ∙ omega arith) only in
    let cells : (i : ℕ) → i < width → cell new (max width 2) q (0 + i) ≡ f (0 + i) = λ i l. placed new p stride q (0 + i) (f (0 + i)) eb es (written (0 + i) (omega (arith, l))) in
    said_of width cap old new final marks sp v q row 0 width xs k only' (omega arith) live (λ i l. subst (λ x. x ≤ cap) (sym (cells i l)) (small (0 + i) (omega (arith, l))))
    (values_alike (cell new stride q) f 0 width cells ∙ ex) ev eq ef

-- one cell was written
pub cell_said : (width cap : ℕ) (old now new final : List Piece) (marks : List Bool) (sp : Spare) (v : RowMap) (p : Place) (q row at value : ℕ) → AreKept width cap old marks sp → IsMarked marks q
    → now ≡ old → p.block ≡ block_of q → p.start ≡ start_of (max width 2) q → ChangesOnly now new p.block (p.start + at) 1 → number new p.block (p.start + at) ≡ value → at < width
    → value ≤ cap → row_map width cap old marks ≡ v → q ≡ row → final ≡ new → Said width cap final marks sp v row (set (row_of old width q) at value)
cell_said width cap old now new final marks sp v p q row at value k live en eb es only written l small ev eq ef =
    let stride = max width 2 in
    let only' = only_at now old new p.block (block_of q) (p.start + at) (start_of stride q + at) 1 en eb (ap (λ x. x + at) es) only in
    let here : cell new (max width 2) q at ≡ value = placed new p stride q at value eb es written in
    said_of width cap old new final marks sp v q row at 1 (set (row_of old width q) at value) k only' (omega (arith, l)) live
    (λ j m. subst (λ i. cell new (max width 2) q i ≤ cap) (omega (arith, m)) (subst (λ x. x ≤ cap) (sym here) small))
    (values-set (cell old stride q) (cell new stride q) 0 width at value l (subst (λ i. cell new (max width 2) q i ≡ value) (omega arith) here)
    (λ i m other. cell_beside width cap old new marks sp q at 1 k only' (omega (arith, l)) live (0 + i) (elim (cases_order i at) [
      | inl e ↦ absurd (other e)
      | inr apart ↦ elim apart [ inl below ↦ inl (omega (arith, below)) | inr above ↦ inr (omega (arith, above)) ]
    ])))
    ev eq ef

-- the cells of a composition
pub composition_is : (f g : ℕ → ℕ) (n : ℕ) → ((i : ℕ) → i < n → f i < n) → values_from (λ i. g (f i)) 0 n ≡ composed (values_from f 0 n) (values_from g 0 n)
composition_is f g n below = sym (composed-values f 0 n (values_from g 0 n) ∙ values_alike (λ k. get_or (values_from g 0 n) (f k) 0) (λ i. g (f i)) 0 n
    (λ k l. values_at g 0 n (f (0 + k)) (below (0 + k) (omega (arith, l))) ∙ ap g (omega arith)))

pub sums_are : (cap : ℕ) (f g : ℕ → ℕ) (n : ℕ) → values_from (λ i. min (f i + g i) cap) 0 n ≡ added cap (values_from f 0 n) (values_from g 0 n)
sums_are cap f g n = sym (added-values cap f g 0 n)

-- what is read at a row's place is the row's cell
pub read_said : (a old : List Piece) (p : Place) (stride q i : ℕ) → a ≡ old → p.block ≡ block_of q → p.start ≡ start_of stride q → number a p.block (p.start + i) ≡ cell old stride q i
read_said a old p stride q i ea eb es = ap (λ (bs : List Piece). number bs p.block (p.start + i)) ea ∙ ap (λ k. number old k (p.start + i)) eb ∙ ap (λ k. number old (block_of q) (k + i)) es
