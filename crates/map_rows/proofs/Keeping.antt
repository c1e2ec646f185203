-- The rows after a change of the blocks or of the marks.
use Rattle.std.proofs.Common.{◌≡◌, ◌⊎◌, ℕ, zero, suc, ◌+◌, ◌-◌, ◌<◌, ◌≤◌, max, if◌then◌else◌, List, [], ◌∷◌, length, get_or, Bool, true, false, Some, None, refl, sym, ap, ◌∙◌, subst, inl, inr, arith}
use Rattle.std.proofs.lemmas.Bool.{cases_eq, cases_lt}
use Rattle.map_rows.specs.Piece.{Piece}
use Rattle.map_rows.specs.Places.{ChangesOnly, cell, block_of, start_of}
use Rattle.map_rows.specs.Marks.{IsMarked, IsUnmarked}
use Rattle.map_rows.specs.Rows.{RowMap, get, AreRows, Updates}
use Rattle.map_rows.specs.Kept.{row_of, rows_from, row_map, AreKept}
use Rattle.map_rows.specs.declared.spare.Spare.{Spare}
use Rattle.map_rows.proofs.Apart.{cell_other, IsPlace_change}
use Rattle.map_rows.proofs.Chains.{AreSpare_change}
use Rattle.map_rows.proofs.Lists.{length-values, values_at, values_alike}

none_is_not : {A : Type 0} (x : A) → None ≡ Some x → ⊥
none_is_not x p = cc

some_is : {A : Type 0} (x y : A) → Some x ≡ Some y → x ≡ y
some_is x y p = cc

rows_at : (bs : List Piece) (width r : ℕ) (ms : List Bool) (q : ℕ) → get_or (rows_from bs width r ms) q None ≡ (if get_or ms q false then Some (row_of bs width (r + q)) else None)
rows_at bs width r [] q = refl
rows_at bs width r (m ∷ ms) zero = ap (λ k. if m then Some (row_of bs width k) else None) (omega arith)
rows_at bs width r (m ∷ ms) (suc q) = rows_at bs width (r + 1) ms q ∙ ap (λ k. if get_or ms q false then Some (row_of bs width k) else None) (omega arith)

module _ (width cap : ℕ) (bs : List Piece) (marks : List Bool) where
  pub row_at : (q : ℕ) → get (row_map width cap bs marks) q ≡ (if get_or marks q false then Some (row_of bs width q) else None)
  row_at q = rows_at bs width 0 marks q ∙ ap (λ k. if get_or marks q false then Some (row_of bs width k) else None) (omega arith)

  pub marked_row : (q : ℕ) → IsMarked marks q → get (row_map width cap bs marks) q ≡ Some (row_of bs width q)
  marked_row q m = row_at q ∙ ap (λ b. if b then Some (row_of bs width q) else None) m

  pub unmarked_row : (q : ℕ) → IsUnmarked marks q → get (row_map width cap bs marks) q ≡ None
  unmarked_row q m = row_at q ∙ ap (λ b. if b then Some (row_of bs width q) else None) m

  -- a live row is marked, and has the row's cells
  pub live_row : (q : ℕ) (xs : List ℕ) → get (row_map width cap bs marks) q ≡ Some xs → IsMarked marks q × (xs ≡ row_of bs width q)
  live_row q xs e = go (get_or marks q false) refl
    where
      go : (b : Bool) → get_or marks q false ≡ b → IsMarked marks q × (xs ≡ row_of bs width q)
      go true m = (m, some_is xs (row_of bs width q) (sym e ∙ marked_row q m))
      go false m = absurd (none_is_not xs (sym (unmarked_row q m) ∙ e))

  -- each live row is one
  pub AreRows-kept : (sp : Spare) → AreKept width cap bs marks sp → AreRows (row_map width cap bs marks)
  AreRows-kept sp k r xs e =
      let l = live_row r xs e in
      record {
        len = ap length l.1 ∙ length-values (cell bs (max width 2) r) 0 width;
        small = λ i m. subst (λ ys. get_or ys i 0 ≤ cap) (sym l.1) (subst (λ x. x ≤ cap) (sym (values_at (cell bs (max width 2) r) 0 width i m)) (subst (λ j. cell bs (max width 2) r j ≤ cap) (omega arith) (k.small r i l.0 m)));
      }

module _ (width cap : ℕ) (old new : List Piece) (marks : List Bool) (sp : Spare) (q d n : ℕ) (k : AreKept width cap old marks sp) (only : ChangesOnly old new (block_of q) (start_of (max width 2) q + d) n)
    (within : d + n ≤ width) (live : IsMarked marks q) where
  -- a cell of the row that was not written
  pub cell_beside : (i : ℕ) → ((i < d) ⊎ (d + n ≤ i)) → cell new (max width 2) q i ≡ cell old (max width 2) q i
  cell_beside i out = only.others (block_of q) (start_of (max width 2) q + i) (inr (elim out [ inl l ↦ inl (omega (arith, l)) | inr g ↦ inr (omega (arith, g)) ]))

  small_in : (i : ℕ) → i < width → ((j : ℕ) → j < n → cell new (max width 2) q (d + j) ≤ cap) → cell new (max width 2) q i ≤ cap
  small_in i l small = elim (cases_lt i d) [
    | inl below ↦ subst (λ x. x ≤ cap) (sym (cell_beside i (inl below))) (k.small q i live l)
    | inr above ↦ elim (cases_lt i (d + n)) [
      | inl inside ↦ subst (λ j. cell new (max width 2) q j ≤ cap) (omega (arith, above)) (small (i - d) (omega (arith, above, inside)))
      | inr past ↦ subst (λ x. x ≤ cap) (sym (cell_beside i (inr past))) (k.small q i live l)
    ]
  ]

  pub kept_change : ((j : ℕ) → j < n → cell new (max width 2) q (d + j) ≤ cap) → AreKept width cap new marks sp
  kept_change small = record {
    wide = k.wide;
    spared = AreSpare_change old new (max width 2) q d n marks sp k.spared only (omega (arith, within)) (omega arith) live;
    placed = λ r m. IsPlace_change old new (block_of q) (start_of (max width 2) q + d) n (max width 2) r only (k.placed r m);
    small = λ r i m l. elim (cases_eq r q) [
      | inl e ↦ subst (λ x. cell new (max width 2) x i ≤ cap) (sym e) (small_in i l small)
      | inr other ↦ subst (λ x. x ≤ cap) (sym (cell_other old new (max width 2) q r i d n only (omega (arith, within)) other (omega (arith, l)))) (k.small r i m l)
    ];
    rest = λ r i two l. elim (cases_eq r q) [
      | inl e ↦ subst (λ x. cell new (max width 2) x i ≤ cap) (sym e) (small_in i l small)
      | inr other ↦ subst (λ x. x ≤ cap) (sym (cell_other old new (max width 2) q r i d n only (omega (arith, within)) other (omega (arith, l)))) (k.rest r i two l)
    ];
  }

  pub updates_change : Updates (row_map width cap old marks) (row_map width cap new marks) q (Some (row_of new width q))
  updates_change = record {
    changed = marked_row width cap new marks q live;
    others = λ r other. row_at width cap new marks r ∙ ap (λ xs. if get_or marks r false then Some xs else None) (values_alike (cell new (max width 2) r) (cell old (max width 2) r) 0 width
        (λ i l. cell_other old new (max width 2) q r (0 + i) d n only (omega (arith, within)) other (omega (arith, l)))) ∙ sym (row_at width cap old marks r);
    width = refl;
    cap = refl;
  }

-- the frame of a write, said of a row
pub only_at : (a a' b : List Piece) (k k' f f' n : ℕ) → a ≡ a' → k ≡ k' → f ≡ f' → ChangesOnly a b k f n → ChangesOnly a' b k' f' n
only_at a a' b k k' f f' n ea ek ef only = subst (λ x. ChangesOnly x b k' f' n) ea (subst (λ x. ChangesOnly a b x f' n) ek (subst (λ x. ChangesOnly a b k x n) ef only))

-- what a contract says of a row that was written
pub updates_said : (width cap : ℕ) (old new final : List Piece) (marks : List Bool) (v : RowMap) (q row : ℕ) (xs : List ℕ) → final ≡ new → row_map width cap old marks ≡ v → q ≡ row
    → Updates (row_map width cap old marks) (row_map width cap new marks) q (Some (row_of new width q)) → row_of new width q ≡ xs → Updates v (row_map width cap final marks) row (Some xs)
updates_said width cap old new final marks v q row xs ef ev eq u ex =
    subst (λ (y : RowMap). Updates y (row_map width cap final marks) row (Some xs)) ev
    (subst (λ y. Updates (row_map width cap old marks) (row_map width cap final marks) y (Some xs)) eq
    (subst (λ (y : List Piece). Updates (row_map width cap old marks) (row_map width cap y marks) q (Some xs)) (sym ef)
    (subst (λ (y : List ℕ). Updates (row_map width cap old marks) (row_map width cap new marks) q (Some y)) ex u)))

-- a live row, as its number's fields say it
pub live_said : (width cap : ℕ) (bs : List Piece) (marks : List Bool) (v : RowMap) (q row : ℕ) (xs : List ℕ) → row_map width cap bs marks ≡ v → q ≡ row → get v row ≡ Some xs → IsMarked marks q × (xs ≡ row_of bs width q)
live_said width cap bs marks v q row xs ev eq e = live_row width cap bs marks q xs (ap (λ (y : RowMap). get y q) ev ∙ ap (λ y. get v y) eq ∙ e)
