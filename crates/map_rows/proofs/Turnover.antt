-- The rows after one is given back or taken.
use Rattle.std.proofs.Common.{◌≡◌, ◌≢◌, ℕ, ◌+◌, ◌<◌, ◌≤◌, max, if◌then◌else◌, List, length, get_or, Bool, true, false, Some, None, refl, sym, ap, ◌∙◌, subst, inl, inr, arith}
use Rattle.std.proofs.lemmas.Bool.{cases_eq, cases_lt}
use Rattle.map_rows.specs.Piece.{Piece}
use Rattle.map_rows.specs.Places.{IsPlace, ChangesOnly, number, cell, block_of, start_of}
use Rattle.map_rows.specs.Marks.{marked, IsMarked}
use Rattle.map_rows.specs.Free.{AreSpare, Takes}
use Rattle.map_rows.specs.Rows.{RowMap, get, IsRow, AreRows, Updates}
use Rattle.map_rows.specs.Kept.{row_of, row_map, AreKept}
use Rattle.map_rows.specs.declared.place.Place.{Place}
use Rattle.map_rows.specs.declared.spare.Spare.{Spare}
use Rattle.map_rows.proofs.Marking.{get-marked_same, get-marked_other}
use Rattle.map_rows.proofs.Apart.{cell_other, IsPlace_change}
use Rattle.map_rows.proofs.Chains.{AreSpare_change}
use Rattle.map_rows.proofs.Taking.{IsPlace_grows}
use Rattle.map_rows.proofs.Keeping.{row_at, marked_row, unmarked_row, AreRows-kept, only_at}
use Rattle.map_rows.proofs.Lists.{length-values, values_at, values_alike}

true_is_not_false : true ≡ false → ⊥
true_is_not_false x = cc

module _ (width cap : ℕ) (old new : List Piece) (marks : List Bool) (sp sp' : Spare) (q : ℕ) (k : AreKept width cap old marks sp) (only : ChangesOnly old new (block_of q) (start_of (max width 2) q) 2)
    (live : IsMarked marks q) where
  only_from : ChangesOnly old new (block_of q) (start_of (max width 2) q + 0) 2
  only_from = subst (λ x. ChangesOnly old new (block_of q) x 2) (omega arith) only

  -- a row that is marked after the mark of q was taken away
  still : (r : ℕ) → IsMarked (marked marks q false) r → (r ≢ q) × IsMarked marks r
  still r m = (other, sym (get-marked_other marks q r false other) ∙ m)
    where
      other : r ≢ q
      other e = true_is_not_false (sym m ∙ ap (λ x. get_or (marked marks q false) x false) e ∙ get-marked_same marks q false)

  cell_after : (r i : ℕ) → r ≢ q → i < max width 2 → cell new (max width 2) r i ≡ cell old (max width 2) r i
  cell_after r i other l = cell_other old new (max width 2) q r i 0 2 only_from (omega arith) other l

  pub kept_give : AreSpare new (max width 2) (marked marks q false) sp' → AreKept width cap new (marked marks q false) sp'
  kept_give spared = record {
    wide = k.wide;
    spared = spared;
    placed = λ r m. IsPlace_change old new (block_of q) (start_of (max width 2) q) 2 (max width 2) r only (k.placed r (still r m).1);
    small = λ r i m l. subst (λ x. x ≤ cap) (sym (cell_after r i (still r m).0 (omega (arith, l)))) (k.small r i (still r m).1 l);
    rest = λ r i two l. elim (cases_eq r q) [
      | inl e ↦ subst (λ x. cell new (max width 2) x i ≤ cap) (sym e)
          (subst (λ x. x ≤ cap) (sym (only.others (block_of q) (start_of (max width 2) q + i) (inr (inr (omega (arith, two)))))) (k.rest q i two l))
      | inr other ↦ subst (λ x. x ≤ cap) (sym (cell_after r i other (omega (arith, l)))) (k.rest r i two l)
    ];
  }

  pub updates_give : Updates (row_map width cap old marks) (row_map width cap new (marked marks q false)) q None
  updates_give = record {
    changed = unmarked_row width cap new (marked marks q false) q (get-marked_same marks q false);
    others = λ r other. row_at width cap new (marked marks q false) r ∙ ap (λ b. if b then Some (row_of new width r) else None) (get-marked_other marks q r false other)
        ∙ ap (λ xs. if get_or marks r false then Some xs else None) (values_alike (cell new (max width 2) r) (cell old (max width 2) r) 0 width (λ i l. cell_after r (0 + i) other (omega (arith, l))))
        ∙ sym (row_at width cap old marks r);
    width = refl;
    cap = refl;
  }

module _ (width cap : ℕ) (old mid new : List Piece) (marks : List Bool) (sp sp' : Spare) (q : ℕ) (k : AreKept width cap old marks sp) (t : Takes old mid (max width 2) marks sp' q)
    (only : ChangesOnly mid new (block_of q) (start_of (max width 2) q) 2) (low : number new (block_of q) (start_of (max width 2) q) ≡ 0) (high : number new (block_of q) (start_of (max width 2) q + 1) ≡ 0) where
  only_taken : ChangesOnly mid new (block_of q) (start_of (max width 2) q + 0) 2
  only_taken = subst (λ x. ChangesOnly mid new (block_of q) x 2) (omega arith) only

  -- another row that is marked after q was marked
  was : (r : ℕ) → r ≢ q → IsMarked (marked marks q true) r → IsMarked marks r
  was r other m = sym (get-marked_other marks q r true other) ∙ m

  grown : (r i : ℕ) → block_of r < length old → cell mid (max width 2) r i ≡ cell old (max width 2) r i
  grown r i l = ap (λ (p : Piece). get_or p.numbers (start_of (max width 2) r + i) 0) (t.grows.pieces (block_of r) l)

  cell_taken : (r i : ℕ) → r ≢ q → i < max width 2 → cell new (max width 2) r i ≡ cell mid (max width 2) r i
  cell_taken r i other l = cell_other mid new (max width 2) q r i 0 2 only_taken (omega arith) other l

  -- no cell past the first two is above the cap
  rest_mid : (r i : ℕ) → 2 ≤ i → i < width → cell mid (max width 2) r i ≤ cap
  rest_mid r i two l = elim (cases_lt (block_of r) (length old)) [
    | inl there ↦ subst (λ x. x ≤ cap) (sym (grown r i there)) (k.rest r i two l)
    | inr past ↦ subst (λ x. x ≤ cap) (sym (t.grows.zeros (block_of r) (start_of (max width 2) r + i) past)) (omega arith)
  ]

  rest_new : (r i : ℕ) → 2 ≤ i → i < width → cell new (max width 2) r i ≤ cap
  rest_new r i two l = elim (cases_eq r q) [
    | inl e ↦ subst (λ x. cell new (max width 2) x i ≤ cap) (sym e)
        (subst (λ x. x ≤ cap) (sym (only.others (block_of q) (start_of (max width 2) q + i) (inr (inr (omega (arith, two)))))) (rest_mid q i two l))
    | inr other ↦ subst (λ x. x ≤ cap) (sym (cell_taken r i other (omega (arith, l)))) (rest_mid r i two l)
  ]

  small_taken : (i : ℕ) → i < width → cell new (max width 2) q i ≤ cap
  small_taken i l = elim (cases_lt i 2) [
    | inl first ↦ elim (cases_eq i 0) [
      | inl e ↦ subst (λ x. number new (block_of q) x ≤ cap) (omega (arith, e)) (subst (λ x. x ≤ cap) (sym low) (omega arith))
      | inr n ↦ subst (λ x. number new (block_of q) x ≤ cap) (omega (arith, n, first)) (subst (λ x. x ≤ cap) (sym high) (omega arith))
    ]
    | inr two ↦ rest_new q i two l
  ]

  pub kept_take : AreKept width cap new (marked marks q true) sp'
  kept_take = record {
    wide = k.wide;
    spared = AreSpare_change mid new (max width 2) q 0 2 (marked marks q true) sp' t.rest only_taken (omega arith) (omega arith) (get-marked_same marks q true);
    placed = λ r m. IsPlace_change mid new (block_of q) (start_of (max width 2) q) 2 (max width 2) r only (elim (cases_eq r q) [
      | inl e ↦ subst (IsPlace mid (max width 2)) (sym e) t.place
      | inr other ↦ IsPlace_grows old mid (max width 2) r t.grows (k.placed r (was r other m))
    ]);
    small = λ r i m l. elim (cases_eq r q) [
      | inl e ↦ subst (λ x. cell new (max width 2) x i ≤ cap) (sym e) (small_taken i l)
      | inr other ↦ subst (λ x. x ≤ cap) (sym (cell_taken r i other (omega (arith, l)) ∙ grown r i (k.placed r (was r other m)).block)) (k.small r i (was r other m) l)
    ];
    rest = rest_new;
  }

  pub row_taken : IsRow (row_map width cap old marks) (row_of new width q)
  row_taken = record {
    len = length-values (cell new (max width 2) q) 0 width;
    small = λ i l. subst (λ x. x ≤ cap) (sym (values_at (cell new (max width 2) q) 0 width i l)) (small_taken (0 + i) (omega (arith, l)));
  }

  pub updates_take : Updates (row_map width cap old marks) (row_map width cap new (marked marks q true)) q (Some (row_of new width q))
  updates_take = record {
    changed = marked_row width cap new (marked marks q true) q (get-marked_same marks q true);
    others = λ r other. same r other (get_or marks r false) refl;
    width = refl;
    cap = refl;
  }
    where
      same : (r : ℕ) → r ≢ q → (b : Bool) → get_or marks r false ≡ b → get (row_map width cap new (marked marks q true)) r ≡ get (row_map width cap old marks) r
      same r other true m = marked_row width cap new (marked marks q true) r (get-marked_other marks q r true other ∙ m)
          ∙ ap Some (values_alike (cell new (max width 2) r) (cell old (max width 2) r) 0 width (λ i l. cell_taken r (0 + i) other (omega (arith, l)) ∙ grown r (0 + i) (k.placed r m).block))
          ∙ sym (marked_row width cap old marks r m)
      same r other false m = unmarked_row width cap new (marked marks q true) r (get-marked_other marks q r true other ∙ m) ∙ sym (unmarked_row width cap old marks r m)

-- what a contract says of a row that was given back
pub record Gives (width cap : ℕ) (bs : List Piece) (marks : List Bool) (sp : Spare) (v : RowMap) (row : ℕ) : Type 0 where
  pub kept : AreKept width cap bs marks sp
  pub row_is : Updates v (row_map width cap bs marks) row None
  pub rows : AreRows (row_map width cap bs marks)

pub give_said : (width cap : ℕ) (old now new final : List Piece) (marks marks' : List Bool) (sp sp' : Spare) (v : RowMap) (q row : ℕ) → AreKept width cap old marks sp → IsMarked marks q → now ≡ old
    → ChangesOnly now new (block_of q) (start_of (max width 2) q) 2 → AreSpare new (max width 2) (marked marks q false) sp' → row_map width cap old marks ≡ v → q ≡ row → final ≡ new → marks' ≡ marked marks q false
    → Gives width cap final marks' sp' v row
give_said width cap old now new final marks marks' sp sp' v q row k live en only spared ev eq ef em =
    let only' = subst (λ (bs : List Piece). ChangesOnly bs new (block_of q) (start_of (max width 2) q) 2) en only in
    let kept = kept_give width cap old new marks sp sp' q k only' live spared in
    let all : Gives width cap new (marked marks q false) sp' (row_map width cap old marks) q = record {
      kept = kept;
      row_is = updates_give width cap old new marks sp sp' q k only' live;
      rows = AreRows-kept width cap new (marked marks q false) sp' kept;
    } in
    subst (λ (bs : List Piece). Gives width cap bs marks' sp' v row) (sym ef) (subst (λ (ms : List Bool). Gives width cap new ms sp' v row) (sym em)
    (subst (λ (y : RowMap). Gives width cap new (marked marks q false) sp' y row) ev (subst (λ y. Gives width cap new (marked marks q false) sp' (row_map width cap old marks) y) eq all)))

-- what a contract says of a row that was taken
pub record Taken (width cap : ℕ) (bs : List Piece) (marks : List Bool) (sp : Spare) (v : RowMap) (row : ℕ) : Type 0 where
  pub kept : AreKept width cap bs marks sp
  pub was_free : get v row ≡ None
  pub is_row : (xs : List ℕ) × IsRow v xs × Updates v (row_map width cap bs marks) row (Some xs)
  pub rows : AreRows (row_map width cap bs marks)

pub take_said : (width cap : ℕ) (old mid now new final : List Piece) (marks marks' : List Bool) (sp sp' : Spare) (v : RowMap) (p : Place) (q : ℕ) → AreKept width cap old marks sp → Takes old mid (max width 2) marks sp' q → now ≡ mid
    → p.block ≡ block_of q → p.start ≡ start_of (max width 2) q → ChangesOnly now new p.block p.start 2 → number new p.block p.start ≡ 0 → number new p.block (p.start + 1) ≡ 0
    → row_map width cap old marks ≡ v → final ≡ new → marks' ≡ marked marks q true → Taken width cap final marks' sp' v q
take_said width cap old mid now new final marks marks' sp sp' v p q k t en eb es only low high ev ef em =
    let only' = only_at now mid new p.block (block_of q) p.start (start_of (max width 2) q) 2 en eb es only in
    let low' = ap (λ x. number new (block_of q) x) (sym es) ∙ ap (λ x. number new x p.start) (sym eb) ∙ low in
    let high' = ap (λ x. number new (block_of q) (x + 1)) (sym es) ∙ ap (λ x. number new x (p.start + 1)) (sym eb) ∙ high in
    let kept = kept_take width cap old mid new marks sp sp' q k t only' low' high' in
    let all : Taken width cap new (marked marks q true) sp' (row_map width cap old marks) q = record {
      kept = kept;
      was_free = unmarked_row width cap old marks q t.was_free;
      is_row = (row_of new width q, row_taken width cap old mid new marks sp sp' q k t only' low' high', updates_take width cap old mid new marks sp sp' q k t only' low' high');
      rows = AreRows-kept width cap new (marked marks q true) sp' kept;
    } in
    subst (λ (bs : List Piece). Taken width cap bs marks' sp' v q) (sym ef) (subst (λ (ms : List Bool). Taken width cap new ms sp' v q) (sym em)
    (subst (λ (y : RowMap). Taken width cap new (marked marks q true) sp' y q) ev all))
