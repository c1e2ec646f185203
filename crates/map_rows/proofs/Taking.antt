-- The free rows after one that was never taken is taken.
use Rattle.std.proofs.Common.{◌≡◌, ◌≢◌, ℕ, zero, suc, ◌+◌, ◌*◌, ◌%◌, ◌<◌, ◌≤◌, min, List, [], ◌∷◌, ◌++◌, length, length-append, get_or, replicate, Bool, true, refl, sym, ap, ◌∙◌, subst, inl, inr, arith}
use Rattle.std.proofs.lemmas.Bool.{cases_eq}
use Rattle.std.proofs.lemmas.List.{length-replicate}
use Rattle.std.proofs.lemmas.Nat.{row_fits}
use Rattle.map_rows.specs.Piece.{Piece}
use Rattle.map_rows.specs.Places.{IsPlace, number, piece_at, next, link_of, block_of, start_of}
use Rattle.map_rows.specs.Marks.{marked}
use Rattle.map_rows.specs.Free.{IsIn, IsFree, AreSpare, Grows, Takes}
use Rattle.map_rows.specs.declared.spare.Spare.{Spare}
use Rattle.map_rows.proofs.Marking.{get-marked_other}
use Rattle.map_rows.proofs.Chains.{chain_good, chain_change, free_still, Grows-same, past_is_zero}

pub Takes_unused : (bs : List Piece) (stride : ℕ) (marks : List Bool) (sp : Spare) → AreSpare bs stride marks sp → sp.unused.start < sp.unused.end
    → Takes bs bs stride marks (record sp { unused = record sp.unused { start = sp.unused.start + 1 } }) sp.unused.start
Takes_unused bs stride marks sp a l =
    let row = sp.unused.start in
    let here = a.unused row (omega arith) l in
    let marks' = marked marks row true in
    record {
      grows = Grows-same bs;
      place = here.0.0;
      was_free = here.0.1;
      rest = record {
        chain = a.chain;
        linked = chain_change (next bs stride) (next bs stride) (IsFree bs stride marks) (IsFree bs stride marks') sp.free a.chain
            (λ s i good. (refl, free_still bs stride marks row s true (λ x. here.1 (subst (λ k. IsIn k a.chain) x i)) good)) a.linked;
        unused = λ r from to. (let u = a.unused r (omega (arith, from)) to in (free_still bs stride marks row r true (λ x. absurd (omega (arith, x, from))) u.0, u.1));
        least = a.least;
        most = a.most;
        count = a.count;
        past = λ r m. get-marked_other marks row r true (λ x. absurd (let b = here.0.0.block in omega (arith, b, m, ap block_of x))) ∙ a.past r m;
      };
    }

piece_left : (bs ps : List Piece) (k : ℕ) → k < length bs → piece_at (bs ++ ps) k ≡ piece_at bs k
piece_left [] ps k l = absurd (omega arith)
piece_left (b ∷ bs) ps zero l = refl
piece_left (b ∷ bs) ps (suc k) l = piece_left bs ps k (omega arith)

piece_last : (bs : List Piece) (p : Piece) → piece_at (bs ++ p ∷ []) (length bs) ≡ p
piece_last [] p = refl
piece_last (b ∷ bs) p = piece_last bs p

zeros_at : (n m : ℕ) → get_or (replicate n zero) m zero ≡ zero
zeros_at zero m = refl
zeros_at (suc n) zero = refl
zeros_at (suc n) (suc m) = zeros_at n m

length-last : (bs : List Piece) (p : Piece) → length (bs ++ p ∷ []) ≡ length bs + 1
length-last bs p = length-append bs (p ∷ [])

-- a row of the k-th block
block_is : (k r : ℕ) → k * 1024 ≤ r → r < k * 1024 + 1024 → block_of r ≡ k
block_is k r from to = omega (arith, from, to)

slot_is : (k r : ℕ) → k * 1024 ≤ r → r < k * 1024 + 1024 → r % 1024 + k * 1024 ≡ r
slot_is k r from to = omega (arith, from, to)

Grows-more : (bs : List Piece) (p : Piece) (n : ℕ) → p.numbers ≡ replicate n 0 → Grows bs (bs ++ p ∷ [])
Grows-more bs p n z = record {
  blocks = let e = length-last bs p in omega (arith, e);
  pieces = λ k l. piece_left bs (p ∷ []) k l;
  zeros = λ k m l. elim (cases_eq k (length bs)) [
    | inl e ↦ subst (λ j. number (bs ++ p ∷ []) j m ≡ 0) (sym e) (ap (λ (q : Piece). get_or q.numbers m 0) (piece_last bs p) ∙ ap (λ ns. get_or ns m 0) z ∙ zeros_at n m)
    | inr n ↦ past_is_zero (bs ++ p ∷ []) k m (let e = length-last bs p in omega (arith, e, n, l))
  ];
}

pub IsPlace_grows : (old new : List Piece) (stride r : ℕ) → Grows old new → IsPlace old stride r → IsPlace new stride r
IsPlace_grows old new stride r g p = record {
  block = let a = g.blocks in let b = p.block in omega (arith, a, b);
  room = rw (g.pieces (block_of r) p.block) p.room;
}

next_grows : (old new : List Piece) (stride r : ℕ) → Grows old new → IsPlace old stride r → next new stride r ≡ next old stride r
next_grows old new stride r g p = ap (λ (q : Piece). link_of (get_or q.numbers (start_of stride r) 0) (get_or q.numbers (start_of stride r + 1) 0)) (g.pieces (block_of r) p.block)

-- each row of a new block has room in it
new_place : (bs : List Piece) (p : Piece) (n stride r : ℕ) → p.numbers ≡ replicate (n * stride) 0 → n ≤ 1024 → length bs * 1024 ≤ r → r < length bs * 1024 + n → IsPlace (bs ++ p ∷ []) stride r
new_place bs p n stride r z most from to =
    let b : block_of r ≡ length bs = block_is (length bs) r from (omega (arith, to, most)) in
    let s : r % 1024 < n = (let e = slot_is (length bs) r from (omega (arith, to, most)) in omega (arith, e, to)) in
    let long : length p.numbers ≡ n * stride = ap length z ∙ length-replicate (n * stride) 0 in
    record {
      block = let e = length-last bs p in omega (arith, b, e);
      room = subst (λ k. start_of stride r + stride ≤ length (piece_at (bs ++ p ∷ []) k).numbers) (sym b)
          (subst (λ (q : Piece). start_of stride r + stride ≤ length q.numbers) (sym (piece_last bs p)) (subst (λ k. start_of stride r + stride ≤ k) (sym long) (row_fits (r % 1024) stride n stride s (omega arith))));
    }

pub Takes_new : (bs : List Piece) (p : Piece) (stride : ℕ) (marks : List Bool) (sp : Spare) (more : ℕ) → AreSpare bs stride marks sp → length bs < 4194303 → p.numbers ≡ replicate (sp.next_rows * stride) 0
    → more ≡ min (sp.next_rows * 2) 1024
    → Takes bs (bs ++ p ∷ []) stride marks (record { free = sp.free; unused = record { start = length bs * 1024 + 1; end = length bs * 1024 + sp.next_rows }; next_rows = more }) (length bs * 1024)
Takes_new bs p stride marks sp more a few z m =
    let new = bs ++ p ∷ [] in
    let row = length bs * 1024 in
    let n = sp.next_rows in
    let g = Grows-more bs p (n * stride) z in
    let marks' = marked marks row true in
    let least = a.least in
    let most = a.most in
    let long = length-last bs p in
    let old_apart : (s : ℕ) → IsPlace bs stride s → s ≢ row = λ s place x. absurd (let b = place.block in omega (arith, b, x)) in
    record {
      grows = g;
      place = new_place bs p n stride row z most (omega arith) (omega (arith, least));
      was_free = a.past row (omega arith);
      rest = record {
        chain = a.chain;
        linked = chain_change (next bs stride) (next new stride) (IsFree bs stride marks) (IsFree new stride marks') sp.free a.chain
            (λ s i good. (next_grows bs new stride s g good.0, (IsPlace_grows bs new stride s g good.0, get-marked_other marks row s true (old_apart s good.0) ∙ good.1))) a.linked;
        unused = λ r from to. (
          (
            new_place bs p n stride r z most (omega (arith, from)) to,
            get-marked_other marks row r true (λ x. absurd (omega (arith, x, from))) ∙ a.past r (omega (arith, from)),
          ),
          λ i. absurd (let b = (chain_good (next bs stride) (IsFree bs stride marks) sp.free a.chain r a.linked i).0.block in omega (arith, b, from)),
        );
        least = omega (arith, m, least);
        most = omega (arith, m);
        count = omega (arith, long, few);
        past = λ r l. get-marked_other marks row r true (λ x. absurd (omega (arith, x, long, l))) ∙ a.past r (omega (arith, long, l));
      };
    }
