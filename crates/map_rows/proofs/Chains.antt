-- The free rows after a change.
use Rattle.std.proofs.Common.{◌≡◌, ◌≢◌, ℕ, ◌+◌, ◌*◌, ◌/◌, ◌-◌, ◌^◌, ◌<◌, ◌≤◌, List, [], ◌∷◌, length, get_or, Bool, true, false, Option, Some, None, refl, sym, ap, ◌∙◌, subst, inl, inr, arith}
use Rattle.std.proofs.lemmas.Bool.{cases_eq}
use Rattle.std.proofs.lemmas.List.{get_or_past}
use denote.RawPtr.{null_ptr}
use Rattle.map_rows.specs.Piece.{Piece}
use Rattle.map_rows.specs.Places.{IsPlace, ChangesOnly, number, next, block_of, start_of}
use Rattle.map_rows.specs.Marks.{marked, IsMarked}
use Rattle.map_rows.specs.Free.{IsIn, IsChain, IsFree, AreSpare, Grows, Takes}
use Rattle.map_rows.specs.declared.spare.Spare.{Spare}
use Rattle.map_rows.proofs.Marking.{get-marked_same, get-marked_other, marked_apart}
use Rattle.map_rows.proofs.Apart.{IsPlace_change, next_other}

pub chain_good : (tells : ℕ → Option ℕ) (Good : ℕ → Type 0) (first : Option ℕ) (rs : List ℕ) (s : ℕ) → IsChain tells Good first rs → IsIn s rs → Good s
chain_good tells Good first [] s c i = absurd i
chain_good tells Good first (r ∷ rs) s c i = elim i [
  | inl e ↦ subst Good (sym e) c.1
  | inr j ↦ chain_good tells Good (tells r) rs s c.3 j
]

-- a chain is one as long as its rows stay good and tell the same
pub chain_change : (tells tells' : ℕ → Option ℕ) (Good Good' : ℕ → Type 0) (first : Option ℕ) (rs : List ℕ) → ((s : ℕ) → IsIn s rs → Good s → (tells' s ≡ tells s) × Good' s)
    → IsChain tells Good first rs → IsChain tells' Good' first rs
chain_change tells tells' Good Good' first [] same c = c
chain_change tells tells' Good Good' first (r ∷ rs) same c =
    let here = same r (inl refl) c.1 in
    (c.0, here.1, c.2, subst (λ f. IsChain tells' Good' f rs) (sym here.0) (chain_change tells tells' Good Good' (tells r) rs (λ s i. same s (inr i)) c.3))

-- cells of a live row were written
pub AreSpare_change : (old new : List Piece) (stride q d n : ℕ) (marks : List Bool) (sp : Spare) → AreSpare old stride marks sp → ChangesOnly old new (block_of q) (start_of stride q + d) n → d + n ≤ stride → 2 ≤ stride → IsMarked marks q
    → AreSpare new stride marks sp
AreSpare_change old new stride q d n marks sp a only m two live = record {
  chain = a.chain;
  linked = chain_change (next old stride) (next new stride) (IsFree old stride marks) (IsFree new stride marks) sp.free a.chain
      (λ s i good. (next_other old new stride q s d n only m two (marked_apart marks q s live good.1), (IsPlace_change old new (block_of q) (start_of stride q + d) n stride s only good.0, good.1))) a.linked;
  unused = λ r from to. (let u = a.unused r from to in ((IsPlace_change old new (block_of q) (start_of stride q + d) n stride r only u.0.0, u.0.1), u.1));
  least = a.least;
  most = a.most;
  count = rw only.blocks a.count;
  past = λ r l. a.past r (rw (← only.blocks) l);
}

pub free_still : (bs : List Piece) (stride : ℕ) (marks : List Bool) (q r : ℕ) (b : Bool) → r ≢ q → IsFree bs stride marks r → IsFree bs stride (marked marks q b) r
free_still bs stride marks q r b other f = (f.0, get-marked_other marks q r b other ∙ f.1)

-- a live row was given back
pub AreSpare_give : (old new : List Piece) (stride q : ℕ) (marks : List Bool) (sp : Spare) → AreSpare old stride marks sp → ChangesOnly old new (block_of q) (start_of stride q) 2 → 2 ≤ stride → IsMarked marks q → IsPlace old stride q
    → next new stride q ≡ sp.free → AreSpare new stride (marked marks q false) (record sp { free = Some q })
AreSpare_give old new stride q marks sp a only two live place told =
    let only' : ChangesOnly old new (block_of q) (start_of stride q + 0) 2 = subst (λ k. ChangesOnly old new (block_of q) k 2) (omega arith) only in
    let b = AreSpare_change old new stride q 0 2 marks sp a only' (omega (arith, two)) two live in
    let not_in : ¬ IsIn q b.chain = λ i. marked_apart marks q q live (chain_good (next new stride) (IsFree new stride marks) sp.free b.chain q b.linked i).1 refl in
    let rest : IsChain (next new stride) (IsFree new stride (marked marks q false)) sp.free b.chain =
    chain_change (next new stride) (next new stride) (IsFree new stride marks) (IsFree new stride (marked marks q false)) sp.free b.chain
    (λ s i good. (refl, free_still new stride marks q s false (marked_apart marks q s live good.1) good)) b.linked in
    record {
      chain = q ∷ b.chain;
      linked = (refl, (IsPlace_change old new (block_of q) (start_of stride q) 2 stride q only place, get-marked_same marks q false), not_in, subst (λ f. IsChain (next new stride) (IsFree new stride (marked marks q false)) f b.chain) (sym told) rest);
      unused = λ r from to. (let u = b.unused r from to in let other = marked_apart marks q r live u.0.1 in (free_still new stride marks q r false other u.0, λ i. elim i [ inl e ↦ other e | inr j ↦ u.1 j ]));
      least = b.least;
      most = b.most;
      count = b.count;
      past = λ r l. elim (cases_eq r q) [
        | inl e ↦ rw e (get-marked_same marks q false)
        | inr n ↦ get-marked_other marks q r false n ∙ b.past r l
      ];
    }

-- the number of a row in so many blocks
pub number_fits : (r n : ℕ) → r / 1024 < n → n * 1024 < 2 ^ 32 → r < 2 ^ 32 - 1
number_fits r n l fits = omega (arith, l, fits)

pub first_fits : (bs : List Piece) (stride : ℕ) (marks : List Bool) (sp : Spare) (r : ℕ) → AreSpare bs stride marks sp → sp.free ≡ Some r → IsFree bs stride marks r × (r < 2 ^ 32 - 1)
first_fits bs stride marks sp r a e = good a.chain a.linked
  where
    some_is : (x y : ℕ) → Some x ≡ Some y → x ≡ y
    some_is x y p = cc

    none_is_not : (x : ℕ) → None ≡ Some x → ⊥
    none_is_not x p = cc

    good : (rs : List ℕ) → IsChain (next bs stride) (IsFree bs stride marks) sp.free rs → IsFree bs stride marks r × (r < 2 ^ 32 - 1)
    good [] c = absurd (none_is_not r (sym c ∙ e))
    good (x ∷ xs) c =
        let f = subst (IsFree bs stride marks) (some_is x r (sym c.0 ∙ e)) c.1 in
        (f, number_fits r (length bs) f.0.block a.count)

none_is_not : (x : ℕ) → None ≡ Some x → ⊥
none_is_not x p = cc

some_is : (x y : ℕ) → Some x ≡ Some y → x ≡ y
some_is x y p = cc

-- the rest of a chain whose first row is taken
record Rest (tells : ℕ → Option ℕ) (Good : ℕ → Type 0) (row : ℕ) (all : List ℕ) : Type 0 where
  rows : List ℕ
  linked : IsChain tells Good (tells row) rows
  good : Good row
  gone : ¬ IsIn row rows
  fewer : (s : ℕ) → ¬ IsIn s all → ¬ IsIn s rows

rest_of : (tells : ℕ → Option ℕ) (Good : ℕ → Type 0) (row : ℕ) (all : List ℕ) → IsChain tells Good (Some row) all → Rest tells Good row all
rest_of tells Good row [] c = absurd (none_is_not row (sym c))
rest_of tells Good row (x ∷ xs) c =
    let e : x ≡ row = sym (some_is row x c.0) in
    record {
      rows = xs;
      linked = subst (λ k. IsChain tells Good (tells k) xs) e c.3;
      good = subst Good e c.1;
      gone = subst (λ k. ¬ IsIn k xs) e c.2;
      fewer = λ s out i. out (inr i);
    }

pub past_is_zero : (bs : List Piece) (k m : ℕ) → length bs ≤ k → number bs k m ≡ 0
past_is_zero bs k m l = ap (λ (p : Piece). get_or p.numbers m 0) (get_or_past bs k record { at = null_ptr; numbers = [] } l)

pub Grows-same : (bs : List Piece) → Grows bs bs
Grows-same bs = record { blocks = omega arith; pieces = λ k l. refl; zeros = λ k m l. past_is_zero bs k m l }

-- a free row that was given back is taken
pub Takes_chain : (bs : List Piece) (stride : ℕ) (marks : List Bool) (sp : Spare) (f : Option ℕ) (row : ℕ) → AreSpare bs stride marks sp → sp.free ≡ Some row → f ≡ next bs stride row
    → Takes bs bs stride marks (record sp { free = f }) row
Takes_chain bs stride marks sp f row a e told =
    let rest = rest_of (next bs stride) (IsFree bs stride marks) row a.chain (subst (λ k. IsChain (next bs stride) (IsFree bs stride marks) k a.chain) e a.linked) in
    let marks' = marked marks row true in
    let in_chain : IsIn row a.chain = first_in a.chain a.linked in
    record {
      grows = Grows-same bs;
      place = rest.good.0;
      was_free = rest.good.1;
      rest = record {
        chain = rest.rows;
        linked = subst (λ k. IsChain (next bs stride) (IsFree bs stride marks') k rest.rows) (sym told)
            (chain_change (next bs stride) (next bs stride) (IsFree bs stride marks) (IsFree bs stride marks') (next bs stride row) rest.rows
            (λ s i good. (refl, free_still bs stride marks row s true (λ x. rest.gone (subst (λ k. IsIn k rest.rows) x i)) good)) rest.linked);
        unused = λ r from to. (let u = a.unused r from to in
            (free_still bs stride marks row r true (λ x. u.1 (subst (λ k. IsIn k a.chain) (sym x) in_chain)) u.0, rest.fewer r u.1));
        least = a.least;
        most = a.most;
        count = a.count;
        past = λ r l. get-marked_other marks row r true (λ x. absurd (let b = rest.good.0.block in omega (arith, b, l, ap block_of x))) ∙ a.past r l;
      };
    }
  where
    first_in : (rs : List ℕ) → IsChain (next bs stride) (IsFree bs stride marks) sp.free rs → IsIn row rs
    first_in [] c = absurd (none_is_not row (sym c ∙ e))
    first_in (x ∷ xs) c = inl (sym (some_is x row (sym c.0 ∙ e)))
