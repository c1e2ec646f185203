-- More lists of rows.
use Rattle.std.proofs.Common.{◌≡◌, ℕ, zero, suc, ◌<◌, ◌≤◌, List, [], ◌∷◌, ◌++◌, Some, length, slice_get, refl, sym, ap, ◌∙◌, inl, inr, arith}
use Rattle.std.proofs.lemmas.Bool.{cases_lt}
use Rattle.std.proofs.lemmas.Option.{same_Some}
use Rattle.model_lists.specs.Lists.{RowLists}
use Rattle.model_lists.specs.Inside.{AreShaped, GrowTo}

get-first : (xs : List RowLists) (x : RowLists) (i : ℕ) → i < length xs → slice_get (xs ++ x ∷ []) i ≡ slice_get xs i
get-first [] x i l = absurd (omega arith)
get-first (y ∷ xs) x zero l = refl
get-first (y ∷ xs) x (suc i) l = get-first xs x i (omega arith)

get-last : (xs : List RowLists) (x y : RowLists) (i : ℕ) → length xs ≤ i → slice_get (xs ++ x ∷ []) i ≡ Some y → (i ≡ length xs) × (y ≡ x)
get-last [] x y zero l e = (refl, same_Some y x (sym e))
get-last [] x y (suc i) l e = absurd (cc)
get-last (z ∷ xs) x y zero l e = absurd (omega arith)
get-last (z ∷ xs) x y (suc i) l e = let h = get-last xs x y i (omega arith) e in (ap suc h.0, h.1)

pub shaped-more : (xs : List RowLists) (x : RowLists) → AreShaped xs → x.shape ≡ suc (length xs) → AreShaped (xs ++ x ∷ [])
shaped-more xs x h e dead lists there = elim (cases_lt dead (length xs)) [
  | inl less ↦ h dead lists (sym (get-first xs x dead less) ∙ there)
  | inr more ↦ (
      let last = get-last xs x lists dead (omega arith) there in
      let same : lists ≡ x = last.1 in
      let at : dead ≡ length xs = last.0 in
      ap (λ (l : RowLists). l.shape) same ∙ (e ∙ ap suc (sym at)))
]

pub grown-more : (old xs : List RowLists) (x : RowLists) → GrowTo old xs → length old ≤ length xs → GrowTo old (xs ++ x ∷ [])
grown-more old xs x h few dead l = get-first xs x dead (omega arith) ∙ h dead l

length-more : (xs : List RowLists) (x : RowLists) → length (xs ++ x ∷ []) ≡ suc (length xs)
length-more [] x = refl
length-more (y ∷ xs) x = ap suc (length-more xs x)

pub more-many : (old xs : List RowLists) (x : RowLists) (now : List RowLists) → now ≡ xs ++ x ∷ [] → length old ≤ length xs → length old ≤ length now
more-many old xs x now e few = let n = ap length e ∙ length-more xs x in omega (arith, n, few)
