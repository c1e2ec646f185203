-- Marking, and what is reached by it.
use Rattle.std.proofs.Common.{◌≡◌, ℕ, zero, suc, ◌+◌, ◌<◌, ◌⊎◌, ◌↔◌, inl, inr, List, [], ◌∷◌, ◌++◌, Bool, true, false, true≢false, Some, length, length-append, set, drop, get_or, refl, sym, ap, ◌∙◌, subst, arith}
use Rattle.std.specs.Prelude.{All, Contains, slice_get}
use Rattle.std.proofs.lemmas.Bool.{cases_eq, false≢true}
use Rattle.std.proofs.lemmas.Option.{none-some, same_Some}
use Rattle.std.proofs.lemmas.List.{get_or-set_same, get_or-set_other, drop_more}
use Rattle.std.proofs.lemmas.List.Elements.{All-contains, All-weaker, Contains-push, Contains-push_cases, Contains-append_left}
use Rattle.std.proofs.lemmas.List.Sums.{sum_by-set}
use Rattle.schema_set.specs.declared.documents.Available.{Available}
use Rattle.schema_set.specs.inside.Following.{with_own, following, Reaches, begins, further}
use Rattle.schema_set.specs.inside.Marks.{marked, one_if_not, unmarked, marks, IsMarking, IsReach}

module _ (seen : List Bool) (y : ℕ) (there : y < length seen) where
  pub marked-set : marked (set seen y true) y ≡ true
  marked-set = get_or-set_same seen y true false there

  pub marked-kept : (z : ℕ) → marked seen z ≡ true → marked (set seen y true) z ≡ true
  marked-kept z m = elim (cases_eq z y) [ inl same ↦ subst (λ v. marked (set seen y true) v ≡ true) (sym same) marked-set | inr other ↦ get_or-set_other seen y z true false other ∙ m ]

  marked-cases : (z : ℕ) → marked (set seen y true) z ≡ true → (y ≡ z) ⊎ (marked seen z ≡ true)
  marked-cases z m = elim (cases_eq z y) [ inl same ↦ inl (sym same) | inr other ↦ inr (sym (get_or-set_other seen y z true false other) ∙ m) ]

  -- one more is marked
  pub marking-more : (xs : List ℕ) (old : List Bool) (old_todo todo : List ℕ) → IsMarking xs old seen old_todo todo → Contains xs y → marked seen y ≡ false
      → IsMarking xs old (set seen y true) old_todo (todo ++ y ∷ [])
  marking-more xs old old_todo todo m is free = record {
    kept = λ z h. marked-kept z (m.kept z h);
    only = λ z h. elim (marked-cases z h) [ inl same ↦ inr (subst (Contains xs) same is) | inr before ↦ m.only z before ];
    done = λ z h. elim (marked-cases z h) [
      | inl same ↦ inr (subst (Contains (todo ++ y ∷ [])) same (Contains-push todo y))
      | inr before ↦ elim (m.done z before) [ inl o ↦ inl o | inr c ↦ inr (Contains-append_left todo (y ∷ []) z c) ]
    ];
    later = λ z c. Contains-append_left todo (y ∷ []) z (m.later z c);
    waits = λ z c. elim (Contains-push_cases todo y z c) [
      | inl before ↦ elim (m.waits z before) [ inl o ↦ inl o | inr h ↦ inr (marked-kept z h) ]
      | inr same ↦ inr (subst (λ v. marked (set seen y true) v ≡ true) same marked-set)
    ];
    count = counted;
  }
    where
      counted : unmarked (set seen y true) + length (todo ++ y ∷ []) ≡ unmarked old + length old_todo
      counted =
          let law = sum_by-set one_if_not seen y true false there in
          let one : one_if_not (marked seen y) ≡ 1 = rw free refl in
          let longer = length-append todo (y ∷ []) in
          omega (arith, law, one, longer, m.count)

module _ (available : List Available) (start : ℕ) where
  -- the first mark
  pub reach-begun : (first : ℕ) → first ≡ with_own available (start + 1) → (old : List Bool) (todo : List ℕ) → ((y : ℕ) → marked old y ≡ false) → first < length old → todo ≡ [] ++ first ∷ []
      → IsReach available start (set old first true) todo
  reach-begun first own old todo none there is = record {
    reached = λ y h. elim (marked-cases old first there y h) [ inl same ↦ subst (Reaches available start) (sym own ∙ same) begins | inr o ↦ absurd (true≢false (sym o ∙ none y)) ];
    waiting = λ y c. elim (Contains-push_cases [] first y (subst (λ (l : List ℕ). Contains l y) is c)) [ inl o ↦ absurd (omega (arith, o.1)) | inr same ↦ subst (λ v. marked (set old first true) v ≡ true) same (marked-set old first there) ];
    begun = subst (λ v. marked (set old first true) v ≡ true) own (marked-set old first there);
    closed = λ y h. elim (marked-cases old first there y h) [ inl same ↦ inl (subst (Contains todo) same (subst (λ (l : List ℕ). Contains l first) (sym is) (Contains-push [] first))) | inr o ↦ absurd (true≢false (sym o ∙ none y)) ];
  }

  -- what one that was to be done leads to is marked
  pub reach-more : (y : ℕ) (old seen : List Bool) (rest todo : List ℕ) → IsReach available start old (rest ++ y ∷ []) → IsMarking (following available y) old seen rest todo → All (λ z. marked seen z ≡ true) (following available y) → IsReach available start seen todo
  reach-more y old seen rest todo r m all = record {
    reached = λ z h. elim (m.only z h) [ inl o ↦ r.reached z o | inr c ↦ further y z (r.reached y (r.waiting y (Contains-push rest y))) c ];
    waiting = λ z c. elim (m.waits z c) [ inl o ↦ m.kept z (r.waiting z (Contains-append_left rest (y ∷ []) z o)) | inr h ↦ h ];
    begun = m.kept (with_own available (start + 1)) r.begun;
    closed = λ z h. elim (m.done z h) [
      | inl o ↦ elim (r.closed z o) [
        | inl c ↦ elim (Contains-push_cases rest y z c) [ inl before ↦ inl (m.later z before) | inr same ↦ inr (subst (λ v. All (λ z. marked seen z ≡ true) (following available v)) same all) ]
        | inr before ↦ inr (kept z before)
      ]
      | inr c ↦ inl c
    ];
  }
    where
      kept : (v : ℕ) → All (λ z. marked old z ≡ true) (following available v) → All (λ z. marked seen z ≡ true) (following available v)
      kept v h = All-weaker (λ z. marked old z ≡ true) (λ z. marked seen z ≡ true) m.kept (following available v) h

  -- with nothing to be done, all that can be reached is marked
  path-marked : (seen : List Bool) → marked seen (with_own available (start + 1)) ≡ true → ((y : ℕ) → marked seen y ≡ true → All (λ z. marked seen z ≡ true) (following available y))
      → (y : ℕ) → Reaches available start y → marked seen y ≡ true
  path-marked seen begun closed _ begins = begun
  path-marked seen begun closed _ (further x y r c) = All-contains (λ z. marked seen z ≡ true) (following available x) y (closed x (path-marked seen begun closed x r)) c

  pub reach-done : (seen : List Bool) (todo : List ℕ) → length todo ≡ 0 → IsReach available start seen todo → (y : ℕ) → (marked seen y ≡ true) ↔ Reaches available start y
  reach-done seen todo none r y = (r.reached y, λ l. path-marked seen r.begun closed y l)
    where
      closed : (z : ℕ) → marked seen z ≡ true → All (λ z. marked seen z ≡ true) (following available z)
      closed z h = elim (r.closed z h) [ inl c ↦ absurd (omega (arith, c.1)) | inr all ↦ all ]

-- ---- the marked numbers in order
abbrev Read : ℕ → List Bool → ℕ → Type 0
Read n bs x = (k : ℕ) × (x ≡ n + k) × (marked bs k ≡ true)

read-later : (n : ℕ) (b : Bool) (bs : List Bool) (x : ℕ) → Read (n + 1) bs x → Read n (b ∷ bs) x
read-later n b bs x r = (suc r.0, omega (arith, r.1), r.2)

pub marks-read : (n : ℕ) (bs : List Bool) (m x : ℕ) → slice_get (marks n bs) m ≡ Some x → Read n bs x
marks-read n [] m x e = absurd (none-some x e)
marks-read n (true ∷ bs) zero x e = let same : n ≡ x = same_Some n x e in (0, omega (arith, same), refl)
marks-read n (true ∷ bs) (suc m) x e = read-later n true bs x (marks-read (n + 1) bs m x e)
marks-read n (false ∷ bs) m x e = read-later n false bs x (marks-read (n + 1) bs m x e)

pub marks-has : (n : ℕ) (bs : List Bool) (k : ℕ) → marked bs k ≡ true → (m : ℕ) × (slice_get (marks n bs) m ≡ Some (n + k))
marks-has n [] k e = absurd (false≢true e)
marks-has n (true ∷ bs) zero e = let same : n ≡ n + 0 = omega arith in (0, ap (λ x. Some x) same)
marks-has n (false ∷ bs) zero e = absurd (false≢true e)
marks-has n (true ∷ bs) (suc k) e = let m = marks-has (n + 1) bs k e in let same : n + 1 + k ≡ n + suc k = omega arith in (suc m.0, m.1 ∙ ap (λ x. Some x) same)
marks-has n (false ∷ bs) (suc k) e = let m = marks-has (n + 1) bs k e in let same : n + 1 + k ≡ n + suc k = omega arith in (m.0, m.1 ∙ ap (λ x. Some x) same)

pub marks-rise : (n : ℕ) (bs : List Bool) (m l x y : ℕ) → m < l → slice_get (marks n bs) m ≡ Some x → slice_get (marks n bs) l ≡ Some y → x < y
marks-rise n [] m l x y h e f = absurd (none-some x e)
marks-rise n (false ∷ bs) m l x y h e f = marks-rise (n + 1) bs m l x y h e f
marks-rise n (true ∷ bs) m zero x y h e f = absurd (omega (arith, h))
marks-rise n (true ∷ bs) zero (suc l) x y h e f = let same : n ≡ x = same_Some n x e in let r = marks-read (n + 1) bs l y f in omega (arith, same, r.1)
marks-rise n (true ∷ bs) (suc m) (suc l) x y h e f = marks-rise (n + 1) bs m l x y (omega (arith, h)) e f

-- one number more
pub marks-more : (bs : List Bool) (i : ℕ) (b : Bool) → i < length bs → b ≡ get_or bs i b → marks i (drop i bs) ≡ marks i (b ∷ drop (i + 1) bs)
marks-more bs i b h is = ap (marks i) (drop_more bs i b h ∙ ap (λ c. c ∷ drop (i + 1) bs) (sym is))
