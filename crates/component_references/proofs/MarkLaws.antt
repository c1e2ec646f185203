-- Marking, and what is reached by it.
use Rattle.std.proofs.Common.{◌≡◌, ℕ, ◌+◌, ◌<◌, ◌⊎◌, ◌↔◌, inl, inr, List, [], ◌∷◌, ◌++◌, Bool, true, false, true≢false, length, length-append, set, refl, sym, ◌∙◌, subst, arith}
use Rattle.std.specs.Prelude.{All, Contains}
use Rattle.std.proofs.lemmas.Bool.{cases_eq}
use Rattle.std.proofs.lemmas.List.{get_or-set_same, get_or-set_other}
use Rattle.std.proofs.lemmas.List.Elements.{All-contains, All-weaker, Contains-push, Contains-push_cases, Contains-append_left}
use Rattle.std.proofs.lemmas.List.Sums.{sum_by-set}
use Rattle.component_references.specs.NumberedCircles.{refs_of, Leads, directly, further}
use Rattle.component_references.specs.inside.Marks.{marked, one_if_not, unmarked, IsMarking, IsReach}

module _ (seen : List Bool) (y : ℕ) (there : y < length seen) where
  pub marked-set : marked (set seen y true) y ≡ true
  marked-set = get_or-set_same seen y true false there

  pub marked-kept : (z : ℕ) → marked seen z ≡ true → marked (set seen y true) z ≡ true
  marked-kept z m = elim (cases_eq z y) [ inl same ↦ subst (λ v. marked (set seen y true) v ≡ true) (sym same) marked-set | inr other ↦ get_or-set_other seen y z true false other ∙ m ]

  marked-cases : (z : ℕ) → marked (set seen y true) z ≡ true → (y ≡ z) ⊎ (marked seen z ≡ true)
  marked-cases z m = elim (cases_eq z y) [ inl same ↦ inl (sym same) | inr other ↦ inr (sym (get_or-set_other seen y z true false other) ∙ m) ]

  -- one more is marked
  pub marking-more : (xs : List ℕ) (old : List Bool) (old_todo todo : List ℕ) → IsMarking xs old seen old_todo todo → Contains xs y → marked seen y ≡ false
      → IsMarking xs old (set seen y true) old_todo (todo ++ y ∷ [])
  marking-more xs old old_todo todo m is free = record {
    kept = λ z h. marked-kept z (m.kept z h);
    only = λ z h. elim (marked-cases z h) [ inl same ↦ inr (subst (Contains xs) same is) | inr before ↦ m.only z before ];
    done = λ z h. elim (marked-cases z h) [
      | inl same ↦ inr (subst (Contains (todo ++ y ∷ [])) same (Contains-push todo y))
      | inr before ↦ elim (m.done z before) [ inl o ↦ inl o | inr c ↦ inr (Contains-append_left todo (y ∷ []) z c) ]
    ];
    later = λ z c. Contains-append_left todo (y ∷ []) z (m.later z c);
    waits = λ z c. elim (Contains-push_cases todo y z c) [
      | inl before ↦ elim (m.waits z before) [ inl o ↦ inl o | inr h ↦ inr (marked-kept z h) ]
      | inr same ↦ inr (subst (λ v. marked (set seen y true) v ≡ true) same marked-set)
    ];
    count = counted;
  }
    where
      counted : unmarked (set seen y true) + length (todo ++ y ∷ []) ≡ unmarked old + length old_todo
      counted =
          let law = sum_by-set one_if_not seen y true false there in
          let one : one_if_not (marked seen y) ≡ 1 = rw free refl in
          let longer = length-append todo (y ∷ []) in
          omega (arith, law, one, longer, m.count)

module _ (refs : List (List ℕ)) (x : ℕ) where
  -- the first marks
  pub reach-begun : (old seen : List Bool) (todo : List ℕ) → ((y : ℕ) → marked old y ≡ false) → IsMarking (refs_of refs x) old seen [] todo → All (λ y. marked seen y ≡ true) (refs_of refs x) → IsReach refs x seen todo
  reach-begun old seen todo none m all = record {
    reached = λ y h. elim (m.only y h) [ inl o ↦ absurd (true≢false (sym o ∙ none y)) | inr c ↦ directly x y c ];
    waiting = λ y c. elim (m.waits y c) [ inl o ↦ absurd (omega (arith, o.1)) | inr h ↦ h ];
    begun = all;
    closed = λ y h. elim (m.done y h) [ inl o ↦ absurd (true≢false (sym o ∙ none y)) | inr c ↦ inl c ];
  }

  -- the references of a part that was to be done are marked
  pub reach-more : (y : ℕ) (old seen : List Bool) (rest todo : List ℕ) → IsReach refs x old (rest ++ y ∷ []) → IsMarking (refs_of refs y) old seen rest todo → All (λ z. marked seen z ≡ true) (refs_of refs y) → IsReach refs x seen todo
  reach-more y old seen rest todo r m all = record {
    reached = λ z h. elim (m.only z h) [ inl o ↦ r.reached z o | inr c ↦ further x y z (r.reached y (r.waiting y (Contains-push rest y))) c ];
    waiting = λ z c. elim (m.waits z c) [ inl o ↦ m.kept z (r.waiting z (Contains-append_left rest (y ∷ []) z o)) | inr h ↦ h ];
    begun = kept x r.begun;
    closed = λ z h. elim (m.done z h) [
      | inl o ↦ elim (r.closed z o) [
        | inl c ↦ elim (Contains-push_cases rest y z c) [ inl before ↦ inl (m.later z before) | inr same ↦ inr (subst (λ v. All (λ z. marked seen z ≡ true) (refs_of refs v)) same all) ]
        | inr before ↦ inr (kept z before)
      ]
      | inr c ↦ inl c
    ];
  }
    where
      kept : (v : ℕ) → All (λ z. marked old z ≡ true) (refs_of refs v) → All (λ z. marked seen z ≡ true) (refs_of refs v)
      kept v h = All-weaker (λ z. marked old z ≡ true) (λ z. marked seen z ≡ true) m.kept (refs_of refs v) h

  -- with nothing to be done, all that can be reached is marked
  path-marked : (seen : List Bool) → All (λ z. marked seen z ≡ true) (refs_of refs x) → ((y : ℕ) → marked seen y ≡ true → All (λ z. marked seen z ≡ true) (refs_of refs y))
      → (y : ℕ) → Leads refs x y → marked seen y ≡ true
  path-marked seen begun closed _ (directly _ y c) = All-contains (λ z. marked seen z ≡ true) (refs_of refs x) y begun c
  path-marked seen begun closed _ (further _ y z l c) = All-contains (λ z. marked seen z ≡ true) (refs_of refs y) z (closed y (path-marked seen begun closed y l)) c

  pub reach-done : (seen : List Bool) (todo : List ℕ) → length todo ≡ 0 → IsReach refs x seen todo → (y : ℕ) → (marked seen y ≡ true) ↔ Leads refs x y
  reach-done seen todo none r y = (r.reached y, λ l. path-marked seen r.begun closed y l)
    where
      closed : (z : ℕ) → marked seen z ≡ true → All (λ z. marked seen z ≡ true) (refs_of refs z)
      closed z h = elim (r.closed z h) [ inl c ↦ absurd (omega (arith, c.1)) | inr all ↦ all ]
