-- Names that are found in the order of their numbers.
use Rattle.std.proofs.Common.{◌≡◌, ℕ, ◌+◌, ◌<◌, ◌≤◌, Bool, true, false, List, [], ◌∷◌, ◌++◌, ◌⊎◌, inl, inr, subst, true≢false, append-nil, refl, sym, ap, ◌∙◌, arith}
use Rattle.std.specs.Prelude.{nat_eq, All, Contains}
use Rattle.std.specs.List.{list_any, IsDistinct}
use Rattle.std.proofs.lemmas.Bool.{cases_lt, ne_eqb}
use Rattle.std.proofs.lemmas.Cmp.{nat_eq_equiv}
use Rattle.std.proofs.lemmas.List.Elements.{All-push, All-weaker, All-nil, Contains-push, Contains-append_left}
use Rattle.std.proofs.lemmas.List.Folds.{list_any_none}
use Rattle.std.proofs.lemmas.Map.Keys.{IsDistinct-push}
use Rattle.attr_assess.specs.Lacking.{AreThose}
use Rattle.attr_assess.specs.inside.Uses.{picked}

module _ (test : ℕ → Bool) where
  pub found-none : AreThose test 0 []
  unfolding IsDistinct
  found-none = record {
    once = tt;
    below = All-nil (λ name. name < 0);
    hold = All-nil (λ name. test name ≡ true);
    each = λ name h e. absurd (omega arith);
  }

  apart : (n x : ℕ) → x < n → nat_eq n x ≡ false
  apart n x h = ne_eqb n x (λ e. absurd (omega arith))

  below_more : (n : ℕ) (names : List ℕ) → All (λ name. name < n) names → All (λ name. name < n + 1) names
  below_more n names below = All-weaker (λ name. name < n) (λ name. name < n + 1) (λ name h. omega arith) names below

  -- the names from one bound up to another do not pass the test
  pub found-gap : (from to : ℕ) (names : List ℕ) → from ≤ to → ((name : ℕ) → from ≤ name → name < to → test name ≡ false) → AreThose test from names → AreThose test to names
  found-gap from to names up none found = record {
    once = found.once;
    below = All-weaker (λ name. name < from) (λ name. name < to) (λ name h. omega arith) names found.below;
    hold = found.hold;
    each = each;
  }
    where
      each : (name : ℕ) → name < to → test name ≡ true → Contains names name
      each name h e = elim (cases_lt name from) [ inl b ↦ found.each name b e | inr a ↦ absurd (true≢false (sym e ∙ none name a h)) ]

  found-one : (n : ℕ) (names : List ℕ) → test n ≡ true → AreThose test n names → AreThose test (n + 1) (names ++ n ∷ [])
  found-one n names is found = record {
    once = IsDistinct-push nat_eq_equiv names n found.once (list_any_none (nat_eq n) names (All-weaker (λ name. name < n) (λ name. nat_eq n name ≡ false) (apart n) names found.below));
    below = All-push (λ name. name < n + 1) names n (below_more n names found.below) (omega arith);
    hold = All-push (λ name. test name ≡ true) names n found.hold is;
    each = each;
  }
    where
      each : (name : ℕ) → name < n + 1 → test name ≡ true → Contains (names ++ n ∷ []) name
      each name h e = elim (cases_lt name n) [
        | inl b ↦ Contains-append_left names (n ∷ []) name (found.each name b e)
        | inr a ↦ (let same : n ≡ name = omega arith in subst (λ x. Contains (names ++ n ∷ []) x) same (Contains-push names n))
      ]

  pub found-step : (n : ℕ) (names : List ℕ) → AreThose test n names → AreThose test (n + 1) (names ++ picked (test n) n)
  found-step n names found = of (test n) refl
    where
      of : (b : Bool) → test n ≡ b → AreThose test (n + 1) (names ++ picked b n)
      of true is = found-one n names is found
      of false is = rw append-nil (found-gap n (n + 1) names (omega arith) (λ name a b. (let same : n ≡ name = omega arith in sym (ap test same) ∙ is)) found)
