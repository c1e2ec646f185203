-- The originals that were met, one by one.
use Rattle.std.proofs.Common.{◌≡◌, ◌⊎◌, inl, inr, ℕ, ◌+◌, ◌<◌, ◌≤◌, ◌||◌, Bool, true, false, List, Option, None, Some, length, take, take_all, refl, sym, ap, ◌∙◌, arith}
use Rattle.std.specs.Prelude.{slice_index_or}
use Rattle.std.specs.List.{list_any}
use Rattle.std.proofs.lemmas.List.{get_or_past}
use Rattle.std.proofs.lemmas.List.Folds.{list_any_more}
use Rattle.redefine_names.specs.Shared.{is_original, is_among, is_shared}
use Rattle.redefine_names.specs.inside.Met.{was_met, AreMet}

or-false : (b : Bool) → b ≡ (b || false)
or-false true = refl
or-false false = refl

module _ (originals : List (Option ℕ)) (met : ℕ → Bool) (i : ℕ) (are : AreMet originals i met) where
  -- what is answered of the original at the next place
  pub again-is : was_met met (slice_index_or originals i None) ≡ is_shared originals i
  again-is = by (slice_index_or originals i None)
    where
      by : (o : Option ℕ) → was_met met o ≡ is_among (take i originals) o
      by None = refl
      by (Some original) = are original

  within : (o : ℕ) → i < length originals → list_any (is_original o) (take (i + 1) originals) ≡ (list_any (is_original o) (take i originals) || is_original o (slice_index_or originals i None))
  within o h = list_any_more (is_original o) originals i None h

  pub met-more : (new : ℕ → Bool) → i < length originals ⊎ length originals ≤ i → ((o : ℕ) → new o ≡ (met o || is_original o (slice_index_or originals i None))) → AreMet originals (i + 1) new
  met-more new (inl h) step = λ o. step o ∙ ap (λ b. b || is_original o (slice_index_or originals i None)) (are o) ∙ sym (within o h)
  met-more new (inr h) step = λ o.
      let none : slice_index_or originals i None ≡ None = get_or_past originals i None h in
      let now : take i originals ≡ originals = take_all i originals h in
      let then : take (i + 1) originals ≡ originals = take_all (i + 1) originals (omega (arith, h)) in
      step o ∙ ap (λ x. met o || is_original o x) none ∙ sym (or-false (met o)) ∙ are o ∙ ap (list_any (is_original o)) (now ∙ sym then)
