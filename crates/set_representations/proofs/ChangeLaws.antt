-- Parts that are changed one after another are changed all.
use Rattle.std.proofs.Common.{◌≡◌, ◌⊎◌, inl, inr, ℕ, zero, suc, ◌+◌, List, [], ◌∷◌, ◌++◌, Option, None, Some, length, drop, get_or, ◌<◌, refl, sym, ap, ◌∙◌, arith}
use Rattle.std.specs.List.{flat_map}
use Rattle.std.proofs.lemmas.List.{append_assoc, length_push, drop_more}
use Rattle.xs_components.specs.Table.{TableOf, change_at}
use Rattle.representations.specs.declared.parts.Representation.{Representation}
use Rattle.set_representations.specs.Numbers.{numbers_of, number_at, with_parts}
use Rattle.set_representations.specs.inside.Changes.{changed, changed_at, changes}
use Rattle.set_representations.proofs.NumberLaws.{same_length, same_values}

zero-more : (n : ℕ) → n + 0 ≡ n
zero-more n = omega arith

one-more : (n : ℕ) → suc (n + 1) ≡ suc n + 1
one-more n = omega arith

module _ {T V : Type 0} (change : V → T → T) where
  change_at-behind : (before after : List T) (part : T) (f : T → T) → change_at (before ++ part ∷ after) (length before) f ≡ before ++ f part ∷ after
  change_at-behind [] after part f = refl
  change_at-behind (x ∷ before) after part f = ap (λ (xs : List T). x ∷ xs) (change_at-behind before after part f)

  changed_at-behind : (before after : List T) (part : T) (value : Option V) → changed_at change (before ++ part ∷ after) (Some (length before)) value ≡ before ++ changed change value part ∷ after
  changed_at-behind before after part None = refl
  changed_at-behind before after part (Some value) = change_at-behind before after part (change value)

  change_at-length : (parts : List T) (n : ℕ) (f : T → T) → length (change_at parts n f) ≡ length parts
  change_at-length [] n f = refl
  change_at-length (x ∷ parts) zero f = refl
  change_at-length (x ∷ parts) (suc n) f = ap (λ (k : ℕ). suc k) (change_at-length parts n f)

  -- as many parts as before
  pub changed_at_length : (parts : List T) (number : Option ℕ) (value : Option V) → length (changed_at change parts number value) ≡ length parts
  changed_at_length parts None value = refl
  changed_at_length parts (Some n) None = refl
  changed_at_length parts (Some n) (Some value) = change_at-length parts n (change value)

  drop-none : (n : ℕ) → drop {A = Option ℕ} n [] ≡ []
  drop-none zero = refl
  drop-none (suc n) = refl

  changes-none : (value : Representation → Option V) (parts : List T) (reps : List Representation) → changes change value parts [] reps ≡ parts
  changes-none value parts [] = refl
  changes-none value parts (rep ∷ reps) = refl

  -- the next change, where some are made
  pub changes_next : (value : Representation → Option V) (parts : List T) (numbers : List (Option ℕ)) (place : ℕ) (rep : Representation) (reps : List Representation)
      → changes change value parts (drop place numbers) (rep ∷ reps) ≡ changes change value (changed_at change parts (number_at numbers place) (value rep)) (drop (place + 1) numbers) reps
  changes_next value parts [] zero rep reps = sym (changes-none value parts reps)
  changes_next value parts [] (suc place) rep reps = sym (ap (λ (numbers : List (Option ℕ)). changes change value parts numbers reps) (drop-none (suc place + 1)) ∙ changes-none value parts reps)
  changes_next value parts (number ∷ numbers) zero rep reps = refl
  changes_next value parts (number ∷ numbers) (suc place) rep reps =
      changes_next value parts numbers place rep reps
      ∙ ap (λ (n : ℕ). changes change value (changed_at change parts (number_at numbers place) (value rep)) (drop n (number ∷ numbers)) reps) (one-more place)

  -- the same in the middle of the representations
  pub changes_step : (value : Representation → Option V) (parts : List T) (numbers : List (Option ℕ)) (place : ℕ) (reps : List Representation) (rep : Representation)
      → place < length reps → rep ≡ get_or reps place rep
      → changes change value (changed_at change parts (number_at numbers place) (value rep)) (drop (place + 1) numbers) (drop (place + 1) reps)
      ≡ changes change value parts (drop place numbers) (drop place reps)
  changes_step value parts numbers place reps rep within is = sym
      (ap (λ (all : List Representation). changes change value parts (drop place numbers) all) (drop_more reps place rep within ∙ ap (λ (r : Representation). r ∷ drop (place + 1) reps) (sym is))
      ∙ changes_next value parts numbers place rep (drop (place + 1) reps))

  -- what is built of an element is nothing, or one part, before and after the change
  abbrev pub IsOneChanged : Option V → List T → List T → Type 0
  IsOneChanged value plain whole = ((plain ≡ []) × (whole ≡ [])) ⊎ ((part : T) × (plain ≡ part ∷ []) × (whole ≡ changed change value part ∷ []))

  module _ (value : Representation → Option V) (plain whole : Representation → List T) (one : (rep : Representation) → IsOneChanged (value rep) (plain rep) (whole rep)) where
    pub changes_whole : (before : List T) (reps : List Representation)
        → changes change value (before ++ flat_map plain reps) (numbers_of plain (length before) reps) reps ≡ before ++ flat_map whole reps
    changes_whole before [] = refl
    changes_whole before (rep ∷ reps) = elim (one rep) [
      | inl none ↦
          rw none.0
          (rw none.1
          (ap (λ (n : ℕ). changes change value (before ++ flat_map plain reps) (numbers_of plain n reps) reps) (zero-more (length before)) ∙ changes_whole before reps))
      | inr some ↦
          rw some.1
          (rw some.2
          (ap (λ (parts : List T). changes change value parts (numbers_of plain (length before + 1) reps) reps) (changed_at-behind before (flat_map plain reps) some.0 (value rep)
          ∙ sym (append_assoc before (changed change (value rep) some.0 ∷ []) (flat_map plain reps)))
          ∙ ap (λ (n : ℕ). changes change value ((before ++ changed change (value rep) some.0 ∷ []) ++ flat_map plain reps) (numbers_of plain n reps) reps) (sym (length_push before (changed change (value rep) some.0)))
          ∙ changes_whole (before ++ changed change (value rep) some.0 ∷ []) reps
          ∙ append_assoc before (changed change (value rep) some.0 ∷ []) (flat_map whole reps)))
    ]

    pub one_length : (rep : Representation) → length (plain rep) ≡ length (whole rep)
    one_length rep = elim (one rep) [
      | inl none ↦ ap length none.0 ∙ sym (ap length none.1)
      | inr some ↦ ap length some.1 ∙ sym (ap length some.2)
    ]

    -- the table of all that is built, after the changes
    pub changes_table : (t : TableOf T) (reps : List Representation)
        → ◌≡◌ {A = TableOf T} record { parts = changes change value (t.parts ++ flat_map plain reps) (numbers_of plain (length t.parts) reps) reps; ranks = (with_parts t (flat_map plain reps)).ranks }
        (with_parts t (flat_map whole reps))
    changes_table t reps =
        ap (λ (parts : List T). record { parts = parts; ranks = (with_parts t (flat_map plain reps)).ranks }) (changes_whole t.parts reps)
        ∙ ap (λ (zeros : List ℕ). record { parts = t.parts ++ flat_map whole reps; ranks = t.ranks ++ zeros }) (same_values 0 (flat_map plain reps) (flat_map whole reps) (same_length plain whole one_length reps))
