-- The entry of a number that is found once.
use Rattle.std.proofs.Common.{◌≡◌, ◌==◌, ◌≤◌, ℕ, zero, suc, Bool, true, false, List, [], ◌∷◌, Some, refl, ap, ◌∙◌, arith}
use Rattle.std.specs.Prelude.{if◌then◌else◌, slice_get}
use Rattle.std.specs.Option.{option_map}
use Rattle.std.proofs.lemmas.Bool.Decides.{nat_tests}
use Rattle.std.proofs.lemmas.Option.{same_Some}
use Rattle.assessment.specs.Assessment.{Entry}
use Rattle.what_is_found.specs.IsFound.{times_found}
use Rattle.session_model.specs.Asking.{entry_at, first_number, number_after}

abbrev pub number_of : Entry → ℕ
number_of e = e.number

pub hit : (a b : ℕ) → a ≡ b → (a == b) ≡ true
hit a b same = grind (arith, nat_tests)

first-number : (es : List Entry) → first_number es ≡ option_map number_of (slice_get es 0)
first-number [] = refl
first-number (e ∷ es) = refl

module _ (node : ℕ) (e : Entry) (is : e.number ≡ node) where
  -- what stands at a place is counted
  counted : (es : List Entry) (i : ℕ) → slice_get es i ≡ Some e → 1 ≤ times_found node es
  counted [] i at = cc
  counted (x ∷ es) zero at =
      let own : (x.number == node) ≡ true = hit x.number node (ap number_of (same_Some x e at) ∙ is) in
      omega (arith, ap {B = ℕ} (λ (b : Bool). if b then 1 else 0) own)
  counted (x ∷ es) (suc i) at = omega (arith, counted es i at)

  -- an entry before it has another number, where the number is found once
  before : (x : Entry) (es : List Entry) (b : Bool) → (x.number == node) ≡ b → 1 ≤ times_found node es → times_found node (x ∷ es) ≤ 1 → b ≡ false
  before x es true own later once = absurd (omega (arith, ap {B = ℕ} (λ (t : Bool). if t then 1 else 0) own, later, once))
  before x es false own later once = refl

  fewer : (x : Entry) (es : List Entry) → times_found node (x ∷ es) ≤ 1 → times_found node es ≤ 1
  fewer x es once = omega (arith, once)

  pub near_entry : (es : List Entry) (i : ℕ) → slice_get es i ≡ Some e → times_found node es ≤ 1 → entry_at node es ≡ Some e
  near_entry [] i at once = cc
  near_entry (x ∷ es) zero at once = ap (λ (b : Bool). if b then Some x else entry_at node es) (hit x.number node (ap number_of (same_Some x e at) ∙ is)) ∙ at
  near_entry (x ∷ es) (suc i) at once =
      ap (λ (b : Bool). if b then Some x else entry_at node es) (before x es (x.number == node) refl (counted es i at) once)
      ∙ near_entry es i at (fewer x es once)

  pub near_number : (es : List Entry) (i : ℕ) → slice_get es i ≡ Some e → times_found node es ≤ 1 → number_after node es ≡ option_map number_of (slice_get es (suc i))
  near_number [] i at once = cc
  near_number (x ∷ es) zero at once =
      ap (λ (b : Bool). if b then first_number es else number_after node es) (hit x.number node (ap number_of (same_Some x e at) ∙ is)) ∙ first-number es
  near_number (x ∷ es) (suc i) at once =
      ap (λ (b : Bool). if b then first_number es else number_after node es) (before x es (x.number == node) refl (counted es i at) once)
      ∙ near_number es i at (fewer x es once)
