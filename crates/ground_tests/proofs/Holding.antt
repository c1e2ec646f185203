-- Rows that are kept in slots, after a change.
use Rattle.std.proofs.Common.{◌≡◌, ◌≢◌, ℕ, ◌<◌, List, length, get_or, set, Option, Some, None, sym, ap, ◌∙◌, inl, inr, get_or-set_same, get_or-set_other, arith}
use Rattle.std.proofs.lemmas.Bool.{cases_eq}
use Rattle.std.proofs.lemmas.List.{get_or_past}
use Rattle.map_rows.specs.Rows.{RowMap, get, IsLive, Updates}
use Rattle.ground_tests.specs.Held.{AreHeld}

-- a row was written
pub AreHeld_written : (v v' : RowMap) (width cap : ℕ) (slots : List (Option ℕ)) (r : ℕ) (xs : List ℕ) → AreHeld v width cap slots → Updates v v' r (Some xs) → AreHeld v' width cap slots
AreHeld_written v v' width cap slots r xs h u = record {
  width_is = u.width ∙ h.width_is;
  cap_is = u.cap ∙ h.cap_is;
  live = λ i q e. elim (cases_eq q r) [
    | inl same ↦ (xs, ap (get v') same ∙ u.changed)
    | inr other ↦ (let l = h.live i q e in (l.0, u.others q other ∙ l.1))
  ];
  once = h.once;
}

none_is_not : (x : ℕ) → None ≡ Some x → ⊥
none_is_not x p = cc

some_is : (x y : ℕ) → Some x ≡ Some y → x ≡ y
some_is x y p = cc

pub slot_within : (slots : List (Option ℕ)) (i r : ℕ) → get_or slots i None ≡ Some r → i < length slots
slot_within slots i r e = grind (arith, get_or_past)

-- the row that was found in a slot is live
pub held_live : (v : RowMap) (width cap : ℕ) (seen slots : List (Option ℕ)) (i r : ℕ) → AreHeld v width cap slots → seen ≡ slots → get_or seen i None ≡ Some r → IsLive v r
held_live v width cap seen slots i r h e at = h.live i r (ap (λ (l : List (Option ℕ)). get_or l i None) (sym e) ∙ at)

-- a slot's row was given back
pub AreHeld_given : (v v' : RowMap) (width cap : ℕ) (seen slots : List (Option ℕ)) (i r : ℕ) → AreHeld v width cap slots → seen ≡ slots → get_or seen i None ≡ Some r → Updates v v' r None → AreHeld v' width cap (set slots i None)
AreHeld_given v v' width cap seen slots i r h same_slots found u = record {
  width_is = u.width ∙ h.width_is;
  cap_is = u.cap ∙ h.cap_is;
  live = λ j q e. (let b = before j q e in let l = h.live j q b.1 in (l.0, u.others q (λ same. b.0 (h.once j i r (b.1 ∙ ap Some same) at)) ∙ l.1));
  once = λ j k q ej ek. h.once j k q (before j q ej).1 (before k q ek).1;
}
  where
    at : get_or slots i None ≡ Some r
    at = ap (λ (l : List (Option ℕ)). get_or l i None) (sym same_slots) ∙ found

    before : (j q : ℕ) → get_or (set slots i None) j None ≡ Some q → (j ≢ i) × (get_or slots j None ≡ Some q)
    before j q e = elim (cases_eq j i) [
      | inl same ↦ absurd (none_is_not q (sym (get_or-set_same slots i None None (slot_within slots i r at)) ∙ ap (λ k. get_or (set slots i None) k None) (sym same) ∙ e))
      | inr other ↦ (other, sym (get_or-set_other slots i j None None other) ∙ e)
    ]
