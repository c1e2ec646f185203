-- Lists that are kept in slots, after a change, for the tests.
use Rattle.std.proofs.Common.{◌≡◌, ◌≢◌, ℕ, ◌-◌, ◌<◌, true, false, List, length, get_or, set, Option, Some, None, sym, ap, ◌∙◌, subst, inl, inr, get_or-set_same, get_or-set_other, arith}
use Rattle.std.specs.Prelude.{slice_get, is_some}
use Rattle.std.proofs.lemmas.Bool.{cases_eq, cases_lt}
use Rattle.std.proofs.lemmas.List.{get_or_past, length-map}
use Rattle.child_trees.specs.Lists.{Entry, Lists, get, IsLive, Updates, IsUpTo, HasItem, items}
use Rattle.ground_tests.specs.ListHeld.{AreHeld}
use Rattle.child_trees.proofs.Reading.{get_some, get_none}

none_is_not : (x : ℕ) → None ≡ Some x → ⊥
none_is_not x p = cc

some_is : (x y : ℕ) → Some x ≡ Some y → x ≡ y
some_is x y p = cc

pub slot_within : (slots : List (Option ℕ)) (i q : ℕ) → get_or slots i None ≡ Some q → i < length slots
slot_within slots i q e = grind (arith, get_or_past)

module _ {Shape Map : Type 0} where
  -- an item that was read lies in its list
  pub item_found : (v : Lists Shape Map) (q place i : ℕ) → (xs : List (Entry Map)) × (get v q ≡ Some xs) → ((xs : List (Entry Map)) → get v q ≡ Some xs → Some i ≡ slice_get (items xs) place) → HasItem v i
  item_found v q place i w e = elim (cases_lt place (length (items w.0))) [
    | inl few ↦ (q, place, w.0, record { list = w.1; within = omega (arith, few, length-map w.0 (λ e. e.item)); item_is = some_is _ _ (sym (get_some (items w.0) place few) ∙ sym (e w.0 w.1)) })
    | inr many ↦ absurd (none_is_not i (sym (get_none (items w.0) place many) ∙ sym (e w.0 w.1)))
  ]

  -- a place behind an item is up to the list's end
  pub reached : (v : Lists Shape Map) (q place : ℕ) (found : Option ℕ) → ((xs : List (Entry Map)) → get v q ≡ Some xs → found ≡ slice_get (items xs) (place - 1)) → is_some found ≡ true → IsUpTo v q place
  reached v q place found at some = λ xs e. elim (cases_lt (place - 1) (length (items xs))) [
    | inl few ↦ omega (arith, few, length-map xs (λ e. e.item))
    | inr many ↦ absurd (not_true (sym (ap is_some (at xs e ∙ get_none (items xs) (place - 1) many)) ∙ some))
  ]
    where
      not_true : false ≡ true → ⊥
      not_true p = cc

  -- a list was changed
  pub AreHeld_changed : (v v' : Lists Shape Map) (slots : List (Option ℕ)) (q : ℕ) (xs : List (Entry Map)) → AreHeld v slots → Updates v v' q (Some xs) → AreHeld v' slots
  AreHeld_changed v v' slots q xs h u = record {
    live = λ i p e. elim (cases_eq p q) [
      | inl same ↦ (xs, ap (get v') same ∙ u.changed)
      | inr other ↦ (let l = h.live i p e in (l.0, u.others p other ∙ l.1))
    ];
    once = h.once;
  }

  -- the list that was found in a slot is live
  pub held_live : (v : Lists Shape Map) (seen slots : List (Option ℕ)) (i q : ℕ) → AreHeld v slots → seen ≡ slots → get_or seen i None ≡ Some q → IsLive v q
  held_live v seen slots i q h e at = h.live i q (ap (λ (l : List (Option ℕ)). get_or l i None) (sym e) ∙ at)

  -- a slot's list was given back
  pub AreHeld_given : (v v' : Lists Shape Map) (seen slots : List (Option ℕ)) (i q : ℕ) → AreHeld v slots → seen ≡ slots → get_or seen i None ≡ Some q → Updates v v' q None → AreHeld v' (set slots i None)
  AreHeld_given v v' seen slots i q h same_slots found u = record {
    live = λ j p e. (let b = before j p e in let l = h.live j p b.1 in (l.0, u.others p (λ same. b.0 (h.once j i q (b.1 ∙ ap Some same) at)) ∙ l.1));
    once = λ j k p ej ek. h.once j k p (before j p ej).1 (before k p ek).1;
  }
    where
      at : get_or slots i None ≡ Some q
      at = ap (λ (l : List (Option ℕ)). get_or l i None) (sym same_slots) ∙ found

      before : (j p : ℕ) → get_or (set slots i None) j None ≡ Some p → (j ≢ i) × (get_or slots j None ≡ Some p)
      before j p e = elim (cases_eq j i) [
        | inl same ↦ absurd (none_is_not p (sym (get_or-set_same slots i None None (slot_within slots i q at)) ∙ ap (λ k. get_or (set slots i None) k None) (sym same) ∙ e))
        | inr other ↦ (other, sym (get_or-set_other slots i j None None other) ∙ e)
      ]

  -- a new list was put into a slot
  pub AreHeld_taken : (v v' : Lists Shape Map) (slots : List (Option ℕ)) (i q : ℕ) (xs : List (Entry Map)) → AreHeld v slots → i < length slots → ¬ IsLive v q → Updates v v' q (Some xs) → AreHeld v' (set slots i (Some q))
  AreHeld_taken v v' slots i q xs h within fresh u = record {
    live = λ j p e. elim (cases_eq j i) [
      | inl same ↦ (xs, ap (get v') (there j p same e) ∙ u.changed)
      | inr other ↦ (let l = h.live j p (before j p other e) in (l.0, u.others p (λ s. fresh (subst (IsLive v) s l)) ∙ l.1))
    ];
    once = λ j k p ej ek. elim (cases_eq j i) [
      | inl js ↦ elim (cases_eq k i) [
        | inl ks ↦ js ∙ sym ks
        | inr ko ↦ absurd (fresh (subst (IsLive v) (there j p js ej) (h.live k p (before k p ko ek))))
      ]
      | inr jo ↦ elim (cases_eq k i) [
        | inl ks ↦ absurd (fresh (subst (IsLive v) (there k p ks ek) (h.live j p (before j p jo ej))))
        | inr ko ↦ h.once j k p (before j p jo ej) (before k p ko ek)
      ]
    ];
  }
    where
      there : (j p : ℕ) → j ≡ i → get_or (set slots i (Some q)) j None ≡ Some p → p ≡ q
      there j p same e = some_is p q (sym e ∙ ap (λ k. get_or (set slots i (Some q)) k None) same ∙ get_or-set_same slots i (Some q) None within)

      before : (j p : ℕ) → j ≢ i → get_or (set slots i (Some q)) j None ≡ Some p → get_or slots j None ≡ Some p
      before j p other e = sym (get_or-set_other slots i j (Some q) None other) ∙ e
