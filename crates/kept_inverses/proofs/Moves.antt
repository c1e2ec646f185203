-- Elements that are governed otherwise than before, by what is kept and by what is found.
use Rattle.std.proofs.Common.{◌≡◌, ◌⊎◌, ℕ, zero, suc, ◌+◌, ◌-◌, ◌≤◌, ◌==◌, List, [], ◌∷◌, ◌++◌, length, Bool, true, false, Option, None, Some, refl, sym, ap, ◌∙◌, subst, inl, inr, arith}
use Rattle.std.specs.Prelude.{if◌then◌else◌}
use Rattle.tree_rows.specs.Forest.{Forest, none, text, element}
use Rattle.tree_edits.specs.Edits.{append, has, width, insert_at}
use Rattle.elem_governing.specs.declared.pairs.Governing.{Governing}
use Rattle.assessment.specs.Local.{HasElement}
use Rattle.edit_budgets.specs.Budget.{same_governing, children_if}
use Rattle.edit_budgets.specs.Budget as budget
use Rattle.doc_changes.specs.Readers.{element_numbers}
use Rattle.kept_slots.specs.Slots.{at}
use Rattle.kept_changes.specs.from_kept_records.KeptElement.{KeptElement}
use Rattle.kept_changes.specs.from_kept_records.Slots.{KeptSlots}
use Rattle.kept_changes.specs.from_kept_below.Moved.{is_typed}
use Rattle.kept_changes.specs.from_kept_below.Moved as kept
use Rattle.kept_inverses.proofs.Paths.{IsAt}

-- there are no fewer nodes among siblings than elements
pub elements-fit : (f : Forest) → length (element_numbers f) ≤ width f
elements-fit none = omega arith
elements-fit (text number chars next) = let r = elements-fit next in omega (arith, r)
elements-fit (element number name bindings attributes children next) = let r = elements-fit next in omega (arith, r)

module _ (ks : KeptSlots) (before : Forest) (old new : ℕ → Governing) where
  -- something is kept of an element that was there before, by what governed it; and nothing of one that was not
  pub record IsOld (n : ℕ) : Type 0 where
    pub was : has n before ≡ true
    pub kept : KeptElement
    pub is : at ks n ≡ Some kept
    pub pair_is : kept.found.governing ≡ old n

  pub record IsNew (n : ℕ) : Type 0 where
    pub was : has n before ≡ false
    pub none : at ks n ≡ None

  abbrev pub AllOld : Forest → Type 0
  AllOld f = (n : ℕ) → HasElement n f → IsOld n

  abbrev pub AllNew : Forest → Type 0
  AllNew f = (n : ℕ) → HasElement n f → IsNew n

  abbrev taken : Forest → ℕ
  taken f = kept.moved ks new f

  abbrev counted : Forest → ℕ
  counted f = budget.moved before old new f

  old-own : (n : ℕ) (children : Forest) → IsOld n →
      (if is_typed (at ks n) (new n).of then 0 else length (element_numbers children)) ≤ (if has n before then children_if (same_governing (old n).of (new n).of) children else 1)
  old-own n children own =
      let typed : is_typed (at ks n) (new n).of ≡ same_governing (old n).of (new n).of =
      ap (λ (o : Option KeptElement). is_typed o (new n).of) own.is ∙ ap (λ (g : Governing). same_governing g.of (new n).of) own.pair_is in
      let mine = ap (λ (b : Bool). if b then 0 else length (element_numbers children)) typed in
      let yours = ap (λ (b : Bool). if b then children_if (same_governing (old n).of (new n).of) children else 1) own.was in
      let fits = by (same_governing (old n).of (new n).of) in
      omega (arith, mine, yours, fits)
    where
      by : (b : Bool) → (if b then 0 else length (element_numbers children)) ≤ children_if b children
      by true = omega arith
      by false = elements-fit children

  pub old-moved : (f : Forest) → AllOld f → taken f ≤ counted f
  old-moved none all = omega arith
  old-moved (text number chars next) all = let r = old-moved next all in omega (arith, r)
  old-moved (element number name bindings attributes children next) all =
      let own = old-own number children (all number (inl refl)) in
      let below = old-moved children (λ n h. all n (inr (inl h))) in
      let later = old-moved next (λ n h. all n (inr (inr h))) in
      omega (arith, own, below, later)

  new-own : (n : ℕ) (children : Forest) → IsNew n →
      ((if is_typed (at ks n) (new n).of then 0 else length (element_numbers children)) ≡ length (element_numbers children)) × ((if has n before then children_if (same_governing (old n).of (new n).of) children else 1) ≡ 1)
  new-own n children own = (
    ap (λ (o : Option KeptElement). if is_typed o (new n).of then 0 else length (element_numbers children)) own.none,
    ap (λ (b : Bool). if b then children_if (same_governing (old n).of (new n).of) children else 1) own.was,
  )

  pub new-moved : (f : Forest) → AllNew f → taken f + length (element_numbers f) ≤ counted f
  new-moved none all = omega arith
  new-moved (text number chars next) all = let r = new-moved next all in omega (arith, r)
  new-moved (element number name bindings attributes children next) all =
      let own = new-own number children (all number (inl refl)) in
      let below = new-moved children (λ n h. all n (inr (inl h))) in
      let later = new-moved next (λ n h. all n (inr (inr h))) in
      omega (arith, own.0, own.1, below, later)

  taken-append : (f g : Forest) → taken (append f g) ≡ taken f + taken g
  taken-append none g = omega arith
  taken-append (text number chars next) g = taken-append next g
  taken-append (element number name bindings attributes children next) g = let r = taken-append next g in omega (arith, r)

  counted-append : (f g : Forest) → counted (append f g) ≡ counted f + counted g
  counted-append none g = omega arith
  counted-append (text number chars next) g = let r = counted-append next g in omega (arith, r)
  counted-append (element number name bindings attributes children next) g = let r = counted-append next g in omega (arith, r)

  taken-insert : (place : ℕ) (part f : Forest) → taken (insert_at place part f) ≡ taken part + taken f
  taken-insert place part none = omega arith
  taken-insert place part (text number chars next) = by (place == 0) (taken-insert (place - 1) part next)
    where
      by : (b : Bool) → taken (insert_at (place - 1) part next) ≡ taken part + taken next →
          taken (if b then append part (text number chars next) else text number chars (insert_at (place - 1) part next)) ≡ taken part + taken (text number chars next)
      by true r = taken-append part (text number chars next)
      by false r = r
  taken-insert place part (element number name bindings attributes children next) = by (place == 0) (taken-insert (place - 1) part next)
    where
      by : (b : Bool) → taken (insert_at (place - 1) part next) ≡ taken part + taken next →
          taken (if b then append part (element number name bindings attributes children next) else element number name bindings attributes children (insert_at (place - 1) part next)) ≡
          taken part + taken (element number name bindings attributes children next)
      by true r = taken-append part (element number name bindings attributes children next)
      by false r = omega (arith, r)

  counted-insert : (place : ℕ) (part f : Forest) → counted (insert_at place part f) ≡ counted part + counted f
  counted-insert place part none = omega arith
  counted-insert place part (text number chars next) = by (place == 0) (counted-insert (place - 1) part next)
    where
      by : (b : Bool) → counted (insert_at (place - 1) part next) ≡ counted part + counted next →
          counted (if b then append part (text number chars next) else text number chars (insert_at (place - 1) part next)) ≡ counted part + counted (text number chars next)
      by true r = counted-append part (text number chars next)
      by false r = omega (arith, r)
  counted-insert place part (element number name bindings attributes children next) = by (place == 0) (counted-insert (place - 1) part next)
    where
      by : (b : Bool) → counted (insert_at (place - 1) part next) ≡ counted part + counted next →
          counted (if b then append part (element number name bindings attributes children next) else element number name bindings attributes children (insert_at (place - 1) part next)) ≡
          counted part + counted (element number name bindings attributes children next)
      by true r = counted-append part (element number name bindings attributes children next)
      by false r = omega (arith, r)

  -- a new part among children that were there
  pub put-moved : (place : ℕ) (part f : Forest) → AllNew part → AllOld f → taken (insert_at place part f) ≤ counted (insert_at place part f)
  put-moved place part f fresh all =
      let a = taken-insert place part f in
      let b = counted-insert place part f in
      let x = new-moved part fresh in
      let y = old-moved f all in
      omega (arith, a, b, x, y)

  -- below an element there is no more than in the whole
  pub at-moved : (p : ℕ) (cs ds f g : Forest) → IsAt p cs ds f g → counted ds ≤ counted g
  at-moved p cs ds none g h = absurd h
  at-moved p cs ds (text n chars next) g h = let r = at-moved p cs ds next h.0 h.2 in let e = ap counted h.1 in omega (arith, r, e)
  at-moved p cs ds (element n name bindings attributes children next) g (inl h) = let e = ap counted h.2 in omega (arith, e)
  at-moved p cs ds (element n name bindings attributes children next) g (inr (inl h)) =
      let r = at-moved p cs ds children h.0 h.2 in let e = ap counted h.1 in omega (arith, r, e)
  at-moved p cs ds (element n name bindings attributes children next) g (inr (inr h)) =
      let r = at-moved p cs ds next h.0 h.2 in let e = ap counted h.1 in omega (arith, r, e)
