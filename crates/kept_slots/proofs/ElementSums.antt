-- A sum over all slots is the sum over the numbers of a tree's elements: the slots of the elements are cleared one after another.
use Rattle.std.proofs.Common.{◌≡◌, ◌≢◌, ◌⊎◌, inl, inr, ℕ, zero, suc, ◌+◌, ◌≤◌, List, [], ◌∷◌, get_or, set, get_or-set_other, refl, sym, ap, ◌∙◌, subst, arith}
use Rattle.std.specs.Prelude.{sum, sum_by, ◌==◌, slice_index, if◌then◌else◌}
use Rattle.std.proofs.lemmas.Bool.{cases_eq}
use Rattle.std.proofs.lemmas.List.Sums.{sum_by-cons}
use Rattle.tree_rows.specs.Forest.{Forest, none, text, element, Document}
use Rattle.tree_rows.specs.Whole.{IsTree, times}
use Rattle.kept_slots.specs.Elements.{HasElement, element_sum, WeighElements}

-- ---- the numbers of elements

pub has-or-not : (n : ℕ) (f : Forest) → HasElement n f ⊎ (HasElement n f → ⊥)
has-or-not n none = inr (λ h. h)
has-or-not n (text number chars next) = has-or-not n next
has-or-not n (element number name bindings attributes children next) = elim (cases_eq number n) [
  | inl same ↦ inl (inl same)
  | inr other ↦ elim (has-or-not n children) [
    | inl below ↦ inl (inr (inl below))
    | inr not_below ↦ elim (has-or-not n next) [
      | inl later ↦ inl (inr (inr later))
      | inr not_later ↦ inr (λ h. elim h [ inl e ↦ other e | inr more ↦ elim more [ inl b ↦ not_below b | inr l ↦ not_later l ] ])
    ]
  ]
]

abbrev own_times : ℕ → ℕ → ℕ
own_times number n = if number == n then 1 else 0

at-itself : (n : ℕ) → own_times n n ≡ 1
at-itself n = grind arith

-- the number of an element is a number of a node
has-times : (n : ℕ) (f : Forest) → HasElement n f → 1 ≤ times n f
has-times n none h = absurd h
has-times n (text number chars next) h = let i = has-times n next h in omega (arith, i)
has-times n (element number name bindings attributes children next) (inl e) =
    let own : own_times number n ≡ 1 = subst (λ m. own_times number m ≡ 1) e (at-itself number) in omega (arith, own)
has-times n (element number name bindings attributes children next) (inr (inl b)) = let i = has-times n children b in omega (arith, i)
has-times n (element number name bindings attributes children next) (inr (inr l)) = let i = has-times n next l in omega (arith, i)

-- no two nodes have one number
abbrev pub Differ : Forest → Type 0
Differ f = (n : ℕ) → times n f ≤ 1

module _ (number n : ℕ) (children next : Forest) (few : own_times number n + (times n children + times n next) ≤ 1) where
  not-own-below : HasElement n children → n ≢ number
  not-own-below h e =
      let own : own_times number n ≡ 1 = subst (λ m. own_times number m ≡ 1) (sym e) (at-itself number) in
      let below = has-times n children h in
      absurd (omega (arith, own, below, few))

  not-own-later : HasElement n next → n ≢ number
  not-own-later h e =
      let own : own_times number n ≡ 1 = subst (λ m. own_times number m ≡ 1) (sym e) (at-itself number) in
      let later = has-times n next h in
      absurd (omega (arith, own, later, few))

  not-both : HasElement n next → HasElement n children → ⊥
  not-both h k =
      let later = has-times n next h in
      let below = has-times n children k in
      omega (arith, later, below, few)

module _ {A : Type 0} (weight : A → ℕ) (blank : A) (light : weight blank ≡ 0) where
  abbrev weight_at : List A → ℕ → ℕ
  weight_at slots n = weight (get_or slots n blank)

  sum-cleared : (slots : List A) (n : ℕ) → sum_by weight slots ≡ weight_at slots n + sum_by weight (set slots n blank)
  sum-cleared [] n = omega (arith, light)
  sum-cleared (x ∷ xs) zero =
      let a = sum_by-cons weight x xs in let b = sum_by-cons weight blank xs in omega (arith, a, b, light)
  sum-cleared (x ∷ xs) (suc n) =
      let a = sum_by-cons weight x xs in let b = sum_by-cons weight x (set xs n blank) in let i = sum-cleared xs n in omega (arith, a, b, i)

  cleared-is : (slots : List A) (n : ℕ) → get_or (set slots n blank) n blank ≡ blank
  cleared-is [] n = refl
  cleared-is (x ∷ xs) zero = refl
  cleared-is (x ∷ xs) (suc n) = cleared-is xs n

  blank-stays : (slots : List A) (n m : ℕ) → get_or slots m blank ≡ blank → get_or (set slots n blank) m blank ≡ blank
  blank-stays slots n m is = elim (cases_eq m n) [
    | inl same ↦ subst (λ k. get_or (set slots n blank) k blank ≡ blank) (sym same) (cleared-is slots n)
    | inr other ↦ get_or-set_other slots n m blank blank other ∙ is
  ]

  -- the slots of all elements cleared
  abbrev cleared : Forest → List A → List A
  cleared none slots = slots
  cleared (text number chars next) slots = cleared next slots
  cleared (element number name bindings attributes children next) slots = cleared next (cleared children (set slots number blank))

  stays : (f : Forest) (slots : List A) (m : ℕ) → get_or slots m blank ≡ blank → get_or (cleared f slots) m blank ≡ blank
  stays none slots m is = is
  stays (text number chars next) slots m is = stays next slots m is
  stays (element number name bindings attributes children next) slots m is =
      stays next (cleared children (set slots number blank)) m (stays children (set slots number blank) m (blank-stays slots number m is))

  gone : (f : Forest) (slots : List A) (m : ℕ) → HasElement m f → get_or (cleared f slots) m blank ≡ blank
  gone none slots m h = absurd h
  gone (text number chars next) slots m h = gone next slots m h
  gone (element number name bindings attributes children next) slots m (inl e) =
      stays next (cleared children (set slots number blank)) m
      (stays children (set slots number blank) m (subst (λ k. get_or (set slots number blank) k blank ≡ blank) e (cleared-is slots number)))
  gone (element number name bindings attributes children next) slots m (inr (inl b)) =
      stays next (cleared children (set slots number blank)) m (gone children (set slots number blank) m b)
  gone (element number name bindings attributes children next) slots m (inr (inr l)) = gone next (cleared children (set slots number blank)) m l

  kept : (f : Forest) (slots : List A) (m : ℕ) → (HasElement m f → ⊥) → get_or (cleared f slots) m blank ≡ get_or slots m blank
  kept none slots m h = refl
  kept (text number chars next) slots m h = kept next slots m h
  kept (element number name bindings attributes children next) slots m h =
      kept next (cleared children (set slots number blank)) m (λ l. h (inr (inr l)))
      ∙ (kept children (set slots number blank) m (λ b. h (inr (inl b)))
      ∙ get_or-set_other slots number m blank blank (λ e. h (inl (sym e))))

  pub sum-alike : (f : Forest) (v w : ℕ → ℕ) → ((m : ℕ) → HasElement m f → v m ≡ w m) → element_sum v f ≡ element_sum w f
  sum-alike none v w h = refl
  sum-alike (text number chars next) v w h = sum-alike next v w h
  sum-alike (element number name bindings attributes children next) v w h =
      let own = h number (inl refl) in
      let below = sum-alike children v w (λ m k. h m (inr (inl k))) in
      let later = sum-alike next v w (λ m k. h m (inr (inr k))) in
      omega (arith, own, below, later)

  splits : (f : Forest) → Differ f → (slots : List A) → sum_by weight slots ≡ element_sum (weight_at slots) f + sum_by weight (cleared f slots)
  splits none d slots = omega arith
  splits (text number chars next) d slots = splits next (λ n. let few = d n in omega (arith, few)) slots
  splits (element number name bindings attributes children next) d slots =
      let first : List A = set slots number blank in
      let second : List A = cleared children first in
      let own = sum-cleared slots number in
      let below = splits children (λ n. let few = d n in omega (arith, few)) first in
      let later = splits next (λ n. let few = d n in omega (arith, few)) second in
      let a = sum-alike children (weight_at first) (weight_at slots) (λ m k.
      ap weight (get_or-set_other slots number m blank blank (not-own-below number m children next (d m) k))) in
      let b = sum-alike next (weight_at second) (weight_at slots) (λ m k.
      ap weight (kept children first m (not-both number m children next (d m) k)
      ∙ get_or-set_other slots number m blank blank (not-own-later number m children next (d m) k))) in
      omega (arith, own, below, later, a, b)

  all-light : (slots : List A) → ((n : ℕ) → weight_at slots n ≡ 0) → sum_by weight slots ≡ 0
  all-light [] h = refl
  all-light (x ∷ xs) h =
      let a = sum_by-cons weight x xs in let own = h 0 in let i = all-light xs (λ n. h (suc n)) in omega (arith, a, own, i)

  pub sums_are : (f : Forest) → Differ f → (slots : List A) → ((n : ℕ) → (HasElement n f → ⊥) → weight_at slots n ≡ 0) → sum_by weight slots ≡ element_sum (weight_at slots) f
  sums_are f d slots h =
      let a = splits f d slots in
      let b = all-light (cleared f slots) (λ n. elim (has-or-not n f) [
        | inl has ↦ ap weight (gone f slots n has) ∙ light
        | inr lacks ↦ ap weight (kept f slots n lacks) ∙ h n lacks
      ]) in
      omega (arith, a, b)

pub weights_are : (weights : List ℕ) (d : Document) → IsTree d → WeighElements weights d.forest → sum weights ≡ element_sum (slice_index weights) d.forest
weights_are weights d tree h = sums_are (λ n. n) 0 refl d.forest tree.differ weights h
