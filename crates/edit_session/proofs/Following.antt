-- The element that comes next in document order, by the entries that are kept and by the tree.
use Rattle.std.proofs.Common.{◌≡◌, ℕ, ◌+◌, ◌≤◌, ◌==◌, List, [], ◌∷◌, ◌++◌, Bool, true, false, Option, None, Some, refl, sym, ap, ◌∙◌, inl, inr, arith}
use Rattle.std.specs.Prelude.{◌⊎◌, if◌then◌else◌}
use Rattle.std.specs.Option.{option_or}
use Rattle.std.proofs.lemmas.Bool.{cases_eq, eq-eqb, ne_eqb, false≢true}
use Rattle.tree_rows.specs.Forest.{Forest, none, text, element}
use Rattle.tree_rows.specs.Whole.{times}
use Rattle.tree_edits.specs.Edits.{has}
use Rattle.assessment.specs.Assessment.{Entry, entries}
use Rattle.assessment.specs.Local.{Kept, HasElement, kept_entries}
use Rattle.assessment.proofs.Alike.{element-counts}
use Rattle.session_model.specs.Asking.{first_number, number_after}
use Rattle.doc_changes.proofs.Standing.{present_times, absent_times}
use Rattle.doc_tree.specs.Following.{first_element, next_in, next_of}

-- ---- entries

-- the one behind that of a number, where this one comes after all
abbrev after-in : ℕ → Option ℕ → List Entry → Option ℕ
after-in key later [] = None
after-in key later (e ∷ more) = if e.number == key then option_or (first_number more) later else after-in key later more

abbrev Numbers : ℕ → List Entry → Type 0
Numbers key [] = ⊥
Numbers key (e ∷ more) = (e.number ≡ key) ⊎ Numbers key more

or-none : (o : Option ℕ) → option_or o None ≡ o
or-none None = refl
or-none (Some n) = refl

or-or : (a b c : Option ℕ) → option_or (option_or a b) c ≡ option_or a (option_or b c)
or-or None b c = refl
or-or (Some n) b c = refl

first-of : (xs ys : List Entry) → first_number (xs ++ ys) ≡ option_or (first_number xs) (first_number ys)
first-of [] ys = refl
first-of (x ∷ xs) ys = refl

after-by : (key : ℕ) (more : List Entry) (b : Bool) → number_after key more ≡ after-in key None more →
    (if b then first_number more else number_after key more) ≡ (if b then option_or (first_number more) None else after-in key None more)
after-by key more true on = sym (or-none (first_number more))
after-by key more false on = on

after-none : (key : ℕ) (es : List Entry) → number_after key es ≡ after-in key None es
after-none key [] = refl
after-none key (e ∷ more) = after-by key more (e.number == key) (after-none key more)

pub none-after : (key : ℕ) (es : List Entry) → (Numbers key es → ⊥) → number_after key es ≡ None
none-after key [] lacks = refl
none-after key (e ∷ more) lacks =
    ap (λ (b : Bool). if b then first_number more else number_after key more) (ne_eqb e.number key (λ q. lacks (inl q))) ∙ none-after key more (λ h. lacks (inr h))

past : (key : ℕ) (later : Option ℕ) (xs ys : List Entry) → (Numbers key xs → ⊥) → after-in key later (xs ++ ys) ≡ after-in key later ys
past key later [] ys lacks = refl
past key later (x ∷ xs) ys lacks =
    ap (λ (b : Bool). if b then option_or (first_number (xs ++ ys)) later else after-in key later (xs ++ ys)) (ne_eqb x.number key (λ q. lacks (inl q)))
    ∙ past key later xs ys (λ h. lacks (inr h))

within-by : (key : ℕ) (later : Option ℕ) (xs ys : List Entry) (b : Bool) → (b ≡ false → after-in key later (xs ++ ys) ≡ after-in key (option_or (first_number ys) later) xs) →
    (if b then option_or (first_number (xs ++ ys)) later else after-in key later (xs ++ ys)) ≡
    (if b then option_or (first_number xs) (option_or (first_number ys) later) else after-in key (option_or (first_number ys) later) xs)
within-by key later xs ys true on = ap (λ (o : Option ℕ). option_or o later) (first-of xs ys) ∙ or-or (first_number xs) (first_number ys) later
within-by key later xs ys false on = on refl

not-first : (key : ℕ) (x : Entry) (xs : List Entry) → Numbers key (x ∷ xs) → (x.number == key) ≡ false → Numbers key xs
not-first key x xs (inl e) lacks = absurd (false≢true (sym lacks ∙ eq-eqb x.number key e))
not-first key x xs (inr h) lacks = h

within : (key : ℕ) (later : Option ℕ) (xs ys : List Entry) → Numbers key xs → after-in key later (xs ++ ys) ≡ after-in key (option_or (first_number ys) later) xs
within key later [] ys h = absurd h
within key later (x ∷ xs) ys h = within-by key later xs ys (x.number == key) (λ lacks. within key later xs ys (not-first key x xs h lacks))

-- ---- the entries that are kept of a tree's elements

module _ (k : ℕ → Kept) where
  abbrev AreNumbered : Forest → Type 0
  AreNumbered f = (m : ℕ) → HasElement m f → (k m).found.number ≡ m

  abbrev found-of : Forest → List Entry
  found-of f = entries (kept_entries k f)

  first-is : (f : Forest) → AreNumbered f → first_number (found-of f) ≡ first_element f
  first-is none are = refl
  first-is (text number chars next) are = first-is next are
  first-is (element number name bindings attributes children next) are = ap Some (are number (inl refl))

  numbers-parts : (key : ℕ) (xs ys : List Entry) → Numbers key (xs ++ ys) → Numbers key xs ⊎ Numbers key ys
  numbers-parts key [] ys h = inr h
  numbers-parts key (x ∷ xs) ys (inl e) = inl (inl e)
  numbers-parts key (x ∷ xs) ys (inr h) = elim (numbers-parts key xs ys h) [ inl a ↦ inl (inr a) | inr b ↦ inr b ]

  numbers-left : (key : ℕ) (xs ys : List Entry) → Numbers key xs → Numbers key (xs ++ ys)
  numbers-left key [] ys h = absurd h
  numbers-left key (x ∷ xs) ys (inl e) = inl e
  numbers-left key (x ∷ xs) ys (inr h) = inr (numbers-left key xs ys h)

  numbers-right : (key : ℕ) (xs ys : List Entry) → Numbers key ys → Numbers key (xs ++ ys)
  numbers-right key [] ys h = h
  numbers-right key (x ∷ xs) ys h = inr (numbers-right key xs ys h)

  pub numbers-elements : (key : ℕ) (f : Forest) → AreNumbered f → Numbers key (found-of f) → HasElement key f
  numbers-elements key none are h = h
  numbers-elements key (text number chars next) are h = numbers-elements key next are h
  numbers-elements key (element number name bindings attributes children next) are (inl e) = inl (sym (are number (inl refl)) ∙ e)
  numbers-elements key (element number name bindings attributes children next) are (inr h) = elim (numbers-parts key (found-of children) (found-of next) h) [
    | inl below ↦ inr (inl (numbers-elements key children (λ m g. are m (inr (inl g))) below))
    | inr later ↦ inr (inr (numbers-elements key next (λ m g. are m (inr (inr g))) later))
  ]

  elements-numbers : (key : ℕ) (f : Forest) → AreNumbered f → HasElement key f → Numbers key (found-of f)
  elements-numbers key none are h = h
  elements-numbers key (text number chars next) are h = elements-numbers key next are h
  elements-numbers key (element number name bindings attributes children next) are (inl e) = inl (are number (inl refl) ∙ e)
  elements-numbers key (element number name bindings attributes children next) are (inr (inl below)) =
      inr (numbers-left key (found-of children) (found-of next) (elements-numbers key children (λ m g. are m (inr (inl g))) below))
  elements-numbers key (element number name bindings attributes children next) are (inr (inr later)) =
      inr (numbers-right key (found-of children) (found-of next) (elements-numbers key next (λ m g. are m (inr (inr g))) later))

  -- another number stands before
  other-number : (number key more : ℕ) → (if number == key then 1 else 0) + more ≤ 1 → 1 ≤ more → (number ≡ key → ⊥)
  other-number number key more few some e =
      let one : ◌≡◌ {A = ℕ} (if number == key then 1 else 0) 1 = ap (λ (b : Bool). if b then 1 else 0) (eq-eqb number key e) in
      omega (arith, few, some, one)

  less : (key number more : ℕ) → (if number == key then 1 else 0) + more ≤ 1 → more ≤ 1
  less key number more few = omega (arith, few)

  own-first : (key : ℕ) (later : Option ℕ) (children next : Forest) → AreNumbered children → AreNumbered next →
      option_or (first_number (found-of children ++ found-of next)) later ≡ option_or (first_element children) (option_or (first_element next) later)
  own-first key later children next below behind =
      ap (λ (o : Option ℕ). option_or o later) (first-of (found-of children) (found-of next))
      ∙ or-or (first_number (found-of children)) (first_number (found-of next)) later
      ∙ ap (λ (o : Option ℕ). option_or o (option_or (first_number (found-of next)) later)) (first-is children below)
      ∙ ap (λ (o : Option ℕ). option_or (first_element children) (option_or o later)) (first-is next behind)

  beyond : (key number : ℕ) (children next : Forest) (later : Option ℕ) → (number ≡ key → ⊥) → AreNumbered children → AreNumbered next → (if number == key then 1 else 0) + (times key children + times key next) ≤ 1 →
      (HasElement key children → after-in key (option_or (first_element next) later) (found-of children) ≡ next_in key (option_or (first_element next) later) children) →
      (HasElement key next → after-in key later (found-of next) ≡ next_in key later next) → (number ≡ key) ⊎ (HasElement key children ⊎ HasElement key next) →
      after-in key later (found-of children ++ found-of next) ≡ (if has key children then next_in key (option_or (first_element next) later) children else next_in key later next)
  beyond key number children next later other below-are next-are few below behind (inl e) = absurd (other e)
  beyond key number children next later other below-are next-are few below behind (inr (inl h)) =
      within key later (found-of children) (found-of next) (elements-numbers key children below-are h)
      ∙ ap (λ (o : Option ℕ). after-in key (option_or o later) (found-of children)) (first-is next next-are)
      ∙ below h
      ∙ sym (ap (λ (b : Bool). if b then next_in key (option_or (first_element next) later) children else next_in key later next) (present_times key children (element-counts key children h)))
  beyond key number children next later other below-are next-are few below behind (inr (inr h)) =
      let some = element-counts key next h in
      let gone : times key children ≡ 0 = omega (arith, few, some) in
      past key later (found-of children) (found-of next) (λ g. let one = element-counts key children (numbers-elements key children below-are g) in absurd (omega (arith, one, gone)))
      ∙ behind h
      ∙ sym (ap (λ (b : Bool). if b then next_in key (option_or (first_element next) later) children else next_in key later next) (absent_times key children gone))

  next-is : (key : ℕ) (f : Forest) → AreNumbered f → times key f ≤ 1 → HasElement key f → (later : Option ℕ) → after-in key later (found-of f) ≡ next_in key later f
  next-is key none are few h later = absurd h
  next-is key (text number chars next) are few h later =
      let some = element-counts key next h in
      next-is key next are (less key number (times key next) few) h later
      ∙ sym (ap (λ (b : Bool). if b then option_or (first_element next) later else next_in key later next) (ne_eqb number key (other-number number key (times key next) few some)))
  next-is key (element number name bindings attributes children next) are few h later =
      let below-are : AreNumbered children = λ m g. are m (inr (inl g)) in
      let next-are : AreNumbered next = λ m g. are m (inr (inr g)) in
      let few-below : times key children ≤ 1 = omega (arith, few) in
      let few-next : times key next ≤ 1 = omega (arith, few) in
      let outer : Option ℕ = option_or (first_element next) later in
      elim (cases_eq number key) [
        | inl e ↦
            ap (λ (b : Bool). if b then option_or (first_number (found-of children ++ found-of next)) later else after-in key later (found-of children ++ found-of next))
            (eq-eqb (k number).found.number key (are number (inl refl) ∙ e))
            ∙ own-first key later children next below-are next-are
            ∙ sym (ap (λ (b : Bool). if b then option_or (first_element children) outer else (if has key children then next_in key outer children else next_in key later next)) (eq-eqb number key e))
        | inr other ↦
            ap (λ (b : Bool). if b then option_or (first_number (found-of children ++ found-of next)) later else after-in key later (found-of children ++ found-of next))
            (ne_eqb (k number).found.number key (λ e. other (sym (are number (inl refl)) ∙ e)))
            ∙ beyond key number children next later other below-are next-are few (λ g. next-is key children below-are few-below g outer) (λ g. next-is key next next-are few-next g later) h
            ∙ sym (ap (λ (b : Bool). if b then option_or (first_element children) outer else (if has key children then next_in key outer children else next_in key later next)) (ne_eqb number key other))
      ]

  pub after-element : (key : ℕ) (f : Forest) → AreNumbered f → times key f ≤ 1 → HasElement key f → number_after key (found-of f) ≡ next_of key f
  after-element key f are few h = after-none key (found-of f) ∙ next-is key f are few h None
