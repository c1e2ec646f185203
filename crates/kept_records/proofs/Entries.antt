-- What is found of an element is what is kept of it.
use Rattle.std.proofs.Common.{◌≡◌, ◌⊎◌, ℕ, List, [], ◌∷◌, ◌++◌, Bool, true, false, Option, None, Some, refl, sym, ap, ◌∙◌, inl, inr}
use Rattle.std.specs.Prelude.{◌==◌, if◌then◌else◌}
use Rattle.std.proofs.lemmas.Bool.{cases_eq, eq-eqb, ne_eqb}
use Rattle.std.proofs.lemmas.Option.{none-some}
use Rattle.tree_rows.specs.Forest.{Forest, none, text, element}
use Rattle.assessment.specs.Assessment.{Entry, entries}
use Rattle.assessment.specs.Local.{Kept, HasElement, kept_entries}
use Rattle.session_model.specs.Asking.{entry_at}
use Rattle.kept_slots.specs.Elements as sums
use Rattle.kept_slots.proofs.ElementSums.{has-or-not}

-- ---- elements, as they are summed

pub to-sums : (n : ℕ) (f : Forest) → HasElement n f → sums.HasElement n f
to-sums n none h = h
to-sums n (text number chars next) h = to-sums n next h
to-sums n (element number name bindings attributes children next) (inl e) = inl e
to-sums n (element number name bindings attributes children next) (inr (inl below)) = inr (inl (to-sums n children below))
to-sums n (element number name bindings attributes children next) (inr (inr later)) = inr (inr (to-sums n next later))

pub from-sums : (n : ℕ) (f : Forest) → sums.HasElement n f → HasElement n f
from-sums n none h = h
from-sums n (text number chars next) h = from-sums n next h
from-sums n (element number name bindings attributes children next) (inl e) = inl e
from-sums n (element number name bindings attributes children next) (inr (inl below)) = inr (inl (from-sums n children below))
from-sums n (element number name bindings attributes children next) (inr (inr later)) = inr (inr (from-sums n next later))

decided : (n : ℕ) (f : Forest) → HasElement n f ⊎ (HasElement n f → ⊥)
decided n f = elim (has-or-not n f) [ inl h ↦ inl (from-sums n f h) | inr lacks ↦ inr (λ h. lacks (to-sums n f h)) ]

-- ---- the entry of a number among entries

past-by : (n : ℕ) (x : Entry) (xs ys : List Entry) (b : Bool) → (entry_at n xs ≡ None → entry_at n (xs ++ ys) ≡ entry_at n ys) → (if b then Some x else entry_at n xs) ≡ None →
    (if b then Some x else entry_at n (xs ++ ys)) ≡ entry_at n ys
past-by n x xs ys true on h = absurd (none-some x (sym h))
past-by n x xs ys false on h = on h

past : (n : ℕ) (xs ys : List Entry) → entry_at n xs ≡ None → entry_at n (xs ++ ys) ≡ entry_at n ys
past n [] ys h = refl
past n (x ∷ xs) ys h = past-by n x xs ys (x.number == n) (past n xs ys) h

among-by : (n : ℕ) (x : Entry) (xs ys : List Entry) (e : Entry) (b : Bool) → (entry_at n xs ≡ Some e → entry_at n (xs ++ ys) ≡ Some e) → (if b then Some x else entry_at n xs) ≡ Some e →
    (if b then Some x else entry_at n (xs ++ ys)) ≡ Some e
among-by n x xs ys e true on h = h
among-by n x xs ys e false on h = on h

among : (n : ℕ) (xs ys : List Entry) (e : Entry) → entry_at n xs ≡ Some e → entry_at n (xs ++ ys) ≡ Some e
among n [] ys e h = absurd (none-some e h)
among n (x ∷ xs) ys e h = among-by n x xs ys e (x.number == n) (among n xs ys e) h

module _ (k : ℕ → Kept) where
  abbrev AreNumbered : Forest → Type 0
  AreNumbered f = (m : ℕ) → HasElement m f → (k m).found.number ≡ m

  abbrev found-of : Forest → List Entry
  found-of f = entries (kept_entries k f)

  here-not : (n number : ℕ) (more : List Entry) → (k number).found.number ≡ number → (number ≡ n → ⊥) → entry_at n ((k number).found ∷ more) ≡ entry_at n more
  here-not n number more is other = ap (λ b. if b then Some (k number).found else entry_at n more) (ne_eqb (k number).found.number n (λ e. other (sym is ∙ e)))

  here : (n number : ℕ) (more : List Entry) → (k number).found.number ≡ number → number ≡ n → entry_at n ((k number).found ∷ more) ≡ Some (k n).found
  here n number more is e =
      ap (λ b. if b then Some (k number).found else entry_at n more) (eq-eqb (k number).found.number n (is ∙ e)) ∙ ap (λ m. Some (k m).found) e

  pub none-found : (f : Forest) → AreNumbered f → (n : ℕ) → (HasElement n f → ⊥) → entry_at n (found-of f) ≡ None
  none-found none are n lacks = refl
  none-found (text number chars next) are n lacks = none-found next are n lacks
  none-found (element number name bindings attributes children next) are n lacks =
      here-not n number (found-of children ++ found-of next) (are number (inl refl)) (λ e. lacks (inl e))
      ∙ past n (found-of children) (found-of next) (none-found children (λ m h. are m (inr (inl h))) n (λ h. lacks (inr (inl h))))
      ∙ none-found next (λ m h. are m (inr (inr h))) n (λ h. lacks (inr (inr h)))

  beyond : (number n : ℕ) (children next : Forest) → AreNumbered children → (number ≡ n → ⊥) → (HasElement n children → entry_at n (found-of children) ≡ Some (k n).found) →
      (HasElement n next → entry_at n (found-of next) ≡ Some (k n).found) → (number ≡ n) ⊎ (HasElement n children ⊎ HasElement n next) → HasElement n children ⊎ (HasElement n children → ⊥) →
      entry_at n (found-of children ++ found-of next) ≡ Some (k n).found
  beyond number n children next are other below later h (inl has) = among n (found-of children) (found-of next) (k n).found (below has)
  beyond number n children next are other below later (inl e) (inr lacks) = absurd (other e)
  beyond number n children next are other below later (inr (inl b)) (inr lacks) = absurd (lacks b)
  beyond number n children next are other below later (inr (inr l)) (inr lacks) = past n (found-of children) (found-of next) (none-found children are n lacks) ∙ later l

  pub one-found : (f : Forest) → AreNumbered f → (n : ℕ) → HasElement n f → entry_at n (found-of f) ≡ Some (k n).found
  one-found none are n h = absurd h
  one-found (text number chars next) are n h = one-found next are n h
  one-found (element number name bindings attributes children next) are n h =
      let below : HasElement n children → entry_at n (found-of children) ≡ Some (k n).found = one-found children (λ m g. are m (inr (inl g))) n in
      let later : HasElement n next → entry_at n (found-of next) ≡ Some (k n).found = one-found next (λ m g. are m (inr (inr g))) n in
      elim (cases_eq number n) [
        | inl own ↦ here n number (found-of children ++ found-of next) (are number (inl refl)) own
        | inr other ↦
            here-not n number (found-of children ++ found-of next) (are number (inl refl)) other
            ∙ beyond number n children next (λ m g. are m (inr (inl g))) other below later h (decided n children)
      ]
