-- Numbers of keys are numbers of fixed values.
use Rattle.std.proofs.Common.{◌≡◌, ℕ, ◌+◌, ◌<◌, inl, inr, ◌↔◌, true, List, [], ◌∷◌, ◌++◌, Option, None, Some, length, slice_get, refl, sym, ap, ◌∙◌, subst, arith}
use Rattle.std.proofs.Math.ListN.{get_or-append}
use Rattle.std.proofs.lemmas.Bool.{cases_eq, cases_lt}
use Rattle.std.proofs.lemmas.List.{length_push, get_or_push, get_or_past}
use Rattle.std.proofs.lemmas.Option.{same_Some, slice_get_within}
use Rattle.xs_components.specs.Tables.{Tables}
use Rattle.xs_names.specs.Numbering.{HasNoRepeats}
use Rattle.xs_names.proofs.NumberingLaws.{Begins-refl, slice_get-Begins}
use Rattle.simple_values.specs.Same.{same, key_value}
use Rattle.simple_values.specs.declared.key.Key.{Key}
use Rattle.simple_values.specs.declared.value.Value.{Value}
use Rattle.simple_values.proofs.Keys.{key_is, key_back}
use Rattle.derive_models.specs.Fixed.{HasFixed, number_of, AreFixedNumbers}
use Rattle.derive_models.specs.inside.Numbered.{IsFixedKey, IsNumbered, Grows, AreNumbered}
use Rattle.derive_models.proofs.FixedLaws.{one-value}

none-some : {X : Type 0} (x : X) → None ≡ Some x → ⊥
none-some x e = cc

-- no key is put
pub grows-not : (keys : List Key) → Grows keys keys
grows-not keys = record { begins = Begins-refl keys; once = λ h. h }

no-repeats : (keys : List Key) → keys ≡ [] → HasNoRepeats keys
no-repeats keys none i j x e f = absurd (none-some x (ap (λ (ks : List Key). slice_get ks i) (sym none) ∙ e))

module _ (t : Tables) where
  -- of the key that was found
  pub numbered-by : (keys : List Key) (element n : ℕ) (key : Key) → IsFixedKey t element (Some key) → slice_get keys n ≡ Some key → IsNumbered t keys element (Some n)
  numbered-by keys element n key x at = (x.0, x.1, at ∙ ap Some x.2)

  still-numbered : (old new : List Key) → Grows old new → (element : ℕ) (number : Option ℕ) → IsNumbered t old element number → IsNumbered t new element number
  still-numbered old new grows element None x = x
  still-numbered old new grows element (Some n) x = (x.0, x.1, slice_get-Begins old new grows.begins n (key_value x.0) x.2)

  -- nothing is numbered yet
  pub numbered-none : (keys : List Key) (numbers : List (Option ℕ)) → keys ≡ [] → numbers ≡ [] → AreNumbered t keys 0 numbers
  numbered-none keys numbers none empty = record { len = ap length empty; once = no-repeats keys none; each = λ element low. absurd (omega (arith, low)) }

  -- one more declaration
  pub numbered-more : (old new : List Key) (n : ℕ) (numbers : List (Option ℕ)) → AreNumbered t old n numbers → Grows old new → (number : Option ℕ) → IsNumbered t new n number → AreNumbered t new (n + 1) (numbers ++ number ∷ [])
  numbered-more old new n numbers are grows number is = record { len = length_push numbers number ∙ ap (λ k. k + 1) are.len; once = grows.once are.once; each = each }
    where
      each : (k : ℕ) → k < n + 1 → IsNumbered t new k (number_of (numbers ++ number ∷ []) k)
      each k low = elim (cases_eq k n) [
        | inl one ↦
            let at : number ≡ number_of (numbers ++ number ∷ []) k = sym (get_or_push numbers number None k (are.len ∙ sym one)) in
            subst (IsNumbered t new k) at (subst (λ m. IsNumbered t new m number) (sym one) is)
        | inr apart ↦
            let at : number_of numbers k ≡ number_of (numbers ++ number ∷ []) k = sym (get_or-append numbers (number ∷ []) None k (omega (arith, low, apart, are.len))) in
            subst (IsNumbered t new k) at (still-numbered old new grows k (number_of numbers k) (are.each k (omega (arith, low, apart))))
      ]

  -- all are numbered
  module _ (keys : List Key) (numbers : List (Option ℕ)) (are : AreNumbered t keys (length t.elements.parts) numbers) where
    pub record Found (element : ℕ) (value : Value) : Type 0 where
      pub number : ℕ
      pub is : number_of numbers element ≡ Some number
      pub at : slice_get keys number ≡ Some (key_value value)

    found : (element : ℕ) (value : Value) → HasFixed t element value → Found element value
    found element value h = by (number_of numbers element) refl (are.each element (slice_get_within t.elements.parts element h.part h.is))
      where
        by : (o : Option ℕ) → number_of numbers element ≡ o → IsNumbered t keys element o → Found element value
        by None e x = absurd (x value h)
        by (Some n) e x = record { number = n; is = e; at = x.2 ∙ ap (λ (v : Value). Some (key_value v)) (one-value t element x.0 value x.1 h) }

    has-value : (element n : ℕ) → number_of numbers element ≡ Some n → (value : Value) × HasFixed t element value
    has-value element n e = elim (cases_lt element (length t.elements.parts)) [
      | inl low ↦ let x : IsNumbered t keys element (Some n) = subst (IsNumbered t keys element) e (are.each element low) in (x.0, x.1)
      | inr past ↦ absurd (none-some n (sym (get_or_past numbers element None (omega (arith, past, are.len))) ∙ e))
    ]

    are-shared : (a b : ℕ) (x y : Value) → Found a x → Found b y → (number_of numbers a ≡ number_of numbers b) ↔ (same x y ≡ true)
    are-shared a b x y f g = (
      (λ e.
          let one : f.number ≡ g.number = same_Some f.number g.number (sym f.is ∙ (e ∙ g.is)) in
          key_back x y (same_Some (key_value x) (key_value y) (sym f.at ∙ (ap (slice_get keys) one ∙ g.at)))),
      (λ e.
          let one : f.number ≡ g.number = are.once f.number g.number (key_value x) f.at (g.at ∙ ap Some (sym (key_is x y e))) in
          f.is ∙ (ap Some one ∙ sym g.is)),
    )

    pub fixed-numbers : AreFixedNumbers t numbers
    fixed-numbers = record {
      there = has-value;
      each = λ element value h. let f = found element value h in (f.number, f.is);
      shared = λ a b x y h g. are-shared a b x y (found a x h) (found b y g);
    }
