-- Finding what is below an element.
use Rattle.std.proofs.Common.{◌≡◌, ◌==◌, not, if◌then◌else◌, ℕ, ◌+◌, ◌<◌, ◌⊎◌, inl, inr, List, [], ◌∷◌, ◌++◌, length, length-append, Bool, true, false, true≢false, refl, sym, ap, ◌∙◌, subst, arith}
use Rattle.std.specs.Prelude.{Contains}
use Rattle.std.specs.List.{flat_map}
use Rattle.std.proofs.lemmas.Bool.{eqb-true, eq-eqb, not-true, not-false}
use Rattle.std.proofs.lemmas.List.Elements.{Contains-push, Contains-push_cases, Contains-append_left, Contains-append_right, Contains-append_cases}
use Rattle.schema_shape.specs.declared.forms.Shape.{Shape}
use Rattle.redefine_originals.proofs.InsideLaws.{contains-cases, inside-has, inside-from}
use Rattle.redefine_faults.specs.Redefinitions.{IsBelow, child, deeper}
use Rattle.redefine_faults.specs.inside.Below.{AreBelow, weight, IsWanted, IsKnown, IsSpreading}
use Rattle.redefine_faults.specs.inside.Numbers.{of_number}
use Rattle.redefine_faults.proofs.NumberLaws.{number-has, number-from}

abbrev members_of : List Shape → List ℕ
members_of shapes = flat_map (λ s. s.members) shapes

members-has : (shapes : List Shape) (s : Shape) (m : ℕ) → Contains shapes s → Contains s.members m → Contains (members_of shapes) m
members-has [] s m c k = absurd (omega (arith, c.1))
members-has (x ∷ shapes) s m c k = elim (contains-cases x s shapes c) [
  | inl same ↦ Contains-append_left x.members (members_of shapes) m (subst (λ (t : Shape). Contains t.members m) (sym same) k)
  | inr more ↦ Contains-append_right x.members (members_of shapes) m (members-has shapes s m more k)
]

members-from : (shapes : List Shape) (m : ℕ) → Contains (members_of shapes) m → (s : Shape) × Contains shapes s × Contains s.members m
members-from [] m c = absurd (omega (arith, c.1))
members-from (x ∷ shapes) m c = elim (Contains-append_cases x.members (members_of shapes) m c) [
  | inl own ↦ (x, Contains-append_left (x ∷ []) shapes x (Contains-push [] x), own)
  | inr more ↦ (let r = members-from shapes m more in (r.0, Contains-append_right (x ∷ []) shapes r.0 r.1, r.2))
]

-- another number is seen
abbrev pub IsSeenMore : ℕ → (ℕ → Bool) → (ℕ → Bool) → Type 0
IsSeenMore item old new = (q : ℕ) → new q ≡ (if item == q then true else old q)

module _ (item : ℕ) (old new : ℕ → Bool) (more : IsSeenMore item old new) where
  seen-kept : (q : ℕ) → old q ≡ true → new q ≡ true
  seen-kept q e = by (item == q) refl
    where
      by : (b : Bool) → (item == q) ≡ b → new q ≡ true
      by true t = rw t at (more q)
      by false t = (rw t at (more q)) ∙ e

  seen-own : new item ≡ true
  seen-own = rw (eq-eqb item item refl) at (more item)

  seen-cases : (q : ℕ) → new q ≡ true → (q ≡ item) ⊎ (old q ≡ true)
  seen-cases q e = by (item == q) refl
    where
      by : (b : Bool) → (item == q) ≡ b → (q ≡ item) ⊎ (old q ≡ true)
      by true t = inl (sym (eqb-true item q t))
      by false t = inr (sym (rw t at (more q)) ∙ e)

  -- what has the number counts no longer
  pub weight-less : old item ≡ false → (shapes : List Shape) → weight new shapes + length (members_of (of_number shapes item)) ≡ weight old shapes
  weight-less free [] = refl
  weight-less free (s ∷ shapes) = by (s.item == item) refl (weight-less free shapes)
    where
      by : (b : Bool) → (s.item == item) ≡ b → weight new shapes + length (members_of (of_number shapes item)) ≡ weight old shapes
          → weight new (s ∷ shapes) + length (members_of (of_number (s ∷ shapes) item)) ≡ weight old (s ∷ shapes)
      by true t rest =
          let is = eqb-true s.item item t in
          let was : old s.item ≡ false = ap old is ∙ free in
          let now : new s.item ≡ true = ap new is ∙ seen-own in
          let sum = length-append s.members (members_of (of_number shapes item)) in
          rw (t, was, now) (omega (arith, rest, sum))
      by false t rest =
          let other : (item == s.item) ≡ false = apart in
          let same : new s.item ≡ old s.item = rw other at (more s.item) in
          rw (t, same) (omega (arith, rest))
        where
          apart : (item == s.item) ≡ false
          apart = at (item == s.item) refl
            where
              at : (r : Bool) → (item == s.item) ≡ r → (item == s.item) ≡ false
              at true e = absurd (true≢false (sym (eq-eqb s.item item (sym (eqb-true item s.item e))) ∙ t))
              at false e = e

-- ---- spreading
module _ (shapes : List Shape) (version : Shape) where
  pub spreading-begun : (seen : ℕ → Bool) → ((q : ℕ) → seen q ≡ false) → (left : List ℕ) → left ≡ [] ++ version.members → IsSpreading shapes version seen [] left
  spreading-begun seen none left e = record {
    sound = λ s c. absurd (omega (arith, c.1));
    wanted = λ i c. inl (subst (λ (l : List ℕ). Contains l i) e c);
    all = λ s c t. absurd (true≢false (sym t ∙ none s.item));
    begun = λ i c. inl (subst (λ (l : List ℕ). Contains l i) (sym e) c);
    closed = λ s c. absurd (omega (arith, c.1));
  }

  wanted-below : (s : Shape) → Contains shapes s → IsWanted shapes version s.item → IsBelow shapes version s
  wanted-below s c (inl m) = child s (inside-has shapes version s c m)
  wanted-below s c (inr t) = deeper t.0 s t.1 (inside-has shapes t.0 s c t.2)

  module _ (item : ℕ) (seen : ℕ → Bool) (found : List Shape) (left : List ℕ) (l : IsSpreading shapes version seen found (left ++ item ∷ [])) where
    -- a number that was seen
    pub spreading-seen : (new : ℕ → Bool) (is_new : Bool) → IsSeenMore item seen new → is_new ≡ not (seen item) → is_new ≡ false → IsSpreading shapes version new found left
    spreading-seen new is_new more is again = record {
      sound = l.sound;
      wanted = λ i c. l.wanted i (Contains-append_left left (item ∷ []) i c);
      all = λ s c t. elim (seen-cases item seen new more s.item t) [ inl own ↦ l.all s c (ap seen own ∙ was) | inr before ↦ l.all s c before ];
      begun = λ i c. onward i (l.begun i c);
      closed = λ s c i m. onward i (l.closed s c i m);
    }
      where
        was : seen item ≡ true
        was = not-false (seen item) (sym is ∙ again)

        onward : (i : ℕ) → IsKnown seen (left ++ item ∷ []) i → IsKnown new left i
        onward i (inl c) = elim (Contains-push_cases left item i c) [ inl before ↦ inl before | inr same ↦ inr (subst (λ k. new k ≡ true) same (seen-own item seen new more)) ]
        onward i (inr t) = inr (seen-kept item seen new more i t)

    -- a number more
    pub spreading-more : (new : ℕ → Bool) (new_found : List Shape) (new_left : List ℕ) → IsSeenMore item seen new → new_found ≡ found ++ of_number shapes item
        → new_left ≡ left ++ members_of (of_number shapes item) → IsSpreading shapes version new new_found new_left
    spreading-more new new_found new_left more f g = record {
      sound = λ s c. elim (found-cases s c) [ inl before ↦ l.sound s before | inr own ↦ its s own ];
      wanted = λ i c. elim (Contains-append_cases left (members_of (of_number shapes item)) i (subst (λ (k : List ℕ). Contains k i) g c)) [
        | inl before ↦ l.wanted i (Contains-append_left left (item ∷ []) i before)
        | inr own ↦ (let m = members-from (of_number shapes item) i own in inr (m.0, its m.0 m.1, m.2))
      ];
      all = λ s c t. elim (seen-cases item seen new more s.item t) [
        | inl is ↦ subst (λ (k : List Shape). Contains k s) (sym f) (Contains-append_right found (of_number shapes item) s (number-has shapes item s c is))
        | inr was ↦ subst (λ (k : List Shape). Contains k s) (sym f) (Contains-append_left found (of_number shapes item) s (l.all s c was))
      ];
      begun = λ i c. onward i (l.begun i c);
      closed = λ s c i m. elim (found-cases s c) [
        | inl before ↦ onward i (l.closed s before i m)
        | inr own ↦ inl (subst (λ (k : List ℕ). Contains k i) (sym g) (Contains-append_right left (members_of (of_number shapes item)) i (members-has (of_number shapes item) s i own m)))
      ];
    }
      where
        found-cases : (s : Shape) → Contains new_found s → Contains found s ⊎ Contains (of_number shapes item) s
        found-cases s c = Contains-append_cases found (of_number shapes item) s (subst (λ (k : List Shape). Contains k s) f c)

        its : (s : Shape) → Contains (of_number shapes item) s → IsBelow shapes version s
        its s c = let n = number-from shapes item s c in wanted-below s n.0 (subst (IsWanted shapes version) (sym n.1) (l.wanted item (Contains-push left item)))

        onward : (i : ℕ) → IsKnown seen (left ++ item ∷ []) i → IsKnown new new_left i
        onward i (inl c) = elim (Contains-push_cases left item i c) [
          | inl before ↦ inl (subst (λ (k : List ℕ). Contains k i) (sym g) (Contains-append_left left (members_of (of_number shapes item)) i before))
          | inr is ↦ inr (subst (λ k. new k ≡ true) is (seen-own item seen new more))
        ]
        onward i (inr t) = inr (seen-kept item seen new more i t)

  -- there is less to do
  pub spreading-length : (item : ℕ) (old new : ℕ → Bool) (is_new : Bool) (left old_left new_left : List ℕ) → IsSeenMore item old new → is_new ≡ not (old item) → is_new ≡ true → old_left ≡ left ++ item ∷ []
      → new_left ≡ left ++ members_of (of_number shapes item) → weight new shapes + length new_left < weight old shapes + length old_left
  spreading-length item old new is_new left old_left new_left more is first o n =
      let free : old item ≡ false = not-true (old item) (sym is ∙ first) in
      let less = weight-less item old new more free shapes in
      let before : length old_left ≡ length left + 1 = ap length o ∙ length-append left (item ∷ []) in
      let after : length new_left ≡ length left + length (members_of (of_number shapes item)) = ap length n ∙ length-append left (members_of (of_number shapes item)) in
      omega (arith, less, before, after)

  module _ (seen : ℕ → Bool) (found : List Shape) (l : IsSpreading shapes version seen found []) where
    none-left : (s : Shape) → Contains shapes s → IsKnown seen [] s.item → Contains found s
    none-left s c (inl k) = absurd (omega (arith, k.1))
    none-left s c (inr t) = l.all s c t

    below-found : (s : Shape) → IsBelow shapes version s → Contains found s
    below-found _ (child s c) = let f = inside-from shapes version s c in none-left s f.0 (l.begun s.item f.1)
    below-found _ (deeper t s b c) = let f = inside-from shapes t s c in none-left s f.0 (l.closed t (below-found t b) s.item f.1)

    spread : AreBelow shapes version found
    spread s = (l.sound s, below-found s)

  pub spreading-ended : (seen : ℕ → Bool) (found : List Shape) (left : List ℕ) → length left ≡ 0 → IsSpreading shapes version seen found left → AreBelow shapes version found
  spreading-ended seen found [] e l = spread seen found l
  spreading-ended seen found (i ∷ left) e l = absurd (omega (arith, e))
