-- Counts of child elements, by links that differ only at elements that show nothing.
use Rattle.std.proofs.Common.{◌≡◌, ◌≢◌, ◌⊎◌, ◌+◌, ◌≤◌, ◌<◌, ℕ, zero, suc, Bool, true, false, List, [], ◌∷◌, length, inl, inr, Option, None, Some, refl, sym, ap, ◌∙◌, arith, true≢false}
use Rattle.identity_constraints.specs.Counting.{Links, Has, Lacks, Distinct, IsLinked, bearers, is_seen, weight}
use Rattle.identity_tables.specs.KeyTables.{Tables}
use Rattle.key_records.specs.Tables.{AreParents, AreSettled, KeyTuple, is_in_table, own, parent_in, said}
use Rattle.key_records.specs.Counted.{Counted}
use Rattle.key_records.specs.Records.{AreRecords}
use Rattle.key_records.specs.declared.records.KeyRecords.{KeyRecords}
use Rattle.key_records.specs.declared.references.References.{References}
use Rattle.scope_targets.specs.Kept.{DifferUnseen}

pub none-and : (a b : ℕ) → a ≡ 0 → b ≡ 0 → a + b ≡ 0
none-and a b e f = omega (arith, e, f)

lacks-has : (x y : ℕ) (xs : List ℕ) → Lacks x xs → Has y xs → y ≢ x
lacks-has x y [] l h = absurd h
lacks-has x y (z ∷ zs) l h = elim h [ inl e ↦ λ k. l.0 (e ∙ k) | inr k ↦ lacks-has x y zs l.1 k ]

lacks-all : (x : ℕ) (cs : List ℕ) → ((c : ℕ) → Has c cs → c ≢ x) → Lacks x cs
lacks-all x [] off = tt
lacks-all x (c ∷ cs) off = (off c (inl refl), lacks-all x cs (λ d h. off d (inr h)))

not-true : (b : Bool) → (b ≡ true → ⊥) → b ≡ false
not-true true off = absurd (off refl)
not-true false off = refl

-- ---- which of a list bear does not go by their order

module _ (f : ℕ → Bool) where
  none-bear : (xs : List ℕ) → ((c : ℕ) → Has c xs → f c ≡ false) → bearers f xs ≡ 0
  none-bear [] h = refl
  none-bear (c ∷ cs) h = none-and (weight (f c)) (bearers f cs) (ap weight (h c (inl refl))) (none-bear cs (λ d k. h d (inr k)))

  -- one of a list, and the others
  record Splits (x : ℕ) (ys : List ℕ) : Type 0 where
    pub rest : List ℕ
    pub sum : bearers f ys ≡ weight (f x) + bearers f rest
    pub distinct : Distinct rest
    pub apart : (z : ℕ) → Has z rest → z ≢ x
    pub back : (z : ℕ) → Has z rest → Has z ys
    pub on : (z : ℕ) → Has z ys → z ≢ x → Has z rest

  swapped : (a b c d : ℕ) → b ≡ c + d → a + b ≡ c + (a + d)
  swapped a b c d e = omega (arith, e)

  split : (x : ℕ) (ys : List ℕ) → Distinct ys → Has x ys → Splits x ys
  split x [] d h = absurd h
  split x (c ∷ cs) d (inl e) = record {
    rest = cs;
    sum = ap (λ (m : ℕ). weight (f m) + bearers f cs) e;
    distinct = d.1;
    apart = λ z h k. lacks-has c z cs d.0 h (k ∙ sym e);
    back = λ z h. inr h;
    on = λ z h off. elim h [ inl k ↦ absurd (off (sym k ∙ e)) | inr k ↦ k ];
  }
  split x (c ∷ cs) d (inr h) =
      let s = split x cs d.1 h in
      record {
        rest = c ∷ s.rest;
        sum = swapped (weight (f c)) (bearers f cs) (weight (f x)) (bearers f s.rest) s.sum;
        distinct = (lacks-all c s.rest (λ z k. lacks-has c z cs d.0 (s.back z k)), s.distinct);
        apart = λ z k same. elim k [ inl e ↦ lacks-has c x cs d.0 h (sym (e ∙ same)) | inr m ↦ s.apart z m same ];
        back = λ z k. elim k [ inl e ↦ inl e | inr m ↦ inr (s.back z m) ];
        on = λ z k off. elim k [ inl e ↦ inl e | inr m ↦ inr (s.on z m off) ];
      }

  with-one : (a b c d : ℕ) → d ≡ a + c → b ≡ c → a + b ≡ d
  with-one a b c d e k = omega (arith, e, k)

  with-none : (a b c : ℕ) → a ≡ 0 → b ≡ c → a + b ≡ c
  with-none a b c e k = omega (arith, e, k)

  abbrev SameAs : List ℕ → Type 0
  SameAs xs =
      (ys : List ℕ) → Distinct xs → Distinct ys → ((z : ℕ) → f z ≡ true → Has z xs → Has z ys) → ((z : ℕ) → f z ≡ true → Has z ys → Has z xs) → bearers f xs ≡ bearers f ys

  one-more : (x : ℕ) (xs : List ℕ) → SameAs xs → (ys : List ℕ) → Distinct (x ∷ xs) → Distinct ys → ((z : ℕ) → f z ≡ true → Has z (x ∷ xs) → Has z ys)
      → ((z : ℕ) → f z ≡ true → Has z ys → Has z (x ∷ xs)) → (b : Bool) → f x ≡ b → bearers f (x ∷ xs) ≡ bearers f ys
  one-more x xs more ys dx dy to fro true e =
      let s = split x ys dy (to x e (inl refl)) in
      with-one (weight (f x)) (bearers f xs) (bearers f s.rest) (bearers f ys) s.sum
      (more s.rest dx.1 s.distinct (λ z k h. s.on z (to z k (inr h)) (lacks-has x z xs dx.0 h))
      (λ z k h. elim (fro z k (s.back z h)) [ inl same ↦ absurd (s.apart z h (sym same)) | inr m ↦ m ]))
  one-more x xs more ys dx dy to fro false e =
      with-none (weight (f x)) (bearers f xs) (bearers f ys) (ap weight e)
      (more ys dx.1 dy (λ z k h. to z k (inr h)) (λ z k h. elim (fro z k h) [ inl same ↦ absurd (true≢false (sym k ∙ ap f (sym same) ∙ e)) | inr m ↦ m ]))

  pub same-bearers : (xs : List ℕ) → SameAs xs
  same-bearers [] ys dx dy to fro = sym (none-bear ys (λ c h. not-true (f c) (λ e. fro c e h)))
  same-bearers (x ∷ xs) ys dx dy to fro = one-more x xs (same-bearers xs) ys dx dy to fro (f x) refl

-- ---- links that differ where nothing is seen

module _ (t u : Links) (all : Tables) (linked : IsLinked t) (linked2 : IsLinked u) (differ : DifferUnseen t u all) where
  moved : (v w : Links) → IsLinked v → IsLinked w → ((n : ℕ) → (v.parent n ≡ w.parent n) ⊎ ((y : KeyTuple) → is_in_table all n y ≡ false)) → (m : ℕ) (y : KeyTuple) (z : ℕ) → is_in_table all z y ≡ true → Has z (v.children m) → Has z (w.children m)
  moved v w one other same m y z shown has =
      elim (same z) [
        | inl is ↦ other.up m z (sym is ∙ one.down m z has)
        | inr unseen ↦ absurd (true≢false (sym shown ∙ unseen y))
      ]

  turned : (n : ℕ) → (u.parent n ≡ t.parent n) ⊎ ((y : KeyTuple) → is_in_table all n y ≡ false)
  turned n = elim (differ n) [ inl is ↦ inl (sym is) | inr unseen ↦ inr unseen ]

  pub settled-still : AreSettled t all → AreSettled u all
  settled-still settled = λ m y.
      settled m y
      ∙ same-bearers (λ n. is_in_table all n y) (t.children m) (u.children m) (linked.apart m) (linked2.apart m) (moved t u linked linked2 differ m y) (moved u t linked2 linked turned m y)

pub records-still : (t u : Links) (refs : References) (c : Counted) (r : KeyRecords) → IsLinked t → IsLinked u → DifferUnseen t u r.referred → AreRecords t refs c r → AreRecords u refs c r
records-still t u refs c r linked linked2 differ are = record {
  own_are = are.own_are;
  settled = settled-still t u r.referred linked linked2 differ are.settled;
  matched = are.matched;
  once = are.once;
  bare = are.bare;
  misused_are = are.misused_are;
  lacking_are = are.lacking_are;
  nillable_are = are.nillable_are;
}

-- ---- nothing is seen where nothing is counted below

none-some : (p : ℕ) → None ≡ Some p → ⊥
none-some p e = cc

in-range : (ps : List (Option ℕ)) (c p : ℕ) → parent_in ps c ≡ Some p → c < length ps
in-range [] c p e = absurd (none-some p e)
in-range (q ∷ qs) zero p e = omega arith
in-range (q ∷ qs) (suc c) p e = let h = in-range qs c p e in omega (arith, h)

module _ (t : Links) (parents : List (Option ℕ)) (all : Tables) (among : ℕ → Bool) (linked : IsLinked t) (are : AreParents t parents) (settled : AreSettled t all)
    (without : (n : ℕ) → among n ≡ true → (y : KeyTuple) → own all n y ≡ 0) (closed : (n c : ℕ) → among n ≡ true → t.parent c ≡ Some n → among c ≡ true) where
  unseen-by : (n : ℕ) → among n ≡ true → (y : KeyTuple) → ((c : ℕ) → Has c (t.children n) → is_in_table all c y ≡ false) → is_in_table all n y ≡ false
  unseen-by n is y below =
      let nothing : said all n y ≡ 0 = settled n y ∙ none-bear (λ c. is_in_table all c y) (t.children n) below in
      λ i. is_seen (without n is y i) (nothing i)

  child-range : (n c : ℕ) → Has c (t.children n) → (n < c) × (c < length parents)
  child-range n c has = let up = linked.down n c has in (are.before c n up, in-range parents c n (sym (are.parents_are c) ∙ up))

  unseen-from : (fuel n : ℕ) → length parents ≤ n + fuel → among n ≡ true → (y : KeyTuple) → is_in_table all n y ≡ false
  unseen-from zero n far is y = unseen-by n is y (λ c has. let range = child-range n c has in let one = range.0 in let two = range.1 in absurd (omega (arith, one, two, far)))
  unseen-from (suc fuel) n far is y =
      unseen-by n is y (λ c has.
      let range = child-range n c has in
      let one = range.0 in
      unseen-from fuel c (omega (arith, one, far)) (closed n c is (linked.down n c has)) y)

  pub unseen : (n : ℕ) → among n ≡ true → (y : KeyTuple) → is_in_table all n y ≡ false
  unseen n is y = unseen-from (length parents) n (omega arith) is y
