-- Maps by the first member of the base.
use Rattle.std.proofs.Common.{◌≡◌, ◌≢◌, ℕ, ◌+◌, ◌<◌, ◌↔◌, ◌⊎◌, ◌||◌, Bool, true, false, IsTrue, List, [], ◌∷◌, ◌++◌, length, get_or, set, refl, ap, subst, sym, ◌∙◌, inl, inr, arith, get_or-set_same, get_or-set_other}
use Rattle.std.specs.Prelude.{Contains, replicate}
use Rattle.std.proofs.lemmas.Bool.{cases_eq, cases_lt, or_cases, false≢true}
use Rattle.std.proofs.lemmas.List.{get_or_append_left, get_or_push, get_or_default, get_or_past, get_or-replicate, length-replicate, length_push}
use Rattle.std.proofs.lemmas.List.Elements.{Contains-push, Contains-push_cases, Contains-append_left}
use Rattle.particle_restrict.specs.Maps.{IsFirst, IsFirstMap, HasFirstMap, LeavesOptional}

module _ (R : ℕ → ℕ → Type 0) where
  -- there is one first
  first-same : (i a b : ℕ) → IsFirst R i a → IsFirst R i b → a ≡ b
  first-same i a b x y = elim (cases_lt a b) [
    | inl less ↦ absurd (y.none_before a less x.restricts)
    | inr not ↦ elim (cases_lt b a) [ inl more ↦ absurd (x.none_before b more y.restricts) | inr both ↦ omega arith ]
  ]

  -- the targets of the members before one, and which members of the base they are
  pub record IsTaking (base member : ℕ) (taken : List Bool) (targets : List ℕ) : Type 0 where
    pub each : length targets ≡ member
    pub takes : (i : ℕ) → i < member → (get_or targets i 0 < base) × IsFirst R i (get_or targets i 0)
    pub apart : (i k : ℕ) → i < k → k < member → get_or targets i 0 ≢ get_or targets k 0
    pub marks : (j : ℕ) → IsTrue (get_or taken j false) ↔ Contains targets j

  pub taking-first : (base : ℕ) (taken : List Bool) → ((j : ℕ) → get_or taken j false ≡ false) → IsTaking base 0 taken []
  taking-first base taken none = record {
    each = refl;
    takes = λ i l. absurd (omega arith);
    apart = λ i k l m. absurd (omega arith);
    marks = λ j. ((λ h. absurd (false≢true (sym (none j) ∙ h))), (λ c. absurd (omega (arith, c.1))));
  }

  module _ (base member target : ℕ) (taken : List Bool) (targets : List ℕ) (was : IsTaking base member taken targets) (within : target < base) (first : IsFirst R member target) where
    abbrev more : List ℕ
    more = targets ++ target ∷ []

    before : (i : ℕ) → i < member → get_or more i 0 ≡ get_or targets i 0
    before i l = get_or_append_left targets (target ∷ []) 0 i (let e = was.each in omega arith)

    last : (i : ℕ) → i ≡ member → get_or more i 0 ≡ target
    last i e = get_or_push targets target 0 i (was.each ∙ sym e)

    pub taking-more : target < length taken → get_or taken target false ≡ false → IsTaking base (member + 1) (set taken target true) more
    taking-more long free = record {
      each = length_push targets target ∙ ap (λ k. k + 1) was.each;
      takes = λ i l. elim (cases_lt i member) [
        | inl b ↦ subst (λ (t : ℕ). (t < base) × IsFirst R i t) (sym (before i b)) (was.takes i b)
        | inr b ↦ (let e : i ≡ member = omega arith in subst (λ (t : ℕ). (t < base) × IsFirst R i t) (sym (last i e)) (within, subst (λ (m : ℕ). IsFirst R m target) (sym e) first))
      ];
      apart = λ i k l m. elim (cases_lt k member) [
        | inl b ↦ (λ same. was.apart i k l b (sym (before i (omega arith)) ∙ (same ∙ before k b)))
        | inr b ↦ (λ same. false≢true (sym free ∙ (was.marks target).1
            (i, (let e = was.each in omega arith), get_or_default targets i target 0 (let e = was.each in omega arith) ∙ (sym (before i (omega arith)) ∙ (same ∙ last k (omega arith))))))
      ];
      marks = λ j. ((λ h. marked j h), (λ c. held j (Contains-push_cases targets target j c)));
    }
      where
        marked : (j : ℕ) → IsTrue (get_or (set taken target true) j false) → Contains more j
        marked j h = elim (cases_eq j target) [
          | inl e ↦ subst (Contains more) (sym e) (Contains-push targets target)
          | inr e ↦ Contains-append_left targets (target ∷ []) j ((was.marks j).0 (sym (get_or-set_other taken target j true false e) ∙ h))
        ]

        held : (j : ℕ) → Contains targets j ⊎ (target ≡ j) → IsTrue (get_or (set taken target true) j false)
        held j (inl c) = elim (cases_eq j target) [
          | inl e ↦ subst (λ (k : ℕ). IsTrue (get_or (set taken target true) k false)) (sym e) (get_or-set_same taken target true false long)
          | inr e ↦ get_or-set_other taken target j true false e ∙ (was.marks j).1 c
        ]
        held j (inr e) = subst (λ (k : ℕ). IsTrue (get_or (set taken target true) k false)) e (get_or-set_same taken target true false long)

    -- another member has it
    pub taken-twice : (members : ℕ) (optional : List Bool) → member < members → IsTrue (get_or taken target false) → HasFirstMap R members optional → ⊥
    taken-twice members optional l h all =
        let c = (was.marks target).0 h in
        let at : get_or targets c.0 0 ≡ target = get_or_default targets c.0 0 target c.1 ∙ c.2 in
        let low : c.0 < member = let e = was.each in let d = c.1 in omega arith in
        let m = all.1 in
        m.apart c.0 member low l
        (first-same c.0 (get_or all.0 c.0 0) target (m.takes c.0 (omega arith)).1 (subst (IsFirst R c.0) at (was.takes c.0 low).1) ∙
        first-same member target (get_or all.0 member 0) first (m.takes member l).1)

  -- a member has no first
  pub none-first : (members member base : ℕ) (optional : List Bool) → base ≡ length optional → member < members → ((j : ℕ) → j < base → R member j → ⊥) → HasFirstMap R members optional → ⊥
  none-first members member base optional e l none all = let t = all.1.takes member l in none (get_or all.0 member 0) (let a = t.0 in omega arith) t.1.restricts

  module _ (members : ℕ) (optional taken : List Bool) (targets : List ℕ) (was : IsTaking (length optional) members taken targets) where
    open_places : ((j : ℕ) → j < length optional → IsTrue (get_or taken j false || get_or optional j false)) → LeavesOptional optional targets
    open_places h j l absent = elim (or_cases (get_or taken j false) (get_or optional j false) (h j l)) [ inl t ↦ absurd (absent ((was.marks j).0 t)) | inr o ↦ o ]

    covered : (other : List ℕ) → IsFirstMap R members optional other → (j : ℕ) → j < length optional → (b : Bool) → get_or taken j false ≡ b → IsTrue (b || get_or optional j false)
    covered other m j l true e = refl
    covered other m j l false e = m.others j l (λ c. false≢true (sym e ∙ (was.marks j).1 (kept c)))
      where
        kept : Contains other j → Contains targets j
        kept c =
            let low : c.0 < members = let d = c.1 in let e = m.each in omega arith in
            let same : get_or targets c.0 0 ≡ get_or other c.0 0 = first-same c.0 (get_or targets c.0 0) (get_or other c.0 0) (was.takes c.0 low).1 (m.takes c.0 low).1 in
            let short : c.0 < length targets = let e = was.each in omega arith in
            (c.0, short, get_or_default targets c.0 j 0 short ∙ (same ∙ (get_or_default other c.0 0 j c.1 ∙ c.2)))

    pub taking-done : (r : Bool) → IsTrue r ↔ ((j : ℕ) → j < length optional → IsTrue (get_or taken j false || get_or optional j false)) → IsTrue r ↔ HasFirstMap R members optional
    taking-done r is = (
      (λ h. (targets, record { each = was.each; takes = was.takes; apart = was.apart; others = open_places (is.0 h) })),
      (λ all. is.1 (λ j l. covered all.0 all.1 j l (get_or taken j false) refl)),
    )

-- no place is taken at first
pub none_taken : (n : ℕ) (taken : List Bool) → taken ≡ replicate n false → (j : ℕ) → get_or taken j false ≡ false
none_taken n taken e j = rw e (elim (cases_lt j n) [
  | inl l ↦ get_or-replicate n j false false l
  | inr l ↦ get_or_past (replicate n false) j false (let h = length-replicate n false in omega arith)
])

-- what is at a place is what is found there whatever else there might be
pub at_place : (xs : List Bool) (i : ℕ) (b : Bool) → i < length xs → b ≡ get_or xs i b → b ≡ get_or xs i false
at_place xs i b l e = e ∙ get_or_default xs i b false l

-- a member more restricts some
pub some_more : (Q : ℕ → Type 0) (n : ℕ) → ((i : ℕ) → i < n → Q i) → Q n → (i : ℕ) → i < n + 1 → Q i
some_more Q n all last i l = elim (cases_lt i n) [ inl b ↦ all i b | inr b ↦ (let e : n ≡ i = omega arith in subst Q e last) ]
