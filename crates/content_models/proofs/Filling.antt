-- Marks that are of members, each at most once, begin a word.
use Rattle.std.proofs.Common.{◌≡◌, ℕ, zero, suc, ◌+◌, ◌-◌, ◌<◌, ◌≤◌, Bool, IsTrue, List, [], ◌∷◌, ◌++◌, Option, Some, length, get_or, refl, sym, ap, subst, ◌∙◌, inl, inr, arith, append-nil, append_assoc}
use Rattle.std.specs.List.{All}
use Rattle.std.proofs.lemmas.Bool.{cases_eq, cases_lt}
use Rattle.std.proofs.lemmas.List.Elements.{All-nil, All-cons, All-head, All-tail, All-append}
use Rattle.xs_positions.specs.PositionWords.{Allows}
use Rattle.particle_models.specs.Particles.{Mark}
use Rattle.particle_models.specs.Words.{WordsOfEach}
use Rattle.content_models.specs.Shape.{no_member, particles_of, IsOnce}
use Rattle.content_models.specs.declared.member.AllMember.{AllMember}
use Rattle.content_models.proofs.Counting.{place_at, index, count_of, count_same, count_other, count_append, Fits, all_counts, counts_all}

module _ {Name : Type 0} (accepts : ℕ → Name → Bool) (members : List AllMember) where
  abbrev pub at : ℕ → AllMember
  at j = get_or members j no_member

  abbrev pub Fit : List (Mark Name) → Type 0
  Fit word = All (Fits accepts 0 members) word

  -- no member comes twice
  abbrev pub NoneTwice : List (Mark Name) → Type 0
  NoneTwice word = (j : ℕ) → j < length members → count_of j word ≤ 1

  abbrev pub mark_at : ℕ → Name → Mark Name
  mark_at j name = record { place = place_at j (at j); name = name }

  pub fits_at : (j : ℕ) (name : Name) → j < length members → IsTrue (accepts (at j).term name) → Fits accepts 0 members (mark_at j name)
  fits_at j name l takes = (omega arith, omega arith, (let z : j - 0 ≡ j = omega arith in rw z (refl, takes)))

  pub front_all : (P : Mark Name → Type 0) (front rest : List (Mark Name)) → All P (front ++ rest) → All P front
  front_all P [] rest h = All-nil P
  front_all P (x ∷ front) rest h = All-cons P x front (All-head P x (front ++ rest) h) (front_all P front rest (All-tail P x (front ++ rest) h))

  once_most : (m : AllMember) (k : ℕ) → IsOnce m → Allows m.least m.most k → k ≤ 1
  once_most m k once a = let b : Allows m.least (Some 1) k = subst (λ (o : Option ℕ). Allows m.least o k) once.1 a in b.1

  once_allows : (m : AllMember) (k : ℕ) → IsOnce m → m.least ≤ k → k ≤ 1 → Allows m.least m.most k
  once_allows m k once a b = subst (λ (o : Option ℕ). Allows m.least o k) (sym once.1) (a, b)

  -- a word has no member twice, and its marks are of members
  pub word_fits : (word : List (Mark Name)) → All IsOnce members → WordsOfEach accepts (particles_of members) [] 0 word → Fit word × NoneTwice word
  word_fits word once h =
      let r = all_counts accepts members 0 word h in
      (r.0, (λ j l. let c = once_most (at j) (count_of (0 + j) word) (once j no_member l) (r.1 j l) in let z : 0 + j ≡ j = omega arith in subst (λ (k : ℕ). count_of k word ≤ 1) z c))

  module _ (once : All IsOnce members) (has : (j : ℕ) → j < length members → 0 < (at j).least → (name : Name) × IsTrue (accepts (at j).term name)) where
    -- the first so many members come as often as they have to
    record Filled (front : List (Mark Name)) (k : ℕ) : Type 0 where
      rest : List (Mark Name)
      fit : Fit (front ++ rest)
      none_twice : NoneTwice (front ++ rest)
      filled : (j : ℕ) → j < k → (at j).least ≤ count_of j (front ++ rest)

    fill_one : (front : List (Mark Name)) (k : ℕ) → suc k ≤ length members → Filled front k → Filled front (suc k)
    fill_one front k l f = elim (cases_lt (count_of k (front ++ f.rest)) (at k).least) [
      | inl few ↦ (
          let h = has k (omega arith) (omega arith) in
          let o = (once k no_member (omega arith)).0 in
          let x : Mark Name = mark_at k h.0 in
          let same : front ++ (f.rest ++ x ∷ []) ≡ (front ++ f.rest) ++ x ∷ [] = sym (append_assoc front f.rest (x ∷ [])) in record {
            rest = f.rest ++ x ∷ [];
            fit = rw same (All-append (Fits accepts 0 members) (front ++ f.rest) (x ∷ []) f.fit
                (All-cons (Fits accepts 0 members) x [] (fits_at k h.0 (omega arith) h.1) (All-nil (Fits accepts 0 members))));
            none_twice = λ j b. rw same (at_most x refl few o j b);
            filled = λ j b. rw same (at_least x refl few o j b);
          })
      | inr many ↦ record {
        rest = f.rest;
        fit = f.fit;
        none_twice = f.none_twice;
        filled = λ j b. elim (cases_eq j k) [
          | inl e ↦ subst (λ (n : ℕ). (at n).least ≤ count_of n (front ++ f.rest)) (sym e) many
          | inr d ↦ f.filled j (omega arith)
        ];
      }
    ]
      where
        at_most : (x : Mark Name) → index x ≡ k → count_of k (front ++ f.rest) < (at k).least → (at k).least ≤ 1 → (j : ℕ) → j < length members → count_of j ((front ++ f.rest) ++ x ∷ []) ≤ 1
        at_most x is few o j b = elim (cases_eq j k) [
          | inl e ↦ (
              let c = count_append j (front ++ f.rest) (x ∷ []) in let s = count_same j x [] (is ∙ sym e) in
              let z : count_of j (front ++ f.rest) ≡ count_of k (front ++ f.rest) = ap (λ n. count_of n (front ++ f.rest)) e in
              let n : count_of {Name = Name} j [] ≡ 0 = refl in omega arith)
          | inr d ↦ (
              let c = count_append j (front ++ f.rest) (x ∷ []) in let s = count_other j x [] (λ e. d (sym e ∙ is)) in
              let r = f.none_twice j b in let n : count_of {Name = Name} j [] ≡ 0 = refl in omega arith)
        ]

        at_least : (x : Mark Name) → index x ≡ k → count_of k (front ++ f.rest) < (at k).least → (at k).least ≤ 1 → (j : ℕ) → j < suc k → (at j).least ≤ count_of j ((front ++ f.rest) ++ x ∷ [])
        at_least x is few o j b = elim (cases_eq j k) [
          | inl e ↦ (
              let c = count_append j (front ++ f.rest) (x ∷ []) in let s = count_same j x [] (is ∙ sym e) in
              let z : (at j).least ≡ (at k).least = ap (λ n. (at n).least) e in
              let n : count_of {Name = Name} j [] ≡ 0 = refl in omega arith)
          | inr d ↦ (let c = count_append j (front ++ f.rest) (x ∷ []) in let r = f.filled j (omega arith) in omega arith)
        ]

    fill : (front : List (Mark Name)) → Fit front → NoneTwice front → (k : ℕ) → k ≤ length members → Filled front k
    fill front fit twice zero l = record {
      rest = [];
      fit = rw append-nil fit;
      none_twice = λ j b. rw append-nil (twice j b);
      filled = λ j b. absurd (omega arith);
    }
    fill front fit twice (suc k) l = fill_one front k l (fill front fit twice k (omega arith))

    -- such marks begin a word
    pub begins : (front : List (Mark Name)) → Fit front → NoneTwice front → (rest : List (Mark Name)) × WordsOfEach accepts (particles_of members) [] 0 (front ++ rest)
    begins front fit twice =
        let f = fill front fit twice (length members) (omega arith) in (
          f.rest,
          counts_all accepts members 0 (front ++ f.rest) f.fit (λ j l.
              let z : 0 + j ≡ j = omega arith in
              subst (λ (k : ℕ). Allows (at j).least (at j).most (count_of k (front ++ f.rest))) (sym z)
              (once_allows (at j) (count_of j (front ++ f.rest)) (once j no_member l) (f.filled j l) (f.none_twice j l))),
        )

  -- a mark of a member that has come
  some_mark : (j : ℕ) (word : List (Mark Name)) → Fit word → 0 < count_of j word → (x : Mark Name) × (index x ≡ j) × Fits accepts 0 members x
  some_mark j [] h l = absurd (omega arith)
  some_mark j (x ∷ word) h l = elim (cases_eq (index x) j) [
    | inl e ↦ (x, e, All-head (Fits accepts 0 members) x word h)
    | inr d ↦ some_mark j word (All-tail (Fits accepts 0 members) x word h) (let c = count_other j x word d in omega arith)
  ]

  -- where there is a word, the members that have to come accept names
  pub word_has : (word : List (Mark Name)) → WordsOfEach accepts (particles_of members) [] 0 word → (j : ℕ) → j < length members → 0 < (at j).least → (name : Name) × IsTrue (accepts (at j).term name)
  word_has word h j l p =
      let r = all_counts accepts members 0 word h in
      let z : 0 + j ≡ j = omega arith in
      let a : (at j).least ≤ count_of (0 + j) word = least_of (at j) (count_of (0 + j) word) (r.1 j l) in
      let c : count_of (0 + j) word ≡ count_of j word = ap (λ k. count_of k word) z in
      let m = some_mark j word r.0 (omega arith) in
      let i : index m.0 - 0 ≡ j = (let e = m.1 in omega arith) in
      (m.0.name, subst (λ (k : ℕ). IsTrue (accepts (at k).term m.0.name)) i m.2.2.1)
    where
      least_of : (m : AllMember) (k : ℕ) → Allows m.least m.most k → m.least ≤ k
      least_of m k a = by m.most a
        where
          by : (o : Option ℕ) → Allows m.least o k → m.least ≤ k
          by Option.None a = a
          by (Some most) a = a.0
