-- The words of an all by how many marks are of each member.
use Rattle.std.proofs.Common.{◌≡◌, ◌≢◌, ℕ, zero, suc, ◌+◌, ◌-◌, ◌<◌, ◌≤◌, ◌==◌, Bool, true, false, IsTrue, List, [], ◌∷◌, ◌++◌, length, get_or, refl, sym, ap, subst, ◌∙◌, inl, inr, arith, eq-eqb, eqb-true, if◌then◌else◌}
use Rattle.std.specs.List.{All}
use Rattle.std.proofs.lemmas.Bool.{cases_eq}
use Rattle.std.proofs.lemmas.List.Elements.{All-nil, All-cons, All-head, All-tail}
use Rattle.xs_positions.specs.PositionWords.{Allows}
use Rattle.particle_models.specs.Particles.{term, occurs, Place, Mark}
use Rattle.particle_models.specs.Words.{Words, WordsOfEach, Times, Interleaves}
use Rattle.content_models.specs.Shape.{no_member, particles_of}
use Rattle.content_models.specs.declared.member.AllMember.{AllMember}

-- the place of the member of a number
abbrev pub place_at : ℕ → AllMember → Place
place_at i m = record { path = i ∷ []; number = m.term }

module _ {Name : Type 0} where
  -- the number of the member that the mark is of
  abbrev pub index : Mark Name → ℕ
  index mark = get_or mark.place.path 0 0

  -- how many marks are of the member
  abbrev pub count_of : ℕ → List (Mark Name) → ℕ
  count_of i [] = 0
  count_of i (mark ∷ word) = if index mark == i then suc (count_of i word) else count_of i word

  pub count_same : (i : ℕ) (x : Mark Name) (word : List (Mark Name)) → index x ≡ i → count_of i (x ∷ word) ≡ suc (count_of i word)
  count_same i x word e = let t : (index x == i) ≡ true = eq-eqb (index x) i e in rw t refl

  pub count_other : (i : ℕ) (x : Mark Name) (word : List (Mark Name)) → index x ≢ i → count_of i (x ∷ word) ≡ count_of i word
  count_other i x word d = other (index x == i) refl
    where
      other : (b : Bool) → (index x == i) ≡ b → (if b then suc (count_of i word) else count_of i word) ≡ count_of i word
      other true e = absurd (d (eqb-true (index x) i e))
      other false e = refl

  pub count_append : (i : ℕ) (xs ys : List (Mark Name)) → count_of i (xs ++ ys) ≡ count_of i xs + count_of i ys
  count_append i [] ys = omega arith
  count_append i (x ∷ xs) ys = elim (cases_eq (index x) i) [
    | inl e ↦ (let r = count_append i xs ys in let a = count_same i x (xs ++ ys) e in let b = count_same i x xs e in omega arith)
    | inr d ↦ (let r = count_append i xs ys in let a = count_other i x (xs ++ ys) d in let b = count_other i x xs d in omega arith)
  ]

  -- counts add up, and what holds of each mark holds of both parts
  shuffle_count : (i : ℕ) (own others word : List (Mark Name)) → Interleaves own others word → count_of i word ≡ count_of i own + count_of i others
  shuffle_count i own others [] h = rw (h.0, h.1) refl
  shuffle_count i own others (x ∷ word) (inl h) = elim (cases_eq (index x) i) [
    | inl e ↦ (let r = shuffle_count i h.0 others word h.2 in let a = count_same i x word e in let b = count_same i x h.0 e in rw h.1 (omega arith))
    | inr d ↦ (let r = shuffle_count i h.0 others word h.2 in let a = count_other i x word d in let b = count_other i x h.0 d in rw h.1 (omega arith))
  ]
  shuffle_count i own others (x ∷ word) (inr h) = elim (cases_eq (index x) i) [
    | inl e ↦ (let r = shuffle_count i own h.0 word h.2 in let a = count_same i x word e in let b = count_same i x h.0 e in rw h.1 (omega arith))
    | inr d ↦ (let r = shuffle_count i own h.0 word h.2 in let a = count_other i x word d in let b = count_other i x h.0 d in rw h.1 (omega arith))
  ]

  shuffle_all : (P : Mark Name → Type 0) (own others word : List (Mark Name)) → Interleaves own others word → All P own → All P others → All P word
  shuffle_all P own others [] h a b = All-nil P
  shuffle_all P own others (x ∷ word) (inl h) a b =
      let c : All P (x ∷ h.0) = rw h.1 at a in All-cons P x word (All-head P x h.0 c) (shuffle_all P h.0 others word h.2 (All-tail P x h.0 c) b)
  shuffle_all P own others (x ∷ word) (inr h) a b =
      let c : All P (x ∷ h.0) = rw h.1 at b in All-cons P x word (All-head P x h.0 c) (shuffle_all P own h.0 word h.2 a (All-tail P x h.0 c))

  module _ (accepts : ℕ → Name → Bool) where
    -- the mark is of this member, which accepts its name
    abbrev pub IsOf : AllMember → ℕ → Mark Name → Type 0
    IsOf m i mark = (mark.place ≡ place_at i m) × IsTrue (accepts m.term mark.name)

    -- each mark is of some member from i on
    abbrev pub Fits : ℕ → List AllMember → Mark Name → Type 0
    Fits i members mark = (i ≤ index mark) × (index mark < i + length members) × IsOf (get_or members (index mark - i) no_member) (index mark) mark

    pub index_of : (m : AllMember) (i : ℕ) (x : Mark Name) → IsOf m i x → index x ≡ i
    index_of m i x h = ap (λ (p : Place). get_or p.path 0 0) h.0

    -- the words of a member
    times_own : (m : AllMember) (i count : ℕ) (own : List (Mark Name)) → Times (Words accepts (term m.term) (i ∷ [])) count own → All (IsOf m i) own × (length own ≡ count)
    times_own m i zero own h = rw h (All-nil (IsOf m i), refl)
    times_own m i (suc count) own (front, back, e, (name, takes, f), rest) =
        let r = times_own m i count back rest in
        let x : Mark Name = record { place = place_at i m; name = name } in
        let is : own ≡ x ∷ back = e ∙ ap (λ xs. xs ++ back) f in
        rw is (All-cons (IsOf m i) x back (refl, takes) r.0, ap suc r.1)

    own_times : (m : AllMember) (i : ℕ) (own : List (Mark Name)) → All (IsOf m i) own → Times (Words accepts (term m.term) (i ∷ [])) (length own) own
    own_times m i [] h = refl
    own_times m i (x ∷ own) h =
        let a : IsOf m i x = All-head (IsOf m i) x own h in
        (x ∷ [], own, refl, (x.name, a.1, ap (λ (p : Place). record { place = p; name = x.name } ∷ []) a.0), own_times m i own (All-tail (IsOf m i) x own h))

    pub words_own : (m : AllMember) (i : ℕ) (own : List (Mark Name)) → Words accepts (occurs m.least m.most (term m.term)) (i ∷ []) own → All (IsOf m i) own × Allows m.least m.most (length own)
    words_own m i own (count, allows, times) = let r = times_own m i count own times in (r.0, subst (λ (k : ℕ). Allows m.least m.most k) (sym r.1) allows)

    own_words : (m : AllMember) (i : ℕ) (own : List (Mark Name)) → All (IsOf m i) own → Allows m.least m.most (length own) → Words accepts (occurs m.least m.most (term m.term)) (i ∷ []) own
    own_words m i own h allows = (length own, allows, own_times m i own h)

    own_counts : (m : AllMember) (i : ℕ) (own : List (Mark Name)) → All (IsOf m i) own → count_of i own ≡ length own
    own_counts m i [] h = refl
    own_counts m i (x ∷ own) h =
        let r = own_counts m i own (All-tail (IsOf m i) x own h) in let e = count_same i x own (index_of m i x (All-head (IsOf m i) x own h)) in omega arith

    own_counts_none : (m : AllMember) (i j : ℕ) (own : List (Mark Name)) → All (IsOf m i) own → i ≢ j → count_of j own ≡ 0
    own_counts_none m i j [] h d = refl
    own_counts_none m i j (x ∷ own) h d =
        let a : index x ≡ i = index_of m i x (All-head (IsOf m i) x own h) in
        count_other j x own (λ e. d (sym a ∙ e)) ∙ own_counts_none m i j own (All-tail (IsOf m i) x own h) d

    fits_none : (i j : ℕ) (members : List AllMember) (word : List (Mark Name)) → All (Fits i members) word → j < i → count_of j word ≡ 0
    fits_none i j members [] h l = refl
    fits_none i j members (x ∷ word) h l =
        let a : i ≤ index x = (All-head (Fits i members) x word h).0 in
        count_other j x word (λ e. omega arith) ∙ fits_none i j members word (All-tail (Fits i members) x word h) l

    -- ---- a word of the all has such marks and counts
    abbrev pub Counts : ℕ → List AllMember → List (Mark Name) → Type 0
    Counts i members word = (j : ℕ) → j < length members → Allows (get_or members j no_member).least (get_or members j no_member).most (count_of (i + j) word)

    own_fits : (m : AllMember) (i : ℕ) (members : List AllMember) (x : Mark Name) → IsOf m i x → Fits i (m ∷ members) x
    own_fits m i members x h =
        let e : index x ≡ i = index_of m i x h in
        (omega arith, omega arith, (let z : index x - i ≡ 0 = omega arith in rw z (h.0 ∙ ap (λ k. place_at k m) (sym e), h.1)))

    others_fit : (m : AllMember) (i : ℕ) (members : List AllMember) (x : Mark Name) → Fits (suc i) members x → Fits i (m ∷ members) x
    others_fit m i members x h =
        let a : suc i ≤ index x = h.0 in let b : index x < suc i + length members = h.1 in
        (omega arith, omega arith, (let z : index x - i ≡ suc (index x - suc i) = omega arith in rw z h.2))

    weaken : (P Q : Mark Name → Type 0) → ((x : Mark Name) → P x → Q x) → (xs : List (Mark Name)) → All P xs → All Q xs
    weaken P Q f xs h k d l = f (get_or xs k d) (h k d l)

    pub all_counts : (members : List AllMember) (i : ℕ) (word : List (Mark Name)) → WordsOfEach accepts (particles_of members) [] i word → All (Fits i members) word × Counts i members word
    all_counts [] i word h = (rw h (All-nil (Fits i [])), λ j l. absurd (omega arith))
    all_counts (m ∷ members) i word (own, others, s, own_word, rest) =
        let w = words_own m i own own_word in
        let r = all_counts members (suc i) others rest in (
          shuffle_all (Fits i (m ∷ members)) own others word s
              (weaken (IsOf m i) (Fits i (m ∷ members)) (own_fits m i members) own w.0)
              (weaken (Fits (suc i) members) (Fits i (m ∷ members)) (others_fit m i members) others r.0),
          counts_at w r,
        )
      where
        counts_at : All (IsOf m i) own × Allows m.least m.most (length own) → All (Fits (suc i) members) others × Counts (suc i) members others → Counts i (m ∷ members) word
        counts_at w r zero l =
            let c = shuffle_count (i + 0) own others word s in let z : i + 0 ≡ i = omega arith in
            let a : count_of (i + 0) own ≡ length own = ap (λ k. count_of k own) z ∙ own_counts m i own w.0 in
            let b : count_of (i + 0) others ≡ 0 = fits_none (suc i) (i + 0) members others r.0 (omega arith) in
            let e : length own ≡ count_of (i + 0) word = omega arith in
            subst (λ (k : ℕ). Allows m.least m.most k) e w.1
        counts_at w r (suc j) l =
            let c = shuffle_count (i + suc j) own others word s in
            let a : count_of (i + suc j) own ≡ 0 = own_counts_none m i (i + suc j) own w.0 (λ e. omega arith) in
            let z : suc i + j ≡ i + suc j = omega arith in
            let e : count_of (suc i + j) others ≡ count_of (i + suc j) word = ap (λ k. count_of k others) z ∙ (let k : count_of (i + suc j) others ≡ count_of (i + suc j) word = omega arith in k) in
            subst (λ (k : ℕ). Allows (get_or members j no_member).least (get_or members j no_member).most k) e (r.1 j (omega arith))

    -- ---- and such marks and counts are of a word
    record Split (m : AllMember) (members : List AllMember) (i : ℕ) (word : List (Mark Name)) : Type 0 where
      own : List (Mark Name)
      others : List (Mark Name)
      parts : Interleaves own others word
      mine : All (IsOf m i) own
      fit : All (Fits (suc i) members) others
      long : length own ≡ count_of i word
      same : (j : ℕ) → j ≢ i → count_of j others ≡ count_of j word

    split_more : (m : AllMember) (members : List AllMember) (i : ℕ) (x : Mark Name) (word : List (Mark Name)) → Fits i (m ∷ members) x → Split m members i word → Split m members i (x ∷ word)
    split_more m members i x word f s = elim (cases_eq (index x) i) [
      | inl e ↦ record {
        own = x ∷ s.own;
        others = s.others;
        parts = inl (s.own, refl, s.parts);
        mine = All-cons (IsOf m i) x s.own (let z : index x - i ≡ 0 = omega arith in let g : IsOf m (index x) x = rw z at f.2 in (g.0 ∙ ap (λ k. place_at k m) e, g.1)) s.mine;
        fit = s.fit;
        long = (let l = s.long in let c = count_same i x word e in omega arith);
        same = λ j d. s.same j d ∙ sym (count_other j x word (λ k. d (sym k ∙ e)));
      }
      | inr d ↦ record {
        own = s.own;
        others = x ∷ s.others;
        parts = inr (s.others, refl, s.parts);
        mine = s.mine;
        fit = All-cons (Fits (suc i) members) x s.others (later d) s.fit;
        long = s.long ∙ sym (count_other i x word d);
        same = same_more;
      }
    ]
      where
        later : index x ≢ i → Fits (suc i) members x
        later d =
            let a : i ≤ index x = f.0 in let b : index x < i + suc (length members) = f.1 in
            (omega arith, omega arith, (let z : index x - i ≡ suc (index x - suc i) = omega arith in rw z at f.2))

        same_more : (j : ℕ) → j ≢ i → count_of j (x ∷ s.others) ≡ count_of j (x ∷ word)
        same_more j k = elim (cases_eq (index x) j) [
          | inl e ↦ (let r = s.same j k in let a = count_same j x s.others e in let b = count_same j x word e in omega arith)
          | inr n ↦ count_other j x s.others n ∙ (s.same j k ∙ sym (count_other j x word n))
        ]

    split_all : (m : AllMember) (members : List AllMember) (i : ℕ) (word : List (Mark Name)) → All (Fits i (m ∷ members)) word → Split m members i word
    split_all m members i [] h = record {
      own = [];
      others = [];
      parts = (refl, refl);
      mine = All-nil (IsOf m i);
      fit = All-nil (Fits (suc i) members);
      long = refl;
      same = λ j d. refl;
    }
    split_all m members i (x ∷ word) h =
        split_more m members i x word (All-head (Fits i (m ∷ members)) x word h) (split_all m members i word (All-tail (Fits i (m ∷ members)) x word h))

    no_marks : (i : ℕ) (word : List (Mark Name)) → All (Fits i []) word → word ≡ []
    no_marks i [] h = refl
    no_marks i (x ∷ word) h = let a = All-head (Fits i []) x word h in let b = a.0 in let c : index x < i + 0 = a.1 in absurd (omega arith)

    pub counts_all : (members : List AllMember) (i : ℕ) (word : List (Mark Name)) → All (Fits i members) word → Counts i members word → WordsOfEach accepts (particles_of members) [] i word
    counts_all [] i word f c = no_marks i word f
    counts_all (m ∷ members) i word f c =
        let s = split_all m members i word f in
        let e : count_of (i + 0) word ≡ length s.own = (let z : i + 0 ≡ i = omega arith in ap (λ k. count_of k word) z ∙ sym s.long) in (
          s.own,
          s.others,
          s.parts,
          own_words m i s.own s.mine (subst (λ (k : ℕ). Allows m.least m.most k) e (c 0 (omega arith))),
          counts_all members (suc i) s.others s.fit (λ j l.
              let z : i + suc j ≡ suc i + j = omega arith in
              let g : count_of (i + suc j) word ≡ count_of (suc i + j) s.others = ap (λ k. count_of k word) z ∙ sym (s.same (suc i + j) (λ k. omega arith)) in
              subst (λ (k : ℕ). Allows (get_or members j no_member).least (get_or members j no_member).most k) g (c (suc j) (omega arith))),
        )
