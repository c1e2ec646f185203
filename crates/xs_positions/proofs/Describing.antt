-- The sets of a language made of other languages, from theirs.
use Rattle.std.proofs.Common.{◌≡◌, ℕ, zero, suc, ◌+◌, ◌-◌, ◌<◌, ◌≤◌, ◌⊎◌, ◌↔◌, Bool, true, false, IsTrue, if◌then◌else◌, List, [], ◌∷◌, ◌++◌, length, get_or, All, Contains, refl, ap, ◌∙◌, inl, inr, arith, length-append, append_assoc}
use Rattle.std.specs.List.Sorted.{IsStrictlyIncreasing}
use Rattle.std.proofs.lemmas.Bool.{cases_lt, false≢true}
use Rattle.std.proofs.lemmas.List.{get_or_append_left, get_or-append_right, get_or-replicate, length-replicate}
use Rattle.std.proofs.lemmas.List.Elements.{All-append}
use Rattle.xs_positions.specs.PositionWords.{Begins, Ends, Follows, Passes, HasWord}
use Rattle.xs_positions.specs.Sets.{Sets, row, IsLoop, Describes}
use Rattle.xs_positions.specs.Parts.{one_position, unused, beside, span_of, IsJoined, IsLooped}
use Rattle.xs_positions.specs.declared.sets.Span.{Span}
use Rattle.xs_positions.proofs.Languages.{Joins, begins_join, join_begins, ends_join, join_ends, follows_join, join_follows, passes_join, join_passes}
use Rattle.xs_positions.proofs.Rounds.{Plus, begins_plus, ends_plus, follows_plus, passes_plus}
use Rattle.xs_positions.proofs.Rising.{rises-nil, rises-one, rises-append, Contains-none, Contains-one, Contains-both}

-- what begins, ends or goes on a word lies in it
module _ (L : List ℕ → Type 0) where
  pub begins_passes : (p : ℕ) → Begins L p → Passes L p
  begins_passes p h = ([], h.0, h.1)

  pub ends_passes : (p : ℕ) → Ends L p → Passes L p
  ends_passes p h = (h.0, [], h.1)

  pub follows_passes : (p q : ℕ) → Follows L p q → Passes L p
  follows_passes p q h = (h.0, q ∷ h.1, h.2)

  pub passes_next : (p q : ℕ) → Follows L p q → Passes L q
  passes_next p q h =
      let e : h.0 ++ p ∷ q ∷ h.1 ≡ (h.0 ++ p ∷ []) ++ q ∷ h.1 = simp append_assoc in
      (h.0 ++ p ∷ [], h.1, rw e at h.2)

-- a language whose words begin, end and go on as those of another has its sets
pub Describes-as : (L M : List ℕ → Type 0) (base n : ℕ) (s : Sets) →
    ((p : ℕ) → Begins L p ↔ Begins M p) → ((p : ℕ) → Ends L p ↔ Ends M p) →
    ((p q : ℕ) → Follows L p q ↔ Follows M p q) → ((p : ℕ) → Passes L p ↔ Passes M p) →
    Describes L base n s → Describes M base n s
Describes-as L M base n s b e f g d = record {
  first = λ p. ((λ h. (b p).0 ((d.first p).0 h)), (λ h. (d.first p).1 ((b p).1 h)));
  last = λ p. ((λ h. (e p).0 ((d.last p).0 h)), (λ h. (d.last p).1 ((e p).1 h)));
  follow = λ i p l. ((λ h. (f (base + i) p).0 ((d.follow i p l).0 h)), (λ h. (d.follow i p l).1 ((f (base + i) p).1 h)));
  useful = λ i l. ((λ h. (g (base + i)).0 ((d.useful i l).0 h)), (λ h. (d.useful i l).1 ((g (base + i)).1 h)));
  within = λ p h. d.within p ((g p).1 h);
  follow_count = d.follow_count;
  useful_count = d.useful_count;
  first_rises = d.first_rises;
  last_rises = d.last_rises;
  loops = λ k x l. (let h = d.loops k x l in (h.0, h.1, λ p q a c x y. (f p q).0 (h.2 p q a c ((e p).1 x) ((b q).1 y))));
}

pub Describes-same : (L M : List ℕ → Type 0) (base n : ℕ) (s : Sets) →
    ((w : List ℕ) → L w → M w) → ((w : List ℕ) → M w → L w) → Describes L base n s → Describes M base n s
Describes-same L M base n s to back d =
    Describes-as L M base n s
    (λ p. ((λ h. (h.0, to _ h.1)), (λ h. (h.0, back _ h.1))))
    (λ p. ((λ h. (h.0, to _ h.1)), (λ h. (h.0, back _ h.1))))
    (λ p q. ((λ h. (h.0, h.1, to _ h.2)), (λ h. (h.0, h.1, back _ h.2))))
    (λ p. ((λ h. (h.0, h.1, to _ h.2)), (λ h. (h.0, h.1, back _ h.2)))) d

-- a row of either of two lists of rows
row_left : (xs ys : List (List ℕ)) (i : ℕ) → i < length xs → row (xs ++ ys) i ≡ row xs i
row_left xs ys i l = get_or_append_left xs ys [] i l

row_right : (xs ys : List (List ℕ)) (i : ℕ) → length xs ≤ i → row (xs ++ ys) i ≡ row ys (i - length xs)
row_right xs ys i g = get_or-append_right xs ys (length xs) i [] refl g

-- no word goes through any position
pub Describes-none : (L : List ℕ → Type 0) (base n : ℕ) → ((p : ℕ) → Passes L p → ⊥) → Describes L base n (unused n)
Describes-none L base n none = record {
  first = λ p. ((λ h. absurd (Contains-none p h)), (λ h. absurd (none p (begins_passes L p h))));
  last = λ p. ((λ h. absurd (Contains-none p h)), (λ h. absurd (none p (ends_passes L p h))));
  follow = λ i p l. ((λ h. absurd (Contains-none p (rw (get_or-replicate {A = List ℕ} n i [] [] l) at h))), (λ h. absurd (none (base + i) (follows_passes L (base + i) p h))));
  useful = λ i l. ((λ h. absurd (false≢true (rw (get_or-replicate {A = Bool} n i false false l) at h))), (λ h. absurd (none (base + i) h)));
  within = λ p h. absurd (none p h);
  follow_count = length-replicate {A = List ℕ} n [];
  useful_count = length-replicate {A = Bool} n false;
  first_rises = rises-nil;
  last_rises = rises-nil;
  loops = λ k x l. absurd (omega arith);
}

alone : (w v : List ℕ) (p b : ℕ) → w ++ p ∷ v ≡ b ∷ [] → (w ≡ []) × (p ≡ b) × (v ≡ [])
alone [] v p b e = (refl, cc, cc)
alone (x ∷ []) v p b e = cc
alone (x ∷ y ∷ w) v p b e = cc

pub Describes-one : (base : ℕ) → Describes (λ w. w ≡ base ∷ []) base 1 (one_position base)
Describes-one base = record {
  first = λ p. ((λ h. ([], ap (λ q. q ∷ []) ((Contains-one base p).0 h))), (λ h. (Contains-one base p).1 (alone [] h.0 p base h.1).1));
  last = λ p. ((λ h. ([], ap (λ q. q ∷ []) ((Contains-one base p).0 h))), (λ h. (Contains-one base p).1 (alone h.0 [] p base h.1).1));
  follow = one_follow;
  useful = one_useful;
  within = λ p h. let e = (alone h.0 h.1 p base h.2).1 in (omega arith, omega arith);
  follow_count = refl;
  useful_count = refl;
  first_rises = rises-one base;
  last_rises = rises-one base;
  loops = λ k x l. absurd (omega arith);
}
  where
    nothing_behind : (w v : List ℕ) (p q b : ℕ) → w ++ p ∷ q ∷ v ≡ b ∷ [] → ⊥
    nothing_behind w v p q b e = let n : q ∷ v ≡ [] = (alone w (q ∷ v) p b e).2 in cc

    one_follow : (i p : ℕ) → i < 1 → Contains (row ([] ∷ []) i) p ↔ Follows (λ w. w ≡ base ∷ []) (base + i) p
    one_follow zero p l = ((λ h. absurd (Contains-none p h)), (λ h. absurd (nothing_behind h.0 h.1 (base + 0) p base h.2)))
    one_follow (suc i) p l = absurd (omega arith)

    one_useful : (i : ℕ) → i < 1 → IsTrue (get_or (true ∷ []) i false) ↔ Passes (λ w. w ≡ base ∷ []) (base + i)
    one_useful zero l = ((λ h. ([], [], let e : base + 0 ≡ base = omega arith in rw e refl)), (λ h. refl))
    one_useful (suc i) l = absurd (omega arith)

-- ---- a word of the one or of the other
abbrev pub Or : (List ℕ → Type 0) → (List ℕ → Type 0) → List ℕ → Type 0
Or L M word = L word ⊎ M word

module _ (L M : List ℕ → Type 0) where
  or_begins : (p : ℕ) → (Begins L p ⊎ Begins M p) ↔ Begins (Or L M) p
  or_begins p = (elim [ inl h ↦ (h.0, inl h.1) | inr h ↦ (h.0, inr h.1) ], λ h. elim h.1 [ inl g ↦ inl (h.0, g) | inr g ↦ inr (h.0, g) ])

  or_ends : (p : ℕ) → (Ends L p ⊎ Ends M p) ↔ Ends (Or L M) p
  or_ends p = (elim [ inl h ↦ (h.0, inl h.1) | inr h ↦ (h.0, inr h.1) ], λ h. elim h.1 [ inl g ↦ inl (h.0, g) | inr g ↦ inr (h.0, g) ])

  or_follows : (p q : ℕ) → (Follows L p q ⊎ Follows M p q) ↔ Follows (Or L M) p q
  or_follows p q = (elim [ inl h ↦ (h.0, h.1, inl h.2) | inr h ↦ (h.0, h.1, inr h.2) ], λ h. elim h.2 [ inl g ↦ inl (h.0, h.1, g) | inr g ↦ inr (h.0, h.1, g) ])

  or_passes : (p : ℕ) → (Passes L p ⊎ Passes M p) ↔ Passes (Or L M) p
  or_passes p = (elim [ inl h ↦ (h.0, h.1, inl h.2) | inr h ↦ (h.0, h.1, inr h.2) ], λ h. elim h.2 [ inl g ↦ inl (h.0, h.1, g) | inr g ↦ inr (h.0, h.1, g) ])

both_iff : {A B C D : Type 0} → (A ↔ C) → (B ↔ D) → (A ⊎ B) ↔ (C ⊎ D)
both_iff f g = (elim [ inl h ↦ inl (f.0 h) | inr h ↦ inr (g.0 h) ], elim [ inl h ↦ inl (f.1 h) | inr h ↦ inr (g.1 h) ])

then_iff : {A B C : Type 0} → (A ↔ B) → (B ↔ C) → A ↔ C
then_iff f g = ((λ h. g.0 (f.0 h)), (λ h. f.1 (g.1 h)))

-- of two facts the second cannot hold
left_iff : {A B : Type 0} → (B → ⊥) → A ↔ (A ⊎ B)
left_iff n = ((λ h. inl h), elim [ inl h ↦ h | inr h ↦ absurd (n h) ])

right_iff : {A B : Type 0} → (A → ⊥) → B ↔ (A ⊎ B)
right_iff n = ((λ h. inr h), elim [ inl h ↦ absurd (n h) | inr h ↦ h ])

module _ (L M : List ℕ → Type 0) (base n k : ℕ) (a b : Sets) (da : Describes L base n a) (db : Describes M (base + n) k b) where
  -- positions of the one are none of the other
  not_right : (i : ℕ) → i < n → Passes M (base + i) → ⊥
  not_right i l h = let w = db.within (base + i) h in omega arith

  not_left : (i : ℕ) → n ≤ i → Passes L (base + i) → ⊥
  not_left i g h = let w = da.within (base + i) h in omega arith

  -- the place of a position of the second in its own row
  moved : (i : ℕ) → n ≤ i → (base + n) + (i - n) ≡ base + i
  moved i g = omega arith

  first_below : (p : ℕ) → Contains a.first p → p < base + n
  first_below p h = (da.within p (begins_passes L p ((da.first p).0 h))).1

  first_above : (p : ℕ) → Contains b.first p → base + n ≤ p
  first_above p h = (db.within p (begins_passes M p ((db.first p).0 h))).0

  last_below : (p : ℕ) → Contains a.last p → p < base + n
  last_below p h = (da.within p (ends_passes L p ((da.last p).0 h))).1

  last_above : (p : ℕ) → Contains b.last p → base + n ≤ p
  last_above p h = (db.within p (ends_passes M p ((db.last p).0 h))).0

  firsts_rise : IsStrictlyIncreasing (a.first ++ b.first)
  firsts_rise = rises-append a.first b.first (base + n) da.first_rises db.first_rises first_below first_above

  lasts_rise : IsStrictlyIncreasing (a.last ++ b.last)
  lasts_rise = rises-append a.last b.last (base + n) da.last_rises db.last_rises last_below last_above

  useful_left : (i : ℕ) → i < n → IsTrue (get_or (a.useful ++ b.useful) i false) ↔ Passes L (base + i)
  useful_left i l = let c : i < length a.useful = (let e = da.useful_count in omega arith) in
      rw (get_or_append_left a.useful b.useful false i c) (da.useful i l)

  useful_right : (i : ℕ) → n ≤ i → i < n + k → IsTrue (get_or (a.useful ++ b.useful) i false) ↔ Passes M (base + i)
  useful_right i g l =
      rw (get_or-append_right a.useful b.useful n i false da.useful_count g)
      (let e = moved i g in rw e at (db.useful (i - n) (omega arith)))

  follow_left : (i p : ℕ) → i < n → Contains (row (a.follow ++ b.follow) i) p ↔ Follows L (base + i) p
  follow_left i p l = let c : i < length a.follow = (let e = da.follow_count in omega arith) in
      rw (get_or_append_left a.follow b.follow [] i c) (da.follow i p l)

  follow_right : (rows : List (List ℕ)) (i p : ℕ) → length rows ≡ n → n ≤ i → i < n + k → Contains (row (rows ++ b.follow) i) p ↔ Follows M (base + i) p
  follow_right rows i p c g l =
      rw (get_or-append_right rows b.follow n i [] c g)
      (let e = moved i g in rw e at (db.follow (i - n) p (omega arith)))

  pub Describes-or : Describes (Or L M) base (n + k) (beside a b)
  Describes-or = record {
    first = λ p. then_iff (Contains-both a.first b.first p) (then_iff (both_iff (da.first p) (db.first p)) (or_begins L M p));
    last = λ p. then_iff (Contains-both a.last b.last p) (then_iff (both_iff (da.last p) (db.last p)) (or_ends L M p));
    follow = λ i p l. elim (cases_lt i n) [
      | inl s ↦ then_iff (follow_left i p s) (then_iff (left_iff (λ h. not_right i s (follows_passes M (base + i) p h))) (or_follows L M (base + i) p))
      | inr g ↦ then_iff (follow_right a.follow i p da.follow_count g l)
          (then_iff (right_iff (λ h. not_left i g (follows_passes L (base + i) p h))) (or_follows L M (base + i) p))
    ];
    useful = λ i l. elim (cases_lt i n) [
      | inl s ↦ then_iff (useful_left i s) (then_iff (left_iff (not_right i s)) (or_passes L M (base + i)))
      | inr g ↦ then_iff (useful_right i g l) (then_iff (right_iff (not_left i g)) (or_passes L M (base + i)))
    ];
    within = λ p h. elim ((or_passes L M p).1 h) [
      | inl g ↦ (let w = da.within p g in (omega arith, omega arith))
      | inr g ↦ (let w = db.within p g in (omega arith, omega arith))
    ];
    follow_count = length-append a.follow b.follow ∙ (let e = da.follow_count in let f = db.follow_count in omega arith);
    useful_count = length-append a.useful b.useful ∙ (let e = da.useful_count in let f = db.useful_count in omega arith);
    first_rises = firsts_rise;
    last_rises = lasts_rise;
    loops = All-append (IsLoop (Or L M) base (n + k)) a.loops b.loops
        (λ k x l. or_loop_left (get_or a.loops k x) (da.loops k x l)) (λ k x l. or_loop_right (get_or b.loops k x) (db.loops k x l));
  }
    where
      ends_left : (p : ℕ) → p < base + n → Ends (Or L M) p → Ends L p
      ends_left p l h = elim ((or_ends L M p).1 h) [ inl g ↦ g | inr g ↦ (let w = db.within p (ends_passes M p g) in absurd (omega arith)) ]

      ends_right : (p : ℕ) → base + n ≤ p → Ends (Or L M) p → Ends M p
      ends_right p l h = elim ((or_ends L M p).1 h) [ inl g ↦ (let w = da.within p (ends_passes L p g) in absurd (omega arith)) | inr g ↦ g ]

      begins_left : (p : ℕ) → p < base + n → Begins (Or L M) p → Begins L p
      begins_left p l h = elim ((or_begins L M p).1 h) [ inl g ↦ g | inr g ↦ (let w = db.within p (begins_passes M p g) in absurd (omega arith)) ]

      begins_right : (p : ℕ) → base + n ≤ p → Begins (Or L M) p → Begins M p
      begins_right p l h = elim ((or_begins L M p).1 h) [ inl g ↦ (let w = da.within p (begins_passes L p g) in absurd (omega arith)) | inr g ↦ g ]

      or_loop_left : (s : Span) → IsLoop L base n s → IsLoop (Or L M) base (n + k) s
      or_loop_left s h = (
        h.0,
        (let a = h.1 in omega arith),
        λ p q x y e b. (or_follows L M p q).0 (inl (h.2 p q x y
            (ends_left p (let a = h.1 in let c = x.1 in omega arith) e) (begins_left q (let a = h.1 in let c = y.1 in omega arith) b))),
      )

      or_loop_right : (s : Span) → IsLoop M (base + n) k s → IsLoop (Or L M) base (n + k) s
      or_loop_right s h = (
        (let a = h.0 in omega arith),
        (let a = h.1 in omega arith),
        λ p q x y e b. (or_follows L M p q).0 (inr (h.2 p q x y
            (ends_right p (let a = h.0 in let c = x.0 in omega arith) e) (begins_right q (let a = h.0 in let c = y.0 in omega arith) b))),
      )

  -- ---- a word of the one and then a word of the other
  module _ (x y : Bool) (s : Sets) (j : IsJoined base a x b y s) (lx : IsTrue x ↔ L []) (my : IsTrue y ↔ M []) (hl : HasWord L) (hm : HasWord M) where
    join_follows_left : (i p : ℕ) → i < n → Contains (row s.follow i) p ↔ Follows (Joins L M) (base + i) p
    join_follows_left i p l =
        let c : i < length a.follow = (let e = da.follow_count in omega arith) in
        let d : i < length j.rows = (let e = j.linked.count in omega arith) in
        let m = j.linked.members i p c in
        let r : row s.follow i ≡ row j.rows i = ap (λ rows. row rows i) j.follow ∙ row_left j.rows b.follow i d in
        rw r (
          (λ h. join_follows L M (base + i) p (elim (m.0 h) [
            | inl g ↦ inl ((da.follow i p l).0 g, hm)
            | inr g ↦ inr (inl ((da.last (base + i)).0 g.0, (db.first p).0 g.1))
          ])),
          (λ h. m.1 (elim (follows_join L M (base + i) p h) [
            | inl g ↦ inl ((da.follow i p l).1 g.0)
            | inr (inl g) ↦ inr ((da.last (base + i)).1 g.0, (db.first p).1 g.1)
            | inr (inr g) ↦ absurd (not_right i l (follows_passes M (base + i) p g.1))
          ])),
        )

    join_follows_right : (i p : ℕ) → n ≤ i → i < n + k → Contains (row s.follow i) p ↔ Follows (Joins L M) (base + i) p
    join_follows_right i p g l =
        let f = follow_right j.rows i p (j.linked.count ∙ da.follow_count) g l in
        let r : row s.follow i ≡ row (j.rows ++ b.follow) i = ap (λ rows. row rows i) j.follow in
        rw r (
          (λ h. join_follows L M (base + i) p (inr (inr (hl, f.0 h)))),
          (λ h. f.1 (elim (follows_join L M (base + i) p h) [
            | inl q ↦ absurd (not_left i g (follows_passes L (base + i) p q.0))
            | inr (inl q) ↦ absurd (not_left i g (ends_passes L (base + i) q.0))
            | inr (inr q) ↦ q.1
          ])),
        )

    pub Describes-join : Describes (Joins L M) base (n + k) s
    Describes-join = record {
      first = λ p. rw j.first (then_iff (first_if x p) (begins_iff p));
      last = λ p. rw j.last (then_iff (last_if y p) (ends_iff p));
      follow = λ i p l. elim (cases_lt i n) [ inl m ↦ join_follows_left i p m | inr g ↦ join_follows_right i p g l ];
      useful = λ i l. rw j.useful (elim (cases_lt i n) [
        | inl m ↦ then_iff (useful_left i m) (
          (λ h. join_passes L M (base + i) (inl (h, hm))),
          (λ h. elim (passes_join L M (base + i) h) [ inl q ↦ q.0 | inr q ↦ absurd (not_right i m q.1) ]),
        )
        | inr g ↦ then_iff (useful_right i g l) (
          (λ h. join_passes L M (base + i) (inr (hl, h))),
          (λ h. elim (passes_join L M (base + i) h) [ inl q ↦ absurd (not_left i g q.0) | inr q ↦ q.1 ]),
        )
      ]);
      within = λ p h. elim (passes_join L M p h) [
        | inl g ↦ (let w = da.within p g.0 in (omega arith, omega arith))
        | inr g ↦ (let w = db.within p g.1 in (omega arith, omega arith))
      ];
      follow_count = ap length j.follow ∙ (length-append j.rows b.follow ∙ (let c = j.linked.count in let e = da.follow_count in let f = db.follow_count in omega arith));
      useful_count = ap length j.useful ∙ (length-append a.useful b.useful ∙ (let e = da.useful_count in let f = db.useful_count in omega arith));
      first_rises = rw j.first (first_rises_if x);
      last_rises = rw j.last (last_rises_if y);
      loops = rw j.loops (All-append (IsLoop (Joins L M) base (n + k)) a.loops b.loops
          (λ k x l. join_loop_left (get_or a.loops k x) (da.loops k x l)) (λ k x l. join_loop_right (get_or b.loops k x) (db.loops k x l)));
    }
      where
        join_ends_left : (p : ℕ) → p < base + n → Ends (Joins L M) p → Ends L p
        join_ends_left p l h = elim (ends_join L M p h) [ inl g ↦ (let w = db.within p (ends_passes M p g.0) in absurd (omega arith)) | inr g ↦ g.1 ]

        join_ends_right : (p : ℕ) → base + n ≤ p → Ends (Joins L M) p → Ends M p
        join_ends_right p l h = elim (ends_join L M p h) [ inl g ↦ g.0 | inr g ↦ (let w = da.within p (ends_passes L p g.1) in absurd (omega arith)) ]

        join_begins_left : (p : ℕ) → p < base + n → Begins (Joins L M) p → Begins L p
        join_begins_left p l h = elim (begins_join L M p h) [ inl g ↦ g.0 | inr g ↦ (let w = db.within p (begins_passes M p g.1) in absurd (omega arith)) ]

        join_begins_right : (p : ℕ) → base + n ≤ p → Begins (Joins L M) p → Begins M p
        join_begins_right p l h = elim (begins_join L M p h) [ inl g ↦ (let w = da.within p (begins_passes L p g.0) in absurd (omega arith)) | inr g ↦ g.1 ]

        join_loop_left : (s : Span) → IsLoop L base n s → IsLoop (Joins L M) base (n + k) s
        join_loop_left s h = (
          h.0,
          (let a = h.1 in omega arith),
          λ p q x y e b. join_follows L M p q (inl (
            h.2 p q x y
                (join_ends_left p (let a = h.1 in let c = x.1 in omega arith) e) (join_begins_left q (let a = h.1 in let c = y.1 in omega arith) b),
            hm,
          )),
        )

        join_loop_right : (s : Span) → IsLoop M (base + n) k s → IsLoop (Joins L M) base (n + k) s
        join_loop_right s h = (
          (let a = h.0 in omega arith),
          (let a = h.1 in omega arith),
          λ p q x y e b. join_follows L M p q (inr (inr (
            hl,
            h.2 p q x y
                (join_ends_right p (let a = h.0 in let c = x.0 in omega arith) e) (join_begins_right q (let a = h.0 in let c = y.0 in omega arith) b),
          ))),
        )

        first_if : (z : Bool) (p : ℕ) → Contains (if z then a.first ++ b.first else a.first) p ↔ (Contains a.first p ⊎ (IsTrue z × Contains b.first p))
        first_if true p = then_iff (Contains-both a.first b.first p) (both_iff ((λ h. h), (λ h. h)) ((λ h. (refl, h)), (λ h. h.1)))
        first_if false p = left_iff (λ h. false≢true h.0)

        last_if : (z : Bool) (p : ℕ) → Contains (if z then a.last ++ b.last else b.last) p ↔ (Contains b.last p ⊎ (IsTrue z × Contains a.last p))
        last_if true p = then_iff (Contains-both a.last b.last p) (elim [ inl h ↦ inr (refl, h) | inr h ↦ inl h ], elim [ inl h ↦ inr h | inr h ↦ inl h.1 ])
        last_if false p = left_iff (λ h. false≢true h.0)

        begins_iff : (p : ℕ) → (Contains a.first p ⊎ (IsTrue x × Contains b.first p)) ↔ Begins (Joins L M) p
        begins_iff p = (
          (λ h. join_begins L M p (elim h [ inl g ↦ inl ((da.first p).0 g, hm) | inr g ↦ inr (lx.0 g.0, (db.first p).0 g.1) ])),
          (λ h. elim (begins_join L M p h) [ inl g ↦ inl ((da.first p).1 g.0) | inr g ↦ inr (lx.1 g.0, (db.first p).1 g.1) ]),
        )

        ends_iff : (p : ℕ) → (Contains b.last p ⊎ (IsTrue y × Contains a.last p)) ↔ Ends (Joins L M) p
        ends_iff p = (
          (λ h. join_ends L M p (elim h [ inl g ↦ inl ((db.last p).0 g, hl) | inr g ↦ inr (my.0 g.0, (da.last p).0 g.1) ])),
          (λ h. elim (ends_join L M p h) [ inl g ↦ inl ((db.last p).1 g.0) | inr g ↦ inr (my.1 g.0, (da.last p).1 g.1) ]),
        )

        first_rises_if : (z : Bool) → IsStrictlyIncreasing (if z then a.first ++ b.first else a.first)
        first_rises_if true = firsts_rise
        first_rises_if false = da.first_rises

        last_rises_if : (z : Bool) → IsStrictlyIncreasing (if z then a.last ++ b.last else b.last)
        last_rises_if true = lasts_rise
        last_rises_if false = db.last_rises

-- ---- words in a row
pub Describes-plus : (N : List ℕ → Type 0) (base n : ℕ) (a s : Sets) → IsLooped base a s → Describes N base n a → Describes (Plus N) base n s
Describes-plus N base n a s j d = record {
  first = λ p. rw j.first (then_iff (d.first p) (swap_iff (begins_plus N p)));
  last = λ p. rw j.last (then_iff (d.last p) (swap_iff (ends_plus N p)));
  follow = λ i p l.
      then_iff (j.linked.members i p (let e = d.follow_count in omega arith))
      (then_iff (both_iff (d.follow i p l) (pair_iff (d.last (base + i)) (d.first p))) (swap_iff (follows_plus N (base + i) p)));
  useful = λ i l. rw j.useful (then_iff (d.useful i l) (swap_iff (passes_plus N (base + i))));
  within = λ p h. d.within p ((passes_plus N p).0 h);
  follow_count = j.linked.count ∙ d.follow_count;
  useful_count = ap length j.useful ∙ d.useful_count;
  first_rises = rw j.first d.first_rises;
  last_rises = rw j.last d.last_rises;
  loops = rw (j.loops, d.follow_count) one_loop;
}
  where
    one_loop : All (IsLoop (Plus N) base n) (span_of base n ∷ [])
    one_loop zero x l = (omega arith, omega arith, λ p q a b e f. (follows_plus N p q).1 (inr ((ends_plus N p).0 e, (begins_plus N q).0 f)))
    one_loop (suc k) x l = absurd (omega arith)

    swap_iff : {A B : Type 0} → (A ↔ B) → B ↔ A
    swap_iff f = (f.1, f.0)

    pair_iff : {A B C D : Type 0} → (A ↔ C) → (B ↔ D) → (A × B) ↔ (C × D)
    pair_iff f g = ((λ h. (f.0 h.0, g.0 h.1)), (λ h. (f.1 h.0, g.1 h.1)))
