-- One more row that gets the numbers of a set, whole or but for what it has.
use Rattle.std.proofs.Common.{◌≡◌, ℕ, ◌+◌, ◌-◌, ◌<◌, ◌≤◌, ◌⊎◌, ◌↔◌, List, [], ◌∷◌, ◌++◌, map, length, get_or, set, take, drop, All, Contains, Vec, Global, sym, refl, ap, ◌∙◌, inl, inr, arith, length-set, get_or-set_same, get_or-set_other}
use Rattle.std.proofs.lemmas.Bool.{cases_eq, cases_lt}
use Rattle.std.proofs.lemmas.List.{length-map, map-set, take_more, length-take, length-drop, take-append-drop, get_or-take, get_or-drop, get_or_default}
use Rattle.std.proofs.lemmas.List.Elements.{Contains-get_or, Contains-push, Contains-push_cases, Contains-append_left, Contains-append_right}
use Rattle.xs_positions.specs.Sets.{Sets, row, IsLinked, IsWithin, AreLinkedIn, IsAdded, IsSeen}
use Rattle.xs_positions.specs.Parts.{span_of, IsLooped}
use Rattle.xs_positions.specs.declared.sets.Span.{Span}
use Rattle.xs_positions.specs.declared.sets.Linked.{Linked}
use Rattle.xs_positions.proofs.Measuring.{get_or-map}
use Rattle.xs_positions.proofs.Rising.{Contains-both}

module _ (base : ℕ) (from to : List ℕ) (old now : List (List ℕ)) (i j p : ℕ) (new : List ℕ)
    (linked : IsLinked base (take i from) to old now) (more : i < length from) (p_is : get_or from i 0 ≡ p) (place : base + j ≡ p) (inside : j < length old)
    (members : (q : ℕ) → Contains new q ↔ (Contains (row now j) q ⊎ Contains to q)) where
  taken : take (i + 1) from ≡ take i from ++ p ∷ []
  taken = take_more from i 0 more ∙ ap (λ x. take i from ++ x ∷ []) p_is

  within : j < length now
  within = let c = linked.count in omega arith

  was_in : (q : ℕ) → Contains (take i from) q → Contains (take (i + 1) from) q
  was_in q h = rw taken (Contains-append_left (take i from) (p ∷ []) q h)

  is_in : Contains (take (i + 1) from) (base + j)
  is_in = rw (place, taken) (Contains-push (take i from) p)

  still_in : (k : ℕ) → (k ≡ j → ⊥) → Contains (take (i + 1) from) (base + k) → Contains (take i from) (base + k)
  still_in k n h = elim (Contains-push_cases (take i from) p (base + k) (rw taken at h)) [
    | inl g ↦ g
    | inr e ↦ absurd (n (omega arith))
  ]

  here : (q : ℕ) → Contains (row (set now j new) j) q ↔ (Contains (row old j) q ⊎ (Contains (take (i + 1) from) (base + j) × Contains to q))
  here q =
      let m = linked.members j q inside in
      rw (get_or-set_same now j new [] within) (
        (λ h. elim ((members q).0 h) [
          | inl g ↦ elim (m.0 g) [ inl o ↦ inl o | inr o ↦ inr (was_in (base + j) o.0, o.1) ]
          | inr g ↦ inr (is_in, g)
        ]),
        (λ h. (members q).1 (elim h [ inl o ↦ inl (m.1 (inl o)) | inr o ↦ inr o.1 ])),
      )

  there : (k q : ℕ) → (k ≡ j → ⊥) → k < length old →
      Contains (row (set now j new) k) q ↔ (Contains (row old k) q ⊎ (Contains (take (i + 1) from) (base + k) × Contains to q))
  there k q n l =
      let m = linked.members k q l in
      rw (get_or-set_other now j k new [] n) (
        (λ h. elim (m.0 h) [ inl o ↦ inl o | inr o ↦ inr (was_in (base + k) o.0, o.1) ]),
        (λ h. m.1 (elim h [ inl o ↦ inl o | inr o ↦ inr (still_in k n o.0, o.1) ])),
      )

  pub linked_more : IsLinked base (take (i + 1) from) to old (set now j new)
  linked_more = record {
    count = length-set now j new ∙ linked.count;
    members = λ k q l. elim (cases_eq k j) [
      | inl e ↦ rw e (here q)
      | inr n ↦ there k q n l
    ];
  }

-- the same of rows that are vectors
abbrev pub lists : List (Vec ℕ Global) → List (List ℕ)
lists rows = map (λ row. row.items) rows

pub link_step : (base : ℕ) (from to : List ℕ) (old now : List (Vec ℕ Global)) (i : ℕ) (was new : Vec ℕ Global) →
    IsLinked base (take i from) to (lists old) (lists now) → i < length from →
    base ≤ get_or from i 0 → get_or from i 0 < base + length old →
    was ≡ get_or now (get_or from i 0 - base) was →
    ((q : ℕ) → Contains new.items q ↔ (Contains was.items q ⊎ Contains to q)) →
    IsLinked base (take (i + 1) from) to (lists old) (lists (set now (get_or from i 0 - base) new))
link_step base from to old now i was new linked more low high is members =
    let j : ℕ = get_or from i 0 - base in
    let wide : length (lists old) ≡ length old = length-map old (λ row. row.items) in
    let long : length (lists now) ≡ length now = length-map now (λ row. row.items) in
    let inside : j < length now = (let c = linked.count in omega arith) in
    let same : row (lists now) j ≡ was.items = get_or-map (λ (v : Vec ℕ Global). v.items) now j was [] inside ∙ ap (λ (v : Vec ℕ Global). v.items) (sym is) in
    rw (map-set (λ (v : Vec ℕ Global). v.items) now j new)
    (linked_more base from to (lists old) (lists now) i j (get_or from i 0) new.items linked more refl (omega arith) (omega arith)
    (rw same members))

-- the same where the numbers that a span has with the position are not added: they are in the row already
pub apart_step : (base : ℕ) (from to : List ℕ) (loops : List Span) (old now : List (Vec ℕ Global)) (i : ℕ) (was new : Vec ℕ Global) (linked : Linked) →
    All (AreLinkedIn base from to (lists old)) loops → IsSeen loops to linked →
    IsLinked base (take i from) to (lists old) (lists now) → i < length from →
    base ≤ get_or from i 0 → get_or from i 0 < base + length old →
    was ≡ get_or now (get_or from i 0 - base) was →
    IsAdded linked.span (get_or from i 0) to was.items new.items →
    IsLinked base (take (i + 1) from) to (lists old) (lists (set now (get_or from i 0 - base) new))
apart_step base from to loops old now i was new linked known seen so_far more low high is added =
    link_step base from to old now i was new so_far more low high is (λ q. (added.from q, elim [ inl h ↦ added.kept q h | inr h ↦ elim (added.added q h) [ inl g ↦ g | inr g ↦ added.kept q (there q h g) ] ]))
  where
    p : ℕ
    p = get_or from i 0

    j : ℕ
    j = p - base

    here : Contains from p
    here = Contains-get_or from i 0 more

    inside : j < length (lists old)
    inside = let wide : length (lists old) ≡ length old = length-map old (λ row. row.items) in omega arith

    same : row (lists now) j ≡ was.items
    same =
        let long : length (lists now) ≡ length now = length-map now (λ row. row.items) in
        let c = so_far.count in
        let b : j < length (lists old) = inside in
        get_or-map (λ (v : Vec ℕ Global). v.items) now j was [] (omega arith) ∙ ap (λ (v : Vec ℕ Global). v.items) (sym is)

    there : (q : ℕ) → Contains to q → IsWithin linked.span p × IsWithin linked.span q → Contains was.items q
    there q h g = elim seen.span [
      | inl e ↦ (let l : p < linked.span.to = g.0.1 in absurd (omega arith))
      | inr k ↦
          let linked_in : AreLinkedIn base from to (lists old) linked.span = (let a = known k.0 linked.span k.1 in rw k.2 at a) in
          let in_old : Contains (row (lists old) j) q = linked_in p q g.0 g.1 here h in
          let in_now : Contains (row (lists now) j) q = (so_far.members j q inside).1 (inl in_old) in
          rw same at in_now
    ]

-- rows that have what is to be added already
pub linked_already : (base : ℕ) (from to : List ℕ) (rows : List (List ℕ)) →
    ((p q : ℕ) → Contains from p → Contains to q → Contains (row rows (p - base)) q) → IsLinked base from to rows rows
linked_already base from to rows held = record {
  count = refl;
  members = λ i p l. ((λ h. inl h), elim [ inl h ↦ h | inr h ↦ (let g = held (base + i) p h.0 h.1 in let e : base + i - base ≡ i = omega arith in rw e at g) ]);
}

part_of-take : (numbers : List ℕ) (n q : ℕ) → Contains (take n numbers) q → Contains numbers q
part_of-take numbers n q h = let s = take-append-drop n numbers in rw s at (Contains-append_left (take n numbers) (drop n numbers) q h)

part_of-drop : (numbers : List ℕ) (n q : ℕ) → Contains (drop n numbers) q → Contains numbers q
part_of-drop numbers n q h = let s = take-append-drop n numbers in rw s at (Contains-append_right (take n numbers) (drop n numbers) q h)

-- the numbers before a place, and those behind another, where a span has those between
pub added_apart : (loops : List Span) (numbers old new : List ℕ) (p : ℕ) (linked : Linked) → IsSeen loops numbers linked → IsWithin linked.span p →
    new ≡ (old ++ take linked.start numbers) ++ drop linked.end numbers → IsAdded linked.span p numbers old new
added_apart loops numbers old new p linked seen within made = record {
  from = λ q h. elim ((Contains-both (old ++ front) back q).0 (rw made at h)) [
    | inl g ↦ elim ((Contains-both old front q).0 g) [ inl a ↦ inl a | inr a ↦ inr (part_of-take numbers linked.start q a) ]
    | inr g ↦ inr (part_of-drop numbers linked.end q g)
  ];
  kept = λ q h. rw made (Contains-append_left (old ++ front) back q (Contains-append_left old front q h));
  added = λ q h. elim (cases_lt h.0 linked.start) [
    | inl l ↦ inl (rw made (Contains-append_left (old ++ front) back q (Contains-append_right old front q (early q h l))))
    | inr g ↦ elim (cases_lt h.0 linked.end) [
      | inl l ↦ inr (within, (let w = seen.within h.0 g l in let e : get_or numbers h.0 0 ≡ q = get_or_default numbers h.0 0 q h.1 ∙ h.2 in rw e at w))
      | inr m ↦ inl (rw made (Contains-append_right (old ++ front) back q (late q h m)))
    ]
  ];
}
  where
    front : List ℕ
    front = take linked.start numbers

    back : List ℕ
    back = drop linked.end numbers

    early : (q : ℕ) (h : Contains numbers q) → h.0 < linked.start → Contains front q
    early q h l = (
      h.0,
      (let e = length-take linked.start numbers in let a : h.0 < length numbers = h.1 in let b = seen.start in let c = seen.end in omega arith),
      get_or-take linked.start numbers h.0 q l ∙ h.2,
    )

    late : (q : ℕ) (h : Contains numbers q) → linked.end ≤ h.0 → Contains back q
    late q h m = (
      h.0 - linked.end,
      (let e = length-drop linked.end numbers in let a : h.0 < length numbers = h.1 in omega arith),
      get_or-drop linked.end numbers (h.0 - linked.end) q ∙ ((let e : linked.end + (h.0 - linked.end) ≡ h.0 = omega arith in ap (λ k. get_or numbers k q) e) ∙ h.2),
    )

pub added_all : (numbers old new : List ℕ) (p : ℕ) (span : Span) → new ≡ old ++ numbers → IsAdded span p numbers old new
added_all numbers old new p span made = record {
  from = λ q h. (Contains-both old numbers q).0 (rw made at h);
  kept = λ q h. rw made (Contains-append_left old numbers q h);
  added = λ q h. inl (rw made (Contains-append_right old numbers q h));
}

-- what comes over and over already
pub already_looped : (base n : ℕ) (s : Sets) (whole : Span) → n ≡ length s.follow → whole ≡ span_of base n → s.loops ≡ whole ∷ [] →
    All (λ p. (base ≤ p) × (p < base + n)) s.first → All (λ p. (base ≤ p) × (p < base + n)) s.last → All (AreLinkedIn base s.last s.first s.follow) s.loops →
    IsLooped base s s
already_looped base n s whole count is only first last loops = record {
  first = refl;
  last = refl;
  linked = linked_already base s.last s.first s.follow held;
  useful = refl;
  loops = only ∙ (ap (λ w. w ∷ []) is ∙ ap (λ k. span_of base k ∷ []) count);
}
  where
    known : AreLinkedIn base s.last s.first s.follow (span_of base n)
    known = let a : All (AreLinkedIn base s.last s.first s.follow) (span_of base n ∷ []) = (rw (only, is) at loops) in a 0 (span_of base n) (omega arith)

    inside : (xs : List ℕ) (p : ℕ) → All (λ q. (base ≤ q) × (q < base + n)) xs → Contains xs p → IsWithin (span_of base n) p
    inside xs p all h = let w = all h.0 p h.1 in rw h.2 at w

    held : (p q : ℕ) → Contains s.last p → Contains s.first q → Contains (row s.follow (p - base)) q
    held p q a b = known p q (inside s.last p last a) (inside s.first q first b) a b
