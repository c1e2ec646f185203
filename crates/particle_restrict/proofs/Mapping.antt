-- The table says whether there is an order-keeping map.
use Rattle.std.proofs.Common.{◌≡◌, ◌≢◌, ℕ, zero, suc, ◌+◌, ◌-◌, ◌<◌, ◌≤◌, ◌↔◌, ◌&&◌, ◌⊎◌, ◌++◌, Bool, true, false, IsTrue, List, [], ◌∷◌, length, get_or, drop, refl, ap, subst, sym, ◌∙◌, inl, inr, arith}
use Rattle.std.specs.Prelude.{Contains, replicate}
use Rattle.std.specs.List.Sorted.{IsStrictlyIncreasing}
use Rattle.std.proofs.lemmas.Bool.{and_parts, and_from, cases_eq, cases_lt, false≢true}
use Rattle.particle_restrict.specs.Maps.{HasMap, HasLaxMap}
use Rattle.particle_restrict.proofs.Rising.{rising_tail, above_head, rising_cons, rising_none, contains_head, contains_tail, contains_cases, contains_above}
use Rattle.std.proofs.Math.Seq.{drop-cons}
use Rattle.std.proofs.lemmas.List.{get_or_past, get_or_append_left, get_or_push, length_push, drop_all, length-replicate, get_or-replicate}

-- a map of the members from i on to those from j on
pub record IsMapFrom (restricts : ℕ → ℕ → Type 0) (n i j : ℕ) (flags : List Bool) (targets : List ℕ) : Type 0 where
  pub each : i + length targets ≡ n
  pub keeps_order : IsStrictlyIncreasing targets
  pub low : (k : ℕ) → k < length targets → j ≤ get_or targets k 0
  pub takes : (k : ℕ) → k < length targets → (get_or targets k 0 < j + length flags) × restricts (i + k) (get_or targets k 0)
  pub others : (m : ℕ) → m < length flags → (Contains targets (j + m) → ⊥) → IsTrue (get_or flags m false)

module _ (restricts : ℕ → ℕ → Type 0) (n : ℕ) where
  skipped : (i j : ℕ) (flag : Bool) (flags : List Bool) (targets : List ℕ) → IsTrue flag → IsMapFrom restricts n i (suc j) flags targets → IsMapFrom restricts n i j (flag ∷ flags) targets
  skipped i j flag flags targets t h = record {
    each = h.each;
    keeps_order = h.keeps_order;
    low = λ k l. (let a = h.low k l in omega arith);
    takes = λ k l. (let a = h.takes k l in (let b = a.0 in omega arith, a.1));
    others = others_at;
  }
    where
      others_at : (m : ℕ) → m < length (flag ∷ flags) → (Contains targets (j + m) → ⊥) → IsTrue (get_or (flag ∷ flags) m false)
      others_at zero l absent = t
      others_at (suc m) l absent = let e : suc j + m ≡ j + suc m = omega arith in h.others m (omega arith) (λ c. absent (rw e at c))

  taken : (i j : ℕ) (flag : Bool) (flags : List Bool) (targets : List ℕ) → restricts i j → IsMapFrom restricts n (suc i) (suc j) flags targets →
      IsMapFrom restricts n i j (flag ∷ flags) (j ∷ targets)
  taken i j flag flags targets t h = record {
    each = (let e = h.each in omega arith);
    keeps_order = rising_cons j targets (λ k l. let a = h.low k l in omega arith) h.keeps_order;
    low = low_at;
    takes = takes_at;
    others = others_at;
  }
    where
      low_at : (k : ℕ) → k < length (j ∷ targets) → j ≤ get_or (j ∷ targets) k 0
      low_at zero l = omega arith
      low_at (suc k) l = let a = h.low k (omega arith) in omega arith

      takes_at : (k : ℕ) → k < length (j ∷ targets) → (get_or (j ∷ targets) k 0 < j + length (flag ∷ flags)) × restricts (i + k) (get_or (j ∷ targets) k 0)
      takes_at zero l = let e : i ≡ i + 0 = omega arith in (omega arith, rw e at t)
      takes_at (suc k) l = let a = h.takes k (omega arith) in let e : suc i + k ≡ i + suc k = omega arith in (let b = a.0 in omega arith, rw e at a.1)

      others_at : (m : ℕ) → m < length (flag ∷ flags) → (Contains (j ∷ targets) (j + m) → ⊥) → IsTrue (get_or (flag ∷ flags) m false)
      others_at zero l absent = absurd (absent (contains_head j targets (j + 0) (omega arith)))
      others_at (suc m) l absent = let e : suc j + m ≡ j + suc m = omega arith in h.others m (omega arith) (λ c. absent (contains_tail j targets (j + suc m) (rw e at c)))

  -- there is such a map
  abbrev pub Fits : ℕ → ℕ → List Bool → Type 0
  Fits i j flags = (targets : List ℕ) × IsMapFrom restricts n i j flags targets

  -- the first target lies behind
  skips : (i j : ℕ) (flag : Bool) (flags : List Bool) (targets : List ℕ) → IsMapFrom restricts n i j (flag ∷ flags) targets → ((k : ℕ) → k < length targets → suc j ≤ get_or targets k 0) →
      IsTrue flag × IsMapFrom restricts n i (suc j) flags targets
  skips i j flag flags targets h low = (
    h.others 0 (omega arith) (λ c. let a = contains_above (suc j) targets (j + 0) low c in omega arith),
    record {
      each = h.each;
      keeps_order = h.keeps_order;
      low = low;
      takes = λ k l. (let a = h.takes k l in (let b = a.0 in omega arith, a.1));
      others = λ m l absent. (let e : j + suc m ≡ suc j + m = omega arith in h.others (suc m) (omega arith) (λ c. absent (rw e at c)));
    },
  )

  takes_first : (i j : ℕ) (flag : Bool) (flags : List Bool) (t : ℕ) (targets : List ℕ) → t ≡ j → IsMapFrom restricts n i j (flag ∷ flags) (t ∷ targets) →
      restricts i j × IsMapFrom restricts n (suc i) (suc j) flags targets
  takes_first i j flag flags t targets e h = (
    (let z : i + 0 ≡ i = omega arith in rw e at (rw z at (h.takes 0 (omega arith)).1)),
    record {
      each = (let a = h.each in omega arith);
      keeps_order = rising_tail t targets h.keeps_order;
      low = λ k l. (let a = above_head t targets k h.keeps_order l in omega arith);
      takes = λ k l. (let a = h.takes (suc k) (omega arith) in let z : i + suc k ≡ suc i + k = omega arith in (let b = a.0 in omega arith, rw z at a.1));
      others = λ m l absent. (let z : j + suc m ≡ suc j + m = omega arith in
          h.others (suc m) (omega arith) (λ c. elim (contains_cases t targets (j + suc m) c) [ inl k ↦ (omega arith) | inr k ↦ absent (rw z at k) ]));
    },
  )

  later : (i j : ℕ) (flag : Bool) (flags : List Bool) (t : ℕ) (targets : List ℕ) → IsMapFrom restricts n i j (flag ∷ flags) (t ∷ targets) → t ≢ j → (k : ℕ) → k < length (t ∷ targets) → suc j ≤ get_or (t ∷ targets) k 0
  later i j flag flags t targets h d zero l = let a : j ≤ t = h.low 0 (omega arith) in omega arith
  later i j flag flags t targets h d (suc k) l = let a : j ≤ t = h.low 0 (omega arith) in let b = above_head t targets k h.keeps_order (omega arith) in omega arith

  -- no member of the base is left
  fits_none : (i j : ℕ) → Fits i j [] ↔ (i ≡ n)
  fits_none i j = (
    (λ h. none h.0 h.1),
    (λ e. (
      [],
      record {
        each = omega arith;
        keeps_order = rising_none;
        low = λ k l. absurd (omega arith);
        takes = λ k l. absurd (omega arith);
        others = λ m l absent. absurd (omega arith);
      },
    )),
  )
    where
      none : (targets : List ℕ) → IsMapFrom restricts n i j [] targets → i ≡ n
      none [] h = let e = h.each in omega arith
      none (t ∷ targets) h = let a = h.low 0 (omega arith) in let b = (h.takes 0 (omega arith)).0 in absurd (omega arith)

  -- the next member of the base is left out, or the next member goes to it
  fits_next : (i j : ℕ) (flag : Bool) (flags : List Bool) → Fits i j (flag ∷ flags) ↔ ((IsTrue flag × Fits i (suc j) flags) ⊎ (Fits (suc i) (suc j) flags × restricts i j))
  fits_next i j flag flags = ((λ h. parts h.0 h.1), (λ h. elim h [ inl a ↦ (a.1.0, skipped i j flag flags a.1.0 a.0 a.1.1) | inr a ↦ (j ∷ a.0.0, taken i j flag flags a.0.0 a.1 a.0.1) ]))
    where
      parts : (targets : List ℕ) → IsMapFrom restricts n i j (flag ∷ flags) targets → (IsTrue flag × Fits i (suc j) flags) ⊎ (Fits (suc i) (suc j) flags × restricts i j)
      parts [] h = let s = skips i j flag flags [] h (λ k l. absurd (omega arith)) in inl (s.0, ([], s.1))
      parts (t ∷ targets) h = elim (cases_eq t j) [
        | inl e ↦ (let s = takes_first i j flag flags t targets e h in inr ((targets, s.1), s.0))
        | inr d ↦ (let s = skips i j flag flags (t ∷ targets) h (later i j flag flags t targets h d) in inl (s.0, (t ∷ targets, s.1)))
      ]

  -- past the last member nothing fits
  fits_past : (i j : ℕ) (flags : List Bool) → n < i → Fits i j flags → ⊥
  fits_past i j flags l h = let e = h.1.each in omega arith

fits_is : (restricts : ℕ → ℕ → Type 0) (n : ℕ) (optional : List Bool) → Fits restricts n 0 0 optional ↔ HasMap restricts n optional
fits_is restricts n optional = (
  (λ h. let m = h.1 in (
    h.0,
    record {
      each = (let e = m.each in omega arith);
      takes = λ i l. (let a = m.takes i (let e = m.each in omega arith) in let z : 0 + i ≡ i = omega arith in (let b = a.0 in omega arith, rw z at a.1));
    },
    m.keeps_order,
    (λ j l absent. m.others j l (λ c. let z : 0 + j ≡ j = omega arith in absent (rw z at c))),
  )),
  (λ h. let m = h.1 in (
    h.0,
    record {
      each = (let e = m.each in omega arith);
      keeps_order = h.2;
      low = λ k l. omega arith;
      takes = λ k l. (let a = m.takes k (let e = m.each in omega arith) in let z : k ≡ 0 + k = omega arith in (let b = a.0 in omega arith, subst (λ (y : ℕ). restricts y (get_or h.0 k 0)) z a.1));
      others = λ j l absent. h.3 j l (λ c. let z : j ≡ 0 + j = omega arith in absent (rw z at c));
    },
  )),
)

-- ---- the table, from one flag to the one before it
flag_more : (optional : List Bool) (behind : ℕ) → behind < length optional →
    drop (length optional - (behind + 1)) optional ≡ get_or optional (length optional - 1 - behind) false ∷ drop (length optional - behind) optional
flag_more optional behind l =
    let a : length optional - (behind + 1) ≡ length optional - 1 - behind = omega arith in
    let b : suc (length optional - 1 - behind) ≡ length optional - behind = omega arith in
    ap (λ k. drop k optional) a ∙ (drop-cons optional (length optional - 1 - behind) false (omega arith) ∙ ap (λ k. get_or optional (length optional - 1 - behind) false ∷ drop k optional) b)

pub table_first : (restricts : ℕ → ℕ → Type 0) (n : ℕ) (optional row : List Bool) → row ≡ replicate n false ++ true ∷ [] →
    (i : ℕ) → i ≤ n → IsTrue (get_or row i false) ↔ Fits restricts n i (length optional - 0) (drop (length optional - 0) optional)
table_first restricts n optional row e i l =
    let long : length (replicate n false) ≡ n = length-replicate n false in
    let f = fits_none restricts n i (length optional - 0) in
    let d : drop (length optional - 0) optional ≡ [] = drop_all (length optional - 0) optional (omega arith) in
    elim (cases_lt i n) [
      | inl b ↦ (let z : get_or row i false ≡ false = ap (λ r. get_or r i false) e ∙ (get_or_append_left (replicate n false) (true ∷ []) false i (omega arith) ∙ get_or-replicate n i false false b) in
          ((λ h. absurd (false≢true (sym z ∙ h))), (λ h. absurd (let x = f.0 (rw d at h) in omega arith))))
      | inr b ↦ (let same : i ≡ n = omega arith in
          let z : get_or row i false ≡ true = ap (λ r. get_or r i false) e ∙ get_or_push (replicate n false) true false i (long ∙ sym same) in
          ((λ h. rw d (f.1 same)), (λ h. z)))
    ]

pub table_more : (restricts : ℕ → ℕ → Type 0) (optional : List Bool) (n behind j : ℕ) (flag : Bool) (old new : List Bool) → behind < length optional →
    j ≡ length optional - 1 - behind → flag ≡ get_or optional j false → length old ≡ n + 1 →
    ((i : ℕ) → i ≤ n → IsTrue (get_or old i false) ↔ Fits restricts n i (length optional - behind) (drop (length optional - behind) optional)) →
    ((i : ℕ) → i < length old → IsTrue (get_or new i false) ↔ (IsTrue (flag && get_or old i false) ⊎ (IsTrue (get_or old (i + 1) false) × restricts i j))) →
    (i : ℕ) → i ≤ n → IsTrue (get_or new i false) ↔ Fits restricts n i (length optional - (behind + 1)) (drop (length optional - (behind + 1)) optional)
table_more restricts optional n behind j flag old new l e f count before turned i h =
    let a : length optional - (behind + 1) ≡ j = omega arith in
    let b : length optional - behind ≡ suc j = omega arith in
    let d : drop (length optional - (behind + 1)) optional ≡ flag ∷ drop (suc j) optional =
    flag_more optional behind l ∙ (ap (λ k. get_or optional k false ∷ drop (length optional - behind) optional) (sym e) ∙
    (ap (λ x. x ∷ drop (length optional - behind) optional) (sym f) ∙ ap (λ k. flag ∷ drop k optional) b)) in
    let was : (k : ℕ) → k ≤ n → IsTrue (get_or old k false) ↔ Fits restricts n k (suc j) (drop (suc j) optional) = (λ k m. rw b at (before k m)) in
    let later : IsTrue (get_or old (i + 1) false) ↔ Fits restricts n (suc i) (suc j) (drop (suc j) optional) = elim (cases_lt i n) [
      | inl m ↦ (let z : suc i ≡ i + 1 = omega arith in subst (λ (k : ℕ). IsTrue (get_or old k false) ↔ Fits restricts n (suc i) (suc j) (drop (suc j) optional)) z (was (suc i) m))
      | inr m ↦ (
        (λ t. absurd (false≢true (sym (get_or_past old (i + 1) false (omega arith)) ∙ t))),
        (λ t. absurd (fits_past restricts n (suc i) (suc j) (drop (suc j) optional) (omega arith) t)),
      )
    ] in
    let next = fits_next restricts n i j flag (drop (suc j) optional) in
    let turn = turned i (omega arith) in
    let now = was i h in
    let goal : IsTrue (get_or new i false) ↔ Fits restricts n i j (flag ∷ drop (suc j) optional) = (
      (λ t. next.1 (elim (turn.0 t) [
        | inl p ↦ (let q = and_parts flag (get_or old i false) p in inl (q.0, now.0 q.1))
        | inr p ↦ inr (later.0 p.0, p.1)
      ])),
      (λ t. turn.1 (elim (next.0 t) [
        | inl p ↦ inl (and_from flag (get_or old i false) p.0 (now.1 p.1))
        | inr p ↦ inr (later.1 p.0, p.1)
      ])),
    ) in
    rw (d, a) goal

-- ---- outside of a window of the table there is nothing
abbrev pub IsOutside : ℕ → ℕ → List Bool → Type 0
IsOutside low end row = (i : ℕ) → (i < low ⊎ end ≤ i) → get_or row i false ≡ false

no_true : (b : Bool) → (IsTrue b → ⊥) → b ≡ false
no_true true n = absurd (n refl)
no_true false n = refl

pub window_first : (n : ℕ) (row : List Bool) → row ≡ replicate n false ++ true ∷ [] → IsOutside n (n + 1) row
window_first n row e i h =
    let long : length (replicate n false) ≡ n = length-replicate n false in
    elim h [
      | inl b ↦ ap (λ r. get_or r i false) e ∙ (get_or_append_left (replicate n false) (true ∷ []) false i (omega arith) ∙ get_or-replicate n i false false b)
      | inr b ↦ rw e (get_or_past (replicate n false ++ true ∷ []) i false (let c = length_push (replicate n false) true in omega arith))
    ]

pub window_more : (restricts : ℕ → ℕ → Type 0) (j low next end after : ℕ) (flag : Bool) (old new : List Bool) → length new ≡ length old →
    (next + 1 ≤ low) ⊎ (next ≡ 0) → (IsTrue flag → end ≤ after) → end ≤ after + 1 → IsOutside low end old →
    ((i : ℕ) → i < length old → IsTrue (get_or new i false) ↔ (IsTrue (flag && get_or old i false) ⊎ (IsTrue (get_or old (i + 1) false) × restricts i j))) →
    IsOutside next after new
window_more restricts j low next end after flag old new count lows ends close outside turned i h =
    elim (cases_lt i (length old)) [
      | inl l ↦ no_true (get_or new i false) (λ t. elim ((turned i l).0 t) [
        | inl p ↦ (let q = and_parts flag (get_or old i false) p in false≢true (sym (outside i (here q.0)) ∙ q.1))
        | inr p ↦ false≢true (sym (outside (i + 1) there) ∙ p.0)
      ])
      | inr g ↦ get_or_past new i false (omega arith)
    ]
  where
    here : IsTrue flag → i < low ⊎ end ≤ i
    here t = elim h [ inl l ↦ inl (elim lows [ inl a ↦ (omega arith) | inr e ↦ absurd (omega arith) ]) | inr g ↦ inr (let a = ends t in omega arith) ]

    there : i + 1 < low ⊎ end ≤ i + 1
    there = elim h [ inl l ↦ inl (elim lows [ inl a ↦ (omega arith) | inr e ↦ absurd (omega arith) ]) | inr g ↦ inr (omega arith) ]

-- one place of the table where there was nothing, nor at the next
turned_nothing : (restricts : ℕ → ℕ → Type 0) (i j : ℕ) (flag : Bool) (old new : List Bool) → get_or new i false ≡ get_or old i false → get_or old i false ≡ false →
    get_or old (i + 1) false ≡ false → IsTrue (get_or new i false) ↔ (IsTrue (flag && get_or old i false) ⊎ (IsTrue (get_or old (i + 1) false) × restricts i j))
turned_nothing restricts i j flag old new same none next = (
  (λ t. absurd (false≢true (sym (same ∙ none) ∙ t))),
  (λ t. elim t [ inl p ↦ absurd (false≢true (sym none ∙ (and_parts flag (get_or old i false) p).1)) | inr p ↦ absurd (false≢true (sym next ∙ p.0)) ]),
)

-- the window is turned, so all of the table is
pub turned_window : (restricts : ℕ → ℕ → Type 0) (j low end last : ℕ) (flag : Bool) (old new : List Bool) → end ≤ last → IsOutside low end old →
    ((i : ℕ) → i < low → get_or old (i + 1) false ≡ false) →
    ((i : ℕ) → low ≤ i → i < last → IsTrue (get_or new i false) ↔ (IsTrue (flag && get_or old i false) ⊎ (IsTrue (get_or old (i + 1) false) × restricts i j))) →
    ((i : ℕ) → i < low → get_or new i false ≡ get_or old i false) → ((i : ℕ) → last ≤ i → get_or new i false ≡ get_or old i false) →
    (i : ℕ) → IsTrue (get_or new i false) ↔ (IsTrue (flag && get_or old i false) ⊎ (IsTrue (get_or old (i + 1) false) × restricts i j))
turned_window restricts j low end last flag old new past outside next done under left i = elim (cases_lt i low) [
  | inl l ↦ turned_nothing restricts i j flag old new (under i l) (outside i (inl l)) (next i l)
  | inr g ↦ elim (cases_lt i last) [
    | inl l ↦ done i g l
    | inr b ↦ turned_nothing restricts i j flag old new (left i b) (outside i (inr (omega arith))) (outside (i + 1) (inr (omega arith)))
  ]
]

at_first : (xs : List Bool) (b : Bool) → 0 < length xs → get_or xs 0 b ≡ get_or xs 0 false
at_first [] b l = absurd (omega arith)
at_first (x ∷ xs) b l = refl

-- the table is whole
pub table_done : (restricts : ℕ → ℕ → Type 0) (optional : List Bool) (n behind : ℕ) (row : List Bool) (r : Bool) → length optional ≤ behind → length row ≡ n + 1 →
    r ≡ get_or row 0 r → ((i : ℕ) → i ≤ n → IsTrue (get_or row i false) ↔ Fits restricts n i (length optional - behind) (drop (length optional - behind) optional)) →
    IsTrue r ↔ HasMap restricts n optional
table_done restricts optional n behind row r l count e before =
    let z : length optional - behind ≡ 0 = omega arith in
    let v : r ≡ get_or row 0 false = e ∙ at_first row r (omega arith) in
    let b = rw z at (before 0 (omega arith)) in
    let f = fits_is restricts n optional in
    ((λ h. f.0 (b.0 (sym v ∙ h))), (λ h. v ∙ b.1 (f.1 h)))

-- where all members of the base may be left out, a map needs no more than the order
pub lax : (R : ℕ → ℕ → Type 0) (n base : ℕ) (optional : List Bool) → optional ≡ replicate base true → HasMap R n optional ↔ HasLaxMap R n base
lax R n base optional e =
    let long : length optional ≡ base = ap length e ∙ length-replicate base true in (
      (λ h. (h.0, rw long at h.1, h.2)),
      (λ h. (h.0, rw long h.1, h.2, (λ j l absent. rw e (get_or-replicate base j true false (omega arith))))),
    )
