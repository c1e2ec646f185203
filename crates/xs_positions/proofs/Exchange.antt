-- What may come after a position does not hang on how a word came to it.
use Rattle.std.proofs.Common.{◌≡◌, ℕ, zero, suc, ◌+◌, ◌-◌, ◌*◌, ◌<◌, ◌≤◌, min, ◌⊎◌, List, [], ◌∷◌, ◌++◌, Option, Some, None, sym, refl, ap, inl, inr, arith, append-nil, append_assoc, add-zero, suc-mul, mul-le-mul_right}
use Rattle.std.proofs.lemmas.Bool.{cases_order}
use Rattle.xs_positions.specs.Tree.{Tree, one, empty, chain, nothing, either, repeat, copies, size}
use Rattle.xs_positions.specs.PositionWords.{IsWord, Allows, Rounds, place, Passes, Exchanges}
use Rattle.xs_positions.proofs.Languages.{Joins, cut}
use Rattle.xs_positions.proofs.Rounds.{rounds_append}
use Rattle.xs_positions.proofs.Worded.{words_within}

-- ---- in one word and then another
module _ (L M : List ℕ → Type 0) where
  -- the position lies in the one word or in the other
  abbrev pub InEither : List ℕ → ℕ → List ℕ → Type 0
  InEither u p v =
      ((f g : List ℕ) × (v ≡ f ++ g) × L (u ++ p ∷ f) × M g) ⊎ ((f g : List ℕ) × (u ≡ f ++ g) × L f × M (g ++ p ∷ v))

  in_first : (u : List ℕ) (p : ℕ) (v m back : List ℕ) → p ∷ v ≡ m ++ back → L (u ++ m) → M back → InEither u p v
  in_first u p v [] back e l r = inr (u ++ [], [], (simp append-nil), l, rw (← e) at r)
  in_first u p v (q ∷ m) back e l r = let h : q ≡ p = cc in let k : v ≡ m ++ back = cc in inl (m, back, k, rw h at l, r)

  in_parts : (u : List ℕ) (p : ℕ) (v front back : List ℕ) → u ++ p ∷ v ≡ front ++ back → L front → M back → InEither u p v
  in_parts u p v front back e l r = elim (cut front back u (p ∷ v) (sym e)) [
    | inl h ↦ in_first u p v h.0 back h.2 (rw h.1 at l) r
    | inr h ↦ inr (front, h.0, h.1, l, rw h.2 at r)
  ]

  pub in_either : (u : List ℕ) (p : ℕ) (v : List ℕ) → Joins L M (u ++ p ∷ v) → InEither u p v
  in_either u p v h = in_parts u p v h.0 h.1 h.2 h.3 h.4

  module _ (el : Exchanges L) (em : Exchanges M) (apart : (p : ℕ) → Passes L p → Passes M p → ⊥) where
    mixed : (u : List ℕ) (p : ℕ) (v x y : List ℕ) → InEither u p v → InEither x p y → Joins L M (u ++ p ∷ y)
    mixed u p v x y (inl a) (inl b) =
        (u ++ p ∷ b.0, b.1, (rw b.2 (simp append_assoc)), el u a.0 x b.0 p a.3 b.3, b.4)
    mixed u p v x y (inl a) (inr b) = absurd (apart p (u, a.0, a.3) (b.1, y, b.4))
    mixed u p v x y (inr a) (inl b) = absurd (apart p (x, b.0, b.3) (a.1, v, a.4))
    mixed u p v x y (inr a) (inr b) =
        (a.0, a.1 ++ p ∷ y, (rw a.2 (simp append_assoc)), a.3, em a.1 v b.1 y p a.4 b.4)

    pub exchange_join : Exchanges (Joins L M)
    exchange_join u v x y p h g = mixed u p v x y (in_either u p v h) (in_either x p y g)

  pub exchange_or : Exchanges L → Exchanges M → ((p : ℕ) → Passes L p → Passes M p → ⊥) → Exchanges (λ w. L w ⊎ M w)
  exchange_or el em apart u v x y p (inl a) (inl b) = inl (el u v x y p a b)
  exchange_or el em apart u v x y p (inl a) (inr b) = absurd (apart p (u, v, a) (x, y, b))
  exchange_or el em apart u v x y p (inr a) (inl b) = absurd (apart p (x, y, b) (u, v, a))
  exchange_or el em apart u v x y p (inr a) (inr b) = inr (em u v x y p a b)

-- ---- in words in a row
no_pass : (p : ℕ) (w v : List ℕ) → w ++ p ∷ v ≡ [] → ⊥
no_pass p [] v e = cc
no_pass p (x ∷ w) v e = cc

-- the round whose word the position lies in, and what comes before and after it
record Located (V : ℕ → List ℕ → Type 0) (k j : ℕ) (u : List ℕ) (p : ℕ) (v : List ℕ) : Type 0 where
  before : ℕ
  after : ℕ
  count : before + suc after ≡ k
  u0 : List ℕ
  u1 : List ℕ
  v1 : List ℕ
  v2 : List ℕ
  u_is : u ≡ u0 ++ u1
  v_is : v ≡ v1 ++ v2
  earlier : Rounds V before j u0
  here : V (j + before) (u1 ++ p ∷ v1)
  later : Rounds V after (suc (j + before)) v2

module _ (V : ℕ → List ℕ → Type 0) where
  later_round : (k j : ℕ) (u : List ℕ) (p : ℕ) (v f g : List ℕ) → u ≡ f ++ g → V j f → Located V k (suc j) g p v → Located V (suc k) j u p v
  later_round k j u p v f g e h l =
      let i : suc j + l.before ≡ j + suc l.before = omega arith in
      let c : l.before + suc l.after ≡ k = l.count in
      let d : g ≡ l.u0 ++ l.u1 = l.u_is in
      record {
        before = suc l.before;
        after = l.after;
        count = omega arith;
        u0 = f ++ l.u0;
        u1 = l.u1;
        v1 = l.v1;
        v2 = l.v2;
        u_is = rw (e, d) (simp append_assoc);
        v_is = l.v_is;
        earlier = (f, l.u0, refl, h, l.earlier);
        here = rw i at l.here;
        later = rw i at l.later;
      }

  locate : (k j : ℕ) (u : List ℕ) (p : ℕ) (v : List ℕ) → Rounds V k j (u ++ p ∷ v) → Located V k j u p v
  locate zero j u p v h = absurd (no_pass p u v h)
  locate (suc k) j u p v h =
      elim (in_either (V j) (Rounds V k (suc j)) u p v h) [
        | inl a ↦
            let z : j ≡ j + 0 = omega arith in
            record {
              before = 0;
              after = k;
              count = omega arith;
              u0 = [];
              u1 = u;
              v1 = a.0;
              v2 = a.1;
              u_is = refl;
              v_is = a.2;
              earlier = refl;
              here = rw z at a.3;
              later = rw z at a.4;
            }
        | inr a ↦ later_round k j u p v a.0 a.1 a.2 a.3 (locate k (suc j) a.1 p v a.4)
      ]

-- rounds from another number on
rounds_shift : (V : ℕ → List ℕ → Type 0) (k a b : ℕ) → ((d : ℕ) (u : List ℕ) → V (a + d) u → V (b + d) u) → (w : List ℕ) → Rounds V k a w → Rounds V k b w
rounds_shift V zero a b f w r = r
rounds_shift V (suc k) a b f w r = (
  r.0,
  r.1,
  r.2,
  (let g = f 0 r.0 in rw (add-zero, add-zero) at g) r.3,
  rounds_shift V k (suc a) (suc b) (λ d u h.
      let e : suc a + d ≡ a + suc d = omega arith in
      let i : b + suc d ≡ suc b + d = omega arith in
      rw i at (f (suc d) u (rw e at h))) r.1 r.4,
)

-- a position lies in one copy alone
same_copy : (a c s base p : ℕ) → base + a * s ≤ p → p < base + a * s + s → base + c * s ≤ p → p < base + c * s + s → a ≡ c
same_copy a c s base p la ha lc hc = elim (cases_order a c) [
  | inl e ↦ e
  | inr (inl l) ↦ (let x : suc a * s ≤ c * s = mul-le-mul_right s l in let y : suc a * s ≡ a * s + s = suc-mul a s in absurd (omega arith))
  | inr (inr l) ↦ (let x : suc c * s ≤ a * s = mul-le-mul_right s l in let y : suc c * s ≡ c * s + s = suc-mul c s in absurd (omega arith))
]

allows_mixed : (n : ℕ) (m : Option ℕ) (i a j c : ℕ) → Allows n m (i + suc a) → Allows n m (j + suc c) → min i (copies n m - 1) ≡ min j (copies n m - 1) → Allows n m (i + suc c)
allows_mixed n None i a j c h g e = omega arith
allows_mixed n (Some m) i a j c h g e =
    let h0 : n ≤ i + suc a = h.0 in let h1 : i + suc a ≤ m = h.1 in let g0 : n ≤ j + suc c = g.0 in let g1 : j + suc c ≤ m = g.1 in
    let same : i ≡ j = omega arith in
    (omega arith, omega arith)

module _ (t : Tree) (n : ℕ) (m : Option ℕ) (b : ℕ) (part : (c : ℕ) → Exchanges (IsWord t c)) where
  abbrev R : ℕ → List ℕ → Type 0
  R j u = IsWord t (place b (copies n m) (size t) j) u

  later_place : (i j d : ℕ) → min i (copies n m - 1) ≡ min j (copies n m - 1) → place b (copies n m) (size t) (suc i + d) ≡ place b (copies n m) (size t) (suc j + d)
  later_place i j d e = let f : min (suc i + d) (copies n m - 1) ≡ min (suc j + d) (copies n m - 1) = omega arith in ap (λ k. b + k * size t) f

  mixed_rounds : (u v x y : List ℕ) (p k l : ℕ) → Allows n m k → Allows n m l → Located R k 0 u p v → Located R l 0 x p y → IsWord (repeat t n m) b (u ++ p ∷ y)
  mixed_rounds u v x y p k l ak al g h =
      let wg = words_within t (place b (copies n m) (size t) (0 + g.before)) p (g.u1, g.v1, g.here) in
      let wh = words_within t (place b (copies n m) (size t) (0 + h.before)) p (h.u1, h.v1, h.here) in
      let zg : 0 + g.before ≡ g.before = omega arith in
      let zh : 0 + h.before ≡ h.before = omega arith in
      let same : min (0 + g.before) (copies n m - 1) ≡ min (0 + h.before) (copies n m - 1) =
      same_copy (min (0 + g.before) (copies n m - 1)) (min (0 + h.before) (copies n m - 1)) (size t) b p wg.0 wg.1 wh.0 wh.1 in
      let plain : min g.before (copies n m - 1) ≡ min h.before (copies n m - 1) = rw (zg, zh) at same in
      let at_g : R (0 + g.before) (h.u1 ++ p ∷ h.v1) = let e : place b (copies n m) (size t) (0 + h.before) ≡ place b (copies n m) (size t) (0 + g.before) = ap (λ i. b + i * size t) (sym same) in rw e at h.here in
      let here : R (0 + g.before) (g.u1 ++ p ∷ h.v1) = part (place b (copies n m) (size t) (0 + g.before)) g.u1 g.v1 h.u1 h.v1 p g.here at_g in
      let later : Rounds R h.after (suc (0 + g.before)) h.v2 =
      rounds_shift R h.after (suc (0 + h.before)) (suc (0 + g.before)) (λ d w q. (let e = later_place (0 + h.before) (0 + g.before) d (sym same) in rw e at q)) h.v2 h.later in
      let all : Rounds R (g.before + suc h.after) 0 (g.u0 ++ ((g.u1 ++ p ∷ h.v1) ++ h.v2)) =
      rounds_append R g.before (suc h.after) 0 g.u0 ((g.u1 ++ p ∷ h.v1) ++ h.v2) g.earlier (g.u1 ++ p ∷ h.v1, h.v2, refl, here, later) in
      let ug : u ≡ g.u0 ++ g.u1 = g.u_is in
      let yh : y ≡ h.v1 ++ h.v2 = h.v_is in
      let whole : g.u0 ++ ((g.u1 ++ p ∷ h.v1) ++ h.v2) ≡ u ++ p ∷ y = rw (ug, yh) (simp append_assoc) in (
        g.before + suc h.after,
        allows_mixed n m g.before g.after h.before h.after (let e : k ≡ g.before + suc g.after = sym g.count in rw e at ak) (let e : l ≡ h.before + suc h.after = sym h.count in rw e at al) plain,
        rw whole at all,
      )

  exchange_repeat : Exchanges (IsWord (repeat t n m) b)
  exchange_repeat u v x y p h g =
      mixed_rounds u v x y p h.0 g.0 h.1 g.1 (locate R h.0 0 u p v h.2) (locate R g.0 0 x p y g.2)

-- ---- in an expression
alone_front : (w v : List ℕ) (p b : ℕ) → w ++ p ∷ v ≡ b ∷ [] → w ≡ []
alone_front [] v p b e = refl
alone_front (x ∷ []) v p b e = cc
alone_front (x ∷ y ∷ w) v p b e = cc

exchange_one : (b : ℕ) → Exchanges (λ w. w ≡ b ∷ [])
exchange_one b u v x y p h g =
    let a : u ≡ [] = alone_front u v p b h in
    let c : x ≡ [] = alone_front x y p b g in
    rw a (rw c at g)

pub exchange : (t : Tree) (b : ℕ) → Exchanges (IsWord t b)
exchange (one s) b = exchange_one b
exchange empty b = λ u v x y p h g. absurd (no_pass p u v h)
exchange (chain s t) b =
    exchange_join (IsWord s b) (IsWord t (b + size s)) (exchange s b) (exchange t (b + size s))
    (λ p l r. let a = words_within s b p l in let c = words_within t (b + size s) p r in omega arith)
exchange nothing b = λ u v x y p h g. absurd h
exchange (either s t) b =
    exchange_or (IsWord s b) (IsWord t (b + size s)) (exchange s b) (exchange t (b + size s))
    (λ p l r. let a = words_within s b p l in let c = words_within t (b + size s) p r in omega arith)
exchange (repeat t n m) b = exchange_repeat t n m b (λ c. exchange t c)
