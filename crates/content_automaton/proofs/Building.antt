-- The states and steps, one more after another.
use Rattle.std.proofs.Common.{◌≡◌, ◌≢◌, ℕ, zero, suc, ◌+◌, ◌*◌, ◌<◌, ◌≤◌, ◌↔◌, ◌==◌, List, [], ◌∷◌, ◌++◌, length, map, get_or, refl, ap, subst, sym, ◌∙◌, inl, inr, arith, add-one, suc-mul, eqb-true}
use Rattle.std.specs.Prelude.{Contains, filter, All, slice_index}
use Rattle.std.specs.List.Sorted.{IsStrictlyIncreasing}
use Rattle.std.proofs.lemmas.Bool.{cases_lt}
use Rattle.std.proofs.lemmas.List.{get_or_append_left, get_or_push, get_or_past, length_push, length-map}
use Rattle.std.proofs.lemmas.List.Elements.{All-cons}
use Rattle.std.proofs.lemmas.List.Kept.{IsStrictlyIncreasing-filter}
use Rattle.xs_positions.specs.Sets.{row}
use Rattle.xs_positions.specs.Positions.{Table}
use Rattle.content_automaton.specs.Moves.{IsWithin, takes, Comes, Ends}
use Rattle.content_automaton.specs.Built.{set_of, IsNew, IsNumber, IsNumbered, IsAfter, IsReached, IsState, AreStates, AreTooMany, IsStep, AreSteps, ComesFrom, IsRow}
use Rattle.content_automaton.proofs.Numbering.{set_at}
use Rattle.content_automaton.proofs.Members.{all_within, none_contained, empty_of, filter_contains, row_of, same_cell}

succ_times : (s m : ℕ) → (s + 1) * m ≡ s * m + m
succ_times s m = ap (λ k. k * m) (add-one s) ∙ suc-mul s m

-- ---- a set more
set_kept : (states : List (List ℕ)) (set : List ℕ) (k : ℕ) → k < length states → set_of (states ++ set ∷ []) k ≡ set_of states k
set_kept states set k l = get_or_append_left states (set ∷ []) [] k l

set_new : (states : List (List ℕ)) (set : List ℕ) → set_of (states ++ set ∷ []) (length states) ≡ set
set_new states set = get_or_push states set [] (length states) refl

pub grown_kept : (old new : List (List ℕ)) (set : List ℕ) (to : ℕ) → IsNumbered old new set to → (length old ≤ length new) × ((k : ℕ) → k < length old → set_of new k ≡ set_of old k)
grown_kept old new set to h = elim h.grown [
  | inl e ↦ ((let a = ap length e in omega arith), (λ k l. ap (λ xs. set_of xs k) e))
  | inr e ↦ ((let a = ap length e.0 in let b = length_push old set in omega arith), (λ k l. ap (λ xs. set_of xs k) e.0 ∙ set_kept old set k l))
]

module _ (table : Table) (accepted : List (List ℕ)) (symbols : ℕ) where
  pub states_pushed : (states : List (List ℕ)) (set : List ℕ) → AreStates table accepted symbols states → IsState table accepted symbols set → IsNew states set →
      AreStates table accepted symbols (states ++ set ∷ [])
  states_pushed states set are is other =
      let n : length (states ++ set ∷ []) ≡ length states + 1 = length_push states set in
      let s = are.some in
      record {
        some = omega arith;
        start = set_kept states set 0 are.some ∙ are.start;
        each = λ k a b. elim (cases_lt k (length states)) [
          | inl l ↦ subst (λ (x : List ℕ). IsState table accepted symbols x) (sym (set_kept states set k l)) (are.each k a l)
          | inr l ↦ (let e : k ≡ length states = omega arith in subst (λ (x : List ℕ). IsState table accepted symbols x) (sym (ap (set_of (states ++ set ∷ [])) e ∙ set_new states set)) is)
        ];
        apart = λ i j a b. elim (cases_lt j (length states)) [
          | inl l ↦ (λ e. are.apart i j a l (sym (set_kept states set i (omega arith)) ∙ (e ∙ set_kept states set j l)))
          | inr l ↦ (let f : j ≡ length states = omega arith in
              λ e. other.other i (omega arith) (sym (set_kept states set i (omega arith)) ∙ (e ∙ (ap (set_of (states ++ set ∷ [])) f ∙ set_new states set))))
        ];
      }

  -- the start alone
  module _ {X : Type 0} (f : X → List ℕ) (xs : List X) (alone : map f xs ≡ [] ∷ []) where
    pub start_alone : AreStates table accepted symbols (map f xs)
    start_alone = subst (λ (states : List (List ℕ)). AreStates table accepted symbols states) (sym alone) (record {
      some = omega arith;
      start = refl;
      each = λ k a b. absurd (omega (arith, a, b));
      apart = λ i j a b. absurd (omega (arith, a, b));
    })

    pub start_few : length xs ≡ 1
    start_few = let l = length-map xs f in let e = ap length alone in omega arith

  pub states_numbered : (old new : List (List ℕ)) (set : List ℕ) (to : ℕ) → AreStates table accepted symbols old → (set ≢ [] → IsState table accepted symbols set) →
      IsNumbered old new set to → AreStates table accepted symbols new
  states_numbered old new set to are is h = elim h.grown [
    | inl e ↦ subst (λ (xs : List (List ℕ)). AreStates table accepted symbols xs) (sym e) are
    | inr e ↦ subst (λ (xs : List (List ℕ)). AreStates table accepted symbols xs) (sym e.0) (states_pushed old set are (is e.1.filled) e.1)
  ]

  pub too_many : (states : List (List ℕ)) (set : List ℕ) → AreStates table accepted symbols states → (set ≢ [] → IsState table accepted symbols set) → IsNew states set →
      length states ≡ 2048 → AreTooMany table accepted symbols
  too_many states set are is other e =
      (states ++ set ∷ [], states_pushed states set are (is other.filled) other, (let n = length_push states set in omega arith))

  -- ---- a cell more
  number_kept : (old new : List (List ℕ)) (set : List ℕ) (to s : ℕ) → IsNumbered old new set to → IsNumber old s → IsNumber new s × (set_of new s ≡ set_of old s)
  number_kept old new set to s h is =
      let g = grown_kept old new set to h in
      let a : length old ≤ length new = g.0 in
      let f : length new ≤ 2048 = h.few in
      elim is.live [
        | inl l ↦ (record { not_start = is.not_start; live = inl (omega arith) }, g.1 s l)
        | inr l ↦ (record { not_start = is.not_start; live = inr l }, get_or_past new s [] (omega arith) ∙ sym (get_or_past old s [] (omega arith)))
      ]

  step_kept : (old new : List (List ℕ)) (set : List ℕ) (to s n cell : ℕ) → IsNumbered old new set to → s < length old →
      IsStep table accepted old s n cell → IsStep table accepted new s n cell
  step_kept old new set to s n cell h l is =
      let k = number_kept old new set to cell h is.number in
      let e = (grown_kept old new set to h).1 s l in
      record { number = k.0; after = rw (k.1, e) is.after }

  pub steps_pushed : (old new : List (List ℕ)) (set cells cells' : List ℕ) (to state symbol : ℕ) → AreSteps table accepted symbols old cells → IsNumbered old new set to →
      length cells ≡ state * symbols + symbol → symbol < symbols → state < length old → IsAfter table accepted old state symbol set → cells' ≡ cells ++ to ∷ [] →
      AreSteps table accepted symbols new cells'
  steps_pushed old new set cells cells' to state symbol are h count a b after e s n l m =
      let c : length cells' ≡ length cells + 1 = ap length e ∙ length_push cells to in
      elim (cases_lt (s * symbols + n) (length cells)) [
        | inl k ↦ (
            let i : slice_index cells' (s * symbols + n) ≡ slice_index cells (s * symbols + n) = ap (λ xs. slice_index xs (s * symbols + n)) e ∙ get_or_append_left cells (to ∷ []) 0 (s * symbols + n) k in
            let r : s ≤ state = row_of symbols s state n symbol (omega arith) (omega arith) in
            subst (λ (x : ℕ). IsStep table accepted new s n x) (sym i)
            (step_kept old new set to s n (slice_index cells (s * symbols + n)) h (omega arith) (are s n l k)))
        | inr k ↦ (
            let d = same_cell symbols s state n symbol (omega arith) l a in
            let p : s * symbols + n ≡ length cells = omega arith in
            let i : slice_index cells' (s * symbols + n) ≡ to = ap (λ xs. slice_index xs (s * symbols + n)) e ∙ get_or_push cells to 0 (s * symbols + n) (sym p) in
            subst (λ (x : ℕ). IsStep table accepted new s n x) (sym i)
            (rw (d.0, d.1) (record { number = h.number; after = rw (h.is, (grown_kept old new set to h).1 state b) after })))
      ]

  -- ---- the set of a step
  ends_within : IsWithin table → (names : List ℕ) (q : ℕ) → Ends table (takes table accepted) names q → q < length table.symbols
  ends_within w [] q h = absurd h
  ends_within w (n ∷ []) q h = w.first q h.0
  ends_within w (n ∷ m ∷ names) q h = w.follow h.0.0 q (ends_within w (m ∷ names) h.0.0 h.0.1) h.0.2

  pub state_within : (states : List (List ℕ)) → IsWithin table → AreStates table accepted symbols states → (k : ℕ) → k < length states →
      (p : ℕ) → Contains (set_of states k) p → p < length table.symbols
  state_within states w are zero l p c = absurd (none_contained p (rw are.start at c))
  state_within states w are (suc k) l p c =
      let r = (are.each (suc k) (omega arith) l).reached in ends_within w r.0 p ((r.2 p).0 c)

  pub next_within : (states : List (List ℕ)) → IsWithin table → AreStates table accepted symbols states → (s : ℕ) (next : List ℕ) → s < length states →
      ComesFrom table states s next → (q : ℕ) → Contains next q → q < length table.symbols
  next_within states w are s next l from q c = elim ((from q).0 c) [
    | inl h ↦ w.first q h.1
    | inr h ↦ w.follow h.0 q (state_within states w are s l h.0 h.1) h.2
  ]

  pub after_filter : (states : List (List ℕ)) (s n : ℕ) (next set : List ℕ) → ComesFrom table states s next → set ≡ filter (λ p. takes table accepted p n) next →
      IsAfter table accepted states s n set
  after_filter states s n next set from e q =
      let f = filter_contains (λ p. takes table accepted p n) next q in (
        (λ c. let r = f.0 (rw e at c) in ((from q).0 r.0, r.1)),
        (λ h. rw e (f.1 ((from q).1 h.0, h.1))),
      )

  reached_after : (states : List (List ℕ)) (s n : ℕ) (set : List ℕ) → AreStates table accepted symbols states → s < length states → n < symbols →
      IsAfter table accepted states s n set → IsReached table accepted symbols set
  reached_after states zero n set are l b after = (
    n ∷ [],
    one_below,
    λ q. (
      (λ c. elim ((after q).0 c).0 [
        | inl h ↦ (h.1, ((after q).0 c).1)
        | inr h ↦ absurd (none_contained h.0 (rw are.start at h.1))
      ]),
      (λ h. (after q).1 (inl (refl, h.0), h.1)),
    ),
  )
    where
      one_below : All (λ n. n < symbols) (n ∷ [])
      one_below zero d h = b
      one_below (suc k) d h = absurd (omega arith)
  reached_after states (suc s) n set are l b after =
      let is = are.each (suc s) (omega arith) l in
      more_names is.reached.0 is.reached.1 is.reached.2
    where
      more_names : (names : List ℕ) → All (λ n. n < symbols) names → ((q : ℕ) → Contains (set_of states (suc s)) q ↔ Ends table (takes table accepted) names q) → IsReached table accepted symbols set
      more_names [] below from = absurd ((are.each (suc s) (omega arith) l).filled (empty_of (set_of states (suc s)) (λ q c. (from q).0 c)))
      more_names (m ∷ names) below from = (
        n ∷ m ∷ names,
        All-cons (λ n. n < symbols) n (m ∷ names) b below,
        λ q. (
          (λ c. elim ((after q).0 c).0 [
            | inl h ↦ (let e : suc s ≡ 0 = eqb-true (suc s) 0 h.0 in absurd (omega arith))
            | inr h ↦ ((h.0, (from h.0).0 h.1, h.2), ((after q).0 c).1)
          ]),
          (λ h. (after q).1 (inr (h.0.0, (from h.0.0).1 h.0.1, h.0.2), h.1)),
        ),
      )

  pub state_after : (states : List (List ℕ)) (s n : ℕ) (next set : List ℕ) → AreStates table accepted symbols states → s < length states → n < symbols →
      IsStrictlyIncreasing next → set ≡ filter (λ p. takes table accepted p n) next → IsAfter table accepted states s n set → set ≢ [] → IsState table accepted symbols set
  state_after states s n next set are l b rise e after some = record {
    filled = some;
    rises = rw e (IsStrictlyIncreasing-filter (λ p. takes table accepted p n) next rise);
    reached = reached_after states s n set are l b after;
  }

  -- ---- as the code has them
  module _ {X : Type 0} (f : X → List ℕ) (w : IsWithin table) where
    pub coming_fits : (xs : List X) (s : ℕ) (x : X) (set : List ℕ) → AreStates table accepted symbols (map f xs) → s < length xs → x ≡ get_or xs s x → set ≡ f x →
        All (λ p. p < length table.symbols) set
    coming_fits xs s x set are l e v =
        let n : length (map f xs) ≡ length xs = length-map xs f in
        all_within set (length table.symbols) (λ p c. state_within (map f xs) w are s (omega arith) p (rw (set_at f xs s x l e ∙ sym v) c))

    pub next_fits : (xs : List X) (s : ℕ) (x : X) (set next now : List ℕ) → AreStates table accepted symbols (map f xs) → s < length xs → x ≡ get_or xs s x → set ≡ f x →
        ((q : ℕ) → Contains next q ↔ Comes table (s == 0) set q) → now ≡ next → All (λ p. p < length table.symbols) now
    next_fits xs s x set next now are l e v h same =
        let n : length (map f xs) ≡ length xs = length-map xs f in
        all_within now (length table.symbols) (λ p c. next_within (map f xs) w are s next (omega arith) (rw (set_at f xs s x l e ∙ sym v) h) p (rw same at c))

    pub row_begun : (xs : List X) (cells : List ℕ) (s : ℕ) (x : X) (set next : List ℕ) → AreStates table accepted symbols (map f xs) → length xs ≤ 2048 → s < length xs →
        AreSteps table accepted symbols (map f xs) cells → length cells ≡ s * symbols → x ≡ get_or xs s x → set ≡ f x →
        ((q : ℕ) → Contains next q ↔ Comes table (s == 0) set q) → IsRow table accepted symbols (map f xs) cells s 0 next (length xs)
    row_begun xs cells s x set next are few l steps count e v h =
        let n : length (map f xs) ≡ length xs = length-map xs f in
        record { states_are = are; few = omega arith; more = omega arith; here = omega arith; steps = steps; cells_are = omega arith; from = rw (set_at f xs s x l e ∙ sym v) h }

    -- one turn of the row
    module _ (xs : List X) (cells : List ℕ) (s n : ℕ) (next : List ℕ) (least : ℕ) (taken set : List ℕ) (row : IsRow table accepted symbols (map f xs) cells s n next least) (b : n < symbols)
        (rise : IsStrictlyIncreasing next) (is : taken ≡ next) (e : set ≡ filter (λ p. takes table accepted p n) taken) where
      taken_set : set ≡ filter (λ p. takes table accepted p n) next
      taken_set = e ∙ ap (filter (λ p. takes table accepted p n)) is

      set_after : IsAfter table accepted (map f xs) s n set
      set_after = after_filter (map f xs) s n next set row.from taken_set

      set_state : set ≢ [] → IsState table accepted symbols set
      set_state = state_after (map f xs) s n next set row.states_are row.here b rise taken_set set_after

      pub turn_too_many : IsNew (map f xs) set → length xs ≡ 2048 → AreTooMany table accepted symbols
      turn_too_many other full = too_many (map f xs) set row.states_are set_state other (length-map xs f ∙ full)

      pub turn_more : (ys : List X) (to : ℕ) → IsNumbered (map f xs) (map f ys) set to → (cells' : List ℕ) → cells' ≡ cells ++ to ∷ [] →
          IsRow table accepted symbols (map f ys) cells' s (n + 1) next least
      turn_more ys to h cells' p =
          let g = grown_kept (map f xs) (map f ys) set to h in
          let g0 : length (map f xs) ≤ length (map f ys) = g.0 in
          let c : length cells' ≡ length cells + 1 = ap length p ∙ length_push cells to in
          let a = row.more in let d = row.here in let k = row.cells_are in
          record {
            states_are = states_numbered (map f xs) (map f ys) set to row.states_are set_state h;
            few = h.few;
            more = omega arith;
            here = omega arith;
            steps = steps_pushed (map f xs) (map f ys) set cells cells' to s n row.steps h row.cells_are b row.here set_after p;
            cells_are = omega arith;
            from = rw (g.1 s row.here) row.from;
          }

    pub taking_fits : (xs : List X) (cells : List ℕ) (s n : ℕ) (next : List ℕ) (least : ℕ) (taken : List ℕ) → IsRow table accepted symbols (map f xs) cells s n next least → taken ≡ next →
        All (λ p. p < length table.symbols) taken
    taking_fits xs cells s n next least taken row e =
        all_within taken (length table.symbols) (λ p c. next_within (map f xs) w row.states_are s next row.here row.from p (rw e at c))

    -- the row is whole
    pub row_done : (xs : List X) (cells : List ℕ) (s n : ℕ) (next : List ℕ) (least : ℕ) → IsRow table accepted symbols (map f xs) cells s n next least → n ≡ symbols →
        (length xs ≤ 2048) × (least ≤ length xs) × (length cells ≡ (s + 1) * symbols)
    row_done xs cells s n next least row e =
        let m : length (map f xs) ≡ length xs = length-map xs f in
        let a = row.few in let b = row.more in let k = row.cells_are in
        let d : (s + 1) * symbols ≡ s * symbols + symbols = succ_times s symbols in
        (omega arith, omega arith, omega arith)
