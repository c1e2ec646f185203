-- Where the leaves of a list lead, and where child elements get stuck.
use Rattle.std.proofs.Common.{◌≡◌, ℕ, suc, ◌+◌, ◌<◌, ◌≤◌, ◌==◌, Bool, true, false, List, [], ◌∷◌, None, Some, map, take, length, refl, sym, ap, subst, ◌∙◌, inl, inr, arith, eqb-true}
use Rattle.std.specs.Prelude.{not, slice_index}
use Rattle.std.proofs.lemmas.Bool.{lt-ltb, le-ltb, eqb-false}
use Rattle.std.proofs.lemmas.List.{take-map, length-map}
use Rattle.child_trees.specs.Lists.{Entry, acts_along, IsFirstDead, NoneIsDead}
use Rattle.content_automaton.specs.Automaton.{start_of, state_of, dead_of, accepts_at}
use Rattle.content_automaton.specs.Modelled.{ModelAutomaton}
use Rattle.content_models.specs.States as alls
use Rattle.content_models.specs.declared.state.AllState.{AllState}
use Rattle.content_models.specs.Modelled.{AllModel, letter_of}
use Rattle.content_models.specs.declared.automaton.ContentAutomaton.TheVariants.{States, All}
use Rattle.model_summaries.specs.declared.map.AllMap.{AllMap}
use Rattle.model_summaries.specs.Masks.{of_letter, acts}
use Rattle.model_summaries.proofs.MaskRunning.{letters_are}
use Rattle.model_summaries.specs.Maps.{width_of, leaf_of}
use Rattle.model_summaries.proofs.Running.{rows_are, run-within}
use Rattle.model_terms.specs.Terms.{begins, stuck_in}
use Rattle.model_terms.proofs.Stuck.{stuck-is, one-stuck}
use Rattle.model_lists.specs.Lists.{member_of}

map-take : {X Y : Type 0} (f : X → Y) (k : ℕ) (xs : List X) (ys : List Y) → map f xs ≡ ys → map f (take k xs) ≡ take k ys
map-take f k xs ys e = sym (take-map f k xs) ∙ ap (take k) e

pub map-twice : {X Y Z : Type 0} (f : X → Y) (g : Y → Z) (xs : List X) → map g (map f xs) ≡ map (λ x. g (f x)) xs
map-twice f g [] = refl
map-twice f g (x ∷ xs) = ap (λ ys. g (f x) ∷ ys) (map-twice f g xs)

-- ---- by states
module _ (a : ModelAutomaton) (symbols : List ℕ) (xs : List (Entry (List ℕ))) (maps : map (λ e. e.act) xs ≡ map (leaf_of a) symbols) where
  pub start-within : start_of a.machine ≤ dead_of a.machine
  start-within = by a.machine.lives refl
    where
      by : (b : Bool) → a.machine.lives ≡ b → start_of a.machine ≤ dead_of a.machine
      by true e = rw e (omega arith)
      by false e = rw e (omega arith)

  many : length xs ≡ length symbols
  many = sym (length-map xs (λ e. e.act)) ∙ (ap length maps ∙ length-map symbols (leaf_of a))

  -- the state after the first leaves is that after the first symbols
  pub led : (k : ℕ) → acts_along slice_index (start_of a.machine) (take k xs) ≡ state_of a.machine (take k symbols)
  led k = rows_are a (take k symbols) (start_of a.machine) (take k xs) start-within (map-take (λ (e : Entry (List ℕ)). e.act) k xs (map (leaf_of a) symbols) maps ∙ take-map (leaf_of a) k symbols)

  pub led-all : acts_along slice_index (start_of a.machine) xs ≡ state_of a.machine symbols
  led-all = rows_are a symbols (start_of a.machine) xs start-within maps

  live-is : (k : ℕ) → (acts_along slice_index (start_of a.machine) (take k xs) + 1 == width_of a) ≡ false → begins (States a) (take k symbols) ≡ true
  live-is k e =
      let l = run-within a.machine (start_of a.machine) (take k symbols) start-within in
      let n = eqb-false (acts_along slice_index (start_of a.machine) (take k xs) + 1) (width_of a) e in
      let s = led k in
      lt-ltb (state_of a.machine (take k symbols)) (dead_of a.machine) (less (state_of a.machine (take k symbols)) (dead_of a.machine) l (λ q. n (s_is s q)))
    where
      less : (s d : ℕ) → s ≤ d → (s ≡ d → ⊥) → s < d
      less s d l n = omega arith

      s_is : {t s d : ℕ} → t ≡ s → s ≡ d → t + 1 ≡ suc d
      s_is e f = omega arith

  dead-is : (k : ℕ) → (acts_along slice_index (start_of a.machine) (take k xs) + 1 == width_of a) ≡ true → begins (States a) (take k symbols) ≡ false
  dead-is k e =
      let q = eqb-true (acts_along slice_index (start_of a.machine) (take k xs) + 1) (width_of a) e in
      let s = led k in
      le-ltb (state_of a.machine (take k symbols)) (dead_of a.machine) (omega arith)

  add-one-take : (k : ℕ) (P : ℕ → Type 0) → P (k + 1) → P (suc k)
  add-one-take k P h = subst P (omega arith) h

  pub first-stuck : (p : ℕ) → IsFirstDead slice_index (λ s. s + 1 == width_of a) (start_of a.machine) xs p → Some p ≡ stuck_in (Some (States a)) symbols
  first-stuck p h = one-stuck (States a) symbols (Some p) (stuck_in (Some (States a)) symbols) (
    (λ k l. live-is (suc k) (add-one-take k (λ n. (acts_along slice_index (start_of a.machine) (take n xs) + 1 == width_of a) ≡ false) (h.before k l))),
    inl ((let m = many in let w = h.within in omega arith), dead-is (suc p) (add-one-take p (λ n. (acts_along slice_index (start_of a.machine) (take n xs) + 1 == width_of a) ≡ true) h.dead)),
  )
      (stuck-is (States a) symbols)

  module _ (none : NoneIsDead slice_index (λ s. s + 1 == width_of a) (start_of a.machine) xs) (end : ℕ) (at_end : end ≡ acts_along slice_index (start_of a.machine) xs) where
    all-begin : (k : ℕ) → k < length symbols → begins (States a) (take (suc k) symbols) ≡ true
    all-begin k l = live-is (suc k) (add-one-take k (λ n. (acts_along slice_index (start_of a.machine) (take n xs) + 1 == width_of a) ≡ false) (none k (let m = many in omega arith)))

    pub none-stuck : accepts_at a.machine end ≡ true → None ≡ stuck_in (Some (States a)) symbols
    none-stuck e = one-stuck (States a) symbols None (stuck_in (Some (States a)) symbols)
        (all-begin, ap (accepts_at a.machine) (sym (at_end ∙ led-all)) ∙ e) (stuck-is (States a) symbols)

    pub end-stuck : (count : ℕ) → count ≡ length symbols → accepts_at a.machine end ≡ false → Some count ≡ stuck_in (Some (States a)) symbols
    end-stuck count c e = one-stuck (States a) symbols (Some count) (stuck_in (Some (States a)) symbols)
        ((λ k l. all-begin k (omega arith)), inr (c, ap (accepts_at a.machine) (sym (at_end ∙ led-all)) ∙ e)) (stuck-is (States a) symbols)

-- ---- by the members of an all
module _ (a : AllModel) (symbols : List ℕ) (xs : List (Entry AllMap)) (maps : map (λ e. e.act) xs ≡ map (member_of a) symbols) where
  all-many : length xs ≡ length symbols
  all-many = sym (length-map xs (λ e. e.act)) ∙ (ap length maps ∙ length-map symbols (member_of a))

  pub all-led : (k : ℕ) → acts_along acts (alls.start_of a.machine) (take k xs) ≡ alls.state_of a.machine (map (letter_of a) (take k symbols))
  all-led k = letters_are (map (letter_of a) (take k symbols)) (alls.start_of a.machine) (take k xs)
      (map-take (λ (e : Entry AllMap). e.act) k xs (map (member_of a) symbols) maps ∙ (take-map (member_of a) k symbols ∙ sym (map-twice (letter_of a) of_letter (take k symbols))))

  all-led_whole : acts_along acts (alls.start_of a.machine) xs ≡ alls.state_of a.machine (map (letter_of a) symbols)
  all-led_whole = letters_are (map (letter_of a) symbols) (alls.start_of a.machine) xs (maps ∙ sym (map-twice (letter_of a) of_letter symbols))

  all-live : (k : ℕ) → (acts_along acts (alls.start_of a.machine) (take k xs)).dead ≡ false → begins (All a) (take k symbols) ≡ true
  all-live k e = ap not (ap (λ (s : AllState). s.dead) (sym (all-led k)) ∙ e)

  all-dead : (k : ℕ) → (acts_along acts (alls.start_of a.machine) (take k xs)).dead ≡ true → begins (All a) (take k symbols) ≡ false
  all-dead k e = ap not (ap (λ (s : AllState). s.dead) (sym (all-led k)) ∙ e)

  add-one-first : (k : ℕ) (P : ℕ → Type 0) → P (k + 1) → P (suc k)
  add-one-first k P h = subst P (omega arith) h

  pub all-first_stuck : (p : ℕ) → IsFirstDead acts (λ (s : AllState). s.dead) (alls.start_of a.machine) xs p → Some p ≡ stuck_in (Some (All a)) symbols
  all-first_stuck p h = one-stuck (All a) symbols (Some p) (stuck_in (Some (All a)) symbols) (
    (λ k l. all-live (suc k) (add-one-first k (λ n. (acts_along acts (alls.start_of a.machine) (take n xs)).dead ≡ false) (h.before k l))),
    inl ((let m = all-many in let w = h.within in omega arith), all-dead (suc p) (add-one-first p (λ n. (acts_along acts (alls.start_of a.machine) (take n xs)).dead ≡ true) h.dead)),
  )
      (stuck-is (All a) symbols)

  module _ (none : NoneIsDead acts (λ (s : AllState). s.dead) (alls.start_of a.machine) xs) (end : AllState) (at_end : end ≡ acts_along acts (alls.start_of a.machine) xs) where
    all-all_begin : (k : ℕ) → k < length symbols → begins (All a) (take (suc k) symbols) ≡ true
    all-all_begin k l = all-live (suc k) (add-one-first k (λ n. (acts_along acts (alls.start_of a.machine) (take n xs)).dead ≡ false) (none k (let m = all-many in omega arith)))

    pub all-none_stuck : alls.accepts_at a.machine end ≡ true → None ≡ stuck_in (Some (All a)) symbols
    all-none_stuck e = one-stuck (All a) symbols None (stuck_in (Some (All a)) symbols)
        (all-all_begin, ap (alls.accepts_at a.machine) (sym (at_end ∙ all-led_whole)) ∙ e) (stuck-is (All a) symbols)

    pub all-end_stuck : (count : ℕ) → count ≡ length symbols → alls.accepts_at a.machine end ≡ false → Some count ≡ stuck_in (Some (All a)) symbols
    all-end_stuck count c e = one-stuck (All a) symbols (Some count) (stuck_in (Some (All a)) symbols)
        ((λ k l. all-all_begin k (omega arith)), inr (c, ap (alls.accepts_at a.machine) (sym (at_end ∙ all-led_whole)) ∙ e)) (stuck-is (All a) symbols)
