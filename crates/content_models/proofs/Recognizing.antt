-- The states of an all recognize its words.
use Rattle.std.proofs.Common.{◌≡◌, ◌≢◌, ℕ, zero, suc, ◌<◌, ◌≤◌, ◌==◌, ◌&&◌, ◌||◌, ◌⊎◌, ◌↔◌, not, Bool, true, false, IsTrue, List, [], ◌∷◌, ◌++◌, Option, map, length, get_or, refl, sym, ap, subst, ◌∙◌, inl, inr, arith, eqb-true, eq-eqb}
use Rattle.std.specs.Prelude.{nat_lt, bit_and}
use Rattle.std.specs.List.{All}
use Rattle.std.specs.Int.{bit_at}
use Rattle.std.proofs.lemmas.Bool.{cases_eq, false≢true}
use Rattle.std.proofs.lemmas.Bool.Decides.{nat_tests}
use Rattle.std.proofs.lemmas.Nat.Bits.{bit_at_and, bit_at-zero, bit_at-lt, same_from_bits}
use Rattle.std.proofs.lemmas.List.Elements.{All-nil, All-cons, All-head}
use Rattle.xs_positions.specs.PositionWords.{Allows}
use Rattle.particle_models.specs.Particles.{Particle, Mark}
use Rattle.particle_models.specs.Words.{Words, WordsOfEach, IsWordOfNames, BeginsWord, names_of}
use Rattle.content_models.specs.Shape.{no_member, particles_of, IsAllOf, IsOnce, AreLetters}
use Rattle.content_models.specs.States.{is_new, next_of, start_of, accepts_at, state_of, IsMachineOf, Recognizes}
use Rattle.content_models.specs.declared.member.AllMember.{AllMember}
use Rattle.content_models.specs.declared.state.AllState.{AllState}
use Rattle.content_models.specs.declared.machine.AllMachine.{AllMachine}
use Rattle.content_models.proofs.Around.{within_words, words_within}
use Rattle.content_models.proofs.Lettering.{count_in, in_same, IsGood, IsFull, each_full, full_each, begins_good, good_begins}
use Rattle.content_models.proofs.Running.{Stands, AreKnown, run_stands, start_stands, dead_stays}

no_names : {Name : Type 0} (word : List (Mark Name)) → names_of word ≡ [] → word ≡ []
no_names [] e = refl
no_names (x ∷ word) e = absurd (cc)

no_front : {X : Type 0} (xs ys : List X) → xs ++ ys ≡ [] → xs ≡ []
no_front [] ys e = refl
no_front (x ∷ xs) ys e = absurd (cc)

-- ---- the words of the whole, of those of the all itself
module _ {Name : Type 0} (accepts : ℕ → Name → Bool) (members : List AllMember) (optional : Bool) (model : Particle) (is : IsAllOf members optional model) where
  abbrev pub Each : List (Mark Name) → Type 0
  Each word = WordsOfEach accepts (particles_of members) [] 0 word

  pub model_words : (word : List (Mark Name)) → Words accepts model [] word → (IsTrue optional × (word ≡ [])) ⊎ Each word
  model_words word w =
      let h = within_words accepts members is.outer word (subst (λ (p : Particle). Words accepts p [] word) is.model_is w) in
      subst (λ (b : Bool). (IsTrue b × (word ≡ [])) ⊎ Each word) (sym is.optional_is) h

  pub words_model : (word : List (Mark Name)) → (IsTrue optional × (word ≡ [])) ⊎ Each word → Words accepts model [] word
  words_model word h =
      subst (λ (p : Particle). Words accepts p [] word) (sym is.model_is)
      (words_within accepts members is.outer word is.once (subst (λ (b : Bool). (IsTrue b × (word ≡ [])) ⊎ Each word) is.optional_is h))

  pub names_word : (names : List Name) → IsWordOfNames accepts model names ↔ ((IsTrue optional × (names ≡ [])) ⊎ ((word : List (Mark Name)) × Each word × (names_of word ≡ names)))
  names_word names = (
    (λ h. elim (model_words h.0 h.1) [
      | inl o ↦ inl (o.0, sym h.2 ∙ ap names_of o.1)
      | inr w ↦ inr (h.0, w, h.2)
    ]),
    (λ h. elim h [
      | inl o ↦ ([], words_model [] (inl (o.0, refl)), sym o.1)
      | inr w ↦ (w.0, words_model w.0 (inr w.1), w.2)
    ]),
  )

  pub names_begin : (names : List Name) → BeginsWord accepts model names ↔ ((IsTrue optional × (names ≡ [])) ⊎ ((front rest : List (Mark Name)) × Each (front ++ rest) × (names_of front ≡ names)))
  names_begin names = (
    (λ h. elim (model_words (h.0 ++ h.1) h.2) [
      | inl o ↦ inl (o.0, sym h.3 ∙ ap names_of (no_front h.0 h.1 o.1))
      | inr w ↦ inr (h.0, h.1, w, h.3)
    ]),
    (λ h. elim h [
      | inl o ↦ ([], [], words_model [] (inl (o.0, refl)), sym o.1)
      | inr w ↦ (w.0, w.1, words_model (w.0 ++ w.1) (inr w.2), w.3)
    ]),
  )

-- ---- bits of all that is required
filled_bits : (seen required : ℕ) → bit_and seen required ≡ required → (i : ℕ) → bit_at required i ≡ 1 → bit_at seen i ≡ 1
filled_bits seen required e i r =
    let a = bit_at_and seen required i in let b : bit_at (bit_and seen required) i ≡ bit_at required i = ap (λ n. bit_at n i) e in
    let t = bit_at-lt seen i in omega arith

bits_filled : (seen required : ℕ) → ((i : ℕ) → bit_at required i ≡ 1 → bit_at seen i ≡ 1) → bit_and seen required ≡ required
bits_filled seen required h = same_from_bits (bit_and seen required) required (λ i. elim (cases_eq (bit_at required i) 1) [
  | inl e ↦ (let a = bit_at_and seen required i in let s = h i e in omega arith)
  | inr d ↦ (let a = bit_at_and seen required i in let t = bit_at-lt required i in let z = not_one (bit_at required i) t d in omega arith)
])
  where
    not_one : (n : ℕ) → n < 2 → n ≢ 1 → n ≡ 0
    not_one zero l d = refl
    not_one (suc zero) l d = absurd (d refl)
    not_one (suc (suc n)) l d = absurd (omega arith)

-- ---- tests
or_cases : (a b : Bool) → IsTrue (a || b) → IsTrue a ⊎ IsTrue b
or_cases true b t = inl refl
or_cases false b t = inr t

or_left : (a b : Bool) → IsTrue a → IsTrue (a || b)
or_left true b t = refl
or_left false b t = absurd (false≢true t)

or_right : (a b : Bool) → IsTrue b → IsTrue (a || b)
or_right true b t = refl
or_right false b t = t

and_both : (a b : Bool) → IsTrue (a && b) → IsTrue a × IsTrue b
and_both true b t = (refl, t)
and_both false b t = absurd (false≢true t)

both_and : (a b : Bool) → IsTrue a → IsTrue b → IsTrue (a && b)
both_and true b s t = t
both_and false b s t = absurd (false≢true s)

not_dead : (b : Bool) → IsTrue (not b) → b ≡ false
not_dead true t = absurd (false≢true t)
not_dead false t = refl

dead_not : (b : Bool) → b ≡ false → IsTrue (not b)
dead_not true e = absurd (false≢true (sym e))
dead_not false e = refl

module _ {Name : Type 0} (accepts : ℕ → Name → Bool) (members : List AllMember) (optional : Bool) (model : Particle) (is : IsAllOf members optional model)
    (once : All IsOnce members) (few : length members ≤ 64) (inhabited : List Bool) (m : AllMachine) (of : IsMachineOf inhabited members optional m) (letter : Name → ℕ) where
  -- ---- where each member that has to come accepts a name
  module _ (lives : m.has_words ≡ true) (are : AreLetters accepts members letter) (known : (name : Name) → (letter name < length members) ⊎ (64 ≤ letter name))
      (has : (j : ℕ) → j < length members → 0 < (get_or members j no_member).least → (name : Name) × IsTrue (accepts (get_or members j no_member).term name)) where
    all_known : (names : List Name) → AreKnown members few (map letter names)
    all_known [] = All-nil (λ l. (l < length members) ⊎ (64 ≤ l))
    all_known (name ∷ names) = All-cons (λ l. (l < length members) ⊎ (64 ≤ l)) (letter name) (map letter names) (known name) (all_known names)

    start_is : start_of m ≡ record { seen = 0; dead = false }
    start_is = λ i. record { seen = 0; dead = start_dead i }
      where
        start_dead : not (m.optional || m.has_words) ≡ false
        start_dead = rw lives (by m.optional)
          where
            by : (b : Bool) → not (b || true) ≡ false
            by true = refl
            by false = refl

    stands : (names : List Name) → Stands members few (map letter names) (state_of m (map letter names))
    stands names = run_stands members few [] (map letter names) (start_of m) (all_known names) (subst (Stands members few []) (sym start_is) (start_stands members few))

    empty_good : IsGood members []
    empty_good = (All-nil (λ k. k < length members), λ j b. (let z : count_in j [] ≡ 0 = refl in omega arith))

    live_of : (names : List Name) → ((state_of m (map letter names)).dead ≡ false) ↔ BeginsWord accepts model names
    live_of names = (
      (λ e. (names_begin accepts members optional model is names).1 (inr (good_begins accepts members letter are names once has ((stands names).alive e)))),
      (λ b. elim ((names_begin accepts members optional model is names).0 b) [
        | inl o ↦ subst (λ (xs : List Name). (state_of m (map letter xs)).dead ≡ false) (sym o.1) ((stands []).gone empty_good)
        | inr w ↦ (stands names).gone (begins_good accepts members letter are names once w)
      ]),
    )

    -- nothing was seen exactly where there are no names
    seen_none : (names : List Name) → (state_of m (map letter names)).dead ≡ false → (state_of m (map letter names)).seen ≡ 0 → names ≡ []
    seen_none [] e z = refl
    seen_none (name ∷ names) e z =
        let g = (stands (name ∷ names)).alive e in
        let l = All-head (λ k. k < length members) (letter name) (map letter names) g.0 in
        let b = (stands (name ∷ names)).bits e (letter name) l in
        let c = in_same (letter name) (letter name) (map letter names) refl in
        let y : bit_at (state_of m (map letter (name ∷ names))).seen (letter name) ≡ bit_at 0 (letter name) = ap (λ n. bit_at n (letter name)) z in
        let w = bit_at-zero (letter name) in absurd (omega arith)

    once_allows : (a : AllMember) (k : ℕ) → IsOnce a → a.least ≤ k → k ≤ 1 → Allows a.least a.most k
    once_allows a k o x y = subst (λ (p : Option ℕ). Allows a.least p k) (sym o.1) (x, y)

    allows_least : (a : AllMember) (k : ℕ) → IsOnce a → Allows a.least a.most k → (a.least ≤ k) × (k ≤ 1)
    allows_least a k o x = subst (λ (p : Option ℕ). Allows a.least p k) o.1 x

    -- all that is required was seen exactly where the names are those of a word of the all
    full_then : (names : List Name) (e : (state_of m (map letter names)).dead ≡ false) → bit_and (state_of m (map letter names)).seen m.required ≡ m.required → IsFull members (map letter names)
    full_then names e r =
        let g = (stands names).alive e in (
          g.0,
          (λ j l. once_allows (get_or members j no_member) (count_in j (map letter names)) (once j no_member l)
              (least_then j l (cases_lt0 (get_or members j no_member).least)) (g.1 j l)),
        )
      where
        cases_lt0 : (n : ℕ) → (n ≡ 0) ⊎ (0 < n)
        cases_lt0 zero = inl refl
        cases_lt0 (suc n) = inr (omega arith)

        least_then : (j : ℕ) → j < length members → ((get_or members j no_member).least ≡ 0) ⊎ (0 < (get_or members j no_member).least) → (get_or members j no_member).least ≤ count_in j (map letter names)
        least_then j l (inl z) = omega arith
        least_then j l (inr p) =
            let b = filled_bits (state_of m (map letter names)).seen m.required r j ((of.required j).1 (l, p)) in
            let s = (stands names).bits e j l in let o = (once j no_member l).0 in omega arith

    then_full : (names : List Name) (e : (state_of m (map letter names)).dead ≡ false) → IsFull members (map letter names) → bit_and (state_of m (map letter names)).seen m.required ≡ m.required
    then_full names e f = bits_filled (state_of m (map letter names)).seen m.required (λ j b.
        let q = (of.required j).0 b in
        let s = (stands names).bits e j q.0 in
        let a = allows_least (get_or members j no_member) (count_in j (map letter names)) (once j no_member q.0) (f.1 j q.0) in
        let x = a.0 in let y = a.1 in let p = q.1 in omega arith)

    full_good : (ls : List ℕ) → IsFull members ls → IsGood members ls
    full_good ls f = (f.0, λ j l. (allows_least (get_or members j no_member) (count_in j ls) (once j no_member l) (f.1 j l)).1)

    accepting_of : (names : List Name) → IsTrue (accepts_at m (state_of m (map letter names))) ↔ IsWordOfNames accepts model names
    accepting_of names = (
      (λ t.
          let b = and_both (not (state_of m (map letter names)).dead) _ t in
          let e = not_dead (state_of m (map letter names)).dead b.0 in
          elim (or_cases (m.optional && ((state_of m (map letter names)).seen == 0)) _ b.1) [
            | inl o ↦ (
                let p = and_both m.optional ((state_of m (map letter names)).seen == 0) o in
                (names_word accepts members optional model is names).1
                (inl (subst IsTrue of.optional_is p.0, seen_none names e (eqb-true (state_of m (map letter names)).seen 0 p.1))))
            | inr f ↦ (names_word accepts members optional model is names).1
                (inr (full_each accepts members letter are names (full_then names e (eqb-true (bit_and (state_of m (map letter names)).seen m.required) m.required f))))
          ]),
      (λ w. elim ((names_word accepts members optional model is names).0 w) [
        | inl o ↦ subst (λ (xs : List Name). IsTrue (accepts_at m (state_of m (map letter xs)))) (sym o.1)
            (both_and (not (start_of m).dead) _ (dead_not (start_of m).dead ((stands []).gone empty_good))
            (or_left (m.optional && (0 == 0)) _ (both_and m.optional (0 == 0) (subst IsTrue (sym of.optional_is) o.0) refl)))
        | inr v ↦ (
            let f = each_full accepts members letter are names v in
            let e = (stands names).gone (full_good (map letter names) f) in
            both_and (not (state_of m (map letter names)).dead) _ (dead_not (state_of m (map letter names)).dead e)
            (or_right (m.optional && ((state_of m (map letter names)).seen == 0)) _ (eq-eqb (bit_and (state_of m (map letter names)).seen m.required) m.required (then_full names e f))))
      ]),
    )

    pub recognizes_words : Recognizes accepts model letter m
    recognizes_words = record { live = live_of; accepting = accepting_of }

  -- ---- where one of them accepts none
  module _ (lost : m.has_words ≡ false) (past : (name : Name) → 64 ≤ letter name) (lacks : (word : List (Mark Name)) → WordsOfEach accepts (particles_of members) [] 0 word → ⊥) where
    next_dead : (s : AllState) (name : Name) → (next_of s (letter name)).dead ≡ true
    next_dead s name =
        let t : nat_lt (letter name) 64 ≡ false = lt_false (letter name) 64 (past name) in
        let e : is_new s (letter name) ≡ false = rw t refl in rw e refl
      where
        lt_false : (a b : ℕ) → b ≤ a → nat_lt a b ≡ false
        lt_false a b k = grind (arith, nat_tests)

    gone_after : (name : Name) (names : List Name) → (state_of m (map letter (name ∷ names))).dead ≡ true
    gone_after name names = dead_stays (map letter names) (next_of (start_of m) (letter name)) (next_dead (start_of m) name)

    only_empty : (names : List Name) → (IsTrue optional × (names ≡ [])) ⊎ ((word : List (Mark Name)) × WordsOfEach accepts (particles_of members) [] 0 word × (names_of word ≡ names)) → IsTrue optional × (names ≡ [])
    only_empty names (inl o) = o
    only_empty names (inr w) = absurd (lacks w.0 w.1)

    only_empty_front : (names : List Name) →
        (IsTrue optional × (names ≡ [])) ⊎ ((front rest : List (Mark Name)) × WordsOfEach accepts (particles_of members) [] 0 (front ++ rest) × (names_of front ≡ names)) → IsTrue optional × (names ≡ [])
    only_empty_front names (inl o) = o
    only_empty_front names (inr w) = absurd (lacks (w.0 ++ w.1) w.2)

    start_dead : (start_of m).dead ≡ not optional
    start_dead = rw (of.optional_is, lost) (by optional)
      where
        by : (b : Bool) → not (b || false) ≡ not b
        by true = refl
        by false = refl

    optional_alive : not optional ≡ false → IsTrue optional
    optional_alive e = by optional e
      where
        by : (b : Bool) → not b ≡ false → IsTrue b
        by true e = refl
        by false e = absurd (false≢true (sym e))

    alive_optional : IsTrue optional → not optional ≡ false
    alive_optional t = ap not t

    lost_live : (names : List Name) → ((state_of m (map letter names)).dead ≡ false) ↔ BeginsWord accepts model names
    lost_live [] = (
      (λ e. (names_begin accepts members optional model is []).1 (inl (optional_alive (sym start_dead ∙ e), refl))),
      (λ b. start_dead ∙ alive_optional (only_empty_front [] ((names_begin accepts members optional model is []).0 b)).0),
    )
    lost_live (name ∷ names) = (
      (λ e. absurd (false≢true (sym e ∙ gone_after name names))),
      (λ b. absurd (let z : name ∷ names ≡ [] = (only_empty_front (name ∷ names) ((names_begin accepts members optional model is (name ∷ names)).0 b)).1 in cc)),
    )

    lost_accepting : (names : List Name) → IsTrue (accepts_at m (state_of m (map letter names))) ↔ IsWordOfNames accepts model names
    lost_accepting [] = (
      (λ t. (names_word accepts members optional model is []).1 (inl (optional_alive (sym start_dead ∙ not_dead (start_of m).dead (and_both (not (start_of m).dead) _ t).0), refl))),
      (λ w.
          let o = (only_empty [] ((names_word accepts members optional model is []).0 w)).0 in
          both_and (not (start_of m).dead) _ (dead_not (start_of m).dead (start_dead ∙ alive_optional o))
          (or_left (m.optional && (0 == 0)) _ (both_and m.optional (0 == 0) (subst IsTrue (sym of.optional_is) o) refl))),
    )
    lost_accepting (name ∷ names) = (
      (λ t. absurd (false≢true (sym (not_dead (state_of m (map letter (name ∷ names))).dead (and_both (not (state_of m (map letter (name ∷ names))).dead) _ t).0) ∙ gone_after name names))),
      (λ w. absurd (let z : name ∷ names ≡ [] = (only_empty (name ∷ names) ((names_word accepts members optional model is (name ∷ names)).0 w)).1 in cc)),
    )

    pub recognizes_empty : Recognizes accepts model letter m
    recognizes_empty = record { live = lost_live; accepting = lost_accepting }
