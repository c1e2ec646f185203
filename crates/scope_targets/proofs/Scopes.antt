-- What all elements come to as targets of a constraint of one scope.
use Rattle.std.proofs.Common.{◌≡◌, ◌≤◌, ◌==◌, ◌&&◌, ◌||◌, ℕ, Bool, true, false, if◌then◌else◌, nat_eq, List, [], ◌∷◌, ◌++◌, map, inl, inr, refl, sym, ap, ◌∙◌, arith, append_assoc, append-nil}
use Rattle.std.specs.List.{flat_map, filter}
use Rattle.std.proofs.lemmas.Bool.{eqb-true, eq-eqb}
use Rattle.std.proofs.lemmas.Grind.{flat_map-append}
use Rattle.xs_names.specs.Names.{NameTable}
use Rattle.xs_components.specs.Tables.{Tables}
use Rattle.xpath_subset.specs.declared.paths.IdentityPaths.{IdentityPaths}
use Rattle.identity_constraints.specs.Counting.{weight}
use Rattle.identity_constraints.proofs.Bearers.{same_or_other}
use Rattle.identity_constraints.specs.Seen.{KeyElement, KeyForest, none, element, Reached, from_above, reached_below, reached_from}
use Rattle.identity_constraints.specs.Targets.{Outcome, constraints_of, has_constraint, is_target, outcome_at, outcomes, paths_of}
use Rattle.path_walk.specs.inside.Walk.{reached}
use Rattle.scope_targets.specs.Targetings.{Targeting, is_among, targeting_for, targeting_first, targetings_for, targetings_up, targetings_of, targetings_along, outcome_for, outcomes_for, HasWithin, uses}

off-eq : (m n : ℕ) (b : Bool) → nat_eq m n ≡ b → (m ≡ n → ⊥) → nat_eq m n ≡ false
off-eq m n true e off = absurd (off (eqb-true m n e))
off-eq m n false e off = e

pub off : (m n : ℕ) → (m ≡ n → ⊥) → nat_eq m n ≡ false
off m n apart = off-eq m n (nat_eq m n) refl apart

pub filtered : {A B : Type 0} (p : A → Bool) (h : A → B) (xs : List A) → flat_map (λ x. if p x then h x ∷ [] else []) xs ≡ map h (filter p xs)
filtered p h [] = refl
filtered p h (x ∷ xs) = by (p x) refl (filtered p h xs)
  where
    by : (b : Bool) → p x ≡ b → flat_map (λ y. if p y then h y ∷ [] else []) xs ≡ map h (filter p xs) → flat_map (λ y. if p y then h y ∷ [] else []) (x ∷ xs) ≡ map h (filter p (x ∷ xs))
    by true e rest = rw e (ap (λ ys. h x ∷ ys) rest)
    by false e rest = rw e rest

abbrev no_outcome : Reached → List Outcome
no_outcome r = []

nothing : (rs : List Reached) → flat_map no_outcome rs ≡ []
nothing [] = refl
nothing (r ∷ rs) = nothing rs

abbrev one_if : ℕ → ℕ → ℕ
one_if m n = if m == n then 1 else 0

once : (m n : ℕ) → m ≡ n → one_if m n ≡ 1
once m n e = ap weight (eq-eqb m n e)

-- behind a way
abbrev pub after : List ℕ → Reached → Reached
after way r = reached (way ++ r.way) r.own r.below

pub further : {A : Type 0} (q : Reached → List A) (way : List ℕ) (name : ℕ) (rs : List Reached)
    → flat_map (λ r. q (after way r)) (map (from_above name) rs) ≡ flat_map (λ r. q (after (way ++ name ∷ []) r)) rs
further q way name [] = refl
further q way name (r ∷ rs) = λ i. q (reached (sym (append_assoc way (name ∷ []) r.way) i) r.own r.below) ++ further q way name rs i

-- the names of elements that are above one another, the nearest first, on a way down in front of another
abbrev names_down : List KeyElement → List ℕ → List ℕ
names_down [] way = way
names_down (u ∷ us) way = names_down us (u.name ∷ way)

names-on : (us : List KeyElement) (way : List ℕ) → names_down us way ≡ names_down us [] ++ way
names-on [] way = refl
names-on (u ∷ us) way = names-on us (u.name ∷ way) ∙ sym (append_assoc (names_down us []) (u.name ∷ []) way) ∙ ap (λ front. front ++ way) (sym (names-on us (u.name ∷ [])))

module _ (names : NameTable) (t : Tables) (identities : List IdentityPaths) (e : KeyElement) (k : ℕ) where
  abbrev for_it : List Targeting → List Outcome
  for_it found = outcomes_for e.number k found

  abbrev both : (xs ys : List Targeting) → for_it (xs ++ ys) ≡ for_it xs ++ for_it ys
  both xs ys = flat_map-append (outcome_for e.number k) xs ys

  -- what an element comes to, where it is reached
  abbrev if_reached : Reached → List Outcome
  if_reached r = if is_target names (paths_of identities k).selector r then outcome_at names t identities k r ∷ [] else []

  abbrev if_listed : List ℕ → Reached → List Outcome
  if_listed ks r = if is_among k ks then if_reached r else []

  abbrev listed : Reached → List Outcome
  listed r = if_listed (constraints_of t e) r

  -- ---- one element, by one scope

  one-here : (r : Reached) (b : Bool) → for_it (if b then record { scope = e.number; constraint = k; outcome = outcome_at names t identities k r } ∷ [] else []) ≡ (if b then outcome_at names t identities k r ∷ [] else [])
  one-here r false = refl
  one-here r true = λ i. (if eq-eqb e.number e.number refl i && eq-eqb k k refl i then outcome_at names t identities k r ∷ [] else []) ++ []

  one-other : (j : ℕ) (r : Reached) → (j ≡ k → ⊥) → (b : Bool) → for_it (if b then record { scope = e.number; constraint = j; outcome = outcome_at names t identities j r } ∷ [] else []) ≡ []
  one-other j r apart false = refl
  one-other j r apart true = λ i. (if eq-eqb e.number e.number refl i && off j k apart i then outcome_at names t identities j r ∷ [] else []) ++ []

  first-other : (j : ℕ) (js : List ℕ) (r : Reached) → (j ≡ k → ⊥) → for_it (targeting_first names t identities e.number j js r) ≡ []
  first-other j js r apart = by (is_among j js)
    where
      by : (b : Bool) → for_it (if b then [] else targeting_for names t identities e.number j r) ≡ []
      by true = refl
      by false = one-other j r apart (is_target names (paths_of identities j).selector r)

  -- the constraint itself is the first of some
  first-same : (js : List ℕ) (r : Reached) (b : Bool) → is_among k js ≡ b → for_it (targeting_first names t identities e.number k js r) ++ if_listed js r ≡ if_reached r
  first-same js r true is = λ i. for_it (if is i then [] else targeting_for names t identities e.number k r) ++ (if is i then if_reached r else [])
  first-same js r false is =
      (λ i. for_it (if is i then [] else targeting_for names t identities e.number k r) ++ (if is i then if_reached r else []))
      ∙ append-nil (for_it (targeting_for names t identities e.number k r)) ∙ one-here r (is_target names (paths_of identities k).selector r)

  by-itself : (ks : List ℕ) (r : Reached) → for_it (targetings_for names t identities e.number ks r) ≡ if_listed ks r
  by-itself [] r = refl
  by-itself (j ∷ js) r =
      both (targeting_first names t identities e.number j js r) (targetings_for names t identities e.number js r)
      ∙ elim (same_or_other j k) [
        | inl is ↦
            (λ i. for_it (targeting_first names t identities e.number (is i) js r) ++ by-itself js r i)
            ∙ first-same js r (is_among k js) refl ∙ ap (λ b. if b || is_among k js then if_reached r else []) (sym (eq-eqb j k is))
        | inr apart ↦
            (λ i. first-other j js r apart i ++ by-itself js r i) ∙ ap (λ b. if b || is_among k js then if_reached r else []) (sym (off j k apart))
      ]

  -- ---- by scopes of other numbers

  abbrev Others : List KeyElement → Type 0
  Others [] = Unit {0}
  Others (s ∷ ss) = (s.number ≡ e.number → ⊥) × Others ss

  other-one : (scope j : ℕ) (r : Reached) → (scope ≡ e.number → ⊥) → (b : Bool) → for_it (if b then record { scope = scope; constraint = j; outcome = outcome_at names t identities j r } ∷ [] else []) ≡ []
  other-one scope j r apart false = refl
  other-one scope j r apart true = λ i. (if off scope e.number apart i && nat_eq j k then outcome_at names t identities j r ∷ [] else []) ++ []

  other-first : (scope j : ℕ) (js : List ℕ) (r : Reached) → (scope ≡ e.number → ⊥) → for_it (targeting_first names t identities scope j js r) ≡ []
  other-first scope j js r apart = by (is_among j js)
    where
      by : (b : Bool) → for_it (if b then [] else targeting_for names t identities scope j r) ≡ []
      by true = refl
      by false = other-one scope j r apart (is_target names (paths_of identities j).selector r)

  by-other : (scope : ℕ) (ks : List ℕ) (r : Reached) → (scope ≡ e.number → ⊥) → for_it (targetings_for names t identities scope ks r) ≡ []
  by-other scope [] r apart = refl
  by-other scope (j ∷ js) r apart =
      both (targeting_first names t identities scope j js r) (targetings_for names t identities scope js r) ∙ (λ i. other-first scope j js r apart i ++ by-other scope js r apart i)

  by-others : (way : List ℕ) (own : KeyElement) (below : KeyForest) (above : List KeyElement) → Others above → for_it (targetings_up names t identities way own below above) ≡ []
  by-others way own below [] others = refl
  by-others way own below (s ∷ ss) others =
      both (targetings_for names t identities s.number (constraints_of t s) (reached way own below)) (targetings_up names t identities (s.name ∷ way) own below ss)
      ∙ (λ i. by-other s.number (constraints_of t s) (reached way own below) others.0 i ++ by-others (s.name ∷ way) own below ss others.1 i)

  -- ---- by scopes of which it is one

  by-all : (us over : List KeyElement) (way : List ℕ) (own : KeyElement) (below : KeyForest) → Others us → Others over
      → for_it (targetings_up names t identities way own below (us ++ e ∷ over)) ≡ listed (reached (names_down us way) own below)
  by-all [] over way own below others above =
      both (targetings_for names t identities e.number (constraints_of t e) (reached way own below)) (targetings_up names t identities (e.name ∷ way) own below over)
      ∙ (λ i. by-itself (constraints_of t e) (reached way own below) i ++ by-others (e.name ∷ way) own below over above i)
      ∙ append-nil (listed (reached way own below))
  by-all (u ∷ us) over way own below others above =
      both (targetings_for names t identities u.number (constraints_of t u) (reached way own below)) (targetings_up names t identities (u.name ∷ way) own below (us ++ e ∷ over))
      ∙ (λ i. by-other u.number (constraints_of t u) (reached way own below) others.0 i ++ by-all us over (u.name ∷ way) own below others.1 above i)

  -- ---- all elements

  apart-own : (own : KeyElement) (below next : KeyForest) → uses e.number (element own below next) ≡ 0 → own.number ≡ e.number → ⊥
  apart-own own below next without is = let one = once own.number e.number is in absurd (omega (arith, without, one))

  none-below : (own : KeyElement) (below next : KeyForest) → uses e.number (element own below next) ≡ 0 → uses e.number below ≡ 0
  none-below own below next without = omega (arith, without)

  none-next : (own : KeyElement) (below next : KeyForest) → uses e.number (element own below next) ≡ 0 → uses e.number next ≡ 0
  none-next own below next without = omega (arith, without)

  -- one element, those below it, and those behind it
  three : (a b c : List Targeting) → for_it (a ++ (b ++ c)) ≡ for_it a ++ (for_it b ++ for_it c)
  three a b c = both a (b ++ c) ∙ ap (λ xs. for_it a ++ xs) (both b c)

  along-others : (above : List KeyElement) (f : KeyForest) → Others above → uses e.number f ≡ 0 → for_it (targetings_along names t identities above f) ≡ []
  along-others above none others without = refl
  along-others above (element own below next) others without =
      let mine : Others (own ∷ above) = (apart-own own below next without, others) in
      three (targetings_of names t identities above own below) (targetings_along names t identities (own ∷ above) below) (targetings_along names t identities above next)
      ∙ (λ i. by-others [] own below (own ∷ above) mine i ++ (along-others (own ∷ above) below mine (none-below own below next without) i ++ along-others above next others (none-next own below next without) i))

  -- those below the scope, at the end of a way
  along-below : (us over : List KeyElement) (f : KeyForest) → Others us → Others over → uses e.number f ≡ 0
      → for_it (targetings_along names t identities (us ++ e ∷ over) f) ≡ flat_map (λ r. listed (after (names_down us []) r)) (reached_below f)
  along-below us over none others above without = refl
  along-below us over (element own below next) others above without =
      let mine : Others (own ∷ us) = (apart-own own below next without, others) in
      let way = names_down us [] in
      let down : names_down us (own.name ∷ []) ≡ way ++ own.name ∷ [] = names-on us (own.name ∷ []) in
      let q : Reached → List Outcome = listed in
      three (targetings_of names t identities (us ++ e ∷ over) own below) (targetings_along names t identities (own ∷ (us ++ e ∷ over)) below) (targetings_along names t identities (us ++ e ∷ over) next)
      ∙ (λ i.
      by-all (own ∷ us) over [] own below mine above i
      ++ (along-below (own ∷ us) over below mine above (none-below own below next without) i ++ along-below us over next others above (none-next own below next without) i))
      ∙ (λ i. listed (reached (down i) own below) ++ (flat_map (λ r. listed (after (down i) r)) (reached_below below) ++ flat_map (λ r. listed (after way r)) (reached_below next)))
      ∙ ap (λ xs. listed (reached (way ++ own.name ∷ []) own below) ++ (xs ++ flat_map (λ r. listed (after way r)) (reached_below next))) (sym (further q way own.name (reached_below below)))
      ∙ ap (λ xs. listed (reached (way ++ own.name ∷ []) own below) ++ xs) (sym (flat_map-append (λ r. listed (after way r)) (map (from_above own.name) (reached_below below)) (reached_below next)))

  -- the scope with all below it
  scope-outcomes : (below : KeyForest) → flat_map listed (reached_from e below) ≡ outcomes names t identities k e below
  unfolding outcomes
  scope-outcomes below = by (is_among k (constraints_of t e)) refl
    where
      targets : List Outcome
      targets = map (outcome_at names t identities k) (filter (is_target names (paths_of identities k).selector) (reached_from e below))

      by : (b : Bool) → is_among k (constraints_of t e) ≡ b → flat_map listed (reached_from e below) ≡ (if has_constraint names t identities k e then targets else [])
      by true is =
          ap (λ (b : Bool). flat_map (λ r. if b then if_reached r else []) (reached_from e below)) is
          ∙ filtered (is_target names (paths_of identities k).selector) (outcome_at names t identities k) (reached_from e below)
          ∙ ap (λ (b : Bool). if b then targets else []) (sym is)
      by false is =
          ap (λ (b : Bool). flat_map (λ r. if b then if_reached r else []) (reached_from e below)) is
          ∙ nothing (reached_from e below)
          ∙ ap (λ (b : Bool). if b then targets else []) (sym is)

  at-scope : (above : List KeyElement) (below next : KeyForest) → Others above → uses e.number below ≡ 0 → uses e.number next ≡ 0
      → for_it (targetings_along names t identities above (element e below next)) ≡ outcomes names t identities k e below
  at-scope above below next others without later =
      three (targetings_of names t identities above e below) (targetings_along names t identities (e ∷ above) below) (targetings_along names t identities above next)
      ∙ (λ i. by-all [] above [] e below tt others i ++ (along-below [] above below tt others without i ++ along-others above next others later i))
      ∙ ap (λ xs. listed (reached [] e below) ++ xs) (append-nil (flat_map listed (reached_below below)))
      ∙ scope-outcomes below

  has-uses : (below f : KeyForest) → HasWithin e below f → 1 ≤ uses e.number f
  has-uses below none has = absurd has
  has-uses below (element own under next) (inl is) =
      let one = once own.number e.number (ap (λ (x : KeyElement). x.number) is.0) in
      omega (arith, one)
  has-uses below (element own under next) (inr (inl has)) = let h = has-uses below under has in omega (arith, h)
  has-uses below (element own under next) (inr (inr has)) = let h = has-uses below next has in omega (arith, h)

  pub scoped : (above : List KeyElement) (f below : KeyForest) → Others above → uses e.number f ≤ 1 → HasWithin e below f
      → for_it (targetings_along names t identities above f) ≡ outcomes names t identities k e below
  scoped above none below others few has = absurd has
  scoped above (element own under next) below others few (inl is) =
      let one = once own.number e.number (ap (λ (x : KeyElement). x.number) is.0) in
      ap (λ (x : KeyElement). for_it (targetings_along names t identities above (element x under next))) is.0
      ∙ at-scope above under next others (omega (arith, one, few)) (omega (arith, one, few))
      ∙ ap (λ (g : KeyForest). outcomes names t identities k e g) is.1
  scoped above (element own under next) below others few (inr (inl has)) =
      let there = has-uses below under has in
      let apart : own.number ≡ e.number → ⊥ = λ is. let one = once own.number e.number is in absurd (omega (arith, one, few, there)) in
      let mine : Others (own ∷ above) = (apart, others) in
      three (targetings_of names t identities above own under) (targetings_along names t identities (own ∷ above) under) (targetings_along names t identities above next)
      ∙ (λ i. by-others [] own under (own ∷ above) mine i ++ (scoped (own ∷ above) under below mine (omega (arith, few)) has i ++ along-others above next others (omega (arith, few, there)) i))
      ∙ append-nil (outcomes names t identities k e below)
  scoped above (element own under next) below others few (inr (inr has)) =
      let there = has-uses below next has in
      let apart : own.number ≡ e.number → ⊥ = λ is. let one = once own.number e.number is in absurd (omega (arith, one, few, there)) in
      let mine : Others (own ∷ above) = (apart, others) in
      three (targetings_of names t identities above own under) (targetings_along names t identities (own ∷ above) under) (targetings_along names t identities above next)
      ∙ (λ i. by-others [] own under (own ∷ above) mine i ++ (along-others (own ∷ above) under mine (omega (arith, few, there)) i ++ scoped above next below others (omega (arith, few)) has i))
