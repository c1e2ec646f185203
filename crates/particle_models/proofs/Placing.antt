-- Different terms of a model have different places, and the list of its terms numbers them.
use Rattle.std.proofs.Common.{◌≡◌, ℕ, zero, suc, None, Some, ◌+◌, ◌-◌, ◌<◌, ◌≤◌, List, [], ◌∷◌, ◌++◌, length, get_or, refl, sym, ap, subst, ◌∙◌, inl, inr, arith, append_assoc, append-nil, length-append}
use Rattle.std.proofs.lemmas.Bool.{cases_lt}
use Rattle.std.proofs.lemmas.List.{get_or-append_right}
use Rattle.particle_models.specs.Particles.{Particle, Particles, term, sequence, choice, all_of, occurs, none, member, Path, Place}
use Rattle.particle_models.specs.Unrolled.{places, places_in, count, count_in}
use Rattle.particle_models.specs.Numbered.{AreNumbered, AreNumberedIn}

drop_front : (xs ys zs : List ℕ) → xs ++ ys ≡ xs ++ zs → ys ≡ zs
drop_front [] ys zs e = e
drop_front (x ∷ xs) ys zs e = drop_front xs ys zs (let h : xs ++ ys ≡ xs ++ zs = cc in h)

same_member : (path a b : List ℕ) (i j : ℕ) → (path ++ i ∷ []) ++ a ≡ (path ++ j ∷ []) ++ b → i ≡ j
same_member path a b i j e =
    let h : i ∷ a ≡ j ∷ b = drop_front path (i ∷ a) (j ∷ b) (sym (append_assoc path (i ∷ []) a) ∙ (e ∙ append_assoc path (j ∷ []) b)) in
    cc

module _ (place_of : ℕ → Place) where
  -- the path of each of these terms goes on from this one
  abbrev Under : Path → ℕ → Type 0
  Under path k = (rest : List ℕ) × ((place_of k).path ≡ path ++ rest)

  -- it goes on with a member from this one on
  abbrev UnderFrom : Path → ℕ → ℕ → Type 0
  UnderFrom path i k = (j : ℕ) × (i ≤ j) × Under (path ++ j ∷ []) k

  from_member : (path : Path) (i k : ℕ) → UnderFrom path i k → Under path k
  from_member path i k (j, l, (rest, e)) = (j ∷ rest, e ∙ append_assoc path (j ∷ []) rest)

  mutual
    under : (model : Particle) (path : Path) (next k : ℕ) → AreNumbered place_of model path next → next ≤ k → k < next + count model → Under path k
    under (term number) path next k is a b =
        let e : k ≡ next = omega arith in ([], ap (λ x. (place_of x).path) e ∙ (ap (λ l. l.path) is ∙ sym (append-nil path)))
    under (sequence members) path next k is a b = from_member path 0 k (under_in members path 0 next k is a b)
    under (choice members) path next k is a b = from_member path 0 k (under_in members path 0 next k is a b)
    under (all_of members) path next k is a b = absurd (omega arith)
    under (occurs least None part) path next k is a b = under part path next k is a b
    under (occurs least (Some zero) part) path next k is a b = absurd (omega arith)
    under (occurs least (Some (suc most)) part) path next k is a b = under part path next k is a b

    under_in : (members : Particles) (path : Path) (i next k : ℕ) → AreNumberedIn place_of members path i next → next ≤ k → k < next + count_in members → UnderFrom path i k
    under_in none path i next k is a b = absurd (omega arith)
    under_in (member first rest) path i next k is a b =
        elim (cases_lt k (next + count first)) [
          | inl l ↦ (i, omega arith, under first (path ++ i ∷ []) next k is.0 a l)
          | inr l ↦ (let r = under_in rest path (suc i) (next + count first) k is.1 l (omega arith) in (r.0, omega arith, r.2))
        ]

  -- two terms, of which the one is of this member and the other of a later one
  apart : (path : Path) (i j k : ℕ) → Under (path ++ i ∷ []) j → UnderFrom path (suc i) k → (place_of j).path ≡ (place_of k).path → ⊥
  apart path i j k (a, e) (m, l, (b, f)) same =
      let h : i ≡ m = same_member path a b i m (sym e ∙ (same ∙ f)) in omega arith

  -- terms with these numbers have one path only where they are one
  abbrev Differ : ℕ → ℕ → Type 0
  Differ from to = (j k : ℕ) → from ≤ j → j < to → from ≤ k → k < to → (place_of j).path ≡ (place_of k).path → j ≡ k

  member_differs : (first : Particle) (rest : Particles) (path : Path) (i next : ℕ) →
      AreNumbered place_of first (path ++ i ∷ []) next → AreNumberedIn place_of rest path (suc i) (next + count first) →
      Differ next (next + count first) → Differ (next + count first) ((next + count first) + count_in rest) →
      Differ next (next + (count first + count_in rest))
  member_differs first rest path i next is are x y j k a b c d e =
      elim (cases_lt j (next + count first)) [
        | inl l ↦ elim (cases_lt k (next + count first)) [
          | inl m ↦ x j k a l c m e
          | inr m ↦ absurd (apart path i j k (under first (path ++ i ∷ []) next j is a l) (under_in rest path (suc i) (next + count first) k are m (omega arith)) e)
        ]
        | inr l ↦ elim (cases_lt k (next + count first)) [
          | inl m ↦ absurd (apart path i k j (under first (path ++ i ∷ []) next k is c m) (under_in rest path (suc i) (next + count first) j are l (omega arith)) (sym e))
          | inr m ↦ y j k l (omega arith) m (omega arith) e
        ]
      ]

  mutual
    pub differ : (model : Particle) (path : Path) (next : ℕ) → AreNumbered place_of model path next → Differ next (next + count model)
    differ (term number) path next is = λ j k a b c d e. omega arith
    differ (sequence members) path next is = differ_in members path 0 next is
    differ (choice members) path next is = differ_in members path 0 next is
    differ (all_of members) path next is = λ j k a b c d e. absurd (omega arith)
    differ (occurs least None part) path next is = differ part path next is
    differ (occurs least (Some zero) part) path next is = λ j k a b c d e. absurd (omega arith)
    differ (occurs least (Some (suc most)) part) path next is = differ part path next is

    differ_in : (members : Particles) (path : Path) (i next : ℕ) → AreNumberedIn place_of members path i next → Differ next (next + count_in members)
    differ_in none path i next is = λ j k a b c d e. absurd (omega arith)
    differ_in (member first rest) path i next is =
        member_differs first rest path i next is.0 is.1
        (differ first (path ++ i ∷ []) next is.0) (differ_in rest path (suc i) (next + count first) is.1)

-- the list of the terms numbers them, from where it stands
module _ (d : Place) where
  abbrev at : List Place → ℕ → Place
  at xs k = get_or xs k d

  at_middle : (before after : List Place) (x : Place) → at (before ++ x ∷ after) (length before) ≡ x
  at_middle before after x = get_or-append_right before (x ∷ after) (length before) (length before) d refl (omega arith) ∙ ap (λ k. get_or (x ∷ after) k d) (let z : length before - length before ≡ 0 = omega arith in z)

  mutual
    pub length_places : (model : Particle) (path : Path) → length (places model path) ≡ count model
    length_places (term number) path = refl
    length_places (sequence members) path = length_places_in members path 0
    length_places (choice members) path = length_places_in members path 0
    length_places (all_of members) path = refl
    length_places (occurs least None part) path = length_places part path
    length_places (occurs least (Some zero) part) path = refl
    length_places (occurs least (Some (suc most)) part) path = length_places part path

    length_places_in : (members : Particles) (path : Path) (i : ℕ) → length (places_in members path i) ≡ count_in members
    length_places_in none path i = refl
    length_places_in (member first rest) path i =
        let a = length_places first (path ++ i ∷ []) in let b = length_places_in rest path (suc i) in
        length-append (places first (path ++ i ∷ [])) (places_in rest path (suc i)) ∙ (let z : length (places first (path ++ i ∷ [])) + length (places_in rest path (suc i)) ≡ count first + count_in rest = omega arith in z)

  member_numbered : (first : Particle) (rest : Particles) (path : Path) (i : ℕ) (before ls ms after : List Place) → length ls ≡ count first →
      AreNumbered (at (before ++ (ls ++ (ms ++ after)))) first (path ++ i ∷ []) (length before) →
      AreNumberedIn (at ((before ++ ls) ++ (ms ++ after))) rest path (suc i) (length (before ++ ls)) →
      AreNumbered (at (before ++ ((ls ++ ms) ++ after))) first (path ++ i ∷ []) (length before) ×
      AreNumberedIn (at (before ++ ((ls ++ ms) ++ after))) rest path (suc i) (length before + count first)
  member_numbered first rest path i before ls ms after l a b =
      let e : ls ++ (ms ++ after) ≡ (ls ++ ms) ++ after = sym (append_assoc ls ms after) in
      let f : (before ++ ls) ++ (ms ++ after) ≡ before ++ ((ls ++ ms) ++ after) = append_assoc before ls (ms ++ after) ∙ ap (λ xs. before ++ xs) e in
      let n : length (before ++ ls) ≡ length before + count first = length-append before ls ∙ ap (λ k. length before + k) l in (
        subst (λ (xs : List Place). AreNumbered (at (before ++ xs)) first (path ++ i ∷ []) (length before)) e a,
        subst (λ (k : ℕ). AreNumberedIn (at (before ++ ((ls ++ ms) ++ after))) rest path (suc i) k) n
            (subst (λ (xs : List Place). AreNumberedIn (at xs) rest path (suc i) (length (before ++ ls))) f b),
      )

  mutual
    pub numbered : (model : Particle) (path : Path) (before after : List Place) →
        AreNumbered (at (before ++ (places model path ++ after))) model path (length before)
    numbered (term number) path before after = at_middle before after record { path = path; number = number }
    numbered (sequence members) path before after = numbered_in members path 0 before after
    numbered (choice members) path before after = numbered_in members path 0 before after
    numbered (all_of members) path before after = tt
    numbered (occurs least None part) path before after = numbered part path before after
    numbered (occurs least (Some zero) part) path before after = tt
    numbered (occurs least (Some (suc most)) part) path before after = numbered part path before after

    numbered_in : (members : Particles) (path : Path) (i : ℕ) (before after : List Place) →
        AreNumberedIn (at (before ++ (places_in members path i ++ after))) members path i (length before)
    numbered_in none path i before after = tt
    numbered_in (member first rest) path i before after =
        member_numbered first rest path i before (places first (path ++ i ∷ [])) (places_in rest path (suc i)) after (length_places first (path ++ i ∷ []))
        (numbered first (path ++ i ∷ []) before (places_in rest path (suc i) ++ after))
        (numbered_in rest path (suc i) (before ++ places first (path ++ i ∷ [])) after)
