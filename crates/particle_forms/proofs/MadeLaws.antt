-- The particles of a model are met one after another.
use Rattle.std.proofs.Common.{◌≡◌, ℕ, ◌+◌, ◌<◌, ◌⊎◌, inl, inr, List, [], ◌∷◌, ◌++◌, Option, None, Some, Bool, true, false, if◌then◌else◌, map, length, slice_get, slice_index, refl, sym, ap, subst, ◌∙◌, arith, eqb-true}
use Rattle.std.specs.Prelude.{All as Each, Contains, IfSome, nat_eq}
use Rattle.std.specs.List.{list_any}
use Rattle.std.specs.List.Sorted.{IsPermutation}
use Rattle.std.proofs.lemmas.List.Elements.{All-nil, All-cons, All-append, All-weaker, All-contains, All-contains_itself, Contains-push, Contains-push_cases, Contains-append_left, Contains-append_right}
use Rattle.std.proofs.lemmas.List.Sorted.{All-permutation, Contains-permutation, IsPermutation-sym}
use Rattle.std.proofs.lemmas.Map.Views.{Contains-from_any}
use Rattle.xs_components.specs.Tables.{Tables}
use Rattle.xs_components.specs.declared.particle.Particle.{Particle as Part}
use Rattle.xs_components.specs.declared.particle.Term.{Term}
use Rattle.xs_components.specs.declared.particle.Term.TheVariants.{Element, Any, Group, Sequence, Choice, All}
use Rattle.component_references.specs.Ranked.{held_particles, named_group, IsBelow, IsRanked}
use Rattle.particle_models.specs.Nodes.{members_of}
use Rattle.particle_forms.specs.Models.{group_particle, group_model, term_model, part_model, model_of}
use Rattle.particle_forms.specs.Made.{listed, term_parts, part_parts, parts_of, size, sizes, work, Visits, AreAllParts}
use Rattle.particle_forms.proofs.ModelLaws.{group-lower, model_of_is}

listed-all : (P : ℕ → Type 0) (o : Option ℕ) → IfSome o P → Each P (listed o)
listed-all P None h = All-nil P
listed-all P (Some p) h = All-cons P p [] h (All-nil P)

module _ (t : Tables) where
  abbrev IsThere : ℕ → Type 0
  IsThere y = y < length t.particles.parts

  work-append : (xs ys : List ℕ) → work t (xs ++ ys) ≡ work t xs + work t ys
  work-append [] ys = omega arith
  work-append (x ∷ xs) ys = let r = work-append xs ys in omega arith

  work-members : (ms : List ℕ) → work t ms ≡ sizes (members_of (map (model_of t) ms))
  work-members [] = refl
  work-members (m ∷ ms) = let r = work-members ms in omega arith

  size-group : (o : Option ℕ) → work t (listed o) < 1 + size (group_model t (model_of t) o)
  size-group None = omega arith
  size-group (Some p) = omega arith

  size-term : (id : ℕ) (of : Term) → work t (term_parts t of) < 1 + size (term_model t (model_of t) id of)
  size-term id (Element e) = omega arith
  size-term id (Any w) = omega arith
  size-term id (Group g) = size-group (group_particle t g)
  size-term id (Sequence ms) = let r = work-members ms in omega arith
  size-term id (Choice ms) = let r = work-members ms in omega arith
  size-term id (All ms) = let r = work-members ms in omega arith

  size-part : (id : ℕ) (o : Option Part) → work t (part_parts t o) < size (part_model t (model_of t) id o)
  size-part id None = omega arith
  size-part id (Some part) = size-term id part.term

module _ (t : Tables) (ranked : IsRanked t) where
  -- what is right below a particle is there, and lower
  term-below : (height : ℕ) (of : Term) → Each (IsBelow t.particles height) (held_particles of) → IfSome (named_group of) (IsBelow t.groups height) → Each (IsBelow t.particles height) (term_parts t of)
  term-below height (Element e) held to = All-nil (IsBelow t.particles height)
  term-below height (Any w) held to = All-nil (IsBelow t.particles height)
  term-below height (Group g) held to = listed-all (IsBelow t.particles height) (group_particle t g) (group-lower t ranked height g to)
  term-below height (Sequence ms) held to = held
  term-below height (Choice ms) held to = held
  term-below height (All ms) held to = held

  pub parts-below : (x : ℕ) → Each (IsBelow t.particles (slice_index t.particles.ranks x)) (parts_of t x)
  parts-below x = of (slice_get t.particles.parts x) refl
    where
      of : (o : Option Part) → slice_get t.particles.parts x ≡ o → Each (IsBelow t.particles (slice_index t.particles.ranks x)) (part_parts t o)
      of None e = All-nil (IsBelow t.particles (slice_index t.particles.ranks x))
      of (Some part) e = term-below (slice_index t.particles.ranks x) part.term (ranked.particles x part e) (ranked.to_groups x part e)

  pub parts-there : (x : ℕ) → Each (IsThere t) (parts_of t x)
  parts-there x = All-weaker (IsBelow t.particles (slice_index t.particles.ranks x)) (IsThere t) (λ y low. low.there) (parts_of t x) (parts-below x)

  size-parts : (x : ℕ) → work t (parts_of t x) < size (model_of t x)
  size-parts x = subst (λ m. work t (parts_of t x) < size m) (sym (model_of_is t ranked x)) (size-part t x (slice_get t.particles.parts x))

  size-some : (x : ℕ) → 0 < size (model_of t x)
  size-some x = let h = size-parts x in omega arith

  module _ (x : ℕ) (part : Part) (is : slice_get t.particles.parts x ≡ Some part) where
    pub part-group : IfSome (named_group part.term) (λ g. g < length t.groups.parts)
    part-group = of (named_group part.term) (ranked.to_groups x part is)
      where
        of : (o : Option ℕ) → IfSome o (IsBelow t.groups (slice_index t.particles.ranks x)) → IfSome o (λ g. g < length t.groups.parts)
        of None h = tt
        of (Some g) h = h.there

    pub group-there : (g : ℕ) → part.term ≡ Group g → g < length t.groups.parts
    group-there g e = rw e at part-group

    pub term-known : (P : ℕ → Type 0) → Each P (parts_of t x) → Each P (term_parts t part.term)
    term-known P h = rw is at h

  module _ (id : ℕ) (old waiting : List ℕ) where
    -- it was met before
    pub visits-again : list_any (nat_eq id) old ≡ true → Visits t id old old waiting waiting
    visits-again met =
        let is : Contains old id = Contains-from_any (λ x y e. eqb-true x y e) id old met in
        record {
          kept = λ y h. h;
          itself = is;
          others = λ y h. inl h;
          waits = λ y h. h;
          below = inl is;
          there = λ h. h;
          less = (let s = size-some id in omega arith);
        }

    -- it is new
    pub visits-new : (new after : List ℕ) → new ≡ old ++ id ∷ [] → after ≡ waiting ++ parts_of t id → Visits t id old new waiting after
    visits-new new after e f = record {
      kept = λ y h. rw e (Contains-append_left old (id ∷ []) y h);
      itself = rw e (Contains-push old id);
      others = λ y h. elim (Contains-push_cases old id y (rw e at h)) [ inl was ↦ inl was | inr is ↦ inr (sym is) ];
      waits = λ y h. rw f (Contains-append_left waiting (parts_of t id) y h);
      below = inr (rw f (All-weaker (Contains (parts_of t id)) (Contains (waiting ++ parts_of t id)) (λ y h. Contains-append_right waiting (parts_of t id) y h) (parts_of t id) (All-contains_itself (parts_of t id))));
      there = λ h. rw f (All-append (IsThere t) waiting (parts_of t id) h (parts-there id));
      less = rw f (let s = size-parts id in let a = work-append t waiting (parts_of t id) in omega arith);
    }

-- what was met so far, and what waits
pub record IsMeeting (t : Tables) (root : ℕ) (found todo : List ℕ) : Type 0 where
  pub met : Each (λ y. y < length t.particles.parts) found
  pub there : Each (λ y. y < length t.particles.parts) todo
  pub begun : Contains found root ⊎ Contains todo root
  pub closed : (x : ℕ) → Contains found x → Each (λ y. Contains found y ⊎ Contains todo y) (parts_of t x)

none-in : (x : ℕ) → Contains [] x → ⊥
none-in x h = omega (arith, h.1)

module _ (t : Tables) (root : ℕ) where
  pub meeting-first : root < length t.particles.parts → (found todo : List ℕ) → found ≡ [] → todo ≡ [] ++ root ∷ [] → IsMeeting t root found todo
  meeting-first there found todo n e = rw (n, e) (record {
    met = All-nil (IsThere t);
    there = All-cons (IsThere t) root [] there (All-nil (IsThere t));
    begun = inr (Contains-push [] root);
    closed = λ x h. absurd (none-in x h);
  })

  pub popped-there : (id : ℕ) (old todo waiting : List ℕ) → IsMeeting t root old todo → todo ≡ waiting ++ id ∷ [] → id < length t.particles.parts
  popped-there id old todo waiting was popped = All-contains (IsThere t) todo id was.there (rw popped (Contains-push waiting id))

  module _ (id : ℕ) (old new todo waiting after : List ℕ) (was : IsMeeting t root old todo) (popped : todo ≡ waiting ++ id ∷ []) (visits : Visits t id old new waiting after) where
    waiting-there : Each (IsThere t) waiting
    waiting-there = All-weaker (Contains waiting) (IsThere t) (λ y h. All-contains (IsThere t) todo y was.there (rw popped (Contains-append_left waiting (id ∷ []) y h))) waiting (All-contains_itself waiting)

    moved : (y : ℕ) → Contains old y ⊎ Contains todo y → Contains new y ⊎ Contains after y
    moved y (inl h) = inl (visits.kept y h)
    moved y (inr h) = elim (Contains-push_cases waiting id y (rw popped at h)) [ inl w ↦ inr (visits.waits y w) | inr is ↦ inl (subst (Contains new) is visits.itself) ]

    closed-old : (x : ℕ) → Contains old x → Each (λ y. Contains new y ⊎ Contains after y) (parts_of t x)
    closed-old x h = All-weaker (λ y. Contains old y ⊎ Contains todo y) (λ y. Contains new y ⊎ Contains after y) moved (parts_of t x) (was.closed x h)

    closed-new : (x : ℕ) → x ≡ id → Each (λ y. Contains new y ⊎ Contains after y) (parts_of t x)
    closed-new x is = elim visits.below [
      | inl h ↦ closed-old x (rw is h)
      | inr all ↦ rw is (All-weaker (Contains after) (λ y. Contains new y ⊎ Contains after y) (λ y h. inr h) (parts_of t id) all)
    ]

    pub meeting-more : IsMeeting t root new after
    meeting-more = record {
      met = All-weaker (Contains new) (IsThere t) (λ y h. elim (visits.others y h) [ inl o ↦ All-contains (IsThere t) old y was.met o | inr is ↦ rw is (popped-there id old todo waiting was popped) ]) new (All-contains_itself new);
      there = visits.there waiting-there;
      begun = moved root was.begun;
      closed = λ x h. elim (visits.others x h) [ inl o ↦ closed-old x o | inr is ↦ closed-new x is ];
    }

    pub meeting-less : work t after < work t todo
    meeting-less = let l = visits.less in let e = ap (work t) popped in let a = work-append t waiting (id ∷ []) in omega arith

  found-or-none : (found todo : List ℕ) → todo ≡ [] → (y : ℕ) → Contains found y ⊎ Contains todo y → Contains found y
  found-or-none found todo e y (inl h) = h
  found-or-none found todo e y (inr h) = absurd (none-in y (rw e at h))

  pub meeting-done : (found todo : List ℕ) → todo ≡ [] → IsMeeting t root found todo → AreAllParts t root found
  meeting-done found todo e m = record {
    there = m.met;
    itself = found-or-none found todo e root m.begun;
    closed = λ x h. All-weaker (λ y. Contains found y ⊎ Contains todo y) (Contains found) (found-or-none found todo e) (parts_of t x) (m.closed x h);
  }

  pub all-permuted : (xs ys : List ℕ) → IsPermutation xs ys → AreAllParts t root xs → AreAllParts t root ys
  all-permuted xs ys moved all = record {
    there = All-permutation (IsThere t) xs ys moved all.there;
    itself = Contains-permutation xs ys root moved all.itself;
    closed = λ x h. All-weaker (Contains xs) (Contains ys) (λ y k. Contains-permutation xs ys y moved k) (parts_of t x) (all.closed x (Contains-permutation ys xs x (IsPermutation-sym xs ys moved) h));
  }

-- one more, where it was not there
pub inserted : (old new : List ℕ) (n m id : ℕ) (b : Bool) → n ≡ id → m ≡ id → b ≡ list_any (nat_eq n) old → b ≡ false → new ≡ (if list_any (nat_eq m) old then old else old ++ m ∷ []) → new ≡ old ++ id ∷ []
inserted old new n m id b e g c f k =
    let no : list_any (nat_eq id) old ≡ false = subst (λ n. list_any (nat_eq n) old ≡ false) e (sym c ∙ f) in
    k ∙ (ap (λ m. if list_any (nat_eq m) old then old else old ++ m ∷ []) g ∙ ap (λ b. if b then old else old ++ id ∷ []) no)

pub empty-list : (xs : List ℕ) → length xs ≡ 0 → xs ≡ []
empty-list [] e = refl
empty-list (x ∷ xs) e = absurd (omega arith)
