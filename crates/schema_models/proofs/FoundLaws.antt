-- The particles of a content model are met one after another, and have its terms.
use Rattle.std.proofs.Common.{◌≡◌, ℕ, zero, suc, ◌+◌, ◌<◌, ◌⊎◌, inl, inr, List, [], ◌∷◌, ◌++◌, Option, None, Some, Bool, true, false, if◌then◌else◌, map, length, slice_get, slice_index, refl, sym, ap, subst, ◌∙◌, arith, eqb-true}
use Rattle.std.specs.Prelude.{All as Each, Contains, nat_eq}
use Rattle.std.specs.List.{list_any}
use Rattle.std.proofs.lemmas.List.Elements.{All-nil, All-cons, All-append, All-weaker, All-contains, All-contains_itself, Contains-push, Contains-push_cases, Contains-append_left, Contains-append_right, Contains-append_cases}
use Rattle.std.proofs.lemmas.Map.Views.{Contains-from_any}
use Rattle.xs_components.specs.Tables.{Tables}
use Rattle.xs_components.specs.declared.particle.Particle.{Particle as Part}
use Rattle.xs_components.specs.declared.particle.Term.{Term}
use Rattle.xs_components.specs.declared.particle.Term.TheVariants.{Element, Any, Group, Sequence, Choice, All}
use Rattle.component_references.specs.Ranked.{IsBelow, IsRanked}
use Rattle.particle_models.specs.Nodes.{members_of}
use Rattle.particle_models.specs.Unrolled.{is_never}
use Rattle.particle_forms.specs.Models.{group_particle, group_model, term_model, part_model, model_of}
use Rattle.particle_forms.specs.Made.{listed, term_parts, part_parts, parts_of, size, sizes, work}
use Rattle.particle_forms.proofs.ModelLaws.{model_of_is}
use Rattle.particle_forms.proofs.MadeLaws.{parts-below, inserted}
use Rattle.schema_models.specs.Consistency.{IsTermOf, IsTermIn}
use Rattle.schema_models.specs.Found.{live_part_parts, live_parts, IsVisit, AreModelParts}

pub none-in : {X : Type 0} (x : X) → Contains [] x → ⊥
none-in x h = omega (arith, h.1)

pub here : {X : Type 0} (x : X) (xs : List X) → Contains (x ∷ xs) x
here x xs = (0, omega arith, refl)

pub behind : {X : Type 0} (x : X) (xs : List X) (y : X) → Contains xs y → Contains (x ∷ xs) y
behind x xs y h = let l = h.1 in (suc h.0, omega arith, h.2)

module _ (t : Tables) where
  abbrev IsThere : ℕ → Type 0
  IsThere y = y < length t.particles.parts

  -- ---- how much waits
  work-append : (xs ys : List ℕ) → work t (xs ++ ys) ≡ work t xs + work t ys
  work-append [] ys = omega arith
  work-append (x ∷ xs) ys = let r = work-append xs ys in omega arith

  work-members : (ms : List ℕ) → work t ms ≡ sizes (members_of (map (model_of t) ms))
  work-members [] = refl
  work-members (m ∷ ms) = let r = work-members ms in omega arith

  size-group : (o : Option ℕ) → work t (listed o) < 1 + size (group_model t (model_of t) o)
  size-group None = omega arith
  size-group (Some p) = omega arith

  size-term : (id : ℕ) (of : Term) → work t (term_parts t of) < 1 + size (term_model t (model_of t) id of)
  size-term id (Element e) = omega arith
  size-term id (Any w) = omega arith
  size-term id (Group g) = size-group (group_particle t g)
  size-term id (Sequence ms) = let r = work-members ms in omega arith
  size-term id (Choice ms) = let r = work-members ms in omega arith
  size-term id (All ms) = let r = work-members ms in omega arith

  size-live : (never : Bool) (xs : List ℕ) (n : ℕ) → work t xs < n → work t (if never then [] else xs) < n
  size-live true xs n l = omega arith
  size-live false xs n l = l

  size-part : (id : ℕ) (o : Option Part) → work t (live_part_parts t o) < size (part_model t (model_of t) id o)
  size-part id None = omega arith
  size-part id (Some part) = size-live (is_never part.max) (term_parts t part.term) (1 + size (term_model t (model_of t) id part.term)) (size-term id part.term)

  -- ---- what is right below
  each-live : (P : ℕ → Type 0) (o : Option Part) → Each P (part_parts t o) → Each P (live_part_parts t o)
  each-live P None h = h
  each-live P (Some part) h = by (is_never part.max)
    where
      by : (never : Bool) → Each P (if never then [] else term_parts t part.term)
      by true = All-nil P
      by false = h

  module _ (id : ℕ) where
    abbrev InOneOf : List ℕ → Type 0
    InOneOf ys = (y : ℕ) × Contains ys y × IsTermOf (model_of t y) id

    in-group : (o : Option ℕ) → IsTermOf (group_model t (model_of t) o) id → InOneOf (listed o)
    in-group None h = absurd h
    in-group (Some q) h = (q, here q [], h)

    in-members : (ms : List ℕ) → IsTermIn (members_of (map (model_of t) ms)) id → InOneOf ms
    in-members [] h = absurd h
    in-members (m ∷ ms) (inl h) = (m, here m ms, h)
    in-members (m ∷ ms) (inr h) = let r = in-members ms h in (r.0, behind m ms r.0 r.1, r.2)

    in-term : (x : ℕ) (of : Term) → IsTermOf (term_model t (model_of t) x of) id → (x ≡ id) ⊎ InOneOf (term_parts t of)
    in-term x (Element e) h = inl h
    in-term x (Any w) h = inl h
    in-term x (Group g) h = inr (in-group (group_particle t g) h)
    in-term x (Sequence ms) h = inr (in-members ms h)
    in-term x (Choice ms) h = inr (in-members ms h)
    in-term x (All ms) h = inr (in-members ms h)

    in-part : (x : ℕ) (o : Option Part) → IsTermOf (part_model t (model_of t) x o) id → (x ≡ id) ⊎ InOneOf (live_part_parts t o)
    in-part x None h = absurd h
    in-part x (Some part) h = subst (λ (never : Bool). (x ≡ id) ⊎ InOneOf (if never then [] else term_parts t part.term)) (sym h.0) (in-term x part.term h.1)

    to-group : (o : Option ℕ) (y : ℕ) → Contains (listed o) y → IsTermOf (model_of t y) id → IsTermOf (group_model t (model_of t) o) id
    to-group None y c h = absurd (none-in y c)
    to-group (Some q) y (zero, l, e) h = subst (λ k. IsTermOf (model_of t k) id) (sym e) h
    to-group (Some q) y (suc k, l, e) h = absurd (omega arith)

    to-members : (ms : List ℕ) (y : ℕ) → Contains ms y → IsTermOf (model_of t y) id → IsTermIn (members_of (map (model_of t) ms)) id
    to-members [] y c h = absurd (none-in y c)
    to-members (m ∷ ms) y (zero, l, e) h = inl (subst (λ k. IsTermOf (model_of t k) id) (sym e) h)
    to-members (m ∷ ms) y (suc k, l, e) h = inr (to-members ms y (k, omega arith, e) h)

    to-term : (x : ℕ) (of : Term) (y : ℕ) → Contains (term_parts t of) y → IsTermOf (model_of t y) id → IsTermOf (term_model t (model_of t) x of) id
    to-term x (Element e) y c h = absurd (none-in y c)
    to-term x (Any w) y c h = absurd (none-in y c)
    to-term x (Group g) y c h = to-group (group_particle t g) y c h
    to-term x (Sequence ms) y c h = to-members ms y c h
    to-term x (Choice ms) y c h = to-members ms y c h
    to-term x (All ms) y c h = to-members ms y c h

    to-part : (x : ℕ) (o : Option Part) (y : ℕ) → Contains (live_part_parts t o) y → IsTermOf (model_of t y) id → IsTermOf (part_model t (model_of t) x o) id
    to-part x None y c h = absurd (none-in y c)
    to-part x (Some part) y c h = by (is_never part.max) refl c
      where
        by : (never : Bool) → is_never part.max ≡ never → Contains (if never then [] else term_parts t part.term) y → IsTermOf (part_model t (model_of t) x (Some part)) id
        by true e k = absurd (none-in y k)
        by false e k = (e, to-term x part.term y k h)

module _ (t : Tables) (ranked : IsRanked t) where
  live-below : (x : ℕ) → Each (IsBelow t.particles (slice_index t.particles.ranks x)) (live_parts t x)
  live-below x = each-live t (IsBelow t.particles (slice_index t.particles.ranks x)) (slice_get t.particles.parts x) (parts-below t ranked x)

  live-there : (x : ℕ) → Each (IsThere t) (live_parts t x)
  live-there x = All-weaker (IsBelow t.particles (slice_index t.particles.ranks x)) (IsThere t) (λ y low. low.there) (live_parts t x) (live-below x)

  size-parts : (x : ℕ) → work t (live_parts t x) < size (model_of t x)
  size-parts x = subst (λ m. work t (live_parts t x) < size m) (sym (model_of_is t ranked x)) (size-part t x (slice_get t.particles.parts x))

  -- a term of the model of a particle is itself, or one of the model of a particle right below
  term-cases : (x id : ℕ) → IsTermOf (model_of t x) id → (x ≡ id) ⊎ InOneOf t id (live_parts t x)
  term-cases x id h = in-part t id x (slice_get t.particles.parts x) (subst (λ m. IsTermOf m id) (model_of_is t ranked x) h)

  term-above : (x y id : ℕ) → Contains (live_parts t x) y → IsTermOf (model_of t y) id → IsTermOf (model_of t x) id
  term-above x y id c h = subst (λ m. IsTermOf m id) (sym (model_of_is t ranked x)) (to-part t id x (slice_get t.particles.parts x) y c h)

  live-never : (id : ℕ) (part : Part) → slice_get t.particles.parts id ≡ Some part → is_never part.max ≡ true → live_parts t id ≡ []
  live-never id part is e = ap (live_part_parts t) is ∙ ap (λ (never : Bool). if never then [] else term_parts t part.term) e

  live-always : (id : ℕ) (part : Part) → slice_get t.particles.parts id ≡ Some part → is_never part.max ≡ false → live_parts t id ≡ parts_of t id
  live-always id part is e = ap (live_part_parts t) is ∙ (ap (λ (never : Bool). if never then [] else term_parts t part.term) e ∙ sym (ap (part_parts t) is))

  -- ---- one particle more
  module _ (id : ℕ) (old waiting : List ℕ) where
    -- it was met before
    pub visit-again : list_any (nat_eq id) old ≡ true → IsVisit t id old old waiting waiting
    visit-again met =
        let is : Contains old id = Contains-from_any (λ x y e. eqb-true x y e) id old met in
        record {
          kept = λ y h. h;
          itself = is;
          others = λ y h. inl h;
          waits = λ y h. h;
          added = λ y h. inl h;
          below = inl is;
          less = (let s = size-parts id in omega arith);
        }

    -- it is new
    visit-new : (new after : List ℕ) → new ≡ old ++ id ∷ [] → after ≡ waiting ++ live_parts t id → IsVisit t id old new waiting after
    visit-new new after e f = record {
      kept = λ y h. rw e (Contains-append_left old (id ∷ []) y h);
      itself = rw e (Contains-push old id);
      others = λ y h. elim (Contains-push_cases old id y (rw e at h)) [ inl was ↦ inl was | inr is ↦ inr (sym is) ];
      waits = λ y h. rw f (Contains-append_left waiting (live_parts t id) y h);
      added = λ y h. Contains-append_cases waiting (live_parts t id) y (rw f at h);
      below = inr (rw f (All-weaker (Contains (live_parts t id)) (Contains (waiting ++ live_parts t id)) (λ y h. Contains-append_right waiting (live_parts t id) y h) (live_parts t id) (All-contains_itself (live_parts t id))));
      less = rw f (let s = size-parts id in let a = work-append t waiting (live_parts t id) in omega arith);
    }

    module _ (part : Part) (is : slice_get t.particles.parts id ≡ Some part) (new : List ℕ) (grown : new ≡ old ++ id ∷ []) where
      pub visit-never : is_never part.max ≡ true → IsVisit t id old new waiting waiting
      visit-never e = visit-new new waiting grown (sym (ap (λ xs. waiting ++ xs) (live-never id part is e) ∙ no-more waiting))
        where
          no-more : (xs : List ℕ) → xs ++ [] ≡ xs
          no-more [] = refl
          no-more (x ∷ xs) = ap (λ ys. x ∷ ys) (no-more xs)

      pub visit-always : is_never part.max ≡ false → (after : List ℕ) → after ≡ waiting ++ parts_of t id → IsVisit t id old new waiting after
      visit-always e after f = visit-new new after grown (f ∙ ap (λ xs. waiting ++ xs) (sym (live-always id part is e)))

-- what was met so far, and what waits
pub record IsMeeting (t : Tables) (root : ℕ) (found todo : List ℕ) : Type 0 where
  pub there : (y : ℕ) → Contains found y ⊎ Contains todo y → y < length t.particles.parts
  pub begun : Contains found root ⊎ Contains todo root
  pub closed : (x : ℕ) → Contains found x → Each (λ y. Contains found y ⊎ Contains todo y) (live_parts t x)
  pub only : (y : ℕ) → Contains found y ⊎ Contains todo y → (id : ℕ) → IsTermOf (model_of t y) id → IsTermOf (model_of t root) id

module _ (t : Tables) (ranked : IsRanked t) (root : ℕ) where
  pub meeting-first : root < length t.particles.parts → (found todo : List ℕ) → found ≡ [] → todo ≡ [] ++ root ∷ [] → IsMeeting t root found todo
  meeting-first there found todo n e = rw (n, e) (record {
    there = λ y h. is-root y h (λ y. y < length t.particles.parts) there;
    begun = inr (here root []);
    closed = λ x h. absurd (none-in x h);
    only = λ y h. is-root y h (λ y. (id : ℕ) → IsTermOf (model_of t y) id → IsTermOf (model_of t root) id) (λ id k. k);
  })
    where
      is-root : (y : ℕ) → Contains [] y ⊎ Contains (root ∷ []) y → (P : ℕ → Type 0) → P root → P y
      is-root y (inl h) P p = absurd (none-in y h)
      is-root y (inr (zero, l, e)) P p = subst P e p
      is-root y (inr (suc k, l, e)) P p = absurd (omega arith)

  module _ (id : ℕ) (old new todo waiting after : List ℕ) (was : IsMeeting t root old todo) (popped : todo ≡ waiting ++ id ∷ []) where
    waited : Contains todo id
    waited = rw popped (Contains-push waiting id)

    pub popped-there : id < length t.particles.parts
    popped-there = was.there id (inr waited)

    module _ (visit : IsVisit t id old new waiting after) where
      moved : (y : ℕ) → Contains old y ⊎ Contains todo y → Contains new y ⊎ Contains after y
      moved y (inl h) = inl (visit.kept y h)
      moved y (inr h) = elim (Contains-push_cases waiting id y (rw popped at h)) [ inl w ↦ inr (visit.waits y w) | inr is ↦ inl (subst (Contains new) is visit.itself) ]

      still : (y : ℕ) → Contains waiting y → Contains todo y
      still y h = rw popped (Contains-append_left waiting (id ∷ []) y h)

      -- what is true of all that was met or waited, and of what is right below the particle, stays so
      every-more : (P : ℕ → Type 0) → ((y : ℕ) → Contains old y ⊎ Contains todo y → P y) → ((y : ℕ) → Contains (live_parts t id) y → P y) → (y : ℕ) → Contains new y ⊎ Contains after y → P y
      every-more P before below y (inl h) = elim (visit.others y h) [ inl o ↦ before y (inl o) | inr is ↦ before y (inr (subst (Contains todo) (sym is) waited)) ]
      every-more P before below y (inr h) = elim (visit.added y h) [ inl w ↦ before y (inr (still y w)) | inr b ↦ below y b ]

      closed-old : (x : ℕ) → Contains old x → Each (λ y. Contains new y ⊎ Contains after y) (live_parts t x)
      closed-old x h = All-weaker (λ y. Contains old y ⊎ Contains todo y) (λ y. Contains new y ⊎ Contains after y) moved (live_parts t x) (was.closed x h)

      closed-new : (x : ℕ) → x ≡ id → Each (λ y. Contains new y ⊎ Contains after y) (live_parts t x)
      closed-new x is = elim visit.below [
        | inl h ↦ closed-old x (rw is h)
        | inr all ↦ rw is (All-weaker (Contains after) (λ y. Contains new y ⊎ Contains after y) (λ y h. inr h) (live_parts t id) all)
      ]

      pub meeting-more : IsMeeting t root new after
      meeting-more = record {
        there = every-more (λ y. y < length t.particles.parts) was.there (λ y h. All-contains (IsThere t) (live_parts t id) y (live-there t ranked id) h);
        begun = moved root was.begun;
        closed = λ x h. elim (visit.others x h) [ inl o ↦ closed-old x o | inr is ↦ closed-new x is ];
        only = every-more (λ y. (k : ℕ) → IsTermOf (model_of t y) k → IsTermOf (model_of t root) k) was.only
            (λ y h k b. was.only id (inr waited) k (term-above t ranked id y k h b));
      }

      pub meeting-less : work t after < work t todo
      meeting-less = let l = visit.less in let e = ap (work t) popped in let a = work-append t waiting (id ∷ []) in omega arith

  module _ (found : List ℕ) (m : IsMeeting t root found []) where
    met : (y : ℕ) → Contains found y ⊎ Contains [] y → Contains found y
    met y (inl h) = h
    met y (inr h) = absurd (none-in y h)

    every : (n x id : ℕ) → slice_index t.particles.ranks x < n → Contains found x → IsTermOf (model_of t x) id → Contains found id × IsTermOf (model_of t id) id
    every zero x id l c h = absurd (omega arith)
    every (suc n) x id l c h = elim (term-cases t ranked x id h) [
      | inl e ↦ (subst (Contains found) e c, subst (λ k. IsTermOf (model_of t k) id) e h)
      | inr b ↦ (
          let low = All-contains (IsBelow t.particles (slice_index t.particles.ranks x)) (live_parts t x) b.0 (live-below t ranked x) b.1 in
          let r = low.lower in
          every n b.0 id (omega arith) (met b.0 (All-contains (λ y. Contains found y ⊎ Contains [] y) (live_parts t x) b.0 (m.closed x c) b.1)) b.2)
    ]

    pub meeting-done : AreModelParts t root found
    meeting-done = record {
      there = All-weaker (Contains found) (IsThere t) (λ y h. m.there y (inl h)) found (All-contains_itself found);
      every = λ id h. every (suc (slice_index t.particles.ranks root)) root id (omega arith) (met root m.begun) h;
      only = λ y id h. m.only y (inl h) id;
    }

pub meeting-all : (t : Tables) → IsRanked t → (root : ℕ) (found todo : List ℕ) → length todo ≡ 0 → IsMeeting t root found todo → AreModelParts t root found
meeting-all t ranked root found [] e m = meeting-done t ranked root found m
meeting-all t ranked root found (x ∷ todo) e m = absurd (omega arith)
