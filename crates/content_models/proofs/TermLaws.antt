-- The terms of a model and what they accept.
use Rattle.std.proofs.Common.{◌≡◌, ℕ, zero, suc, ◌<◌, ◌||◌, Bool, true, false, List, [], ◌∷◌, ◌++◌, Option, None, Some, if◌then◌else◌, map, length, get_or, slice_get, slice_index, refl, sym, ap, subst, ◌∙◌, arith}
use Rattle.std.specs.Prelude.{All as Each, Contains, IfSome, option_and_then, slice_index_or}
use Rattle.std.specs.List.{list_any}
use Rattle.std.proofs.lemmas.List.{get_or-map, map-append}
use Rattle.std.proofs.lemmas.List.Elements.{All-nil, All-cons, All-head, All-tail, All-append}
use Rattle.xs_names.specs.Names.{NameTable, same_name}
use Rattle.xs_components.specs.Heads.{names_of as members_named}
use Rattle.xs_components.specs.Tables.{Tables}
use Rattle.xs_components.specs.Terms.{term_of}
use Rattle.xs_components.specs.declared.particle.Particle.{Particle as Part}
use Rattle.xs_components.specs.declared.particle.Term.{Term}
use Rattle.xs_components.specs.declared.particle.Term.TheVariants.{Element, Any, Group, Sequence, Choice, All}
use Rattle.component_references.specs.Ranked.{held_particles, named_group, IsBelow, IsRanked}
use Rattle.particle_models.specs.Particles.{Particle, Particles, Place, Path, term, sequence, choice, all_of, occurs, none, member}
use Rattle.particle_models.specs.Nodes.{members_of}
use Rattle.particle_models.specs.Unrolled.{is_never, places, places_in, HasNoAll, HaveNoAll}
use Rattle.particle_forms.specs.Models.{group_particle, group_model, term_model, part_model, model_of}
use Rattle.particle_forms.specs.Accepted as forms
use Rattle.particle_forms.proofs.ModelLaws.{group-lower, model_of_is}
use Rattle.content_automaton.specs.declared.symbol_terms.Given.{Given}
use Rattle.content_automaton.specs.declared.symbol_terms.Accepts.{Accepts}
use Rattle.content_automaton.specs.Terms.{ExpandedName, name_at, accepts_name, names_of}
use Rattle.content_automaton.specs.Symbols.{IsNamed}
use Rattle.content_automaton.specs.Modelled.{AcceptAs}
use Rattle.content_models.specs.Terms.{terms_of, terms_in, given_by, term_accepts, part_accepts, accepts_of, term_number}

module _ (names : NameTable) (members : List (List ℕ)) (t : Tables) (classes : List ℕ) where
  -- ---- what a term accepts
  given-same : (element : ℕ) (ns : List ℕ) (name : ExpandedName) →
      list_any (λ n. same_name (slice_index_or names.names n (0, [])) name) ns ≡ list_any (λ (g : Given). same_name (name_at names g.name) name) (map (given_by t classes element) ns)
  given-same element [] name = refl
  given-same element (n ∷ ns) name = ap (λ b. same_name (slice_index_or names.names n (0, [])) name || b) (given-same element ns name)

  accepts-same : (id : ℕ) (name : ExpandedName) → forms.accepts names members t id name ≡ accepts_name names (accepts_of members t classes id) name
  accepts-same id name = of (slice_get t.particles.parts id)
    where
      in-term : (kind : Term) → forms.term_accepts names members kind name ≡ accepts_name names (term_accepts members t classes kind) name
      in-term (Element e) = given-same e (members_named members e) name
      in-term (Any w) = refl
      in-term (Group g) = refl
      in-term (Sequence ms) = refl
      in-term (Choice ms) = refl
      in-term (All ms) = refl

      of : (o : Option Part) → forms.part_accepts names members o name ≡ accepts_name names (part_accepts members t classes o) name
      of None = refl
      of (Some part) = in-term part.term

  pub accept-as : (ids : List ℕ) (terms : List Accepts) → terms ≡ map (accepts_of members t classes) ids → AcceptAs names ids terms (forms.accepts names members t)
  accept-as ids terms e k a l name =
      accepts-same (slice_index ids k) name ∙
      ap (λ x. accepts_name names x name) (sym (ap (λ xs. get_or xs k a) e ∙ get_or-map (accepts_of members t classes) ids k 0 a l))

  -- ---- which names are named
  in-map : {X Y : Type 0} (f : X → Y) (xs : List X) (y : Y) → Contains (map f xs) y → (x : X) × Contains xs x × (f x ≡ y)
  in-map f [] y h = absurd (omega (arith, h.1))
  in-map f (x ∷ xs) y (zero, l, e) = (x, (0, omega arith, refl), e)
  in-map f (x ∷ xs) y (suc k, l, e) = let r = in-map f xs y (k, omega arith, e) in let c = r.1 in let m = c.1 in (r.0, (suc c.0, omega arith, c.2), r.2)

  none-in : {X : Type 0} (x : X) → Contains [] x → ⊥
  none-in x h = omega (arith, h.1)

  pub named-in : ((element n : ℕ) → Contains (members_named members element) n → n < length names.names) → (ids : List ℕ) (terms : List Accepts) → terms ≡ map (accepts_of members t classes) ids →
      (n : ℕ) → IsNamed terms n → n < length names.names
  named-in named ids terms e n (a, c, h) =
      let r = in-map (accepts_of members t classes) ids a (subst (λ xs. Contains xs a) e c) in
      of (slice_get t.particles.parts r.0) (subst (λ x. Contains (names_of x) n) (sym r.2) h)
    where
      in-term : (kind : Term) → Contains (names_of (term_accepts members t classes kind)) n → n < length names.names
      in-term (Element k) c =
          let a = in-map (λ (g : Given). g.name) (map (given_by t classes k) (members_named members k)) n c in
          let b = in-map (given_by t classes k) (members_named members k) a.0 a.1 in
          let same : b.0 ≡ n = ap (λ (g : Given). g.name) b.2 ∙ a.2 in
          subst (λ m. m < length names.names) same (named k b.0 b.1)
      in-term (Any w) c = absurd (none-in n c)
      in-term (Group g) c = absurd (none-in n c)
      in-term (Sequence ms) c = absurd (none-in n c)
      in-term (Choice ms) c = absurd (none-in n c)
      in-term (All ms) c = absurd (none-in n c)

      of : (o : Option Part) → Contains (names_of (part_accepts members t classes o)) n → n < length names.names
      of None c = absurd (none-in n c)
      of (Some part) c = in-term part.term c

-- ---- the numbers of terms are of elements and wildcards
module _ (t : Tables) (ranked : IsRanked t) where
  abbrev IsTerm : ℕ → Type 0
  IsTerm k = term_number t k ≡ Some k

  module _ (x : ℕ) (part : Part) (is : slice_get t.particles.parts x ≡ Some part) (below : (y : ℕ) → IsBelow t.particles (slice_index t.particles.ranks x) y → Each IsTerm (terms_of (model_of t y))) where
    in-group : (o : Option ℕ) → IfSome o (IsBelow t.particles (slice_index t.particles.ranks x)) → Each IsTerm (terms_of (group_model t (model_of t) o))
    in-group None low = All-nil IsTerm
    in-group (Some q) low = below q low

    in-members : (ms : List ℕ) → Each (IsBelow t.particles (slice_index t.particles.ranks x)) ms → Each IsTerm (terms_in (members_of (map (model_of t) ms)))
    in-members [] low = All-nil IsTerm
    in-members (m ∷ ms) low =
        All-append IsTerm (terms_of (model_of t m)) (terms_in (members_of (map (model_of t) ms)))
        (below m (All-head (IsBelow t.particles (slice_index t.particles.ranks x)) m ms low))
        (in-members ms (All-tail (IsBelow t.particles (slice_index t.particles.ranks x)) m ms low))

    itself : term_of part.term x ≡ Some x → Each IsTerm (x ∷ [])
    itself e = All-cons IsTerm x [] (ap (option_and_then (λ (q : Part). term_of q.term x)) is ∙ e) (All-nil IsTerm)

    in-term : (kind : Term) → part.term ≡ kind → Each (IsBelow t.particles (slice_index t.particles.ranks x)) (held_particles kind) → IfSome (named_group kind) (IsBelow t.groups (slice_index t.particles.ranks x)) →
        Each IsTerm (terms_of (term_model t (model_of t) x kind))
    in-term (Element k) e held to = itself (ap (λ f. term_of f x) e)
    in-term (Any w) e held to = itself (ap (λ f. term_of f x) e)
    in-term (Group g) e held to = in-group (group_particle t g) (group-lower t ranked (slice_index t.particles.ranks x) g to)
    in-term (Sequence ms) e held to = in-members ms held
    in-term (Choice ms) e held to = in-members ms held
    in-term (All ms) e held to = in-members ms held

    in-part : Each IsTerm (terms_of (part_model t (model_of t) x (Some part)))
    in-part = by (is_never part.max)
      where
        by : (never : Bool) → Each IsTerm (if never then [] else terms_of (term_model t (model_of t) x part.term))
        by true = All-nil IsTerm
        by false = in-term part.term refl (ranked.particles x part is) (ranked.to_groups x part is)

  terms-lower : (n x : ℕ) → slice_index t.particles.ranks x < n → Each IsTerm (terms_of (model_of t x))
  terms-lower zero x l = absurd (omega arith)
  terms-lower (suc n) x l =
      subst (λ m. Each IsTerm (terms_of m)) (sym (model_of_is t ranked x)) (of (slice_get t.particles.parts x) refl (λ y less. terms-lower n y less))
    where
      of : (o : Option Part) → slice_get t.particles.parts x ≡ o → ((y : ℕ) → slice_index t.particles.ranks y < n → Each IsTerm (terms_of (model_of t y))) →
          Each IsTerm (terms_of (part_model t (model_of t) x o))
      of None e lower = All-nil IsTerm
      of (Some part) e lower = in-part x part e (λ y low. let r = low.lower in lower y (omega arith))

  pub terms-are : (x : ℕ) → Each (λ k. term_number t k ≡ Some k) (terms_of (model_of t x))
  terms-are x = terms-lower (suc (slice_index t.particles.ranks x)) x (omega arith)

-- ---- the terms in order are those of the places
abbrev number_of : Place → ℕ
number_of place = place.number

never-places : (never : Bool) (part : Particle) (path : Path) → terms_of part ≡ map number_of (places part path) →
    (if never then [] else terms_of part) ≡ map number_of (if never then [] else places part path)
never-places true part path e = refl
never-places false part path e = e

mutual
  terms-places : (model : Particle) → HasNoAll model → (path : Path) → terms_of model ≡ map number_of (places model path)
  terms-places (term number) h path = refl
  terms-places (sequence members) h path = terms-places_in members h path 0
  terms-places (choice members) h path = terms-places_in members h path 0
  terms-places (all_of members) h path = absurd h
  terms-places (occurs least most part) h path = never-places (is_never most) part path (terms-places part h path)

  terms-places_in : (members : Particles) → HaveNoAll members → (path : Path) (i : ℕ) → terms_in members ≡ map number_of (places_in members path i)
  terms-places_in none h path i = refl
  terms-places_in (member first rest) h path i =
      let a = terms-places first h.0 (path ++ i ∷ []) in
      let b = terms-places_in rest h.1 path (suc i) in
      ap (λ xs. xs ++ terms_in rest) a ∙ (ap (λ xs. map number_of (places first (path ++ i ∷ [])) ++ xs) b ∙
      sym (map-append number_of (places first (path ++ i ∷ [])) (places_in rest path (suc i))))

pub places-terms : (model : Particle) → HasNoAll model → map (λ (place : Place). place.number) (places model []) ≡ terms_of model
places-terms model h = sym (terms-places model h [])
