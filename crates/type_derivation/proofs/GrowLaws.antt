-- Particles that are added leave what was there, and ranks that fall.
use Rattle.std.proofs.Common.{◌≡◌, ℕ, zero, suc, ◌<◌, ◌≤◌, ◌⊎◌, inl, inr, List, [], ◌∷◌, ◌++◌, Bool, true, false, Option, None, Some, length, set, append_assoc, length-append, slice_get, slice_index, refl, sym, ap, ◌∙◌, subst, arith}
use Rattle.std.specs.Prelude.{All, IfSome, IfOk, Result, Ok, Err}
use Rattle.std.proofs.lemmas.Option.{none-some, same_Some, slice_get_within}
use Rattle.std.proofs.lemmas.List.{append-nil, length_push, get_or_append_left, get_or_push}
use Rattle.std.proofs.lemmas.List.Elements.{All-weaker, All-cons, All-nil}
use Rattle.xs_components.specs.Table.{with_part, with_rank}
use Rattle.xs_components.specs.Tables.{Tables}
use Rattle.xs_components.specs.declared.common.Place.{Place}
use Rattle.xs_components.specs.declared.common.TypeId.{TypeId}
use Rattle.xs_components.specs.declared.common.TypeId.TheVariants.{AnyType, Builtin, Simple, Complex}
use Rattle.xs_components.specs.declared.complex.ComplexType.{ComplexType}
use Rattle.xs_components.specs.declared.complex.ContentForm.{ContentForm}
use Rattle.xs_components.specs.declared.particle.Particle.{Particle}
use Rattle.xs_components.specs.declared.particle.Term.TheVariants.{Sequence}
use Rattle.component_references.specs.Ranked.{IsBelow, IsRanked, held_particles, named_group}
use Rattle.component_references.specs.References.{IsPart, effective_of}
use Rattle.component_references.specs.inside.Parts.{AreTypesRanked}
use Rattle.component_references.proofs.RankLaws.{types-kept}
use Rattle.type_derivation.specs.Cycles.{IsGrown}
use Rattle.type_derivation.specs.Particles.{once, any_elements, IsAnything, IsBaseContent, IsExtended, IsDerivedContent, IsContentOf, goes_on}
use Rattle.type_derivation.specs.Filled.{with_particle}
use Rattle.type_derivation.specs.inside.Filling.{AreMore, Adds, AreContentsThere}

pub get-kept : {X : Type 0} (xs ys : List X) (n : ℕ) (x : X) → slice_get xs n ≡ Some x → slice_get (xs ++ ys) n ≡ Some x
get-kept [] ys n x e = absurd (none-some x e)
get-kept (a ∷ as') ys zero x e = e
get-kept (a ∷ as') ys (suc n) x e = get-kept as' ys n x e

pub get-last : {X : Type 0} (xs : List X) (x : X) → slice_get (xs ++ x ∷ []) (length xs) ≡ Some x
get-last [] x = refl
get-last (a ∷ as') x = get-last as' x

get-cases : {X : Type 0} (xs : List X) (y : X) (n : ℕ) (x : X) → slice_get (xs ++ y ∷ []) n ≡ Some x → (slice_get xs n ≡ Some x) ⊎ ((n ≡ length xs) × (x ≡ y))
get-cases [] y zero x e = inr (refl, sym (same_Some y x e))
get-cases [] y (suc n) x e = absurd (none-some x e)
get-cases (a ∷ as') y zero x e = inl e
get-cases (a ∷ as') y (suc n) x e = elim (get-cases as' y n x e) [ inl p ↦ inl p | inr q ↦ inr (ap suc q.0, q.1) ]

-- a rank more
module _ (t : Tables) (part : Particle) (rank : ℕ) (alike : length t.particles.ranks ≡ length t.particles.parts) where
  abbrev grown : Tables
  grown = with_particle t part rank

  rank-kept : (n : ℕ) → n < length t.particles.parts → slice_index grown.particles.ranks n ≡ slice_index t.particles.ranks n
  rank-kept n h = get_or_append_left t.particles.ranks (rank ∷ []) 0 n (omega arith)

  rank-last : slice_index grown.particles.ranks (length t.particles.parts) ≡ rank
  rank-last = get_or_push t.particles.ranks rank 0 (length t.particles.parts) alike

  below : (high : ℕ) (id : ℕ) → IsBelow t.particles high id → IsBelow grown.particles high id
  below high id b = let e = rank-kept id b.there in record { there = omega (arith, length_push t.particles.parts part, b.there); lower = omega (arith, e, b.lower) }

  below-some : (high : ℕ) (o : Option ℕ) → IfSome o (IsBelow t.particles high) → IfSome o (IsBelow grown.particles high)
  below-some high None b = b
  below-some high (Some id) b = below high id b

  -- every reference still goes lower, where the particle is above what it holds
  pub ranked-more : IsRanked t → All (IsBelow t.particles rank) (held_particles part.term) → IfSome (named_group part.term) (IsBelow t.groups rank) → IsRanked grown
  ranked-more ranked held named = record {
    simples = types.simples;
    complexes = types.complexes;
    elements = ranked.elements;
    groups = λ n g e. below-some (slice_index t.groups.ranks n) g.particle (ranked.groups n g e);
    attr_groups = ranked.attr_groups;
    particles = λ n p e. holds n p (get-cases t.particles.parts part n p e);
    to_groups = λ n p e. names n p (get-cases t.particles.parts part n p e);
  }
    where
      types : AreTypesRanked grown
      types = types-kept t grown refl refl (record { simples = ranked.simples; complexes = ranked.complexes })

      holds : (n : ℕ) (p : Particle) → (slice_get t.particles.parts n ≡ Some p) ⊎ ((n ≡ length t.particles.parts) × (p ≡ part)) → All (IsBelow grown.particles (slice_index grown.particles.ranks n)) (held_particles p.term)
      holds n p (inl e) =
          let r = rank-kept n (slice_get_within t.particles.parts n p e) in
          subst (λ k. All (IsBelow grown.particles k) (held_particles p.term)) (sym r)
          (All-weaker (IsBelow t.particles (slice_index t.particles.ranks n)) (IsBelow grown.particles (slice_index t.particles.ranks n)) (below (slice_index t.particles.ranks n)) (held_particles p.term) (ranked.particles n p e))
      holds n p (inr e) =
          let r : slice_index grown.particles.ranks n ≡ rank = ap (slice_index grown.particles.ranks) e.0 ∙ rank-last in
          subst (λ k. All (IsBelow grown.particles k) (held_particles p.term)) (sym r)
          (subst (λ (q : Particle). All (IsBelow grown.particles rank) (held_particles q.term)) (sym e.1)
          (All-weaker (IsBelow t.particles rank) (IsBelow grown.particles rank) (below rank) (held_particles part.term) held))

      names : (n : ℕ) (p : Particle) → (slice_get t.particles.parts n ≡ Some p) ⊎ ((n ≡ length t.particles.parts) × (p ≡ part)) → IfSome (named_group p.term) (IsBelow t.groups (slice_index grown.particles.ranks n))
      names n p (inl e) =
          let r = rank-kept n (slice_get_within t.particles.parts n p e) in
          subst (λ k. IfSome (named_group p.term) (IsBelow t.groups k)) (sym r) (ranked.to_groups n p e)
      names n p (inr e) =
          let r : slice_index grown.particles.ranks n ≡ rank = ap (slice_index grown.particles.ranks) e.0 ∙ rank-last in
          subst (λ k. IfSome (named_group p.term) (IsBelow t.groups k)) (sym r)
          (subst (λ (q : Particle). IfSome (named_group q.term) (IsBelow t.groups rank)) (sym e.1) named)

pub more-none : (t : Tables) → AreMore t t
more-none t = record { particles = []; ranks = []; tables = simp append-nil }

pub more-one : (t : Tables) (part : Particle) (rank : ℕ) → AreMore t (with_particle t part rank)
more-one t part rank = record { particles = part ∷ []; ranks = rank ∷ []; tables = refl }

pub more-on : (a b c : Tables) → AreMore a b → AreMore b c → AreMore a c
more-on a b c m n = record {
  particles = m.particles ++ n.particles;
  ranks = m.ranks ++ n.ranks;
  tables = n.tables ∙ ap (λ (t : Tables). record t { particles = record { parts = t.particles.parts ++ n.particles; ranks = t.particles.ranks ++ n.ranks } }) m.tables ∙ simp append_assoc;
}

-- the tables b have the particles of a
abbrev pub HasParticles : Tables → Tables → Type 0
HasParticles a b = (id : ℕ) (p : Particle) → slice_get a.particles.parts id ≡ Some p → slice_get b.particles.parts id ≡ Some p

module _ (a b : Tables) (m : AreMore a b) where
  pub has-particles : HasParticles a b
  has-particles id p e = subst (λ (t : Tables). slice_get t.particles.parts id ≡ Some p) (sym m.tables) (get-kept a.particles.parts m.particles id p e)

  pub longer : length a.particles.parts ≤ length b.particles.parts
  longer = subst (λ (t : Tables). length a.particles.parts ≤ length t.particles.parts) (sym m.tables) (omega (arith, length-append a.particles.parts m.particles))

  pub part-kept : (o : Option ℕ) → IfSome o (IsPart a.particles) → IfSome o (IsPart b.particles)
  part-kept None h = h
  part-kept (Some id) h = let l = longer in omega (arith, h, l)

  pub contents-same : b.contents ≡ a.contents
  contents-same = ap (λ (t : Tables). t.contents) m.tables

  pub complexes-same : b.complexes ≡ a.complexes
  complexes-same = ap (λ (t : Tables). t.complexes) m.tables

-- what was the content of a base, or of an extension, is so
module _ (a b : Tables) (has : HasParticles a b) where
  abbrev pub IsSameAt : TypeId → Type 0
  IsSameAt AnyType = Unit {0}
  IsSameAt (Builtin kind) = Unit {0}
  IsSameAt (Simple id) = Unit {0}
  IsSameAt (Complex id) = slice_get b.contents id ≡ slice_get a.contents id

  pub base-kept : (at : Place) (base : TypeId) (content : Option ℕ) → IsSameAt base → IsBaseContent a at base content → IsBaseContent b at base content
  base-kept at AnyType content same h = (h.0, (h.1.0, has h.1.0 _ h.1.1, has h.0 _ h.1.2), h.2)
  base-kept at (Builtin kind) content same h = h
  base-kept at (Simple id) content same h = h
  base-kept at (Complex id) content same h = same ∙ h

  pub extended-kept : (at : Place) (inner effective content : Option ℕ) → IsExtended a at inner effective content → IsExtended b at inner effective content
  extended-kept at None effective content h = h
  extended-kept at (Some base) None content h = h
  extended-kept at (Some base) (Some own) content h = (h.0, has h.0 _ h.1, h.2)

  derived-kept : (on : Bool) (at : Place) (base : TypeId) (effective content : Option ℕ) → IsSameAt base → IsDerivedContent a on at base effective content → IsDerivedContent b on at base effective content
  derived-kept false at base effective content same h = h
  derived-kept true at base effective content same h = (h.0, base-kept at base h.0 same h.1, extended-kept at h.0 effective content h.2)

  pub content-kept : (by_extension : Bool) (at : Place) (base : TypeId) (form : ContentForm) (content : Option ℕ) → IsSameAt base → IsContentOf a by_extension at base form content → IsContentOf b by_extension at base form content
  content-kept by_extension at base form content same h = derived-kept (goes_on by_extension form) at base (effective_of form) content same h

-- where contents are the same, the base's is
pub same-at : (a b : Tables) (has : HasParticles a b) → b.contents ≡ a.contents → (base : TypeId) → IsSameAt a b has base
same-at a b has e AnyType = tt
same-at a b has e (Builtin kind) = tt
same-at a b has e (Simple id) = tt
same-at a b has e (Complex id) = ap (λ l. slice_get l id) e

pub there-kept : (a b : Tables) → AreMore a b → AreContentsThere a → AreContentsThere b
there-kept a b m there n p e =
    let l = longer a b m in
    let h = there n p (ap (λ cs. slice_get cs n) (sym (contents-same a b m)) ∙ e) in
    omega (arith, h, l)

pub grown-none : (t : Tables) → IsGrown t t
grown-none t = record { contents = t.contents; particles = []; ranks = []; tables = simp append-nil }

pub grown-on : (a b c : Tables) → IsGrown a b → IsGrown b c → IsGrown a c
grown-on a b c m n = record {
  contents = n.contents;
  particles = m.particles ++ n.particles;
  ranks = m.ranks ++ n.ranks;
  tables = n.tables ∙ ap (λ (t : Tables). record t { contents = n.contents; particles = record { parts = t.particles.parts ++ n.particles; ranks = t.particles.ranks ++ n.ranks } }) m.tables ∙ simp append_assoc;
}

pub grown-set : (a b : Tables) (contents : List (Option ℕ)) → AreMore a b → IsGrown a (record b { contents = contents })
grown-set a b contents m = record { contents = contents; particles = m.particles; ranks = m.ranks; tables = ap (λ (t : Tables). record t { contents = contents }) m.tables }

-- two clauses of one result
pub if-two : {X E : Type 0} (r : Result X E) (P S Q : X → Type 0) → ((x : X) → P x → S x → Q x) → IfOk r P → IfOk r S → IfOk r Q
if-two (Ok x) P S Q h p s = h x p s
if-two (Err e) P S Q h p s = tt

set-last : (xs : List ℕ) (n a b : ℕ) → n ≡ length xs → set (xs ++ a ∷ []) n b ≡ xs ++ b ∷ []
set-last [] zero a b e = refl
set-last [] (suc n) a b e = absurd (omega (arith, e))
set-last (x ∷ xs) zero a b e = absurd (omega (arith, e))
set-last (x ∷ xs) (suc n) a b e = ap (λ l. x ∷ l) (set-last xs n a b (omega (arith, e)))

-- a particle is added and then gets its rank
pub ranked-last : (old added new : Tables) (part : Particle) (id rank : ℕ) → length old.particles.ranks ≡ length old.particles.parts → id ≡ length old.particles.parts
    → added ≡ record old { particles = with_part old.particles part } → new ≡ record added { particles = with_rank added.particles id rank } → new ≡ with_particle old part rank
ranked-last old added new part id rank alike is a n =
    n ∙ ap (λ (t : Tables). record t { particles = with_rank t.particles id rank }) a
    ∙ ap (λ (rs : List ℕ). record old { particles = record { parts = old.particles.parts ++ part ∷ []; ranks = rs } }) (set-last old.particles.ranks id 0 rank (is ∙ sym alike))

pub adds-none : (t : Tables) → IsRanked t → (content : Option ℕ) → IfSome content (IsPart t.particles) → Adds t t content
adds-none t ranked content there = record { more = more-none t; ranked = ranked; there = there }

adds-one : (t new : Tables) (part : Particle) (rank id : ℕ) → length t.particles.ranks ≡ length t.particles.parts → IsRanked t → All (IsBelow t.particles rank) (held_particles part.term)
    → IfSome (named_group part.term) (IsBelow t.groups rank) → id ≡ length t.particles.parts → new ≡ with_particle t part rank → Adds t new (Some id)
adds-one t new part rank id alike ranked held named is e =
    let l = length_push t.particles.parts part in
    let one : Adds t (with_particle t part rank) (Some id) = record { more = more-one t part rank; ranked = ranked-more t part rank alike ranked held named; there = omega (arith, l, is) } in
    subst (λ u. Adds t u (Some id)) (sym e) one

-- a sequence of two particles
pub adds-pair : (t new : Tables) (at : Place) (first second rank id : ℕ) (part : Particle) → length t.particles.ranks ≡ length t.particles.parts → IsRanked t
    → first < length t.particles.parts → second < length t.particles.parts → slice_index t.particles.ranks first < rank → slice_index t.particles.ranks second < rank
    → part ≡ once at (Sequence (first ∷ second ∷ [])) → id ≡ length t.particles.parts → new ≡ with_particle t part rank → Adds t new (Some id)
adds-pair t new at first second rank id part alike ranked f s low_f low_s is number e =
    let below_f : IsBelow t.particles rank first = record { there = f; lower = low_f } in
    let below_s : IsBelow t.particles rank second = record { there = s; lower = low_s } in
    let held : All (IsBelow t.particles rank) (first ∷ second ∷ []) =
    All-cons (IsBelow t.particles rank) first (second ∷ []) below_f (All-cons (IsBelow t.particles rank) second [] below_s (All-nil (IsBelow t.particles rank))) in
    adds-one t new (once at (Sequence (first ∷ second ∷ []))) rank id alike ranked held tt number (e ∙ ap (λ (p : Particle). with_particle t p rank) is)

-- the content of anyType
module _ (t t1 new : Tables) (at : Place) (any id rank : ℕ) (p q : Particle) (ranked : IsRanked t) (number : any ≡ length t.particles.parts) (first : t1 ≡ record t { particles = with_part t.particles p })
    (is : p ≡ any_elements at) (alike : length t1.particles.ranks ≡ length t1.particles.parts) (low : slice_index t1.particles.ranks any < rank) (of : q ≡ once at (Sequence (any ∷ [])))
    (last : id ≡ length t1.particles.parts) (second : new ≡ with_particle t1 q rank) where
  abbrev t2 : Tables
  t2 = with_particle t (any_elements at) 0

  one : t1 ≡ t2
  one = first ∙ ap (λ (x : Particle). with_particle t x 0) is

  alike-first : length t.particles.ranks ≡ length t.particles.parts
  alike-first =
      let r = length_push t.particles.ranks 0 in
      let l = length_push t.particles.parts (any_elements at) in
      let a : length t2.particles.ranks ≡ length t2.particles.parts = subst (λ (u : Tables). length u.particles.ranks ≡ length u.particles.parts) one alike in
      omega (arith, r, l, a)

  first-added : Adds t t1 (Some any)
  first-added = adds-one t t1 (any_elements at) 0 any alike-first ranked (All-nil (IsBelow t.particles 0)) tt number one

  second-added : Adds t1 new (Some id)
  second-added =
      let below_any : IsBelow t1.particles rank any = record { there = first-added.there; lower = low } in
      adds-one t1 new (once at (Sequence (any ∷ []))) rank id alike first-added.ranked (All-cons (IsBelow t1.particles rank) any [] below_any (All-nil (IsBelow t1.particles rank))) tt last
      (second ∙ ap (λ (x : Particle). with_particle t1 x rank) of)

  pub adds-any : Adds t new (Some id)
  adds-any = record { more = more-on t t1 new first-added.more second-added.more; ranked = second-added.ranked; there = second-added.there }

  pub is-anything : IsAnything new at id
  is-anything =
      let any_there : slice_get t1.particles.parts any ≡ Some (any_elements at) =
      subst (λ (u : Tables). slice_get u.particles.parts any ≡ Some (any_elements at)) (sym one) (ap (slice_get (t.particles.parts ++ any_elements at ∷ [])) number ∙ get-last t.particles.parts (any_elements at)) in
      let here : slice_get (t1.particles.parts ++ q ∷ []) id ≡ Some (once at (Sequence (any ∷ []))) = ap (slice_get (t1.particles.parts ++ q ∷ [])) last ∙ get-last t1.particles.parts q ∙ ap Some of in (
        any,
        has-particles t1 new second-added.more any (any_elements at) any_there,
        subst (λ (u : Tables). slice_get u.particles.parts id ≡ Some (once at (Sequence (any ∷ [])))) (sym second) here,
      )

-- the content that is set is there
pub there-if : (t : Tables) (n : ℕ) (content : Option ℕ) → AreContentsThere t → slice_get t.contents n ≡ Some content → IfSome content (IsPart t.particles)
there-if t n None there e = tt
there-if t n (Some p) there e = there n p e

-- an extension has the content of its base in it
pub extension-is : (mid new : Tables) (part : ComplexType) (inner effective content : Option ℕ) → goes_on part.by_extension part.content ≡ true → effective ≡ effective_of part.content
    → IsBaseContent mid part.at part.base inner → AreMore mid new → IsExtended new part.at inner effective content → IsContentOf new part.by_extension part.at part.base part.content content
extension-is mid new part inner effective content on is base more extended =
    let has = has-particles mid new more in
    let kept = base-kept mid new has part.at part.base inner (same-at mid new has (contents-same mid new more) part.base) base in
    let ext : IsExtended new part.at inner (effective_of part.content) content = subst (λ e. IsExtended new part.at inner e content) is extended in
    subst (λ b. IsDerivedContent new b part.at part.base (effective_of part.content) content) (sym on) (inner, kept, ext)

-- the same of any part that stands there
pub extension-of : (t mid new : Tables) (id : ℕ) (part other : ComplexType) (inner effective content : Option ℕ) → slice_get t.complexes.parts id ≡ Some part → goes_on part.by_extension part.content ≡ true
    → effective ≡ effective_of part.content → IsBaseContent mid part.at part.base inner → AreMore mid new → IsExtended new part.at inner effective content → slice_get t.complexes.parts id ≡ Some other
    → IsContentOf new other.by_extension other.at other.base other.content content
extension-of t mid new id part other inner effective content e on is base more extended f =
    subst (λ (q : ComplexType). IsContentOf new q.by_extension q.at q.base q.content content) (same_Some part other (sym e ∙ f)) (extension-is mid new part inner effective content on is base more extended)
