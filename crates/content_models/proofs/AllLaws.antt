-- A model that is an all, and its members.
use Rattle.std.proofs.Common.{◌≡◌, ℕ, ◌*◌, ◌≤◌, ◌==◌, ◌||◌, inl, inr, Bool, List, [], ◌∷◌, ◌++◌, Option, None, Some, if◌then◌else◌, map, slice_get, refl, sym, ap, subst, ◌∙◌, arith}
use Rattle.std.specs.Prelude.{All as Each}
use Rattle.std.specs.List.{list_any, flat_map}
use Rattle.std.proofs.Math.Nat.{mul-zero}
use Rattle.std.proofs.lemmas.List.Concat.{flat_map-cons}
use Rattle.std.proofs.lemmas.List.Elements.{All-head, All-tail}
use Rattle.xs_positions.specs.Tree.{copies}
use Rattle.xs_components.specs.Tables.{Tables}
use Rattle.xs_components.specs.Terms.{term_of}
use Rattle.xs_components.specs.declared.particle.Particle.{Particle as Part}
use Rattle.xs_components.specs.declared.particle.Term.{Term}
use Rattle.xs_components.specs.declared.particle.Term.TheVariants.{Element, Any, Group, Sequence, Choice, All}
use Rattle.component_references.specs.Ranked.{IsRanked}
use Rattle.particle_models.specs.Particles.{Particle, Particles, term, choice, all_of, occurs, none}
use Rattle.particle_models.specs.Nodes.{members_of}
use Rattle.particle_models.specs.Unrolled.{is_never, HasNoAll, positions_of}
use Rattle.particle_forms.specs.Models.{group_particle, group_model, term_model, part_model, model_of}
use Rattle.particle_forms.proofs.ModelLaws.{model_of_is}
use Rattle.content_models.specs.declared.member.AllMember.{AllMember}
use Rattle.content_models.specs.Shape.{particles_of, all_within, IsOnce}
use Rattle.content_models.specs.Terms.{terms_of, terms_in}
use Rattle.content_models.specs.Ways.{wrapped, some_optional, IsPlain, IsNoAll, part_member, member_at}
use Rattle.content_models.specs.Built.{IsLimitedAll, IsLimited}

-- ---- the bounds around an all
same-wraps : (ws : List (ℕ × Option ℕ)) (outer : List ℕ) (ps : Particles) (own : List AllMember) → wrapped ws (all_of ps) ≡ all_within outer own →
    (ps ≡ particles_of own) × (some_optional ws ≡ list_any (λ least. least == 0) outer)
same-wraps [] [] ps own e = let z : ps ≡ particles_of own = cc in (z, refl)
same-wraps [] (l ∷ outer) ps own e = absurd (cc)
same-wraps (w ∷ ws) [] ps own e = absurd (cc)
same-wraps (w ∷ ws) (l ∷ outer) ps own e =
    let a : w.0 ≡ l = cc in
    let b : wrapped ws (all_of ps) ≡ all_within outer own = cc in
    let r = same-wraps ws outer ps own b in
    (r.0, ap (λ k. (k == 0) || some_optional ws) a ∙ ap (λ c. (l == 0) || c) r.1)

no-all-wrapped : (ws : List (ℕ × Option ℕ)) (ps : Particles) → HasNoAll (wrapped ws (all_of ps)) → ⊥
no-all-wrapped [] ps h = h
no-all-wrapped (w ∷ ws) ps h = no-all-wrapped ws ps h

plain-wraps : (ws : List (ℕ × Option ℕ)) (inner : Particle) → IsPlain inner → (outer : List ℕ) (own : List AllMember) → wrapped ws inner ≡ all_within outer own → ⊥
plain-wraps [] inner plain [] own e = subst IsPlain e plain
plain-wraps [] inner plain (l ∷ outer) own e = subst IsPlain e plain
plain-wraps (w ∷ ws) inner plain [] own e = cc
plain-wraps (w ∷ ws) inner plain (l ∷ outer) own e = let b : wrapped ws inner ≡ all_within outer own = cc in plain-wraps ws inner plain outer own b

-- what a limited model is, by what was found
pub limited-all : (ws : List (ℕ × Option ℕ)) (ps : Particles) (model : Particle) → model ≡ wrapped ws (all_of ps) → IsLimited model →
    (own : List AllMember) × (optional : Bool) × IsLimitedAll own optional model × (ps ≡ particles_of own) × (optional ≡ some_optional ws)
limited-all ws ps model e (inl without) = absurd (no-all-wrapped ws ps (subst HasNoAll e without))
limited-all ws ps model e (inr (own, optional, is)) =
    let r = same-wraps ws is.is_all.outer ps own (sym e ∙ is.is_all.model_is) in
    (own, optional, is, r.0, is.is_all.optional_is ∙ sym r.1)

pub limited-none : (t : Tables) (p : ℕ) → IsNoAll t p → IsLimited (model_of t p) → HasNoAll (model_of t p)
limited-none t p way (inl without) = without
limited-none t p (ws, inner, e, plain) (inr (own, optional, is)) = absurd (plain-wraps ws inner plain is.is_all.outer own (sym e ∙ is.is_all.model_is))

-- ---- the members
module _ (t : Tables) (ranked : IsRanked t) where
  no-term : (x n : ℕ) → model_of t x ≡ term n → ⊥
  no-term x n e = of (slice_get t.particles.parts x) (sym (model_of_is t ranked x) ∙ e)
    where
      of : (o : Option Part) → part_model t (model_of t) x o ≡ term n → ⊥
      of None f = cc
      of (Some part) f = cc

  no-group : (o : Option ℕ) (n : ℕ) → group_model t (model_of t) o ≡ term n → ⊥
  no-group None n e = cc
  no-group (Some q) n e = no-term q n e

  term-is : (id n : ℕ) (of : Term) → term_model t (model_of t) id of ≡ term n → term_of of id ≡ Some n
  term-is id n (Element k) e = let z : id ≡ n = cc in ap Some z
  term-is id n (Any w) e = let z : id ≡ n = cc in ap Some z
  term-is id n (Group g) e = absurd (no-group (group_particle t g) n e)
  term-is id n (Sequence ms) e = absurd (cc)
  term-is id n (Choice ms) e = absurd (cc)
  term-is id n (All ms) e = absurd (cc)

  one-member : (id : ℕ) (m : AllMember) → model_of t id ≡ occurs m.least m.most (term m.term) → member_at t id ≡ m ∷ []
  one-member id m e = of (slice_get t.particles.parts id) (sym (model_of_is t ranked id) ∙ e)
    where
      of : (o : Option Part) → part_model t (model_of t) id o ≡ occurs m.least m.most (term m.term) → part_member id o ≡ m ∷ []
      of None f = absurd (let z : choice none ≡ occurs m.least m.most (term m.term) = f in cc)
      of (Some part) f =
          let g : occurs part.min part.max (term_model t (model_of t) id part.term) ≡ occurs m.least m.most (term m.term) = f in
          let a : part.min ≡ m.least = cc in
          let b : part.max ≡ m.most = cc in
          let c : term_model t (model_of t) id part.term ≡ term m.term = cc in
          rw (a, b, term-is id m.term part.term c) refl

  pub own-members : (ids : List ℕ) (own : List AllMember) → members_of (map (model_of t) ids) ≡ particles_of own → flat_map (member_at t) ids ≡ own
  own-members [] [] e = refl
  own-members [] (m ∷ own) e = absurd (cc)
  own-members (id ∷ ids) [] e = absurd (cc)
  own-members (id ∷ ids) (m ∷ own) e =
      let a : model_of t id ≡ occurs m.least m.most (term m.term) = cc in
      let b : members_of (map (model_of t) ids) ≡ particles_of own = cc in
      flat_map-cons (member_at t) id ids ∙ (ap (λ xs. xs ++ flat_map (member_at t) ids) (one-member id m a) ∙ ap (λ xs. m ∷ xs) (own-members ids own b))

-- ---- terms and positions of an all
own-terms : (own : List AllMember) → Each IsOnce own → terms_in (particles_of own) ≡ map (λ (m : AllMember). m.term) own
own-terms [] h = refl
own-terms (m ∷ own) h =
    let a : m.most ≡ Some 1 = (All-head IsOnce m own h).1 in
    ap (λ most. (if is_never most then [] else (m.term ∷ [])) ++ terms_in (particles_of own)) a ∙ ap (λ xs. m.term ∷ xs) (own-terms own (All-tail IsOnce m own h))

within-terms : (outer : List ℕ) (own : List AllMember) → Each IsOnce own → terms_of (all_within outer own) ≡ map (λ (m : AllMember). m.term) own
within-terms [] own h = own-terms own h
within-terms (l ∷ outer) own h = within-terms outer own h

pub all-terms : (own : List AllMember) (optional : Bool) (model : Particle) → IsLimitedAll own optional model → terms_of model ≡ map (λ (m : AllMember). m.term) own
all-terms own optional model is = ap terms_of is.is_all.model_is ∙ within-terms is.is_all.outer own is.once

within-positions : (outer : List ℕ) (own : List AllMember) → positions_of (all_within outer own) ≡ 0
within-positions [] own = refl
within-positions (l ∷ outer) own = ap (λ n. copies l (Some 1) * n) (within-positions outer own) ∙ mul-zero (copies l (Some 1))

pub all-positions : (own : List AllMember) (optional : Bool) (model : Particle) → IsLimitedAll own optional model → positions_of model ≤ 2048
all-positions own optional model is = let z : positions_of model ≡ 0 = ap positions_of is.is_all.model_is ∙ within-positions is.is_all.outer own in omega arith
