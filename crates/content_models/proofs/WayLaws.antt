-- The way along references to groups.
use Rattle.std.proofs.Common.{◌≡◌, ℕ, ◌<◌, ◌==◌, ◌||◌, Bool, true, false, List, [], ◌∷◌, ◌++◌, Option, None, Some, length, get_or, slice_get, slice_index, refl, sym, ap, subst, ◌∙◌, arith}
use Rattle.std.specs.Prelude.{⊤, All as Each, IfSome, option_and_then}
use Rattle.std.proofs.lemmas.Option.{slice_get-get_or}
use Rattle.std.proofs.lemmas.List.Elements.{All-weaker}
use Rattle.std.proofs.lemmas.List.Folds.{list_any-append}
use Rattle.xs_components.specs.Tables.{Tables}
use Rattle.xs_components.specs.declared.particle.Particle.{Particle as Part}
use Rattle.xs_components.specs.declared.particle.Term.{Term}
use Rattle.xs_components.specs.declared.particle.Term.TheVariants.{Element, Any, Group, Sequence, Choice, All}
use Rattle.component_references.specs.Ranked.{held_particles, named_group, IsBelow, IsRanked}
use Rattle.particle_models.specs.Particles.{Particle, occurs}
use Rattle.particle_forms.specs.Models.{group_particle, group_model, term_model, model_of}
use Rattle.particle_forms.proofs.ModelLaws.{group-lower, particle_model}
use Rattle.content_models.specs.Ways.{group_below, least_of, is_optional, wrapped, some_optional, IsAllFound, IsPlain, IsNoAll}

wrapped-push : (ws : List (ℕ × Option ℕ)) (w : ℕ × Option ℕ) (m : Particle) → wrapped (ws ++ w ∷ []) m ≡ wrapped ws (occurs w.0 w.1 m)
wrapped-push [] w m = refl
wrapped-push (v ∷ ws) w m = ap (occurs v.0 v.1) (wrapped-push ws w m)

or-false : (b : Bool) → (b || false) ≡ b
or-false true = refl
or-false false = refl

optional-push : (ws : List (ℕ × Option ℕ)) (w : ℕ × Option ℕ) → some_optional (ws ++ w ∷ []) ≡ (some_optional ws || (w.0 == 0))
optional-push ws w = list_any-append (λ (v : ℕ × Option ℕ). v.0 == 0) ws (w ∷ []) ∙ ap (λ b. some_optional ws || b) (or-false (w.0 == 0))

-- what stands in a place that is there
some-at : {T : Type 0} (xs : List T) (k : ℕ) → k < length xs → (x : T) × (slice_get xs k ≡ Some x)
some-at [] k l = absurd (omega arith)
some-at (x ∷ xs) k l = (get_or (x ∷ xs) k x, slice_get-get_or (x ∷ xs) k x l)

-- a term that is no all
abbrev pub IsOther : Term → Type 0
IsOther (Element k) = ⊤
IsOther (Any w) = ⊤
IsOther (Group g) = ⊤
IsOther (Sequence ms) = ⊤
IsOther (Choice ms) = ⊤
IsOther (All ms) = ⊥

-- the way so far
pub record IsWay (t : Tables) (p at_end : ℕ) (optional : Bool) : Type 0 where
  pub there : at_end < length t.particles.parts
  pub bounds : List (ℕ × Option ℕ)
  pub way : model_of t p ≡ wrapped bounds (model_of t at_end)
  pub may : optional ≡ (some_optional bounds || is_optional t at_end)

module _ (t : Tables) (ranked : IsRanked t) where
  pub way-first : (p : ℕ) (optional : Bool) → p < length t.particles.parts → optional ≡ is_optional t p → IsWay t p p optional
  way-first p optional there e = record { there = there; bounds = []; way = refl; may = e }

  -- the particle of a group is there, and lower
  pub below-lower : (x y : ℕ) → group_below t x ≡ Some y → IsBelow t.particles (slice_index t.particles.ranks x) y
  below-lower x y e = of (slice_get t.particles.parts x) refl e
    where
      lower : (o : Option ℕ) → IfSome o (IsBelow t.particles (slice_index t.particles.ranks x)) → o ≡ Some y → IsBelow t.particles (slice_index t.particles.ranks x) y
      lower None h f = absurd (let z : None ≡ Some y = f in cc)
      lower (Some k) h f = let z : k ≡ y = cc in subst (IsBelow t.particles (slice_index t.particles.ranks x)) z h

      through : (o : Option ℕ) → IfSome o (IsBelow t.groups (slice_index t.particles.ranks x)) → option_and_then (group_particle t) o ≡ Some y → IsBelow t.particles (slice_index t.particles.ranks x) y
      through None h f = absurd (let z : None ≡ Some y = f in cc)
      through (Some g) h f = lower (group_particle t g) (group-lower t ranked (slice_index t.particles.ranks x) g h) f

      of : (o : Option Part) → slice_get t.particles.parts x ≡ o → option_and_then (group_particle t) (option_and_then (λ part. named_group part.term) o) ≡ Some y → IsBelow t.particles (slice_index t.particles.ranks x) y
      of None g f = absurd (let z : None ≡ Some y = f in cc)
      of (Some part) g f = through (named_group part.term) (ranked.to_groups x part g) f

  -- the model of a particle that refers to a group
  model-below : (x y : ℕ) (part : Part) → slice_get t.particles.parts x ≡ Some part → group_below t x ≡ Some y → model_of t x ≡ occurs part.min part.max (model_of t y)
  model-below x y part is e =
      particle_model t ranked x part is ∙
      ap (occurs part.min part.max) (of part.term (ap (λ o. option_and_then (group_particle t) (option_and_then (λ (q : Part). named_group q.term) o)) (sym is) ∙ e))
    where
      of : (term : Term) → option_and_then (group_particle t) (named_group term) ≡ Some y → term_model t (model_of t) x term ≡ model_of t y
      of (Element k) f = absurd (let z : None ≡ Some y = f in cc)
      of (Any w) f = absurd (let z : None ≡ Some y = f in cc)
      of (Group g) f = ap (group_model t (model_of t)) f
      of (Sequence ms) f = absurd (let z : None ≡ Some y = f in cc)
      of (Choice ms) f = absurd (let z : None ≡ Some y = f in cc)
      of (All ms) f = absurd (let z : None ≡ Some y = f in cc)

  module _ (p x : ℕ) (optional : Bool) (way : IsWay t p x optional) where
    may-here : (part : Part) → slice_get t.particles.parts x ≡ Some part → optional ≡ some_optional (way.bounds ++ (part.min, part.max) ∷ [])
    may-here part is = way.may ∙ (ap (λ o. some_optional way.bounds || (least_of o == 0)) is ∙ sym (optional-push way.bounds (part.min, part.max)))

    -- one step more
    pub way-more : (y : ℕ) → group_below t x ≡ Some y → (more : Bool) → more ≡ (optional || is_optional t y) → IsWay t p y more
    way-more y e more f =
        let part : Part = (some-at t.particles.parts x way.there).0 in
        let is : slice_get t.particles.parts x ≡ Some part = (some-at t.particles.parts x way.there).1 in record {
          there = (below-lower x y e).there;
          bounds = way.bounds ++ (part.min, part.max) ∷ [];
          way = way.way ∙ (ap (wrapped way.bounds) (model-below x y part is e) ∙ sym (wrapped-push way.bounds (part.min, part.max) (model_of t y)));
          may = f ∙ ap (λ b. b || is_optional t y) (may-here part is);
        }

    module _ (part : Part) (is : slice_get t.particles.parts x ≡ Some part) where
      around : model_of t p ≡ wrapped (way.bounds ++ (part.min, part.max) ∷ []) (term_model t (model_of t) x part.term)
      around = way.way ∙ (ap (wrapped way.bounds) (particle_model t ranked x part is) ∙ sym (wrapped-push way.bounds (part.min, part.max) (term_model t (model_of t) x part.term)))

      pub way-found : (members : List ℕ) → part.term ≡ All members → IsAllFound t p members optional
      way-found members e = (
        way.bounds ++ (part.min, part.max) ∷ [],
        around ∙ ap (λ of. wrapped (way.bounds ++ (part.min, part.max) ∷ []) (term_model t (model_of t) x of)) e,
        may-here part is,
        All-weaker (IsBelow t.particles (slice_index t.particles.ranks x)) (λ id. id < length t.particles.parts) (λ id low. low.there) members
            (subst (λ of. Each (IsBelow t.particles (slice_index t.particles.ranks x)) (held_particles of)) e (ranked.particles x part is)),
      )

      pub way-none : group_below t x ≡ None → IsOther part.term → IsNoAll t p
      way-none e other = (
        way.bounds ++ (part.min, part.max) ∷ [],
        term_model t (model_of t) x part.term,
        around,
        plain part.term (ap (λ o. option_and_then (group_particle t) (option_and_then (λ (q : Part). named_group q.term) o)) (sym is) ∙ e) other,
      )
        where
          plain : (term : Term) → option_and_then (group_particle t) (named_group term) ≡ None → IsOther term → IsPlain (term_model t (model_of t) x term)
          plain (Element k) f o = tt
          plain (Any w) f o = tt
          plain (Group g) f o = subst (λ d. IsPlain (group_model t (model_of t) d)) (sym f) tt
          plain (Sequence ms) f o = tt
          plain (Choice ms) f o = tt
          plain (All ms) f o = absurd o
