-- Which all a particle is.
use Rattle.std.proofs.Common.{◌≡◌, ℕ, ◌<◌, List, Option, None, Some, refl, sym, ◌∙◌, subst, ap}
use Rattle.std.specs.Prelude.{All as Each, slice_get, slice_index, option_and_then, length}
use Rattle.std.proofs.lemmas.Option.{none-some, same_Some, slice_get_within}
use Rattle.std.proofs.lemmas.List.Elements.{All-weaker}
use Rattle.xs_components.specs.Tables.{Tables}
use Rattle.xs_components.specs.declared.particle.Particle.{Particle as Part}
use Rattle.xs_components.specs.declared.particle.Term.{Term}
use Rattle.xs_components.specs.declared.particle.Term.TheVariants.{Element, Any, Group, Sequence, Choice, All}
use Rattle.component_references.specs.Ranked.{held_particles, named_group, IsBelow, IsRanked}
use Rattle.particle_forms.specs.Models.{group_particle}
use Rattle.content_models.specs.Ways.{group_below}
use Rattle.content_models.proofs.WayLaws.{below-lower}
use Rattle.schema_models.specs.AllLimits.{all_in, all_at, IsAllAt, itself, by_group}

module _ (t : Tables) where
  term-no-group : (term : Term) (members : List ℕ) → all_in term ≡ Some members → option_and_then (group_particle t) (named_group term) ≡ None
  term-no-group (Element k) members e = absurd (none-some members e)
  term-no-group (Any w) members e = absurd (none-some members e)
  term-no-group (Group g) members e = absurd (none-some members e)
  term-no-group (Sequence ms) members e = absurd (none-some members e)
  term-no-group (Choice ms) members e = absurd (none-some members e)
  term-no-group (All ms) members e = refl

  -- an all refers to no group
  no-group : (p : ℕ) (members : List ℕ) → all_at t p ≡ Some members → group_below t p ≡ None
  no-group p members e = of (slice_get t.particles.parts p) e
    where
      of : (o : Option Part) → option_and_then (λ part. all_in part.term) o ≡ Some members → option_and_then (group_particle t) (option_and_then (λ part. named_group part.term) o) ≡ None
      of None f = absurd (none-some members f)
      of (Some part) f = term-no-group part.term members f

  -- what is left of the way to an all
  abbrev pub Rest : Option ℕ → ℕ → ℕ → Type 0
  Rest None p all = (members : List ℕ) × (all_at t p ≡ Some members) × (p ≡ all)
  Rest (Some q) p all = IsAllAt t q all

  pub has-rest : (p all : ℕ) → IsAllAt t p all → Rest (group_below t p) p all
  has-rest _ _ (itself p members e) = subst (λ o. Rest o p p) (sym (no-group p members e)) (members, e, refl)
  has-rest _ _ (by_group p q all e h) = subst (λ o. Rest o p all) (sym e) h

  -- on the way to an all
  pub record IsOnWay (p at : ℕ) : Type 0 where
    pub there : at < length t.particles.parts
    pub from : (all : ℕ) → IsAllAt t at all → IsAllAt t p all
    pub to : (all : ℕ) → IsAllAt t p all → IsAllAt t at all

  pub way-first : (p : ℕ) → p < length t.particles.parts → IsOnWay p p
  way-first p l = record { there = l; from = λ all h. h; to = λ all h. h }

  pub way-more : IsRanked t → (p at below : ℕ) → IsOnWay p at → group_below t at ≡ Some below → IsOnWay p below
  way-more ranked p at below w e = record {
    there = (below-lower t ranked at below e).there;
    from = λ all h. w.from all (by_group at below all e h);
    to = λ all h. subst (λ o. Rest o at all) e (has-rest at all (w.to all h));
  }

  module _ (p at : ℕ) (w : IsOnWay p at) (ended : group_below t at ≡ None) where
    pub way-found : (members : List ℕ) → all_at t at ≡ Some members → IsAllAt t p at
    way-found members e = w.from at (itself at members e)

    pub way-none : all_at t at ≡ None → (all : ℕ) → IsAllAt t p all → ⊥
    way-none none all h =
        let r : Rest None at all = subst (λ o. Rest o at all) ended (has-rest at all (w.to all h)) in
        none-some r.0 (sym none ∙ r.1)

  -- a particle is one all at most
  pub all-same : (p a b : ℕ) → IsAllAt t p a → IsAllAt t p b → a ≡ b
  all-same _ _ b (itself p members e) h =
      let r : Rest None p b = subst (λ o. Rest o p b) (no-group p members e) (has-rest p b h) in r.2
  all-same _ _ b (by_group p q a e i) h = all-same q a b i (subst (λ o. Rest o p b) e (has-rest p b h))

  all-within : (p : ℕ) (o : Option Part) (members : List ℕ) → slice_get t.particles.parts p ≡ o → option_and_then (λ part. all_in part.term) o ≡ Some members → p < length t.particles.parts
  all-within p None members s e = absurd (none-some members e)
  all-within p (Some part) members s e = slice_get_within t.particles.parts p part s

  -- an all is there
  pub all-there : (p all : ℕ) → IsAllAt t p all → all < length t.particles.parts
  all-there _ _ (itself p members e) = all-within p (slice_get t.particles.parts p) members refl e
  all-there _ _ (by_group p q all e h) = all-there q all h

  module _ (p : ℕ) (part : Part) (is : slice_get t.particles.parts p ≡ Some part) where
    pub all-read : (members : List ℕ) → all_in part.term ≡ Some members → all_at t p ≡ Some members
    all-read members e = ap (option_and_then (λ (q : Part). all_in q.term)) is ∙ e

    -- what a model group holds is there
    pub held-there : IsRanked t → Each (λ q. q < length t.particles.parts) (held_particles part.term)
    held-there ranked = All-weaker (IsBelow t.particles (slice_index t.particles.ranks p)) (λ q. q < length t.particles.parts) (λ q low. low.there) (held_particles part.term) (ranked.particles p part is)

    pub members-there : IsRanked t → (members : List ℕ) → all_in part.term ≡ Some members → Each (λ q. q < length t.particles.parts) members
    members-there ranked members e = subst (Each (λ q. q < length t.particles.parts)) (of part.term e) (held-there ranked)
      where
        of : (x : Term) → all_in x ≡ Some members → held_particles x ≡ members
        of (Element k) f = absurd (none-some members f)
        of (Any w) f = absurd (none-some members f)
        of (Group g) f = absurd (none-some members f)
        of (Sequence ms) f = absurd (none-some members f)
        of (Choice ms) f = absurd (none-some members f)
        of (All ms) f = same_Some ms members f
