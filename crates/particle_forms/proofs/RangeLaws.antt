-- The range of a particle by those of lower rank.
use Rattle.std.proofs.Common.{◌≡◌, ℕ, suc, ◌*◌, ◌<◌, List, [], ◌∷◌, Bool, true, false, ◌||◌, ◌==◌, Option, None, Some, map, length, drop, get_or, slice_get, slice_index, refl, sym, ap, ◌∙◌, arith, drop-cons, eqb-true}
use Rattle.std.specs.Prelude.{All as Each, IfSome}
use Rattle.std.proofs.lemmas.Option.{get_or_from_slice_get}
use Rattle.std.proofs.lemmas.List.{drop_all}
use Rattle.std.proofs.lemmas.List.Elements.{All-weaker}
use Rattle.xs_components.specs.Tables.{Tables}
use Rattle.xs_components.specs.declared.particle.Particle.{Particle as Part}
use Rattle.xs_components.specs.declared.particle.Term.{Term}
use Rattle.xs_components.specs.declared.particle.Term.TheVariants.{Element, Any, Group, Sequence, Choice, All}
use Rattle.component_references.specs.Order.{IsFilledBelow}
use Rattle.component_references.specs.Ranked.{held_particles, named_group, IsBelow, IsRanked}
use Rattle.component_references.proofs.ListLaws.{map-same}
use Rattle.particle_models.specs.Particles.{Particle, term, sequence, choice, all_of, occurs}
use Rattle.particle_models.specs.Nodes.{members_of}
use Rattle.particle_forms.specs.Models.{group_particle, group_model, term_model, model_of}
use Rattle.particle_forms.specs.Ranges.{nothing, stopped, both, either, times, sum_of, widest_of, range, ranges, is_emptiable}
use Rattle.particle_forms.specs.Steps.{known, group_range, term_range, HasParts}
use Rattle.particle_forms.specs.declared.extent.TotalRange.{TotalRange}
use Rattle.particle_forms.proofs.ModelLaws.{group-lower, particle_model}

module _ (t : Tables) (model : ℕ → Particle) where
  ranges-members : (ms : List ℕ) → ranges (members_of (map model ms)) ≡ map (λ y. range (model y)) ms
  ranges-members [] = refl
  ranges-members (m ∷ ms) = ap (λ rs. range (model m) ∷ rs) (ranges-members ms)

  range-group : (o : Option ℕ) → range (group_model t model o) ≡ group_range t (λ y. range (model y)) o
  range-group None = refl
  range-group (Some p) = refl

  range-term : (id : ℕ) (of : Term) → range (term_model t model id of) ≡ term_range t (λ y. range (model y)) of
  range-term id (Element e) = refl
  range-term id (Any w) = refl
  range-term id (Group g) = range-group (group_particle t g)
  range-term id (Sequence ms) = ap sum_of (ranges-members ms)
  range-term id (Choice ms) = ap widest_of (ranges-members ms)
  range-term id (All ms) = ap sum_of (ranges-members ms)

module _ (t : Tables) (ranked : IsRanked t) (height : ℕ) where
  module _ (f g : ℕ → TotalRange) (same : (x : ℕ) → IsBelow t.particles height x → f x ≡ g x) where
    group_range-same : (o : Option ℕ) → IfSome o (IsBelow t.particles height) → group_range t f o ≡ group_range t g o
    group_range-same None h = refl
    group_range-same (Some p) h = same p h

    members-same : (ms : List ℕ) → Each (IsBelow t.particles height) ms → map f ms ≡ map g ms
    members-same ms held = map-same (IsBelow t.particles height) f g same ms held

    term_range-same : (of : Term) → Each (IsBelow t.particles height) (held_particles of) → IfSome (named_group of) (IsBelow t.groups height) → term_range t f of ≡ term_range t g of
    term_range-same (Element e) held to = refl
    term_range-same (Any w) held to = refl
    term_range-same (Group d) held to = group_range-same (group_particle t d) (group-lower t ranked height d to)
    term_range-same (Sequence ms) held to = ap sum_of (members-same ms held)
    term_range-same (Choice ms) held to = ap widest_of (members-same ms held)
    term_range-same (All ms) held to = ap sum_of (members-same ms held)

  there-some : (n : ℕ) → n ≡ length t.particles.parts → (o : Option ℕ) → IfSome o (IsBelow t.particles height) → IfSome o (λ id. id < n)
  there-some n e None h = tt
  there-some n e (Some p) h = rw e h.there

  -- what a term refers to is there
  pub has-parts : (n : ℕ) → n ≡ length t.particles.parts → (of : Term) → Each (IsBelow t.particles height) (held_particles of) → IfSome (named_group of) (IsBelow t.groups height) → HasParts t n of
  has-parts n e of held to = record {
    held = All-weaker (IsBelow t.particles height) (λ id. id < n) (λ id low. rw e low.there) (held_particles of) held;
    group = group (named_group of) to;
    particle = particle (named_group of) to;
  }
    where
      group : (o : Option ℕ) → IfSome o (IsBelow t.groups height) → IfSome o (λ g. g < length t.groups.parts)
      group None h = tt
      group (Some g) h = h.there

      particle : (o : Option ℕ) → IfSome o (IsBelow t.groups height) → IfSome o (λ g. IfSome (group_particle t g) (λ id. id < n))
      particle None h = tt
      particle (Some g) h = there-some n e (group_particle t g) (group-lower t ranked height g h)

module _ (t : Tables) (ranked : IsRanked t) (x : ℕ) (part : Part) (is : slice_get t.particles.parts x ≡ Some part) where
  pub rule-parts : (table : List TotalRange) → length table ≡ length t.particles.parts → HasParts t (length table) part.term
  rule-parts table e = has-parts t ranked (slice_index t.particles.ranks x) (length table) e part.term (ranked.particles x part is) (ranked.to_groups x part is)

  -- the range by a table that has those of lower rank
  pub rule-range : (table : List TotalRange) → IsFilledBelow (length t.particles.parts) t.particles.ranks (λ id. range (model_of t id)) (slice_index t.particles.ranks x) table →
      times part.min part.max (term_range t (known table) part.term) ≡ range (model_of t x)
  rule-range table filled =
      let same = term_range-same t ranked (slice_index t.particles.ranks x) (known table) (λ id. range (model_of t id))
      (λ y low. get_or_from_slice_get table y (range (model_of t y)) nothing (filled y low.there low.lower))
      part.term (ranked.particles x part is) (ranked.to_groups x part is) in
      ap (times part.min part.max) (same ∙ sym (range-term t (model_of t) x part.term)) ∙ sym (ap range (particle_model t ranked x part is))

-- from the last member on
module _ (f : ℕ → TotalRange) (ms : List ℕ) (i d : ℕ) where
  pub sum-more : i < length ms → sum_of (map f (drop i ms)) ≡ both (f (get_or ms i d)) (sum_of (map f (drop (suc i) ms)))
  sum-more h = rw (drop-cons ms i d h) refl

  pub widest-last : suc i ≡ length ms → widest_of (map f (drop i ms)) ≡ f (get_or ms i d)
  widest-last h =
      let none : drop (suc i) ms ≡ [] = drop_all (suc i) ms (omega arith) in
      let within : i < length ms = omega arith in
      rw (drop-cons ms i d within, none) refl

  pub widest-more : suc i < length ms → widest_of (map f (drop i ms)) ≡ either (f (get_or ms i d)) (widest_of (map f (drop (suc i) ms)))
  widest-more h =
      let within : i < length ms = omega arith in
      rw (drop-cons ms i d within, drop-cons ms (suc i) d h) refl

either_or : (a b : Bool) → (a ≡ true → b ≡ true) → (a || b) ≡ b
either_or true b h = sym (h refl)
either_or false b h = refl

-- no occurrences: no elements
pub emptiable-is : (p : Particle) → is_emptiable p ≡ ((range p).least == 0)
emptiable-is (term number) = refl
emptiable-is (sequence members) = refl
emptiable-is (choice members) = refl
emptiable-is (all_of members) = refl
emptiable-is (occurs least most part) = either_or (least == 0) (stopped (least * (range part).least) == 0) none
  where
    none : (least == 0) ≡ true → (stopped (least * (range part).least) == 0) ≡ true
    none e =
        let z : least * (range part).least ≡ 0 * (range part).least = ap (λ k. k * (range part).least) (eqb-true least 0 e) in
        let s : stopped (least * (range part).least) ≡ 0 = omega (arith, z) in
        rw s refl
