-- The model of a particle is that of its term, where ranks fall.
use Rattle.std.proofs.Common.{◌≡◌, ℕ, ◌<◌, List, Option, None, Some, map, length, get_or, slice_get, slice_index, refl, sym, ap, ◌∙◌, arith}
use Rattle.std.proofs.lemmas.Option.{slice_get-get_or}
use Rattle.std.specs.Prelude.{All as Each, ⊤, IfSome, option_and_then}
use Rattle.xs_components.specs.Tables.{Tables}
use Rattle.xs_components.specs.declared.group.GroupDef.{GroupDef}
use Rattle.xs_components.specs.declared.particle.Particle.{Particle as Part}
use Rattle.xs_components.specs.declared.particle.Term.{Term}
use Rattle.xs_components.specs.declared.particle.Term.TheVariants.{Element, Any, Group, Sequence, Choice, All}
use Rattle.component_references.specs.Descent.{AsksLower}
use Rattle.component_references.specs.Ranked.{held_particles, named_group, IsBelow, IsRanked}
use Rattle.component_references.proofs.DescentLaws.{along-is}
use Rattle.component_references.proofs.ListLaws.{map-same}
use Rattle.particle_models.specs.Particles.{Particle, sequence, choice, all_of, occurs}
use Rattle.particle_models.specs.Nodes.{members_of}
use Rattle.particle_forms.specs.Models.{no_model, group_particle, group_model, term_model, part_model, model_step, model_of}

module _ (t : Tables) (ranked : IsRanked t) where
  -- the particle of a group that stands lower is lower
  pub group-lower : (height g : ℕ) → IsBelow t.groups height g → IfSome (group_particle t g) (IsBelow t.particles height)
  group-lower height g to = of (slice_get t.groups.parts g) refl
    where
      weaker : (o : Option ℕ) → IfSome o (IsBelow t.particles (slice_index t.groups.ranks g)) → IfSome o (IsBelow t.particles height)
      weaker None h = tt
      weaker (Some p) h = record { there = h.there; lower = omega (arith, h.lower, to.lower) }

      of : (o : Option GroupDef) → slice_get t.groups.parts g ≡ o → IfSome (option_and_then (λ part. part.particle) o) (IsBelow t.particles height)
      of None e = tt
      of (Some part) e = weaker part.particle (ranked.groups g part e)

  module _ (height : ℕ) (f g : ℕ → Particle) (same : (x : ℕ) → IsBelow t.particles height x → f x ≡ g x) where
    group_model-same : (o : Option ℕ) → IfSome o (IsBelow t.particles height) → group_model t f o ≡ group_model t g o
    group_model-same None h = refl
    group_model-same (Some p) h = same p h

    members-same : (ms : List ℕ) → Each (IsBelow t.particles height) ms → map f ms ≡ map g ms
    members-same ms held = map-same (IsBelow t.particles height) f g same ms held

    term_model-same : (id : ℕ) (of : Term) → Each (IsBelow t.particles height) (held_particles of) → IfSome (named_group of) (IsBelow t.groups height) → term_model t f id of ≡ term_model t g id of
    term_model-same id (Element e) held to = refl
    term_model-same id (Any w) held to = refl
    term_model-same id (Group d) held to = group_model-same (group_particle t d) (group-lower height d to)
    term_model-same id (Sequence ms) held to = ap (λ ps. sequence (members_of ps)) (members-same ms held)
    term_model-same id (Choice ms) held to = ap (λ ps. choice (members_of ps)) (members-same ms held)
    term_model-same id (All ms) held to = ap (λ ps. all_of (members_of ps)) (members-same ms held)

  step-asks : AsksLower (slice_index t.particles.ranks) no_model (model_step t) (λ x. ⊤)
  step-asks x f g is same = of (slice_get t.particles.parts x) refl
    where
      of : (o : Option Part) → slice_get t.particles.parts x ≡ o → part_model t f x o ≡ part_model t g x o
      of None e = refl
      of (Some part) e =
          ap (occurs part.min part.max)
          (term_model-same (slice_index t.particles.ranks x) f g (λ y low. same y tt low.lower) x part.term (ranked.particles x part e) (ranked.to_groups x part e))

  pub model_of_is : (x : ℕ) → model_of t x ≡ model_step t (model_of t) x
  unfolding model_of
  model_of_is x = along-is (slice_index t.particles.ranks) no_model (model_step t) (λ x. ⊤) step-asks x tt

  -- the model of a particle that is there
  pub particle_model : (x : ℕ) (part : Part) → slice_get t.particles.parts x ≡ Some part → model_of t x ≡ occurs part.min part.max (term_model t (model_of t) x part.term)
  particle_model x part e = model_of_is x ∙ ap (part_model t (model_of t) x) e

-- a part that was read by its number
pub part-read : {T : Type 0} (read parts : List T) (x : ℕ) (part : T) → read ≡ parts → part ≡ get_or read x part → x < length parts → slice_get parts x ≡ Some part
part-read read parts x part same is there =
    slice_get-get_or parts x part there ∙ ap Some (sym (is ∙ ap (λ ps. get_or ps x part) same))
