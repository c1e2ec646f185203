-- Forms by what particles stand for.
use Rattle.std.proofs.Common.{◌≡◌, ◌∙◌, ℕ, List, Option, refl, ap}
use Rattle.std.specs.Prelude.{Result, Ok, Err, IfOk}
use Rattle.particle_models.specs.Particles.{Particle, Particles, term, sequence, choice, all_of, occurs, none, member}
use Rattle.particle_models.specs.Pointless.{formed, gathered, term_form, unless_pointless, within, without_pointless}
use Rattle.particle_models.specs.Trees.{Tree, once}
use Rattle.particle_models.specs.declared.part.Bounds.{Bounds}
use Rattle.particle_models.specs.declared.part.Compositor.{Compositor}
use Rattle.particle_models.specs.declared.part.Compositor.TheVariants.{Sequence, Choice, All}

module _ (f g : ℕ → List ℕ) (same : (id : ℕ) → f id ≡ g id) where
  mutual
    formed-same : (p : Particle) (bounds : Bounds) → formed f p bounds ≡ formed g p bounds
    formed-same (term number) bounds = ap (term_form bounds) (same number)
    formed-same (sequence members) bounds = ap (unless_pointless bounds Sequence) (gathered-same members Sequence)
    formed-same (choice members) bounds = ap (unless_pointless bounds Choice) (gathered-same members Choice)
    formed-same (all_of members) bounds = ap (unless_pointless bounds All) (gathered-same members All)
    formed-same (occurs least most part) bounds = formed-same part (within bounds record { least = least; most = most })

    gathered-same : (ps : Particles) (compositor : Compositor) → gathered f ps compositor ≡ gathered g ps compositor
    gathered-same none compositor = refl
    gathered-same (member first rest) compositor =
        let a = formed-same first once in let b = gathered-same rest compositor in
        cc

  pub form-moved : {F E : Type 0} (tree : F → Option Tree) (p q : Particle) → p ≡ q → (r : Result F E) → IfOk r (λ x. tree x ≡ without_pointless f p) → IfOk r (λ x. tree x ≡ without_pointless g q)
  form-moved tree p q e (Ok x) h = h ∙ (formed-same p once ∙ ap (without_pointless g) e)
  form-moved tree p q e (Err x) h = tt
