-- The way from a particle along references to groups, and what is at its end.
use Rattle.std.specs.Prelude.{◌≡◌, ℕ, ◌<◌, ◌==◌, Bool, List, [], ◌∷◌, Option, None, Some, ⊤, All as Each, map, length, slice_get, option_and_then}
use Rattle.std.specs.List.{list_any}
use Rattle.xs_components.specs.Tables.{Tables}
use Rattle.xs_components.specs.Terms.{term_of}
use Rattle.xs_components.specs.declared.particle.Particle.{Particle as Part}
use Rattle.component_references.specs.Ranked.{named_group}
use Rattle.particle_models.specs.Particles.{Particle, term, sequence, choice, all_of, occurs}
use Rattle.particle_models.specs.Nodes.{members_of}
use Rattle.particle_forms.specs.Models.{group_particle, model_of}
use Rattle.content_models.specs.declared.member.AllMember.{AllMember}

-- the particle of the group that a particle refers to
abbrev pub group_below : Tables → ℕ → Option ℕ
group_below t id = option_and_then (group_particle t) (option_and_then (λ part. named_group part.term) (slice_get t.particles.parts id))

abbrev pub least_of : Option Part → ℕ
least_of None = 1
least_of (Some part) = part.min

-- the particle may come no times
abbrev pub is_optional : Tables → ℕ → Bool
is_optional t id = least_of (slice_get t.particles.parts id) == 0

-- a model within particles of these bounds
abbrev pub wrapped : List (ℕ × Option ℕ) → Particle → Particle
wrapped [] model = model
wrapped (w ∷ ws) model = occurs w.0 w.1 (wrapped ws model)

-- one of them may come no times
abbrev pub some_optional : List (ℕ × Option ℕ) → Bool
some_optional ws = list_any (λ w. w.0 == 0) ws

-- the content model is an all of these particles, directly or by references to groups
abbrev pub IsAllFound : Tables → ℕ → List ℕ → Bool → Type 0
IsAllFound t p members optional =
    (ws : List (ℕ × Option ℕ)) × (model_of t p ≡ wrapped ws (all_of (members_of (map (model_of t) members)))) × (optional ≡ some_optional ws) ×
    Each (λ id. id < length t.particles.parts) members

-- neither an all nor a number of occurrences
abbrev pub IsPlain : Particle → Type 0
IsPlain (term number) = ⊤
IsPlain (sequence members) = ⊤
IsPlain (choice members) = ⊤
IsPlain (all_of members) = ⊥
IsPlain (occurs least most part) = ⊥

-- the content model is something else
abbrev pub IsNoAll : Tables → ℕ → Type 0
IsNoAll t p = (ws : List (ℕ × Option ℕ)) × (inner : Particle) × (model_of t p ≡ wrapped ws inner) × IsPlain inner

abbrev pub member_with : ℕ → Option ℕ → Option ℕ → List AllMember
member_with least most None = []
member_with least most (Some number) = record { term = number; least = least; most = most } ∷ []

abbrev pub part_member : ℕ → Option Part → List AllMember
part_member id None = []
part_member id (Some part) = member_with part.min part.max (term_of part.term id)

-- the particle of a number as a member of an all, where it is an element or a wildcard
abbrev pub member_at : Tables → ℕ → List AllMember
member_at t id = part_member id (slice_get t.particles.parts id)
