-- Content models that are an all (Structures 3.8.2), and the members of an all.
use Rattle.std.specs.Prelude.{◌≡◌, ℕ, ◌<◌, ◌≤◌, ◌↔◌, ◌==◌, Bool, false, IsTrue, List, [], ◌∷◌, None, Some, All, length, slice_index_or}
use Rattle.std.specs.List.{list_any}
use Rattle.particle_models.specs.Particles.{Particle, Particles, term, all_of, occurs, none, member}
use Rattle.content_models.specs.declared.member.AllMember.{AllMember}

-- what stands in the place of no member
abbrev pub no_member : AllMember
no_member = record { term = 0; least = 0; most = None }

-- the particles of the members, in order
abbrev pub particles_of : List AllMember → Particles
particles_of [] = none
particles_of (m ∷ members) = member (occurs m.least m.most (term m.term)) (particles_of members)

-- the all of these members within some particles, given by how often they come at least: each comes at most once
abbrev pub all_within : List ℕ → List AllMember → Particle
all_within [] members = all_of (particles_of members)
all_within (least ∷ outer) members = occurs least (Some 1) (all_within outer members)

-- cos-all-limited.1 (Structures 3.8.6): the model is an all of these members, directly or by references to groups, and comes at
-- most once. It is optional where it may be left out.
pub record IsAllOf (members : List AllMember) (optional : Bool) (model : Particle) : Type 0 where
  pub outer : List ℕ
  pub once : All (λ least. least ≤ 1) outer
  pub model_is : model ≡ all_within outer members
  pub optional_is : optional ≡ list_any (λ least. least == 0) outer

-- cos-all-limited.2 (Structures 3.8.6): a member comes at most once
abbrev pub IsOnce : AllMember → Type 0
IsOnce m = (m.least ≤ 1) × (m.most ≡ Some 1)

-- the members that have to come accept some name, as is told of each
abbrev pub HaveNames : List Bool → List AllMember → Type 0
HaveNames inhabited members = (i : ℕ) (m : AllMember) → i < length members → 0 < (slice_index_or members i m).least → IsTrue (slice_index_or inhabited i false)

-- A name has the number of the member that accepts it; a name that no member accepts has a number past the last.
abbrev pub AreLetters : {Name : Type 0} → (ℕ → Name → Bool) → List AllMember → (Name → ℕ) → Type 0
AreLetters {Name} accepts members letter =
    (i : ℕ) (m : AllMember) → i < length members → (name : Name) → IsTrue (accepts (slice_index_or members i m).term name) ↔ (letter name ≡ i)

-- each member that has to come accepts some name
abbrev pub HasNames : {Name : Type 0} → (ℕ → Name → Bool) → List AllMember → Type 0
HasNames {Name} accepts members =
    (i : ℕ) → i < length members → 0 < (slice_index_or members i no_member).least → (name : Name) × IsTrue (accepts (slice_index_or members i no_member).term name)
