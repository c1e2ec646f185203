-- The particles that a content model is made of, and the nodes that say it.
use Rattle.std.specs.Prelude.{◌≡◌, ℕ, ◌+◌, ◌<◌, ◌≤◌, ◌⊎◌, List, [], ◌∷◌, Option, None, Some, unwrap_or, All as Each, Contains, length, slice_get}
use Rattle.xs_components.specs.Tables.{Tables}
use Rattle.xs_components.specs.declared.particle.Particle.{Particle as Part}
use Rattle.xs_components.specs.declared.particle.Term.{Term}
use Rattle.xs_components.specs.declared.particle.Term.TheVariants.{Element, Any, Group, Sequence, Choice, All}
use Rattle.particle_models.specs.Particles.{Particle, Particles, term, sequence, choice, all_of, occurs, none, member}
use Rattle.particle_models.specs.Nodes.{model_in, IsOrdered}
use Rattle.particle_models.specs.declared.node.Node.{Node}
use Rattle.particle_forms.specs.Models.{group_particle, term_model, model_of}

-- a number, where there is one
abbrev pub listed : Option ℕ → List ℕ
listed None = []
listed (Some id) = id ∷ []

module _ (t : Tables) where
  -- the particles that a term holds, or the particle of the group that it refers to
  abbrev pub term_parts : Term → List ℕ
  term_parts (Element element) = []
  term_parts (Any wildcard) = []
  term_parts (Group group) = listed (group_particle t group)
  term_parts (Sequence members) = members
  term_parts (Choice members) = members
  term_parts (All members) = members

  abbrev pub part_parts : Option Part → List ℕ
  part_parts None = []
  part_parts (Some part) = term_parts part.term

  -- the particles right below the particle of a number
  abbrev pub parts_of : ℕ → List ℕ
  parts_of id = part_parts (slice_get t.particles.parts id)

abbrev mutual
  -- how many particles a model has
  pub size : Particle → ℕ
  size (term number) = 1
  size (sequence members) = 1 + sizes members
  size (choice members) = 1 + sizes members
  size (all_of members) = 1 + sizes members
  size (occurs least most part) = 1 + size part

  pub sizes : Particles → ℕ
  sizes none = 0
  sizes (member first rest) = size first + sizes rest

module _ (t : Tables) where
  -- how many particles the models of these have together
  abbrev pub work : List ℕ → ℕ
  work [] = 0
  work (id ∷ ids) = size (model_of t id) + work ids

  -- a particle was met, and what is right below it waits unless it was met before
  pub record Visits (id : ℕ) (old new waiting after : List ℕ) : Type 0 where
    pub kept : (y : ℕ) → Contains old y → Contains new y
    pub itself : Contains new id
    pub others : (y : ℕ) → Contains new y → Contains old y ⊎ (y ≡ id)
    pub waits : (y : ℕ) → Contains waiting y → Contains after y
    pub below : Contains old id ⊎ Each (Contains after) (parts_of t id)
    pub there : Each (λ y. y < length t.particles.parts) waiting → Each (λ y. y < length t.particles.parts) after
    pub less : work after < work waiting + size (model_of t id)

  -- the particles of the model of a particle, none of them behind one of higher rank
  pub record AreAllParts (root : ℕ) (order : List ℕ) : Type 0 where
    pub there : Each (λ id. id < length t.particles.parts) order
    pub itself : Contains order root
    pub closed : (x : ℕ) → Contains order x → Each (Contains order) (parts_of t x)

-- the number under which a particle's node was added
abbrev pub number_at : (ℕ → Option ℕ) → ℕ → ℕ
number_at number id = unwrap_or (number id) 0

-- each particle that has a number is said by the node of that number
pub record AreNodesOf (t : Tables) (number : ℕ → Option ℕ) (nodes : List Node) : Type 0 where
  pub ordered : IsOrdered nodes
  pub within : (id k : ℕ) → number id ≡ Some k → k < length nodes
  pub models : (id k : ℕ) → number id ≡ Some k → model_in nodes k ≡ model_of t id

-- nodes were added, and those before them are as they were
pub record Extends (old new : List Node) : Type 0 where
  pub ordered : IsOrdered old → IsOrdered new
  pub more : length old ≤ length new
  pub same : (k : ℕ) → k < length old → model_in new k ≡ model_in old k

-- the node of this number says a term
pub record IsTermNode (t : Tables) (id : ℕ) (of : Term) (old new : List Node) (k : ℕ) : Type 0 where
  pub extends : Extends old new
  pub within : k < length new
  pub model : model_in new k ≡ term_model t (model_of t) id of
