-- The particles of nodes, each over those of the nodes before it.
use Rattle.std.specs.Prelude.{ℕ, ◌<◌, ⊤, List, [], ◌∷◌, ◌++◌, map, length, slice_index_or, All}
use Rattle.particle_models.specs.Particles.{Particle, Particles, term, sequence, choice, all_of, occurs, none, member}
use Rattle.particle_models.specs.declared.node.Node.{Node}
use Rattle.particle_models.specs.declared.node.Node.TheVariants.{Term, Sequence, Choice, Each, Occurs}

-- the members of a group, as a list of them
abbrev pub members_of : List Particle → Particles
members_of [] = none
members_of (p ∷ ps) = member p (members_of ps)

-- the particle of a number
abbrev pub model_at : List Particle → ℕ → Particle
model_at models id = slice_index_or models id (choice none)

-- the particle of a node, whose parts are among these particles
abbrev pub model_of : List Particle → Node → Particle
model_of models (Term number) = term number
model_of models (Sequence members) = sequence (members_of (map (model_at models) members))
model_of models (Choice members) = choice (members_of (map (model_at models) members))
model_of models (Each members) = all_of (members_of (map (model_at models) members))
model_of models (Occurs part least most) = occurs least most (model_at models part)

-- the particles of the nodes that come after these
abbrev pub models_from : List Particle → List Node → List Particle
models_from models [] = models
models_from models (node ∷ nodes) = models_from (models ++ model_of models node ∷ []) nodes

-- the particle of the node of a number
abbrev pub model_in : List Node → ℕ → Particle
model_in nodes id = model_at (models_from [] nodes) id

-- the members of the node come before it
abbrev pub PartsBelow : ℕ → Node → Type 0
PartsBelow bound (Term number) = ⊤
PartsBelow bound (Sequence members) = All (λ id. id < bound) members
PartsBelow bound (Choice members) = All (λ id. id < bound) members
PartsBelow bound (Each members) = All (λ id. id < bound) members
PartsBelow bound (Occurs part least most) = part < bound

abbrev pub IsOrdered : List Node → Type 0
IsOrdered nodes = (i : ℕ) (node : Node) → i < length nodes → PartsBelow i (slice_index_or nodes i node)
