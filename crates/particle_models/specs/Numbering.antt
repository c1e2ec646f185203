-- The walk that numbers the terms of a model along its positions.
use Rattle.std.specs.Prelude.{ℕ, ◌+◌, ◌<◌, ◌==◌, ◌||◌, ◌&&◌, ⊤, Bool, true, false, List, [], ◌∷◌, ◌++◌, length, drop, slice_index_or}
use Rattle.xs_positions.specs.Tree.{times}
use Rattle.particle_models.specs.Particles.{Particle, Particles, term, sequence, choice, all_of, occurs, none, member}
use Rattle.particle_models.specs.Unrolled.{is_never, count}
use Rattle.particle_models.specs.Nodes.{model_in}
use Rattle.particle_models.specs.Sharing.{numbers_of, terms_of}
use Rattle.particle_models.specs.declared.node.Node.{Node}
use Rattle.particle_models.specs.declared.node.Node.TheVariants.{Term, Sequence, Choice, Each, Occurs}
use Rattle.particle_models.specs.declared.numbering.Task.{Task}
use Rattle.particle_models.specs.declared.numbering.Task.TheVariants.{Enter, Copy}

-- the numbers of the terms along the positions so far, and the particles of the terms so far
pub record State : Type 0 where
  pub numbers : List ℕ
  pub terms : List ℕ

abbrev pub no_terms : State
no_terms = record { numbers = []; terms = [] }

module _ (nodes : List Node) where
  -- the state after a particle
  abbrev pub entered : ℕ → State → State
  entered id s = record { numbers = s.numbers ++ numbers_of (model_in nodes id) (length s.terms); terms = s.terms ++ terms_of (model_in nodes id) }

  -- the state after some particles in a row
  abbrev pub all_entered : List ℕ → State → State
  all_entered [] s = s
  all_entered (id ∷ ids) s = all_entered ids (entered id s)

  -- the state after a task
  abbrev pub done : Task → State → State
  done (Enter id) s = entered id s
  done (Copy from more) s = record { numbers = s.numbers ++ times more (drop from s.numbers); terms = s.terms }

  -- the state in the end, where the last task comes first
  abbrev pub outcome : List Task → State → State
  outcome [] s = s
  outcome (task ∷ tasks) s = done task (outcome tasks s)

  -- the numbers in the tasks are those of nodes
  abbrev pub IsTaskWithin : Task → Type 0
  IsTaskWithin (Enter id) = id < length nodes
  IsTaskWithin (Copy from more) = ⊤

-- how many steps a model takes at most
abbrev mutual
  pub weight : Particle → ℕ
  weight (term number) = 1
  weight (sequence members) = 1 + weight_in members
  weight (choice members) = 1 + weight_in members
  weight (all_of members) = 1
  weight (occurs least most part) = 2 + weight part

  pub weight_in : Particles → ℕ
  weight_in none = 0
  weight_in (member first rest) = weight first + weight_in rest

module _ (nodes : List Node) where
  abbrev pub task_weight : Task → ℕ
  task_weight (Enter id) = weight (model_in nodes id)
  task_weight (Copy from more) = 1

  abbrev pub weight_of : List Task → ℕ
  weight_of [] = 0
  weight_of (task ∷ tasks) = task_weight task + weight_of tasks

  abbrev pub members_weight : List ℕ → ℕ
  members_weight [] = 0
  members_weight (id ∷ ids) = weight (model_in nodes id) + members_weight ids

-- a model has no term that has copies
abbrev pub has_no_terms : Particle → Bool
has_no_terms p = count p == 0

abbrev pub all_flags : List Bool → List ℕ → Bool
all_flags flags [] = true
all_flags flags (m ∷ ms) = slice_index_or flags m true && all_flags flags ms

-- whether a node has no such term, by the flags of its parts
abbrev pub node_flag : List Bool → Node → Bool
node_flag flags (Term number) = false
node_flag flags (Sequence members) = all_flags flags members
node_flag flags (Choice members) = all_flags flags members
node_flag flags (Each members) = true
node_flag flags (Occurs part least most) = is_never most || slice_index_or flags part true
