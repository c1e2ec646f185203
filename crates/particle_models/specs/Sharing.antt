-- A model as an expression whose symbols are the numbers of its particles, and the numbers of its terms along the positions.
use Rattle.std.specs.Prelude.{◌≡◌, ℕ, ◌+◌, ◌<◌, ◌≤◌, Bool, false, List, [], ◌∷◌, ◌++◌, length, map, slice_index_or, if◌then◌else◌}
use Rattle.xs_positions.specs.Tree.{Tree, one, empty, chain, nothing, either, repeat, copies, times, sequence_of, choice_of}
use Rattle.xs_positions.specs.Nodes.{tree_at}
use Rattle.particle_models.specs.Particles.{Particle, Particles, term, sequence, choice, all_of, occurs, none, member}
use Rattle.particle_models.specs.Unrolled.{is_never, count, wordless}
use Rattle.particle_models.specs.declared.node.Node.{Node}
use Rattle.particle_models.specs.declared.node.Node.TheVariants.{Term, Sequence, Choice, Each, Occurs}

-- the particle of this number accepts some name
abbrev pub inhabited_of : List Bool → ℕ → Bool
inhabited_of flags number = slice_index_or flags number false

module _ (inhabited : ℕ → Bool) where
  abbrev pub term_tree : ℕ → Tree
  term_tree number = if inhabited number then one number else wordless number

  abbrev mutual
    -- the expression of a model, whose symbols are the numbers of its particles
    pub shared : Particle → Tree
    shared (term number) = term_tree number
    shared (sequence members) = shared_chain members
    shared (choice members) = shared_either members
    shared (all_of members) = nothing
    shared (occurs least most part) = repeat (shared part) least most

    pub shared_chain : Particles → Tree
    shared_chain none = empty
    shared_chain (member first rest) = chain (shared first) (shared_chain rest)

    pub shared_either : Particles → Tree
    shared_either none = nothing
    shared_either (member first rest) = either (shared first) (shared_either rest)

  -- the expression of a node, the expressions of whose parts are among these
  abbrev pub node_tree : List Tree → Node → Tree
  node_tree trees (Term number) = term_tree number
  node_tree trees (Sequence members) = sequence_of (map (tree_at trees) members)
  node_tree trees (Choice members) = choice_of (map (tree_at trees) members)
  node_tree trees (Each members) = nothing
  node_tree trees (Occurs part least most) = repeat (tree_at trees part) least most

abbrev mutual
  -- the number of the term of each position, the terms being numbered from the next one on
  pub numbers_of : Particle → ℕ → List ℕ
  numbers_of (term number) next = next ∷ []
  numbers_of (sequence members) next = numbers_in members next
  numbers_of (choice members) next = numbers_in members next
  numbers_of (all_of members) next = []
  numbers_of (occurs least most part) next = times (copies least most) (numbers_of part next)

  pub numbers_in : Particles → ℕ → List ℕ
  numbers_in none next = []
  numbers_in (member first rest) next = numbers_of first next ++ numbers_in rest (next + count first)

abbrev mutual
  -- the particles of the terms that have copies, in order
  pub terms_of : Particle → List ℕ
  terms_of (term number) = number ∷ []
  terms_of (sequence members) = terms_in members
  terms_of (choice members) = terms_in members
  terms_of (all_of members) = []
  terms_of (occurs least most part) = if is_never most then [] else terms_of part

  pub terms_in : Particles → List ℕ
  terms_in none = []
  terms_in (member first rest) = terms_of first ++ terms_in rest

-- each expression stays under its number
pub record Keeps (old new : List Tree) : Type 0 where
  pub more : length old ≤ length new
  pub same : (k : ℕ) → k < length old → tree_at new k ≡ tree_at old k
