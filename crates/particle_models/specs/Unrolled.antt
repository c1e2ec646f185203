-- A content model as an expression of positions: its terms are numbered, and each has so many copies.
use Rattle.std.specs.Prelude.{ℕ, zero, suc, ◌+◌, ◌*◌, Bool, true, false, List, [], ◌∷◌, ◌++◌, Option, Some, None, ⊤, if◌then◌else◌}
use Rattle.xs_positions.specs.Tree.{Tree, one, empty, chain, nothing, either, repeat, copies}
use Rattle.particle_models.specs.Particles.{Particle, Particles, term, sequence, choice, all_of, occurs, none, member, Path, Place}

-- a particle with these bounds has no copy
abbrev pub is_never : Option ℕ → Bool
is_never None = false
is_never (Some zero) = true
is_never (Some (suc most)) = false

abbrev mutual
  -- the places of the terms that have copies, in order; an all has no positions
  pub places : Particle → Path → List Place
  places (term number) path = record { path = path; number = number } ∷ []
  places (sequence members) path = places_in members path 0
  places (choice members) path = places_in members path 0
  places (all_of members) path = []
  places (occurs least most part) path = if is_never most then [] else places part path

  pub places_in : Particles → Path → ℕ → List Place
  places_in none path i = []
  places_in (member first rest) path i = places first (path ++ i ∷ []) ++ places_in rest path (suc i)

abbrev mutual
  -- how many terms there are that have copies
  pub count : Particle → ℕ
  count (term number) = 1
  count (sequence members) = count_in members
  count (choice members) = count_in members
  count (all_of members) = 0
  count (occurs least most part) = if is_never most then 0 else count part

  pub count_in : Particles → ℕ
  count_in none = 0
  count_in (member first rest) = count first + count_in rest

abbrev mutual
  -- How many positions there are, the copies of the terms: a part of bounds n to m has m copies, of n to unbounded the greater of
  -- n and 1.
  pub positions_of : Particle → ℕ
  positions_of (term number) = 1
  positions_of (sequence members) = positions_in members
  positions_of (choice members) = positions_in members
  positions_of (all_of members) = 0
  positions_of (occurs least most part) = copies least most * positions_of part

  pub positions_in : Particles → ℕ
  positions_in none = 0
  positions_in (member first rest) = positions_of first + positions_in rest

-- a position of its own that no word goes through: that of a term that accepts no name
abbrev pub wordless : ℕ → Tree
wordless k = chain (one k) (chain nothing empty)

module _ (inhabited : ℕ → Bool) where
  abbrev mutual
    -- The expression of a model, whose symbols are the numbers of its terms, from the next one on.
    pub unrolled : Particle → ℕ → Tree
    unrolled (term number) next = if inhabited number then one next else wordless next
    unrolled (sequence members) next = unrolled_chain members next
    unrolled (choice members) next = unrolled_either members next
    unrolled (all_of members) next = nothing
    unrolled (occurs least most part) next = repeat (unrolled part next) least most

    pub unrolled_chain : Particles → ℕ → Tree
    unrolled_chain none next = empty
    unrolled_chain (member first rest) next = chain (unrolled first next) (unrolled_chain rest (next + count first))

    pub unrolled_either : Particles → ℕ → Tree
    unrolled_either none next = nothing
    unrolled_either (member first rest) next = either (unrolled first next) (unrolled_either rest (next + count first))

abbrev mutual
  -- no part of the model is an all
  pub HasNoAll : Particle → Type 0
  HasNoAll (term number) = ⊤
  HasNoAll (sequence members) = HaveNoAll members
  HasNoAll (choice members) = HaveNoAll members
  HasNoAll (all_of members) = ⊥
  HasNoAll (occurs least most part) = HasNoAll part

  pub HaveNoAll : Particles → Type 0
  HaveNoAll none = ⊤
  HaveNoAll (member first rest) = HasNoAll first × HaveNoAll rest
