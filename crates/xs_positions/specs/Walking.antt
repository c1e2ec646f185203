-- One step of the walk over an expression: what it needs, and what it does.
use Rattle.std.specs.Prelude.{◌≡◌, ℕ, ◌+◌, ◌<◌, ◌≤◌, ◌^◌, ◌⊎◌, IsTrue, List, [], ◌∷◌, ◌++◌, length, map, take, drop, reverse}
use Rattle.xs_positions.specs.Tree.{size}
use Rattle.xs_positions.specs.Nodes.{ids_at}
use Rattle.xs_positions.specs.Measures.{has_word}
use Rattle.xs_positions.specs.Parts.{IsPartOf, AreParts}
use Rattle.xs_positions.specs.Walk.{tree_in, trees_in}
use Rattle.xs_positions.specs.declared.expr.Node.{Node}
use Rattle.xs_positions.specs.declared.sets.Part.{Part}
use Rattle.xs_positions.specs.declared.walk.Task.{Task}
use Rattle.xs_positions.specs.declared.walk.Task.TheVariants.{Visit, Build}
use Rattle.xs_positions.specs.declared.walk.Walk.{Walk}

-- the sets of the expression's parts are there, and those of others before them
pub record IsReady (nodes : List Node) (id base below : ℕ) (walk : Walk) : Type 0 where
  pub known : id < length nodes
  pub words : IsTrue (has_word (tree_in nodes id))
  pub fits : base + size (tree_in nodes id) < 2 ^ 32
  pub held : below ≤ length walk.found.items
  pub parts : AreParts base (trees_in nodes (ids_at nodes id)) (drop below walk.found.items)

abbrev pub CanDo : List Node → Task → Walk → Type 0
CanDo nodes (Visit id) walk = (id < length nodes) × (walk.count + size (tree_in nodes id) < 2 ^ 32)
CanDo nodes (Build id base below) walk = IsReady nodes id base below walk

-- the sets of the expression came to those that were found
pub record IsPassed (nodes : List Node) (id : ℕ) (old new : Walk) : Type 0 where
  pub part : Part
  pub is : IsPartOf (tree_in nodes id) old.count part
  pub found : new.found.items ≡ old.found.items ++ part ∷ []
  pub count : new.count ≡ old.count + size (tree_in nodes id)
  pub tasks : new.tasks.items ≡ old.tasks.items

-- its parts wait, the first of them last in the list, and it is built behind them
pub record IsOpened (nodes : List Node) (id : ℕ) (old new : Walk) : Type 0 where
  pub words : IsTrue (has_word (tree_in nodes id))
  pub found : new.found.items ≡ old.found.items
  pub count : new.count ≡ old.count
  pub tasks : new.tasks.items ≡ (old.tasks.items ++ Build id old.count (length old.found.items) ∷ []) ++ reverse (map Visit (ids_at nodes id))

abbrev pub Visits : List Node → ℕ → Walk → Walk → Type 0
Visits nodes id old new = IsPassed nodes id old new ⊎ IsOpened nodes id old new

-- the sets of the expression came in the place of those of its parts
pub record IsBuilt (nodes : List Node) (id base below : ℕ) (old new : Walk) : Type 0 where
  pub part : Part
  pub is : IsPartOf (tree_in nodes id) base part
  pub found : new.found.items ≡ take below old.found.items ++ part ∷ []
  pub count : new.count ≡ base + size (tree_in nodes id)
  pub tasks : new.tasks.items ≡ old.tasks.items

abbrev pub Does : List Node → Task → Walk → Walk → Type 0
Does nodes (Visit id) old new = Visits nodes id old new
Does nodes (Build id base below) old new = IsBuilt nodes id base below old new
