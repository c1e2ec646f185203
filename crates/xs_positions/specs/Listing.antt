-- One step of listing the symbols of an expression's positions.
use Rattle.std.specs.Prelude.{◌≡◌, ℕ, ◌+◌, ◌*◌, ◌<◌, List, [], ◌∷◌, ◌++◌, length, All}
use Rattle.xs_positions.specs.Tree.{Tree, one, empty, chain, nothing, either, repeat, copies, symbols}
use Rattle.xs_positions.specs.Walk.{tree_in}
use Rattle.xs_positions.specs.declared.expr.Node.{Node}

-- how many steps an expression takes at most
abbrev pub steps : Tree → ℕ
steps (one symbol) = 1
steps empty = 1
steps (chain first rest) = steps first + steps rest
steps nothing = 1
steps (either first rest) = steps first + steps rest
steps (repeat part least most) = copies least most * steps part + 1

-- the symbols of expressions that wait, the last first
abbrev pub waiting : List Node → List ℕ → List ℕ
waiting nodes [] = []
waiting nodes (id ∷ ids) = waiting nodes ids ++ symbols (tree_in nodes id)

-- how many steps they take
abbrev pub steps_of : List Node → List ℕ → ℕ
steps_of nodes [] = 0
steps_of nodes (id ∷ ids) = steps (tree_in nodes id) + steps_of nodes ids

-- an expression's symbols were listed, or its parts wait in its place
pub record IsListed (nodes : List Node) (id : ℕ) (old new old_todo new_todo : List ℕ) : Type 0 where
  pub same : new ++ waiting nodes new_todo ≡ old ++ (symbols (tree_in nodes id) ++ waiting nodes old_todo)
  pub known : All (λ other. other < length nodes) old_todo → All (λ other. other < length nodes) new_todo
  pub less : steps_of nodes new_todo < steps (tree_in nodes id) + steps_of nodes old_todo
