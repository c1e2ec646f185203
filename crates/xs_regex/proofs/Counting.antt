-- The positions of an expression over classes are those of its tree.
use Rattle.std.proofs.Common.{◌≡◌, ℕ, zero, suc, ◌+◌, ◌*◌, ◌<◌, ◌↔◌, List, [], ◌∷◌, map, refl, ap}
use Rattle.std.specs.Prelude.{Result, IsErr}
use Rattle.xs_positions.specs.Expressions.{renamed}
use Rattle.xs_positions.specs.Tree.{Tree, one, empty, chain, nothing, either, repeat, copies, size}
use Rattle.xs_positions.specs.Nodes.{tree_at}
use Rattle.pattern_syntax.specs.Classes.{Class}
use Rattle.pattern_syntax.specs.Regex.{regex_at}
use Rattle.pattern_syntax.specs.Trees.{class_at, regex_of}

size-renamed : (name : ℕ → Class) (tree : Tree) → size (renamed name tree) ≡ size tree
size-renamed name (one number) = refl
size-renamed name empty = refl
size-renamed name (chain a b) = λ i. size-renamed name a i + size-renamed name b i
size-renamed name nothing = refl
size-renamed name (either a b) = λ i. size-renamed name a i + size-renamed name b i
size-renamed name (repeat part least most) = ap (λ n. copies least most * n) (size-renamed name part)

size-regex_at : (classes : List Class) (trees : List Tree) (id : ℕ) → size (regex_at (map (regex_of classes) trees) id) ≡ size (tree_at trees id)
size-regex_at classes [] id = refl
size-regex_at classes (tree ∷ trees) zero = size-renamed (λ number. class_at classes number) tree
size-regex_at classes (tree ∷ trees) (suc id) = size-regex_at classes trees id

-- too many of the one are too many of the other
pub too_many : {T E : Type 0} (classes : List Class) (trees : List Tree) (id limit : ℕ) (answer : Result T E) →
    (IsErr answer ↔ (limit < size (tree_at trees id))) → (IsErr answer ↔ (limit < size (regex_at (map (regex_of classes) trees) id)))
too_many classes trees id limit answer h = rw (size-regex_at classes trees id) h
