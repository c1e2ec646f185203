-- Numbers that a list lacks.
use Rattle.std.proofs.Common.{◌≢◌, ℕ, List, [], ◌∷◌, ◌++◌}
use Rattle.doc_nodes.specs.Nodes.{Lacks}

pub lacks-last : (n : ℕ) (xs : List ℕ) (y : ℕ) → Lacks n xs → y ≢ n → Lacks n (xs ++ y ∷ [])
lacks-last n [] y lacks other = (other, tt)
lacks-last n (x ∷ xs) y lacks other = (lacks.0, lacks-last n xs y lacks.1 other)
