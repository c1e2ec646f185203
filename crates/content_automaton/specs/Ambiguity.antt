-- Terms that the same names lead to.
use Rattle.std.specs.Prelude.{◌≡◌, ◌≢◌, ℕ, ◌<◌, List, All}
use Rattle.xs_positions.specs.Tree.{Tree}
use Rattle.xs_positions.specs.PositionWords.{IsWord}
use Rattle.xs_positions.specs.Positions.{Table}
use Rattle.particle_models.specs.Reach.{Reach}
use Rattle.content_automaton.specs.Moves.{symbol_at}
use Rattle.content_automaton.specs.Automaton.{Accepts}

-- some names lead to positions of these two terms, which differ
abbrev pub AreReachedTogether : Tree → Table → List (List ℕ) → ℕ → ℕ → ℕ → Type 0
AreReachedTogether tree table accepted symbols x y =
    (names : List ℕ) × All (λ n. n < symbols) names × (i j : ℕ) × Reach (Accepts table accepted) (IsWord tree 0) names i ×
    Reach (Accepts table accepted) (IsWord tree 0) names j × (symbol_at table i ≡ x) × (symbol_at table j ≡ y) × (x ≢ y)

-- the same names lead to positions of one term only
abbrev pub AreReachedApart : Tree → Table → List (List ℕ) → ℕ → Type 0
AreReachedApart tree table accepted symbols =
    (names : List ℕ) → All (λ n. n < symbols) names → (i j : ℕ) → Reach (Accepts table accepted) (IsWord tree 0) names i →
    Reach (Accepts table accepted) (IsWord tree 0) names j → symbol_at table i ≡ symbol_at table j
