-- What the place where children get stuck says of the states along them.
use Rattle.std.specs.Prelude.{◌≡◌, ◌⊎◌, ⊤, ℕ, suc, ◌<◌, true, false, List, Option, None, Some, take, length}
use Rattle.content_models.specs.declared.automaton.ContentAutomaton.{ContentAutomaton}
use Rattle.model_terms.specs.Terms.{begins, is_word}

-- the first so many symbols begin words, each with those before it
abbrev pub BeginUpTo : ContentAutomaton → List ℕ → ℕ → Type 0
BeginUpTo a symbols i = (k : ℕ) → k < i → begins a (take (suc k) symbols) ≡ true

-- the least place with which they begin no word; their number where all begin one but are none; none where they are a word
abbrev pub IsStuckAt : ContentAutomaton → List ℕ → Option ℕ → Type 0
IsStuckAt a symbols None = BeginUpTo a symbols (length symbols) × (is_word a symbols ≡ true)
IsStuckAt a symbols (Some i) =
    BeginUpTo a symbols i ×
    (((i < length symbols) × (begins a (take (suc i) symbols) ≡ false)) ⊎ ((i ≡ length symbols) × (is_word a symbols ≡ false)))

-- the place is before the one where they get stuck
abbrev pub IsBefore : Option ℕ → ℕ → Type 0
IsBefore None i = ⊤
IsBefore (Some stuck) i = i < stuck
