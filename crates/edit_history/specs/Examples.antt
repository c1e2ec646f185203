-- A log of turns, and what is stale by it.
use Rattle.std.specs.Prelude.{◌≡◌, ℕ, List, [], ◌∷◌, None, Some, refl}
use Rattle.edit_history.specs.declared.touched.Touched.{Touched}
use Rattle.edit_history.specs.Turns.{Turn, turn, stale}

abbrev pub list_of : ℕ → Touched
list_of node = record { node = None; list = Some node }

-- author 1 makes revision 1 by an insertion below node 1, author 2 makes revision 2 by another one there
abbrev pub two_turns : List Turn
two_turns = turn 1 1 (list_of 1) ∷ turn 2 2 (list_of 1) ∷ []

pub example-of-another : stale two_turns 2 0 (list_of 1) ≡ Some 1
example-of-another = refl

pub example-of-its-own : stale two_turns 2 1 (list_of 1) ≡ None
example-of-its-own = refl

pub example-latest : stale two_turns 3 0 (list_of 1) ≡ Some 2
example-latest = refl

pub example-elsewhere : stale two_turns 3 0 (list_of 2) ≡ None
example-elsewhere = refl
