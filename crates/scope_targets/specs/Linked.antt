-- Parents and child elements, by a list of parents.
use Rattle.std.specs.Prelude.{ℕ, ◌+◌, nat_eq, Bool, true, false, List, [], ◌∷◌, Option, None, Some}
use Rattle.identity_constraints.specs.Counting.{Links}
use Rattle.key_records.specs.Tables.{parent_in}

abbrev pub is_parent : Option ℕ → ℕ → Bool
is_parent None p = false
is_parent (Some q) p = nat_eq q p

abbrev pub with_child : Bool → ℕ → List ℕ → List ℕ
with_child true n children = n ∷ children
with_child false n children = children

-- the elements with this parent, where the list gives the parents from a number on
abbrev pub children_from : ℕ → List (Option ℕ) → ℕ → List ℕ
children_from n [] p = []
children_from n (q ∷ qs) p = with_child (is_parent q p) n (children_from (n + 1) qs p)

abbrev pub links_by : List (Option ℕ) → Links
links_by parents = record { parent = parent_in parents; children = children_from 0 parents }
