use Rattle.std.proofs.Common.{◌++◌, List, Option, None, ℕ, length, ap, ◌∙◌}
use Rattle.forest_keys.specs.inside.Places.{parents_along}
use Rattle.forest_keys.proofs.placing.parents_of.Goals as goal

pub returns-clause-parents : goal.returns-clause-parents
returns-clause-parents g c =
    c.in_ok-add_parents.ensures.parents ∙ ap (λ (xs : List (Option ℕ)). xs ++ parents_along (length xs) None (g.T.KeySiblings.forest c.args.siblings)) c.new-parents.ensures.items
