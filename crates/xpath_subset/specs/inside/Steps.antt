-- Steps one at a time, and their number.
use Rattle.std.specs.Prelude.{ℕ, Bool, true, false, List, ◌∷◌, count_by, ◌↔◌}
use Rattle.xpath_subset.specs.declared.path.Step.{Step}
use Rattle.xpath_subset.specs.declared.path.Step.TheVariants.{Itself, Child}
use Rattle.xpath_subset.specs.Reaches.{ExpandedName, LeadsDown}

-- steps that begin with this one lead down along no such elements; they lead down along them as the later ones do along the rest
abbrev pub LeadsNowhere : Step → List ExpandedName → Type 0
LeadsNowhere step names = (steps : List Step) → ¬ (LeadsDown (step ∷ steps) names)

abbrev pub GoesOn : Step → List ExpandedName → List ExpandedName → Type 0
GoesOn step names rest = (steps : List Step) → LeadsDown (step ∷ steps) names ↔ LeadsDown steps rest

-- how many of the steps go to a child
abbrev pub is_child : Step → Bool
is_child Itself = false
is_child (Child test) = true

abbrev pub child_count : List Step → ℕ
child_count steps = count_by is_child steps
