-- The expressions of a text that is being read.
use Rattle.std.specs.Prelude.{ℕ, List, [], ◌∷◌, ◌++◌, Option, Some, None}
use Rattle.pattern_syntax.specs.Regex.{Regex, repeated, sequence_of, choice_of}

-- a group that is open: its branches that are done, and the pieces of the one in hand
pub record Frame : Type 0 where
  pub branches : List Regex
  pub pieces : List Regex

-- the groups that are open around the one in hand, innermost first, and that one
pub record Built : Type 0 where
  pub outer : List Frame
  pub here : Frame

-- the list with its last item changed
abbrev pub change_last : {A : Type 0} → (A → A) → List A → List A
change_last f [] = []
change_last f (x ∷ []) = f x ∷ []
change_last f (x ∷ (y ∷ xs)) = x ∷ change_last f (y ∷ xs)

abbrev pub no_frame : Frame
no_frame = record { branches = []; pieces = [] }

abbrev pub with_piece : Built → Regex → Built
with_piece b r = record { outer = b.outer; here = record { branches = b.here.branches; pieces = b.here.pieces ++ r ∷ [] } }

abbrev pub with_bounds : Built → ℕ → Option ℕ → Built
with_bounds b least most = record { outer = b.outer; here = record { branches = b.here.branches; pieces = change_last (λ r. repeated r least most) b.here.pieces } }

abbrev pub opened : Built → Built
opened b = record { outer = b.here ∷ b.outer; here = no_frame }

abbrev pub all_branches : Frame → List Regex
all_branches f = f.branches ++ sequence_of f.pieces ∷ []

abbrev pub barred : Built → Built
barred b = record { outer = b.outer; here = record { branches = all_branches b.here; pieces = [] } }

abbrev pub closed_into : Frame → List Frame → Option Built
closed_into here [] = None
closed_into here (f ∷ fs) = Some (with_piece (record { outer = fs; here = f }) (choice_of (all_branches here)))

-- the innermost group becomes a piece of the one around it, where there is one
abbrev pub closed : Built → Option Built
closed b = closed_into b.here b.outer
