-- Where the program's reader stands.
use Rattle.std.specs.Prelude.{◌≡◌, ℕ, Bool, true, false, List, Option, Some, None}
use Rattle.pattern_syntax.specs.declared.mode.Place.{Place}
use Rattle.pattern_syntax.specs.declared.mode.Place.TheVariants as place
use Rattle.pattern_syntax.specs.declared.mode.Mode.{Mode}
use Rattle.pattern_syntax.specs.declared.mode.Mode.TheVariants as mode
use Rattle.pattern_syntax.specs.Classed.{Classed}
use Rattle.pattern_syntax.specs.Machine.{Within, in_branch, in_class, Stage, at_piece, at_least_digits, at_most_digits, at_backslash, at_property, at_name, at_class, at_first, at_part, at_hyphen, at_less, at_range_escape, at_end, State}

abbrev pub within_of : Place → Classed → Within
within_of place.Branch k = in_branch
within_of place.Class k = in_class k

-- the stage of a mode, with the class, the digits and the name in hand
abbrev pub stage_of : Mode → Classed → List ℕ → List ℕ → List ℕ → Stage
stage_of (mode.Piece repeatable) k least most name = at_piece repeatable
stage_of mode.Least k least most name = at_least_digits least
stage_of mode.Most k least most name = at_most_digits least most
stage_of (mode.Escape p) k least most name = at_backslash (within_of p k)
stage_of (mode.Property p complement) k least most name = at_property (within_of p k) complement
stage_of (mode.Name p complement) k least most name = at_name (within_of p k) complement name
stage_of mode.ClassStart k least most name = at_class k
stage_of mode.ClassFirst k least most name = at_first k
stage_of (mode.Part first) k least most name = at_part k first
stage_of (mode.Hyphen first) k least most name = at_hyphen k first
stage_of mode.Less k least most name = at_less k
stage_of (mode.RangeEscape first) k least most name = at_range_escape k first
stage_of (mode.Closing more) k least most name = at_end k more

-- the reader took the step, or there is none
abbrev pub Stepped : Bool → Option State → State → Type 0
Stepped true next now = next ≡ Some now
Stepped false next now = next ≡ None
