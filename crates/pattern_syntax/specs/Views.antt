-- What the program's parts stand for.
use Rattle.std.specs.Prelude.{◌≡◌, ℕ, Bool, true, false, ◌&&◌, nat_lt, List, map, reverse, Some, None}
use Rattle.std.specs.List.{list_all}
use Rattle.pattern_syntax.specs.Classes.{group_of}
use Rattle.pattern_syntax.specs.Regex.{Regex, regex_at}
use Rattle.pattern_syntax.specs.declared.class_syntax.ClassInHand.{ClassInHand}
use Rattle.pattern_syntax.specs.declared.building.OpenGroup.{OpenGroup}
use Rattle.pattern_syntax.specs.Classed.{Classed}
use Rattle.pattern_syntax.specs.Built.{Frame, Built, closed}

abbrev pub classed_of : ClassInHand → Classed
classed_of k = record { groups = map group_of k.groups.items; hand = group_of k.hand }

-- the terms are among so many
abbrev pub knows : ℕ → List ℕ → Bool
knows bound ids = list_all (λ id. nat_lt id bound) ids

abbrev pub knows_group : ℕ → OpenGroup → Bool
knows_group bound g = knows bound g.branches.items && knows bound g.pieces.items

-- a group over these terms
abbrev pub frame_over : List Regex → List ℕ → List ℕ → Frame
frame_over regexes branches pieces = record { branches = map (regex_at regexes) branches; pieces = map (regex_at regexes) pieces }

abbrev pub frame_of : List Regex → OpenGroup → Frame
frame_of regexes g = frame_over regexes g.branches.items g.pieces.items

-- open groups over these terms; the program has the innermost last
abbrev pub built_over : List Regex → List OpenGroup → List ℕ → List ℕ → Built
built_over regexes outer branches pieces = record { outer = reverse (map (frame_of regexes) outer); here = frame_over regexes branches pieces }

-- the innermost group became a piece of the one around it, or there is none
abbrev pub Closes : Bool → Built → Built → Type 0
Closes true old now = closed old ≡ Some now
Closes false old now = closed old ≡ None
