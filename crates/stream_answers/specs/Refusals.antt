-- Lines that are refused.
use Rattle.std.specs.Prelude.{ℕ, List, [], ◌∷◌, ◌++◌, Bool, true, false, codes, if◌then◌else◌}
use Rattle.std.specs.Fmt.{decimal}
use Rattle.item_listing.specs.declared.item.Reason.{Reason}
use Rattle.item_listing.specs.declared.item.Reason.TheVariants as lines
use Rattle.tag_names.specs.declared.fault.NameReason.{NameReason}
use Rattle.tag_names.specs.declared.fault.NameReason.TheVariants as names
use Rattle.tree_building.specs.declared.fault.TreeReason.{TreeReason}
use Rattle.tree_building.specs.declared.fault.TreeReason.TheVariants as trees
use Rattle.stream_sections.specs.declared.refusal.Refusal.{Refusal}
use Rattle.stream_sections.specs.declared.refusal.Refusal.TheVariants as refusals
use Rattle.told.specs.declared.ending.Ending.{Ending}
use Rattle.told.specs.declared.ending.Ending.TheVariants.{ListingRefused, Limit}

abbrev pub line_name : Reason → List ℕ
line_name lines.NotUtf8 = codes "NotUtf8"
line_name lines.BadStart = codes "BadStart"
line_name lines.NoName = codes "NoName"
line_name lines.BadEscape = codes "BadEscape"
line_name lines.BadAttributePlace = codes "BadAttributePlace"
line_name lines.EndMissing = codes "EndMissing"
line_name lines.AfterEnd = codes "AfterEnd"
line_name lines.TooManyBytes = codes "TooManyBytes"
line_name lines.LineTooLong = codes "LineTooLong"

abbrev pub tag_name : NameReason → List ℕ
tag_name names.BadName = codes "BadName"
tag_name names.ReservedName = codes "ReservedName"
tag_name names.UnboundPrefix = codes "UnboundPrefix"
tag_name names.DoubleAttribute = codes "DoubleAttribute"
tag_name names.TooManyAttributes = codes "TooManyAttributes"

abbrev pub tree_name : TreeReason → List ℕ
tree_name trees.TwoRoots = codes "TwoRoots"
tree_name trees.TooDeep = codes "TooDeep"
tree_name trees.TooManyNodes = codes "TooManyNodes"
tree_name trees.TextOutside = codes "TextOutside"
tree_name trees.EndMismatch = codes "EndMismatch"
tree_name trees.Unclosed = codes "Unclosed"
tree_name trees.NoRoot = codes "NoRoot"
tree_name (trees.Name reason) = tag_name reason
tree_name trees.NotHere = codes "BadSection"

-- a reason's name as it is printed
abbrev pub name_of : Refusal → List ℕ
name_of (refusals.Line reason) = line_name reason
name_of refusals.BadSection = codes "BadSection"
name_of refusals.TooManySchemas = codes "TooManySchemas"
name_of (refusals.Tree reason) = tree_name reason

abbrev pub is_line_limit : Reason → Bool
is_line_limit lines.TooManyBytes = true
is_line_limit lines.LineTooLong = true
is_line_limit _ = false

abbrev pub is_tag_limit : NameReason → Bool
is_tag_limit names.TooManyAttributes = true
is_tag_limit _ = false

abbrev pub is_tree_limit : TreeReason → Bool
is_tree_limit trees.TooDeep = true
is_tree_limit trees.TooManyNodes = true
is_tree_limit (trees.Name reason) = is_tag_limit reason
is_tree_limit _ = false

-- the reasons that are limits
abbrev pub is_limit : Refusal → Bool
is_limit (refusals.Line reason) = is_line_limit reason
is_limit refusals.BadSection = false
is_limit refusals.TooManySchemas = true
is_limit (refusals.Tree reason) = is_tree_limit reason

abbrev pub reason_line : List ℕ → ℕ → List ℕ → List ℕ
reason_line word line reason = word ++ decimal line ++ codes " " ++ reason ++ 10 ∷ []

-- the line that tells of a refused line, by its number from 1
abbrev pub refusal_line : ℕ → Refusal → List ℕ
refusal_line line refusal = reason_line (if is_limit refusal then codes "limit " else codes "listing ") line (name_of refusal)

abbrev pub refusal_ending : Refusal → Ending
refusal_ending refusal = if is_limit refusal then Limit else ListingRefused
