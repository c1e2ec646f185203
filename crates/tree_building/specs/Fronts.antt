-- What the first items of a section have come to, counted off them.
use Rattle.std.specs.Prelude.{ℕ, ◌+◌, List, [], ◌∷◌, ◌++◌, Bool, true, false, not, ◌==◌, ◌&&◌, length, if◌then◌else◌}
use Rattle.item_listing.specs.declared.item.Item.{Item}
use Rattle.item_listing.specs.declared.item.Item.TheVariants as items
use Rattle.tag_names.specs.Tags.{scope_within}
use Rattle.tag_names.specs.declared.lines.AttributeLine.{AttributeLine}
use Rattle.tag_names.specs.declared.lines.Tag.{Tag}
use Rattle.tree_rows.specs.declared.row.Binding.{Binding}

-- an attribute line of the innermost start tag
abbrev pub with_line : List Tag → AttributeLine → List Tag
with_line [] line = []
with_line (tag ∷ tags) line = record tag { attributes = tag.attributes ++ line ∷ [] } ∷ tags

-- without the innermost
abbrev pub outer_tags : List Tag → List Tag
outer_tags [] = []
outer_tags (tag ∷ tags) = tags

abbrev pub tags_after : List Tag → Item → List Tag
tags_after tags (items.Start name) = record { name = name; attributes = [] } ∷ tags
tags_after tags (items.Attr name value) = with_line tags (record { name = name; value = value })
tags_after tags (items.Close name) = outer_tags tags
tags_after tags item = tags

-- the start tags that are not ended behind these items, the innermost first, where these were open before
abbrev pub open_from : List Tag → List Item → List Tag
open_from tags [] = tags
open_from tags (item ∷ more) = open_from (tags_after tags item) more

abbrev pub open_tags : List Item → List Tag
open_tags its = open_from [] its

-- the scope inside of these tags
abbrev pub scope_inside : List Binding → List Tag → List Binding
scope_inside scope [] = scope
scope_inside scope (tag ∷ tags) = scope_within (scope_inside scope tags) tag

-- an element has started
abbrev pub is_start : Item → Bool
is_start (items.Start name) = true
is_start item = false

abbrev pub have_start : List Item → Bool
have_start [] = false
have_start (item ∷ more) = if is_start item then true else have_start more

-- a start tag may get attribute lines where it or one of its lines came last
abbrev pub tag_after : Bool → Item → Bool
tag_after in_tag (items.Start name) = true
tag_after in_tag (items.Attr name value) = in_tag
tag_after in_tag item = false

abbrev pub tag_from : Bool → List Item → Bool
tag_from in_tag [] = in_tag
tag_from in_tag (item ∷ more) = tag_from (tag_after in_tag item) more

abbrev pub end_in_tag : List Item → Bool
end_in_tag its = tag_from false its

abbrev pub is_empty : List ℕ → Bool
is_empty chars = length chars == 0

-- a text may get more characters where some of it came last; instructions and no characters do not end it
abbrev pub text_after : Bool → Item → Bool
text_after in_text (items.Chars chars) = if is_empty chars then in_text else true
text_after in_text items.Instruction = in_text
text_after in_text item = false

abbrev pub text_from : Bool → List Item → Bool
text_from in_text [] = in_text
text_from in_text (item ∷ more) = text_from (text_after in_text item) more

abbrev pub end_in_text : List Item → Bool
end_in_text its = text_from false its

-- the item is the first of a node: a start, or inside of the root the first characters of a text
abbrev pub begins_node : List Item → Item → Bool
begins_node before (items.Start name) = true
begins_node before (items.Chars chars) = not (length (open_tags before) == 0) && (not (is_empty chars) && not (end_in_text before))
begins_node before item = false

abbrev pub nodes_behind : List Item → List Item → ℕ
nodes_behind before [] = 0
nodes_behind before (item ∷ more) = (if begins_node before item then 1 else 0) + nodes_behind (before ++ item ∷ []) more

-- how many nodes have begun
abbrev pub node_count : List Item → ℕ
node_count its = nodes_behind [] its
