-- One item more behind some items.
use Rattle.std.proofs.Common.{◌≡◌, ℕ, ◌+◌, List, [], ◌∷◌, ◌++◌, Bool, true, false, not, ◌==◌, ◌&&◌, if◌then◌else◌, length, map, refl, sym, ap, ◌∙◌, arith, append_assoc, append-nil}
use Rattle.item_listing.specs.declared.item.Item.{Item}
use Rattle.item_listing.specs.declared.item.Item.TheVariants as items
use Rattle.tag_names.specs.declared.lines.AttributeLine.{AttributeLine}
use Rattle.tag_names.specs.declared.lines.Tag.{Tag}
use Rattle.tree_rows.specs.declared.row.Binding.{Binding}
use Rattle.tree_building.specs.Nest.{OpenElement, scope_below}
use Rattle.tree_building.specs.Spelling.{line_item}
use Rattle.tree_building.specs.Fronts.{tags_after, open_from, open_tags, scope_inside, is_start, have_start, tag_after, tag_from, end_in_tag, text_after, text_from, end_in_text, begins_node, nodes_behind, node_count}

tags_behind : (tags : List Tag) (its : List Item) (item : Item) → open_from tags (its ++ item ∷ []) ≡ tags_after (open_from tags its) item
tags_behind tags [] item = refl
tags_behind tags (first ∷ its) item = tags_behind (tags_after tags first) its item

pub open_behind : (its : List Item) (item : Item) → open_tags (its ++ item ∷ []) ≡ tags_after (open_tags its) item
open_behind its item = tags_behind [] its item

tag_behind : (in_tag : Bool) (its : List Item) (item : Item) → tag_from in_tag (its ++ item ∷ []) ≡ tag_after (tag_from in_tag its) item
tag_behind in_tag [] item = refl
tag_behind in_tag (first ∷ its) item = tag_behind (tag_after in_tag first) its item

pub in_tag_behind : (its : List Item) (item : Item) → end_in_tag (its ++ item ∷ []) ≡ tag_after (end_in_tag its) item
in_tag_behind its item = tag_behind false its item

text_behind : (in_text : Bool) (its : List Item) (item : Item) → text_from in_text (its ++ item ∷ []) ≡ text_after (text_from in_text its) item
text_behind in_text [] item = refl
text_behind in_text (first ∷ its) item = text_behind (text_after in_text first) its item

pub in_text_behind : (its : List Item) (item : Item) → end_in_text (its ++ item ∷ []) ≡ text_after (end_in_text its) item
in_text_behind its item = text_behind false its item

if_start : (one : Bool) (rest : Bool) (item : Item) → (if one then true else (if rest then true else is_start item)) ≡ (if (if one then true else rest) then true else is_start item)
if_start true rest item = refl
if_start false rest item = refl

if_true : (one : Bool) → (if one then true else false) ≡ one
if_true true = refl
if_true false = refl

pub start_behind : (its : List Item) (item : Item) → have_start (its ++ item ∷ []) ≡ (if have_start its then true else is_start item)
start_behind [] item = if_true (is_start item)
start_behind (first ∷ its) item = ap (λ r. if is_start first then true else r) (start_behind its item) ∙ if_start (is_start first) (have_start its) item

abbrev one_if : Bool → ℕ
one_if b = if b then 1 else 0

nodes_more : (before its : List Item) (item : Item) → nodes_behind before (its ++ item ∷ []) ≡ nodes_behind before its + one_if (begins_node (before ++ its) item)
nodes_more before [] item =
    let same : before ++ [] ≡ before = append-nil before in
    let zero_is : one_if (begins_node before item) + 0 ≡ 0 + one_if (begins_node before item) = omega arith in
    zero_is ∙ ap (λ l. 0 + one_if (begins_node l item)) (sym same)
nodes_more before (first ∷ its) item =
    let later = nodes_more (before ++ first ∷ []) its item in
    let sums : one_if (begins_node before first) + (nodes_behind (before ++ first ∷ []) its + one_if (begins_node (before ++ (first ∷ its)) item))
    ≡ one_if (begins_node before first) + nodes_behind (before ++ first ∷ []) its + one_if (begins_node (before ++ (first ∷ its)) item) = omega arith in
    ap (λ n. one_if (begins_node before first) + n) (later ∙ ap (λ l. nodes_behind (before ++ first ∷ []) its + one_if (begins_node l item)) (append_assoc before (first ∷ []) its)) ∙ sums

pub nodes_item : (its : List Item) (item : Item) → node_count (its ++ item ∷ []) ≡ node_count its + one_if (begins_node its item)
nodes_item its item = nodes_more [] its item

pub length_item : (its : List Item) (item : Item) → length (its ++ item ∷ []) ≡ length its + 1
length_item [] item = refl
length_item (first ∷ its) item = let later = length_item its item in omega (arith, later)

-- the elements that these tags open
abbrev pub elements_of : List Binding → List Tag → List OpenElement
elements_of scope [] = []
elements_of scope (tag ∷ tags) = record { name = tag.name; scope = scope_inside scope (tag ∷ tags) } ∷ elements_of scope tags

pub element_count : (scope : List Binding) (tags : List Tag) → length (elements_of scope tags) ≡ length tags
element_count scope [] = refl
element_count scope (tag ∷ tags) = let later = element_count scope tags in omega (arith, later)

pub scope_of_elements : (scope : List Binding) (tags : List Tag) → scope_below scope (elements_of scope tags) ≡ scope_inside scope tags
scope_of_elements scope [] = refl
scope_of_elements scope (tag ∷ tags) = refl

pub lines_behind : (lines : List AttributeLine) (line : AttributeLine) → map line_item (lines ++ line ∷ []) ≡ map line_item lines ++ line_item line ∷ []
lines_behind [] line = refl
lines_behind (first ∷ lines) line = ap (λ l. line_item first ∷ l) (lines_behind lines line)
