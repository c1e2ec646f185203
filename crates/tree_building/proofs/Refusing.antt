-- Where a builder stands behind some items, and what it refuses there.
use Rattle.std.proofs.Common.{◌≡◌, ◌⊎◌, inl, inr, ℕ, ◌+◌, ◌≤◌, ◌<◌, List, [], ◌∷◌, ◌++◌, Bool, true, false, not, ◌==◌, ◌&&◌, ◌||◌, Option, Some, None, Result, Ok, Err, if◌then◌else◌, length, map, refl, sym, ap, ◌∙◌, arith, nat_lt, append_assoc, append-nil, subst}
use Rattle.std.proofs.lemmas.Bool.Decides.{nat_tests}
use Rattle.std.specs.Str.{bytes_eq}
use Rattle.item_listing.specs.declared.item.Item.{Item}
use Rattle.item_listing.specs.declared.item.Item.TheVariants as items
use Rattle.xs_names.specs.White.{is_white}
use Rattle.tag_names.specs.Faults.{name_fault}
use Rattle.tag_names.specs.Tags.{named}
use Rattle.tag_names.specs.declared.fault.NameReason.{NameReason}
use Rattle.tag_names.specs.declared.lines.AttributeLine.{AttributeLine}
use Rattle.tag_names.specs.declared.lines.Tag.{Tag}
use Rattle.tree_rows.specs.Forest.{Document}
use Rattle.tree_rows.specs.declared.row.Binding.{Binding}
use Rattle.tree_rows.specs.declared.row.Row.{Row}
use Rattle.tree_building.specs.Building.{◌>>=◌, with_element, element_row, tag_by, settled_by, started, text_begun, text_by, ended, passed, took, finished, ended_all, after_all, built, document}
use Rattle.tree_building.specs.Nest.{OpenElement, scope_below, closes as closes_element}
use Rattle.tree_building.specs.Rules.{document_rules}
use Rattle.tree_building.specs.Steps.{holds_chars}
use Rattle.tree_building.specs.declared.pending.Pending.{Pending}
use Rattle.tree_building.specs.declared.pending.Pending.TheVariants as pending
use Rattle.tree_building.specs.declared.building.Building.{Building}
use Rattle.tree_building.specs.declared.build.Built.{Built}
use Rattle.tree_building.specs.declared.fault.TreeFault.{TreeFault}
use Rattle.tree_building.specs.declared.fault.TreeReason.{TreeReason}
use Rattle.tree_building.specs.declared.fault.TreeReason.TheVariants as reasons
use Rattle.tree_building.specs.Spelling.{line_item}
use Rattle.tree_building.specs.Fronts.{with_line, outer_tags, tags_after, open_tags, scope_inside, have_start, end_in_tag, end_in_text, is_empty, begins_node, node_count}
use Rattle.tree_building.specs.Refusals.{Begin, closes, first_of, tests, RefusesItem, RefusesNames, RefusesEnd, IsRefused, begin_with_line, AreListed}
use Rattle.tree_building.proofs.States.{At, Outside, tag_row, chars_row, opened_in, some_open, after_fault}
use Rattle.tree_building.proofs.FrontLaws.{open_behind, in_tag_behind, in_text_behind, start_behind, nodes_item, length_item, elements_of, element_count, scope_of_elements, lines_behind}
use Rattle.tree_building.proofs.Begun.{after_both, start, begin_inside, begin_outside, no_begin}
use Rattle.tree_building.proofs.Unreading.{err_ok, fault_gives}

-- a start tag came last, with the lines that it has so far
pub record WaitsTag (scope : List Binding) (front : List Item) (tags : List Tag) (tag : Tag) (item : ℕ) : Type 0 where
  pub before : List Item
  pub are : front ≡ before ++ (items.Start tag.name ∷ map line_item tag.attributes)
  pub at : item ≡ length before
  pub begins : Begin scope before
  pub well : first_of (tests before (items.Start tag.name)) ≡ None
  pub outside : open_tags before ≡ tags
  pub opens : open_tags front ≡ tag ∷ tags
  pub in_tag : end_in_tag front ≡ true
  pub in_text : end_in_text front ≡ false

-- characters came last
pub record WaitsText (front : List Item) (tags : List Tag) : Type 0 where
  pub opens : open_tags front ≡ tags
  pub in_tag : end_in_tag front ≡ false
  pub in_text : end_in_text front ≡ true
  pub within : 1 ≤ length tags

-- neither
pub record WaitsNot (front : List Item) (tags : List Tag) : Type 0 where
  pub opens : open_tags front ≡ tags
  pub in_tag : end_in_tag front ≡ false
  pub in_text : 1 ≤ length tags → end_in_text front ≡ false

abbrev pub Waits : List Binding → List Item → List Tag → Pending → Type 0
Waits scope front tags pending.Nothing = WaitsNot front tags
Waits scope front tags (pending.Start tag item) = WaitsTag scope front tags tag item
Waits scope front tags (pending.Chars chars) = WaitsText front tags

abbrev pub waiting : Pending → ℕ
waiting pending.Nothing = 0
waiting (pending.Start tag item) = 1
waiting (pending.Chars chars) = 1

-- the root has begun
pub record Inside (scope : List Binding) (front : List Item) (b : Building) : Type 0 where
  pub rows : List Row
  pub tags : List Tag
  pub last : Pending
  pub next : ℕ
  pub is : b ≡ At rows scope (elements_of scope tags) last next (length front)
  pub root : have_start front ≡ true
  pub waits : Waits scope front tags last
  pub nodes : node_count front + 1 ≡ next + waiting last

-- it has not
pub record Before (scope : List Binding) (front : List Item) (b : Building) : Type 0 where
  pub is : b ≡ Outside [] scope false 1 (length front)
  pub root : have_start front ≡ false
  pub opens : open_tags front ≡ []
  pub in_tag : end_in_tag front ≡ false
  pub nodes : node_count front ≡ 0

abbrev pub Stands : List Binding → List Item → Building → Type 0
Stands scope front b = Before scope front b ⊎ Inside scope front b

-- what comes of an item: the builder stands behind it, or it is refused
abbrev pub Answers : List Binding → List Item → Item → List Item → Result Building TreeFault → Type 0
Answers scope front item more (Ok b) = Stands scope (front ++ item ∷ []) b
Answers scope front item more (Err fault) = IsRefused scope (front ++ (item ∷ more)) fault.item fault.reason

-- what came last is settled behind these items
pub record Settled (scope : List Binding) (front : List Item) (b s : Building) : Type 0 where
  pub rows : List Row
  pub tags : List Tag
  pub next : ℕ
  pub is : s ≡ At rows scope (elements_of scope tags) pending.Nothing next (length front)
  pub settles : settled_by b b.pending ≡ Ok s
  pub opens : open_tags front ≡ tags
  pub in_text : 1 ≤ length tags → holds_chars b.pending ≡ false → end_in_text front ≡ false
  pub root : have_start front ≡ true
  pub nodes : node_count front + 1 ≡ next

-- what came last settles, or its names are refused
abbrev pub Settles : List Binding → List Item → Building → Result Building TreeFault → Type 0
Settles scope front b (Ok s) = Settled scope front b s
Settles scope front b (Err fault) = (more : List Item) → begin_with_line more ≡ false → IsRefused scope (front ++ more) fault.item fault.reason

tag_settles : (scope : List Binding) (front : List Item) (rows : List Row) (tags : List Tag) (tag : Tag) (item next : ℕ) → have_start front ≡ true
    → WaitsTag scope front tags tag item → node_count front + 1 ≡ next + 1
    → (found : Option NameReason) → name_fault (scope_below scope (elements_of scope tags)) tag ≡ found
    → let b = At rows scope (elements_of scope tags) (pending.Start tag item) next (length front) in
    (settled_by b b.pending ≡ tag_by b tag item found) → Settles scope front b (tag_by b tag item found)
tag_settles scope front rows tags tag item next root w nodes (Some reason) found_is s = λ more gone. record {
  front = w.before;
  tag = tag;
  more = more;
  are = ap (λ l. l ++ more) w.are ∙ append_assoc w.before (items.Start tag.name ∷ map line_item tag.attributes) more;
  whole = gone;
  at = w.at;
  begins = w.begins;
  well = w.well;
  why = ap (λ t. name_fault (scope_inside scope t) tag) w.outside ∙ ap (λ s. name_fault s tag) (sym (scope_of_elements scope tags)) ∙ found_is;
}
tag_settles scope front rows tags tag item next root w nodes None found_is s =
    let inner : opened_in (scope_below scope (elements_of scope tags)) tag ≡ record { name = tag.name; scope = scope_inside scope (tag ∷ tags) } =
    ap (λ s. opened_in s tag) (scope_of_elements scope tags) in
    record {
      rows = rows ++ tag_row next (length (elements_of scope tags) + 1) (named (scope_below scope (elements_of scope tags)) tag) ∷ [];
      tags = tag ∷ tags;
      next = next + 1;
      is = ap (λ e. At (rows ++ tag_row next (length (elements_of scope tags) + 1) (named (scope_below scope (elements_of scope tags)) tag) ∷ []) scope (e ∷ elements_of scope tags) pending.Nothing (next + 1) (length front)) inner;
      settles = s;
      opens = w.opens;
      in_text = λ some fresh. w.in_text;
      root = root;
      nodes = nodes;
    }

pub settles_by : (scope : List Binding) (front : List Item) (rows : List Row) (tags : List Tag) (last : Pending) (next : ℕ) → have_start front ≡ true
    → Waits scope front tags last → node_count front + 1 ≡ next + waiting last
    → let b = At rows scope (elements_of scope tags) last next (length front) in Settles scope front b (settled_by b last)
settles_by scope front rows tags pending.Nothing next root w nodes =
    record { rows = rows; tags = tags; next = next; is = refl; settles = refl; opens = w.opens; in_text = λ some fresh. w.in_text some; root = root; nodes = nodes ∙ omega arith }
settles_by scope front rows tags (pending.Start tag item) next root w nodes = tag_settles scope front rows tags tag item next root w nodes _ refl refl
settles_by scope front rows tags (pending.Chars chars) next root w nodes =
    record {
      rows = rows ++ chars_row next (length (elements_of scope tags) + 1) chars ∷ [];
      tags = tags;
      next = next + 1;
      is = refl;
      settles = refl;
      opens = w.opens;
      in_text = λ some fresh. cc;
      root = root;
      nodes = nodes;
    }
