-- Why items are no document.
use Rattle.std.specs.Prelude.{◌≡◌, ◌<◌, ℕ, ◌+◌, List, [], ◌∷◌, ◌++◌, Bool, true, false, ◌==◌, ◌&&◌, ◌||◌, nat_lt, Option, Some, None, length, map, if◌then◌else◌}
use Rattle.std.specs.Str.{bytes_eq}
use Rattle.item_listing.specs.declared.item.Item.{Item}
use Rattle.item_listing.specs.declared.item.Item.TheVariants as items
use Rattle.xs_names.specs.White.{is_white}
use Rattle.tag_names.specs.Faults.{name_fault}
use Rattle.tag_names.specs.declared.fault.NameReason.{NameReason}
use Rattle.tag_names.specs.declared.lines.AttributeLine.{AttributeLine}
use Rattle.tag_names.specs.declared.lines.Tag.{Tag}
use Rattle.tree_rows.specs.declared.limits.TheConstants.{MAX_DEPTH, MAX_NODES}
use Rattle.tree_rows.specs.Forest.{Forest}
use Rattle.tree_rows.specs.declared.row.Binding.{Binding}
use Rattle.tree_building.specs.declared.fault.TreeFault.{TreeFault}
use Rattle.tree_building.specs.declared.fault.TreeReason.{TreeReason}
use Rattle.tree_building.specs.declared.fault.TreeReason.TheVariants as reasons
use Rattle.tree_building.specs.Fronts.{open_tags, scope_inside, have_start, end_in_tag, end_in_text, is_empty, node_count}
use Rattle.tree_building.specs.Spelling.{IsDocument, SpellsDocument, line_item}

-- some document's spelling begins with these items
pub record Begin (scope : List Binding) (its : List Item) : Type 0 where
  pub more : List Item
  pub tree : Forest
  pub is_document : IsDocument tree
  pub spells : SpellsDocument tree scope (its ++ more)

-- the innermost start tag that is open has this name
abbrev pub closes : List ℕ → List Tag → Bool
closes name [] = false
closes name (tag ∷ tags) = bytes_eq tag.name name

-- the first reason that stands
abbrev pub first_of : List (Bool × TreeReason) → Option TreeReason
first_of [] = None
first_of (test ∷ more) = if test.0 then Some test.1 else first_of more

-- the tests that an item must pass behind these items, in order
abbrev pub tests : List Item → Item → List (Bool × TreeReason)
tests front (items.Start name) =
    ((length (open_tags front) == 0) && have_start front, reasons.TwoRoots)
    ∷ (nat_lt MAX_DEPTH (length (open_tags front) + 1), reasons.TooDeep)
    ∷ (nat_lt MAX_NODES (node_count front + 1), reasons.TooManyNodes)
    ∷ []
tests front (items.Chars chars) =
    if length (open_tags front) == 0 then (if is_white chars then false else true, reasons.TextOutside) ∷ []
    else (if is_empty chars || end_in_text front then false else nat_lt MAX_NODES (node_count front + 1), reasons.TooManyNodes) ∷ []
tests front (items.Close name) = (if closes name (open_tags front) then false else true, reasons.EndMismatch) ∷ []
tests front (items.Attr name value) = (if end_in_tag front then false else true, reasons.NotHere) ∷ []
tests front items.Instruction = []
tests front item = (true, reasons.NotHere) ∷ []

-- an item is the first that no document's spelling has behind those before it, and this is the first reason
pub record RefusesItem (scope : List Binding) (its : List Item) (place : ℕ) (reason : TreeReason) : Type 0 where
  pub front : List Item
  pub item : Item
  pub more : List Item
  pub are : its ≡ front ++ (item ∷ more)
  pub at : place ≡ length front
  pub begins : Begin scope front
  pub ends : Begin scope (front ++ item ∷ []) → ⊥
  pub why : first_of (tests front item) ≡ Some reason

-- an attribute line comes next
abbrev pub begin_with_line : List Item → Bool
begin_with_line (items.Attr name value ∷ more) = true
begin_with_line its = false

-- the names of a start tag, which gets no line more, are refused in the scope that it stands in; the fault is at its start
pub record RefusesNames (scope : List Binding) (its : List Item) (place : ℕ) (reason : NameReason) : Type 0 where
  pub front : List Item
  pub tag : Tag
  pub more : List Item
  pub are : its ≡ front ++ (items.Start tag.name ∷ (map line_item tag.attributes ++ more))
  pub whole : begin_with_line more ≡ false
  pub at : place ≡ length front
  pub begins : Begin scope front
  pub well : first_of (tests front (items.Start tag.name)) ≡ None
  pub why : name_fault (scope_inside scope (open_tags front)) tag ≡ Some reason

-- the items end too early: an element is open, or there is none
pub record RefusesEnd (scope : List Binding) (its : List Item) (place : ℕ) (wanting : Bool) : Type 0 where
  pub at : place ≡ length its
  pub begins : Begin scope its
  pub why : wanting ≡ true

abbrev pub IsRefused : List Binding → List Item → ℕ → TreeReason → Type 0
IsRefused scope its place reasons.Unclosed = RefusesEnd scope its place (nat_lt 0 (length (open_tags its)))
IsRefused scope its place reasons.NoRoot = RefusesEnd scope its place (if have_start its then false else true)
IsRefused scope its place (reasons.Name reason) = RefusesNames scope its place reason
IsRefused scope its place reason = RefusesItem scope its place reason

-- items of which a listing section has no others
abbrev pub AreListed : List Item → Type 0
AreListed [] = Unit {0}
AreListed (items.Start name ∷ more) = AreListed more
AreListed (items.Attr name value ∷ more) = AreListed more
AreListed (items.Chars chars ∷ more) = AreListed more
AreListed (items.Close name ∷ more) = AreListed more
AreListed (items.Instruction ∷ more) = AreListed more
AreListed (item ∷ more) = ⊥
