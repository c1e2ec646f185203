-- Blocks: the items of one element.
use Rattle.std.specs.Prelude.{◌≡◌, ℕ, ◌+◌, List, [], ◌∷◌, Bool, true, false, not, ◌==◌, ◌&&◌, length, if◌then◌else◌}
use Rattle.std.specs.Str.{bytes_eq}
use Rattle.item_listing.specs.declared.item.Item.{Item}
use Rattle.item_listing.specs.declared.item.Item.TheVariants as items
use Rattle.tree_rows.specs.Rows.{siblings}
use Rattle.xs_names.specs.White.{is_white}
use Rattle.tree_rows.specs.declared.row.Binding.{Binding}
use Rattle.tree_rows.specs.declared.row.Row.{Row}
use Rattle.std.specs.Result.{is_ok}
use Rattle.tag_names.specs.Scopes.{first_scope}
use Rattle.tree_building.specs.Building.{built, block}
use Rattle.tree_building.specs.Rules.{block_rules}
use Rattle.tree_building.specs.Shape.{AreWhole, AreUnder, deepest_row}

-- the end closes the innermost of these elements
abbrev pub ends : List ℕ → List (List ℕ) → Bool
ends end [] = false
ends end (name ∷ tags) = bytes_eq name end

abbrev pub outer : List (List ℕ) → List (List ℕ)
outer [] = []
outer (name ∷ tags) = tags

-- the items that are left complete one element, where these elements are open, the innermost first, the root has come or
-- not, and an attribute may follow or not
abbrev pub one_from : List (List ℕ) → Bool → Bool → List Item → Bool
one_from tags rooted tag_open [] = if length tags == 0 && not tag_open then rooted else false
one_from tags rooted tag_open (items.Start name ∷ more) = if length tags == 0 && rooted then false else one_from (name ∷ tags) true true more
one_from tags rooted tag_open (items.Attr name value ∷ more) = if tag_open then one_from tags rooted true more else false
one_from tags rooted tag_open (items.Chars text ∷ more) =
    if length tags == 0 then (if is_white text then one_from tags rooted tag_open more else false) else one_from tags rooted false more
one_from tags rooted tag_open (items.Close end ∷ more) = if ends end tags then one_from (outer tags) rooted false more else false
one_from tags rooted tag_open (items.Instruction ∷ more) = one_from tags rooted false more
one_from tags rooted tag_open (items.Schema locations ∷ more) = false
one_from tags rooted tag_open (items.Document ∷ more) = false
one_from tags rooted tag_open (items.Edits ∷ more) = false
one_from tags rooted tag_open (items.End ∷ more) = false
one_from tags rooted tag_open (items.Dot ∷ more) = false
one_from tags rooted tag_open (items.Command line ∷ more) = false

-- the items are one whole element by their tags as they are written
abbrev pub one_by_tags : List Item → Bool
one_by_tags its = one_from [] false false its

-- a block is one whole element exactly where building it by the rules of a block ends well
abbrev pub one_element : List Item → Bool
one_element its = is_ok (built block_rules first_scope its)

-- the rows of a block's element in this scope
pub record IsBlock (scope : List Binding) (its : List Item) (rows : List Row) : Type 0 where
  pub whole : AreWhole rows
  pub is_block : siblings rows 1 ≡ block scope its
  pub under : AreUnder (deepest_row 0 rows + 1) rows
