-- The names of a block: its start tags, each with the scope it stands in, and the least number by which they are refused.
use Rattle.std.specs.Prelude.{List, [], ◌∷◌, Bool, Option, Some, None, if◌then◌else◌}
use Rattle.std.specs.List.{list_any}
use Rattle.item_listing.specs.declared.item.Item.{Item}
use Rattle.item_listing.specs.declared.item.Item.TheVariants as items
use Rattle.tree_rows.specs.declared.row.Binding.{Binding}
use Rattle.tag_names.specs.declared.lines.AttributeLine.{AttributeLine}
use Rattle.tag_names.specs.declared.lines.Tag.{Tag}
use Rattle.tag_names.specs.Tags.{scope_within}
use Rattle.tag_names.specs.Faults as faults
use Rattle.tree_edits.specs.declared.names.BlockNames.{BlockNames}
use Rattle.tree_edits.specs.declared.edit.EditError.{EditError}
use Rattle.tree_edits.specs.declared.edit.EditError.TheVariants.{BadName, UnboundPrefix, ReservedName, TooManyAttributes, DoubleAttribute}

-- a start tag, and the scope in which its element stands
pub record Placed : Type 0 where
  pub scope : List Binding
  pub tag : Tag

-- the attribute lines that come next
abbrev pub lines_of : List Item → List AttributeLine
lines_of [] = []
lines_of (items.Attr name value ∷ more) = record { name = name; value = value } ∷ lines_of more
lines_of (item ∷ more) = []

-- the scope behind an end, and those around it; an end where no element is open ends none
abbrev pub inner : List Binding → List (List Binding) → List Binding
inner scope [] = scope
inner scope (around ∷ more) = around

abbrev pub outer : List (List Binding) → List (List Binding)
outer [] = []
outer (around ∷ more) = more

-- the start tags of the items that come next in this scope, inside elements around which these scopes are, the innermost first
abbrev pub tags_in : List Binding → List (List Binding) → List Item → List Placed
tags_in scope around [] = []
tags_in scope around (items.Start name ∷ more) =
    record { scope = scope; tag = record { name = name; attributes = lines_of more } }
    ∷ tags_in (scope_within scope (record { name = name; attributes = lines_of more })) (scope ∷ around) more
tags_in scope around (items.Attr name value ∷ more) = tags_in scope around more
tags_in scope around (items.Chars text ∷ more) = tags_in scope around more
tags_in scope around (items.Close name ∷ more) = tags_in (inner scope around) (outer around) more
tags_in scope around (items.Instruction ∷ more) = tags_in scope around more
tags_in scope around (items.Schema locations ∷ more) = tags_in scope around more
tags_in scope around (items.Document ∷ more) = tags_in scope around more
tags_in scope around (items.Edits ∷ more) = tags_in scope around more
tags_in scope around (items.End ∷ more) = tags_in scope around more
tags_in scope around (items.Dot ∷ more) = tags_in scope around more
tags_in scope around (items.Command line ∷ more) = tags_in scope around more

abbrev pub has_bad_name : Placed → Bool
has_bad_name placed = faults.has_bad_name placed.tag

abbrev pub has_unbound : Placed → Bool
has_unbound placed = faults.has_unbound placed.scope placed.tag

abbrev pub uses_reserved : Placed → Bool
uses_reserved placed = faults.uses_reserved placed.tag

abbrev pub has_too_many : Placed → Bool
has_too_many placed = faults.has_too_many placed.tag

abbrev pub has_double : Placed → Bool
has_double placed = faults.has_double placed.scope placed.tag

-- what stands against the names of some tag
abbrev pub judged : List Placed → BlockNames
judged tags = record {
  bad = list_any has_bad_name tags;
  unbound = list_any has_unbound tags;
  reserved = list_any uses_reserved tags;
  many = list_any has_too_many tags;
  double = list_any has_double tags;
}

-- the refusal of names that comes before those by the number and the depth of nodes, and the one that comes after
abbrev pub early : BlockNames → Option EditError
early names =
    if names.bad then Some BadName
    else (if names.unbound then Some UnboundPrefix
    else (if names.reserved then Some ReservedName else None))

abbrev pub late : BlockNames → Option EditError
late names = if names.many then Some TooManyAttributes else (if names.double then Some DoubleAttribute else None)
