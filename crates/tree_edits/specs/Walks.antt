-- What a walk over the items of a block has found, and what it will come to.
use Rattle.std.specs.Prelude.{◌≡◌, ℕ, ◌-◌, List, [], ◌∷◌, ◌++◌, ◌||◌, length, drop, reverse}
use Rattle.std.specs.List.{list_any}
use Rattle.item_listing.specs.declared.item.Item.{Item}
use Rattle.tree_rows.specs.declared.row.Binding.{Binding}
use Rattle.tree_rows.specs.declared.row.Row.{Row}
use Rattle.tree_edits.specs.Places.{scope_above}
use Rattle.tree_edits.specs.Blocks.{Placed, tags_in, has_bad_name, has_unbound, uses_reserved, has_too_many, has_double}
use Rattle.tag_names.specs.declared.fault.TagFaults.{TagFaults}
use Rattle.tree_edits.specs.declared.names.BlockNames.{BlockNames}
use Rattle.tree_edits.specs.declared.names.Walk.{Walk}

-- what stands against the names of more tags too
abbrev pub joined : BlockNames → List Placed → BlockNames
joined names tags = record {
  bad = names.bad || list_any has_bad_name tags;
  unbound = names.unbound || list_any has_unbound tags;
  reserved = names.reserved || list_any uses_reserved tags;
  many = names.many || list_any has_too_many tags;
  double = names.double || list_any has_double tags;
}

-- what stands against the names of a tag more
abbrev pub with_faults : BlockNames → TagFaults → BlockNames
with_faults names faults = record {
  bad = names.bad || faults.bad;
  unbound = names.unbound || faults.unbound;
  reserved = names.reserved || faults.reserved;
  many = names.many || faults.many;
  double = names.double || faults.double;
}

-- the scopes around this one, by the numbers of their bindings, the innermost first
abbrev pub scopes_around : List Binding → List ℕ → List (List Binding)
scopes_around scope [] = []
scopes_around scope (size ∷ sizes) =
    drop (length scope - size) scope ∷ scopes_around (drop (length scope - size) scope) sizes

-- what stands against the names of the tags so far and of those of these items
abbrev pub outcome : Walk → List Item → BlockNames
outcome walk more = joined walk.names (tags_in walk.scope (scopes_around walk.scope (reverse walk.sizes.items)) more)

-- the row is the last above this depth, and these rows come before it
pub record IsLastAbove (depth : ℕ) (rows earlier : List Row) (row : Row) : Type 0 where
  pub gives : (scope : List Binding) → scope_above depth scope (reverse rows) ≡ row.bindings ++ scope_above row.depth scope (reverse earlier)
