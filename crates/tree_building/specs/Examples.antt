-- Trees of some items.
use Rattle.std.specs.Prelude.{◌≡◌, List, [], ◌∷◌, None, Some, Ok, Err, codes}
use Rattle.std.proofs.Common.{refl}
use Rattle.std.specs.Str.{chars}
use Rattle.item_listing.specs.declared.item.Item.{Item}
use Rattle.item_listing.specs.declared.item.Item.TheVariants as items
use Rattle.tag_names.specs.declared.fault.NameReason.TheVariants.{UnboundPrefix}
use Rattle.tree_rows.specs.Forest.{none, text, element}
use Rattle.tree_building.specs.Building.{tree}
use Rattle.tree_building.specs.declared.fault.TreeReason.TheVariants as reasons

-- texts on both sides of an instruction are one node, and white space outside of the root is none
abbrev around_instruction : List Item
around_instruction =
    items.Chars (codes " ") ∷ items.Start (codes "r") ∷ items.Chars (codes "x") ∷ items.Instruction ∷ items.Chars (codes "y") ∷ items.Close (codes "r") ∷ []

one_text : tree around_instruction ≡ Ok (record {
  forest = element 1 (record { namespace = None; local = codes "r" }) [] [] (text 2 (codes "xy") none) none;
  next_free = 3;
})
unfolding chars
one_text = refl

-- a binding holds in its own tag; the default namespace is given to the element, and not to its attribute
abbrev named_in_its_scope : List Item
named_in_its_scope =
    items.Start (codes "r") ∷ items.Attr (codes "a") (codes "1") ∷ items.Attr (codes "xmlns") (codes "u") ∷ items.Close (codes "r") ∷ []

in_default_namespace : tree named_in_its_scope ≡ Ok (record {
  forest =
      element 1 (record { namespace = Some (codes "u"); local = codes "r" })
      (record { prefix = []; namespace = codes "u" } ∷ [])
      (record { name = record { namespace = None; local = codes "a" }; value = codes "1" } ∷ [])
      none none;
  next_free = 2;
})
unfolding chars
in_default_namespace = refl

-- an end is compared by the name as it is written
other_prefix : tree (items.Start (codes "p:r") ∷ items.Attr (codes "xmlns:p") (codes "u") ∷ items.Attr (codes "xmlns:q") (codes "u") ∷ items.Close (codes "q:r") ∷ [])
    ≡ Err (record { item = 3; reason = reasons.EndMismatch })
unfolding chars
other_prefix = refl

-- names are judged at the line that closes the tag, and the fault is the start's
before_the_end : tree (items.Start (codes "r") ∷ items.Attr (codes "p:a") (codes "1") ∷ items.Close (codes "q") ∷ [])
    ≡ Err (record { item = 0; reason = reasons.Name UnboundPrefix })
unfolding chars
before_the_end = refl

unclosed : tree (items.Start (codes "r") ∷ []) ≡ Err (record { item = 1; reason = reasons.Unclosed })
unfolding chars
unclosed = refl
