-- What a small tree is after some edits.
use Rattle.std.specs.Prelude.{◌≡◌, [], ◌∷◌, None, Some, Ok, Err, codes}
use Rattle.std.proofs.Common.{refl}
use Rattle.std.specs.Str.{chars}
use Rattle.item_listing.specs.declared.item.Item.TheVariants as items
use Rattle.tree_rows.specs.Forest.{Forest, Document, none, text, element}
use Rattle.tree_edits.specs.Tests.{edited}
use Rattle.tree_edits.specs.declared.edit.Edit.TheVariants as edits
use Rattle.tree_edits.specs.declared.edit.EditError.TheVariants.{RootFixed, BadIndex, NotText, UnknownNode, UnboundPrefix, ReservedName, NoSuchAttribute}

-- <r xmlns:p="u">x</r>, where node 3 was taken away
abbrev with_text : Forest → Document
with_text more = record {
  forest =
      element 1 (record { namespace = None; local = codes "r" }) (record { prefix = codes "p"; namespace = codes "u" } ∷ []) []
      (text 2 (codes "x") more) none;
  next_free = 4;
}

-- a new element gets the next free number, and its prefix is looked up in the scope of its parent
inserted : edited (with_text none) (edits.Insert 1 1 (items.Start (codes "p:a") ∷ items.Close (codes "p:a") ∷ []))
    ≡ Ok (record (with_text (element 4 (record { namespace = Some (codes "u"); local = codes "a" }) [] [] none none)) { next_free = 5 })
unfolding chars
inserted = refl

unbound : edited (with_text none) (edits.Insert 1 1 (items.Start (codes "q:a") ∷ items.Close (codes "q:a") ∷ [])) ≡ Err UnboundPrefix
unfolding chars
unbound = refl

past_the_end : edited (with_text none) (edits.AddText 1 2 (codes "y")) ≡ Err BadIndex
unfolding chars
past_the_end = refl

no_text : edited (with_text none) (edits.SetText 1 (codes "y")) ≡ Err NotText
unfolding chars
no_text = refl

fixed_root : edited (with_text none) (edits.Remove 1) ≡ Err RootFixed
unfolding chars
fixed_root = refl

taken_away : edited (with_text none) (edits.Remove 3) ≡ Err UnknownNode
unfolding chars
taken_away = refl

-- an element's name is looked up in its own scope
given_name : edited (with_text none) (edits.Rename 1 (codes "p:s"))
    ≡ Ok (record {
      forest =
          element 1 (record { namespace = Some (codes "u"); local = codes "s" }) (record { prefix = codes "p"; namespace = codes "u" } ∷ []) []
          (text 2 (codes "x") none) none;
      next_free = 4;
    })
unfolding chars
given_name = refl

given_attribute : edited (with_text none) (edits.SetAttr 1 (codes "a") (codes "1"))
    ≡ Ok (record {
      forest =
          element 1 (record { namespace = None; local = codes "r" }) (record { prefix = codes "p"; namespace = codes "u" } ∷ [])
          (record { name = record { namespace = None; local = codes "a" }; value = codes "1" } ∷ []) (text 2 (codes "x") none) none;
      next_free = 4;
    })
unfolding chars
given_attribute = refl

no_binding : edited (with_text none) (edits.SetAttr 1 (codes "xmlns:q") (codes "v")) ≡ Err ReservedName
unfolding chars
no_binding = refl

no_attribute : edited (with_text none) (edits.UnsetAttr 1 (codes "p:a")) ≡ Err NoSuchAttribute
unfolding chars
no_attribute = refl
