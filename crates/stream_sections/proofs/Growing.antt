-- An item of a section whose tree goes on.
use Rattle.std.proofs.Common.{◌≡◌, ℕ, List, Option, Some, Result, Ok, Err, refl, sym, subst}
use Rattle.item_listing.specs.declared.item.Item.{Item}
use Rattle.tree_building.specs.Building.{after}
use Rattle.tree_building.specs.Builder.{answer_of}
use Rattle.tree_building.specs.declared.building.Building.{Building}
use Rattle.tree_building.specs.declared.fault.TreeFault.{TreeFault}
use Rattle.stream_sections.specs.Sections.{grown_by}
use Rattle.stream_sections.specs.inside.SchemaTurns.{Turns, goes, stops, grown_in}
use Rattle.stream_sections.specs.declared.schemas.Begun.{Begun}
use Rattle.stream_sections.specs.declared.schemas.SchemaReader.{SchemaReader}
use Rattle.stream_sections.specs.declared.schemas.SchemaSection.{SchemaSection}
use Rattle.stream_sections.specs.declared.schemas.SchemaTurn.TheVariants.{Goes}

-- the reader with a tree of the section that goes on
abbrev with_tree : List SchemaSection → Begun → Result Building TreeFault → SchemaReader
with_tree done s tree = record { sections = done; begun = Some (record s { builder = tree }) }

abbrev IsOk : Result (Unit {0}) TreeFault → Type 0
IsOk (Ok x) = Unit {0}
IsOk (Err fault) = ⊥

goes_by : (done : List SchemaSection) (s : Begun) (tree : Result Building TreeFault) (x : Unit {0}) → Ok x ≡ answer_of tree
    → Turns (grown_by s.start tree stops (goes (with_tree done s tree))) Goes (with_tree done s tree)
goes_by done s (Ok b) x e = refl
goes_by done s (Err fault) x e = absurd (subst IsOk e tt)

pub grows : (line : ℕ) (done : List SchemaSection) (it : Item) (s : Begun) (begun : Option Begun) (tree : Result Building TreeFault) (x : Unit {0})
    → begun ≡ Some s → tree ≡ after s.builder it → Ok x ≡ answer_of tree
    → Turns (grown_in line done it begun) Goes (with_tree done s tree)
grows line done it s begun tree x is-some is-after answer =
    subst (λ b. Turns (grown_in line done it b) Goes (with_tree done s tree)) (sym is-some)
    (subst (λ t. Turns (grown_in line done it (Some s)) Goes (with_tree done s t)) (sym is-after)
    (goes_by done s (after s.builder it) x (subst (λ t. Ok x ≡ answer_of t) is-after answer)))
