-- Which element a change by numbers begins at.
use Rattle.std.specs.Prelude.{◌≡◌, ℕ, List, [], ◌∷◌, Some}
use Rattle.xs_names.specs.Names.{NameTable}
use Rattle.doc_nodes.specs.Nodes.{Nodes}
use Rattle.doc_nodes.specs.declared.content.Content.{Content}
use Rattle.doc_nodes.specs.declared.content.Content.TheVariants as contents
use Rattle.doc_changes.specs.Held.{parent_at}
use Rattle.doc_tree.specs.declared.change.Change.{Change}
use Rattle.doc_tree.specs.declared.change.Change.TheVariants as changes
use Rattle.doc_tree.specs.declared.part.PartRow.{PartRow}
use Rattle.kept_changes.specs.Spots.{IsRemoval}
use Rattle.kept_changes.specs.from_kept_forgetting.Below.{IsWithin}
use Rattle.kept_changes.specs.Turned.{TurnsAt}
use Rattle.kept_changes.specs.declared.change.Spot.{Spot}
use Rattle.kept_changes.specs.declared.change.Spot.TheVariants.{Planted, Pruned, Retexted, Attributed, Renamed}

-- a node of this number, which holds this, comes back below the parent
abbrev pub returns_at : ℕ → ℕ → Content → Spot
returns_at parent number (contents.Element e) = Planted number
returns_at parent number (contents.Chars chars) = Retexted parent

-- the first node of the part comes back
abbrev pub IsReturn : List PartRow → ℕ → Spot → Type 0
IsReturn [] parent spot = ⊥
IsReturn (row ∷ more) parent spot = spot ≡ returns_at parent row.number row.content

-- the element that a change of a document with these nodes begins at, and what of it is another
abbrev pub IsSpotOf : Nodes → Change → Spot → Type 0
IsSpotOf ns (changes.PutBack parent index part) spot = IsReturn part parent spot
IsSpotOf ns (changes.Take key) spot = IsRemoval ns key spot
IsSpotOf ns (changes.Name key name) spot = spot ≡ Renamed key
IsSpotOf ns (changes.Attr key name place value) spot = spot ≡ Attributed key
IsSpotOf ns (changes.Chars key chars) spot = (n : ℕ) × (parent_at ns key ≡ Some n) × (spot ≡ Retexted n)

-- a change of these nodes takes the element away
abbrev pub IsTakenOut : Nodes → Change → ℕ → Type 0
IsTakenOut ns change n = (m : ℕ) × IsSpotOf ns change (Pruned m) × IsWithin ns m n

-- the nodes of a document have become others at the element that the change begins at
abbrev pub AreTurnedOver : NameTable → Nodes → Nodes → Change → Type 0
AreTurnedOver t old new change = (spot : Spot) × IsSpotOf old change spot × TurnsAt t old new spot
