-- What a step answers.
use Rattle.std.specs.Prelude.{◌≡◌, ℕ, ◌+◌, List, Bool, true, false, length, Result, Ok, Err, Option, Some, None, if◌then◌else◌}
use Rattle.tag_names.specs.declared.fault.NameReason.{NameReason}
use Rattle.tag_names.specs.declared.named.Named.{Named}
use Rattle.tree_rows.specs.declared.row.Row.{Row}
use Rattle.tree_rows.specs.declared.row.Content.TheVariants as contents
use Rattle.tree_building.specs.declared.building.Building.{Building}
use Rattle.tree_building.specs.declared.build.Built.{Built}
use Rattle.tree_building.specs.declared.pending.Pending.{Pending}
use Rattle.tree_building.specs.declared.pending.Pending.TheVariants as pending
use Rattle.tree_building.specs.declared.fault.Stop.{Stop}
use Rattle.tree_building.specs.declared.fault.Stop.TheVariants.{Memory, Refused}
use Rattle.tree_building.specs.declared.fault.TreeFault.{TreeFault}
use Rattle.tree_building.specs.declared.fault.TreeReason.TheVariants as reasons

-- a step that may want memory: then nothing changed
abbrev pub Stops : Building → Building → Stop → Result Building TreeFault → Type 0
Stops old new Memory end = new ≡ old
Stops old new (Refused fault) end = end ≡ Err fault

abbrev pub Steps : {X : Type 0} → Building → Building → Result X Stop → Result Building TreeFault → Type 0
Steps old new (Ok x) end = end ≡ Ok new
Steps old new (Err stop) end = Stops old new stop end

-- a step that wants no memory
abbrev pub Ends : {X : Type 0} → Building → Building → Result X TreeFault → Result Building TreeFault → Type 0
Ends old new (Ok x) end = end ≡ Ok new
Ends old new (Err fault) end = end ≡ Err fault

-- the node of an element of which its tag says this
abbrev pub row_of : Building → Named → Row
row_of b says = record {
  number = b.next;
  depth = length b.nest.elements + 1;
  content = contents.Element says.name;
  bindings = says.bindings;
  attributes = says.attributes;
}

-- the names of the start tag of this item
abbrev pub JudgedStop : ℕ → Stop → Option NameReason → Type 0
JudgedStop item Memory found = Unit {0}
JudgedStop item (Refused fault) None = ⊥
JudgedStop item (Refused fault) (Some reason) = fault ≡ record { item = item; reason = reasons.Name reason }

abbrev pub Judged : {X : Type 0} → Result X Stop → ℕ → Option NameReason → Type 0
Judged (Ok x) item found = found ≡ None
Judged (Err stop) item found = JudgedStop item stop found

-- what was built, or why not
abbrev pub FinishedStop : Stop → Result Built TreeFault → Type 0
FinishedStop Memory end = Unit {0}
FinishedStop (Refused fault) end = end ≡ Err fault

abbrev pub Finished : Result Built Stop → Result Built TreeFault → Type 0
Finished (Ok b) end = end ≡ Ok b
Finished (Err stop) end = FinishedStop stop end

-- a text is begun
abbrev pub holds_chars : Pending → Bool
holds_chars pending.Nothing = false
holds_chars (pending.Start tag item) = false
holds_chars (pending.Chars chars) = true
