-- What an item does to a reader of the document section.
use Rattle.std.specs.Prelude.{◌≡◌, ℕ, ◌+◌, List, [], Option, Some, None, Result, Ok, Err, if◌then◌else◌}
use Rattle.item_listing.specs.Listed as listed
use Rattle.item_listing.specs.declared.item.Item.{Item}
use Rattle.item_listing.specs.declared.item.Item.TheVariants as items
use Rattle.tree_rows.specs.Forest.{Document}
use Rattle.tree_building.specs.Building.{after, document}
use Rattle.tree_building.specs.Builder.{end_of}
use Rattle.tree_building.specs.declared.building.Building.{Building}
use Rattle.tree_building.specs.declared.fault.TreeFault.{TreeFault}
use Rattle.stream_sections.specs.Lines.{is_listing, may_edit}
use Rattle.stream_sections.specs.Sections as sections
use Rattle.stream_sections.specs.Sections.{Stop, refused, goes_on, Opened, undocumented, Commands, Closing, misplaced, bad_line, no_end, built_so_far, grown_by, with_tree}
use Rattle.stream_sections.specs.declared.asked.Asked.{Asked}
use Rattle.stream_sections.specs.declared.document.DocumentReader.{DocumentReader}
use Rattle.stream_sections.specs.declared.document.DocumentTurn.{DocumentTurn}
use Rattle.stream_sections.specs.declared.document.DocumentTurn.TheVariants.{Goes, Edits, Ends, Refused}

pub data Turned : Type 0 where
  goes : (next : DocumentReader) → Turned
  edits : (d : Document) → Turned
  ends : (d : Document) → Turned
  stops : (stop : Stop) → Turned

abbrev pub unbegun : ℕ → DocumentReader
unbegun line = record { builder = built_so_far []; start = line }

-- the tree of what was built
abbrev pub tree_of : Result Building TreeFault → Result Document TreeFault
tree_of b = document (end_of b)

-- the item of the line of this number
abbrev pub turned : Asked → ℕ → DocumentReader → Item → Turned
turned a line r items.End = with_tree r.start (tree_of r.builder) stops ends
turned a line r items.Edits = if may_edit a then with_tree r.start (tree_of r.builder) stops edits else stops (misplaced line)
turned a line r it =
    if is_listing it then grown_by r.start (after r.builder it) stops (goes (record r { builder = after r.builder it })) else stops (misplaced line)

-- what was done is what is to be done
abbrev pub Turns : Turned → DocumentTurn → DocumentReader → Type 0
Turns (goes next) Goes new = new ≡ next
Turns (goes next) (Edits given) new = ⊥
Turns (goes next) (Ends given) new = ⊥
Turns (goes next) (Refused given) new = ⊥
Turns (edits d) Goes new = ⊥
Turns (edits d) (Edits given) new = given ≡ d
Turns (edits d) (Ends given) new = ⊥
Turns (edits d) (Refused given) new = ⊥
Turns (ends d) Goes new = ⊥
Turns (ends d) (Edits given) new = ⊥
Turns (ends d) (Ends given) new = given ≡ d
Turns (ends d) (Refused given) new = ⊥
Turns (stops goes_on) turn new = ⊥
Turns (stops (refused spot)) Goes new = ⊥
Turns (stops (refused spot)) (Edits given) new = ⊥
Turns (stops (refused spot)) (Ends given) new = ⊥
Turns (stops (refused spot)) (Refused given) new = given ≡ spot

-- what a reader comes to when these items come, where so many lines were read
abbrev pub turn_then : Turned → (DocumentReader → Opened) → Commands → Closing → Opened
turn_then (goes next) more commands close = more next
turn_then (edits d) more commands close = sections.document d commands
turn_then (ends d) more commands close = sections.document d (sections.closes close)
turn_then (stops stop) more commands close = undocumented stop

abbrev pub read : Asked → ℕ → DocumentReader → listed.Listed → Opened
read a lines r (listed.gives it more) =
    turn_then (turned a (lines + 1) r it) (λ next. read a (lines + 1) next more)
    (sections.commands (lines + 1) None more) (sections.closing (lines + 1) more)
read a lines r (listed.refused fault) = undocumented (bad_line fault)
read a lines r listed.goes_on = undocumented goes_on
read a lines r listed.done = undocumented (no_end lines)
