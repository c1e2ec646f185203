-- What an item does to a reader of schema sections.
use Rattle.std.specs.Prelude.{◌≡◌, ℕ, ◌+◌, List, [], ◌∷◌, ◌++◌, nat_le, length, Option, Some, None, Result, if◌then◌else◌}
use Rattle.item_listing.specs.Listed as listed
use Rattle.item_listing.specs.declared.item.Item.{Item}
use Rattle.item_listing.specs.declared.item.Item.TheVariants as items
use Rattle.tree_rows.specs.Forest.{Document}
use Rattle.tree_building.specs.Building.{after, document}
use Rattle.tree_building.specs.Builder.{end_of}
use Rattle.tree_building.specs.declared.building.Building.{Building}
use Rattle.tree_building.specs.declared.fault.TreeFault.{TreeFault}
use Rattle.stream_sections.specs.Lines.{is_listing, ends_schemas}
use Rattle.stream_sections.specs.Sections.{Stop, refused, goes_on, Stream, schemas, unfinished, misplaced, bad_line, no_end, built_so_far, grown_by, with_tree}
use Rattle.stream_sections.specs.declared.asked.Asked.{Asked}
use Rattle.stream_sections.specs.declared.refusal.Refusal.TheVariants as refusals
use Rattle.stream_sections.specs.declared.schemas.Begun.{Begun}
use Rattle.stream_sections.specs.declared.schemas.SchemaReader.{SchemaReader}
use Rattle.stream_sections.specs.declared.schemas.SchemaSection.{SchemaSection}
use Rattle.stream_sections.specs.declared.schemas.SchemaTurn.{SchemaTurn}
use Rattle.stream_sections.specs.declared.schemas.SchemaTurn.TheVariants.{Goes, Ends, Refused}
use Rattle.stream_sections.specs.declared.schemas.TheConstants.{MOST_SCHEMAS}

pub data Turned : Type 0 where
  goes : (next : SchemaReader) → Turned
  ends : (sections : List SchemaSection) → Turned
  stops : (stop : Stop) → Turned

abbrev pub unbegun : SchemaReader
unbegun = record { sections = []; begun = None }

-- the tree of what was built
abbrev pub tree_of : Result Building TreeFault → Result Document TreeFault
tree_of b = document (end_of b)

abbrev pub begun_at : ℕ → List (List ℕ) → Begun
begun_at line locations = record { locations = locations; builder = built_so_far []; start = line }

abbrev pub begun_by : ℕ → List SchemaSection → List (List ℕ) → Option Begun → Turned
begun_by line done locations None = goes (record { sections = done; begun = Some (begun_at line locations) })
begun_by line done locations (Some s) =
    if nat_le MOST_SCHEMAS (length done + 1) then stops (refused (record { line = line; refusal = refusals.TooManySchemas }))
    else with_tree s.start (tree_of s.builder) stops
    (λ d. goes (record { sections = done ++ record { locations = s.locations; tree = d } ∷ []; begun = Some (begun_at line locations) }))

abbrev pub begun : ℕ → SchemaReader → List (List ℕ) → Turned
begun line r locations = begun_by line r.sections locations r.begun

abbrev pub grown_in : ℕ → List SchemaSection → Item → Option Begun → Turned
grown_in line done it None = stops (misplaced line)
grown_in line done it (Some s) =
    grown_by s.start (after s.builder it) stops (goes (record { sections = done; begun = Some (record s { builder = after s.builder it }) }))

abbrev pub grown : ℕ → SchemaReader → Item → Turned
grown line r it = grown_in line r.sections it r.begun

abbrev pub ended_by : ℕ → List SchemaSection → Option Begun → Turned
ended_by line done None = stops (misplaced line)
ended_by line done (Some s) = with_tree s.start (tree_of s.builder) stops (λ d. ends (done ++ record { locations = s.locations; tree = d } ∷ []))

abbrev pub ended : ℕ → SchemaReader → Turned
ended line r = ended_by line r.sections r.begun

-- the item of the line of this number
abbrev pub turned : Asked → ℕ → SchemaReader → Item → Turned
turned a line r (items.Schema locations) = begun line r locations
turned a line r it = if is_listing it then grown line r it else (if ends_schemas a it then ended line r else stops (misplaced line))

-- what was done is what is to be done
abbrev pub Turns : Turned → SchemaTurn → SchemaReader → Type 0
Turns (goes next) Goes new = new ≡ next
Turns (goes next) (Ends given) new = ⊥
Turns (goes next) (Refused given) new = ⊥
Turns (ends sections) Goes new = ⊥
Turns (ends sections) (Ends given) new = given ≡ sections
Turns (ends sections) (Refused given) new = ⊥
Turns (stops goes_on) turn new = ⊥
Turns (stops (refused spot)) Goes new = ⊥
Turns (stops (refused spot)) (Ends given) new = ⊥
Turns (stops (refused spot)) (Refused given) new = given ≡ spot

-- what a reader comes to when these items come, where so many lines were read
abbrev pub turn_then : {Rest : Type 0} → Turned → (SchemaReader → Stream Rest) → Rest → Stream Rest
turn_then (goes next) more rest = more next
turn_then (ends sections) more rest = schemas sections rest
turn_then (stops stop) more rest = unfinished stop

abbrev pub read : {Rest : Type 0} → Asked → (ℕ → listed.Listed → Rest) → ℕ → SchemaReader → listed.Listed → Stream Rest
read a rest lines r (listed.gives it more) =
    turn_then (turned a (lines + 1) r it) (λ next. read a rest (lines + 1) next more) (rest (lines + 1) more)
read a rest lines r (listed.refused fault) = unfinished (bad_line fault)
read a rest lines r listed.goes_on = unfinished goes_on
read a rest lines r listed.done = unfinished (no_end lines)
