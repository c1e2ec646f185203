-- What a reader was to do, by what it has done.
use Rattle.std.proofs.Common.{◌≡◌, ℕ, ◌+◌, ◌<◌, List, [], ◌∷◌, ◌++◌, length, nat_le, Bool, true, false, Option, Some, None, Result, Ok, Err, if◌then◌else◌, refl, sym, ap, subst, ◌∙◌, arith}
use Rattle.item_listing.specs.declared.item.Item.{Item}
use Rattle.item_listing.specs.declared.item.Item.TheVariants as items
use Rattle.tree_rows.specs.Forest.{Document}
use Rattle.tree_building.specs.declared.building.Building.{Building}
use Rattle.tree_building.specs.declared.fault.TreeFault.{TreeFault}
use Rattle.stream_sections.specs.Lines.{ends_schemas}
use Rattle.stream_sections.specs.Sections.{refused, goes_on, grown_by, with_tree}
use Rattle.stream_sections.specs.inside.CommandTurns as command_turns
use Rattle.stream_sections.specs.inside.DocumentTurns as document_turns
use Rattle.stream_sections.specs.inside.SchemaTurns as schema_turns
use Rattle.stream_sections.specs.declared.asked.Asked.{Asked}
use Rattle.stream_sections.specs.declared.commands.CommandReader.{CommandReader}
use Rattle.stream_sections.specs.declared.commands.CommandTurn.TheVariants as commands
use Rattle.stream_sections.specs.declared.document.DocumentReader.{DocumentReader}
use Rattle.stream_sections.specs.declared.document.DocumentTurn.TheVariants as documents
use Rattle.stream_sections.specs.declared.refusal.RefusedLine.{RefusedLine}
use Rattle.stream_sections.specs.declared.schemas.Begun.{Begun}
use Rattle.stream_sections.specs.declared.schemas.SchemaReader.{SchemaReader}
use Rattle.stream_sections.specs.declared.schemas.TheConstants.{MOST_SCHEMAS}
use Rattle.stream_sections.specs.declared.schemas.SchemaSection.{SchemaSection}
use Rattle.stream_sections.specs.declared.schemas.SchemaTurn.TheVariants as schemas

pub schemas_go : (t : schema_turns.Turned) (new : SchemaReader) → schema_turns.Turns t schemas.Goes new → t ≡ schema_turns.goes new
schemas_go (schema_turns.goes next) new h = ap schema_turns.goes (sym h)
schemas_go (schema_turns.ends all) new h = absurd h
schemas_go (schema_turns.stops goes_on) new h = absurd h
schemas_go (schema_turns.stops (refused spot)) new h = absurd h

pub schemas_end : (t : schema_turns.Turned) (given : List SchemaSection) (new : SchemaReader) → schema_turns.Turns t (schemas.Ends given) new → t ≡ schema_turns.ends given
schemas_end (schema_turns.goes next) given new h = absurd h
schemas_end (schema_turns.ends all) given new h = ap schema_turns.ends (sym h)
schemas_end (schema_turns.stops goes_on) given new h = absurd h
schemas_end (schema_turns.stops (refused spot)) given new h = absurd h

pub schemas_stop : (t : schema_turns.Turned) (given : RefusedLine) (new : SchemaReader) → schema_turns.Turns t (schemas.Refused given) new → t ≡ schema_turns.stops (refused given)
schemas_stop (schema_turns.goes next) given new h = absurd h
schemas_stop (schema_turns.ends all) given new h = absurd h
schemas_stop (schema_turns.stops goes_on) given new h = absurd h
schemas_stop (schema_turns.stops (refused spot)) given new h = ap (λ s. schema_turns.stops (refused s)) (sym h)

pub document_goes : (t : document_turns.Turned) (new : DocumentReader) → document_turns.Turns t documents.Goes new → t ≡ document_turns.goes new
document_goes (document_turns.goes next) new h = ap document_turns.goes (sym h)
document_goes (document_turns.edits d) new h = absurd h
document_goes (document_turns.ends d) new h = absurd h
document_goes (document_turns.stops goes_on) new h = absurd h
document_goes (document_turns.stops (refused spot)) new h = absurd h

pub document_edits : (t : document_turns.Turned) (given : Document) (new : DocumentReader) → document_turns.Turns t (documents.Edits given) new → t ≡ document_turns.edits given
document_edits (document_turns.goes next) given new h = absurd h
document_edits (document_turns.edits d) given new h = ap document_turns.edits (sym h)
document_edits (document_turns.ends d) given new h = absurd h
document_edits (document_turns.stops goes_on) given new h = absurd h
document_edits (document_turns.stops (refused spot)) given new h = absurd h

pub document_ends : (t : document_turns.Turned) (given : Document) (new : DocumentReader) → document_turns.Turns t (documents.Ends given) new → t ≡ document_turns.ends given
document_ends (document_turns.goes next) given new h = absurd h
document_ends (document_turns.edits d) given new h = absurd h
document_ends (document_turns.ends d) given new h = ap document_turns.ends (sym h)
document_ends (document_turns.stops goes_on) given new h = absurd h
document_ends (document_turns.stops (refused spot)) given new h = absurd h

pub document_stops : (t : document_turns.Turned) (given : RefusedLine) (new : DocumentReader) → document_turns.Turns t (documents.Refused given) new
    → t ≡ document_turns.stops (refused given)
document_stops (document_turns.goes next) given new h = absurd h
document_stops (document_turns.edits d) given new h = absurd h
document_stops (document_turns.ends d) given new h = absurd h
document_stops (document_turns.stops goes_on) given new h = absurd h
document_stops (document_turns.stops (refused spot)) given new h = ap (λ s. document_turns.stops (refused s)) (sym h)

pub commands_go : (t : command_turns.Turned) (new : CommandReader) → command_turns.Turns t commands.Goes new → t ≡ command_turns.goes new
commands_go (command_turns.goes next) new h = ap command_turns.goes (sym h)
commands_go (command_turns.gives line block) new h = absurd h
commands_go command_turns.ends new h = absurd h
commands_go (command_turns.stops goes_on) new h = absurd h
commands_go (command_turns.stops (refused spot)) new h = absurd h

pub commands_give : (t : command_turns.Turned) (text : List ℕ) (items : Option (List Item)) (new : CommandReader) → command_turns.Turns t (commands.Gives text items) new
    → (t ≡ command_turns.gives text items) × (new ≡ command_turns.unbegun)
commands_give (command_turns.goes next) text items new h = absurd h
commands_give (command_turns.gives line block) text items new h = (ap (command_turns.gives line) (sym h.1) ∙ ap (λ l. command_turns.gives l items) (sym h.0), h.2)
commands_give command_turns.ends text items new h = absurd h
commands_give (command_turns.stops goes_on) text items new h = absurd h
commands_give (command_turns.stops (refused spot)) text items new h = absurd h

pub commands_end : (t : command_turns.Turned) (new : CommandReader) → command_turns.Turns t commands.Ends new → t ≡ command_turns.ends
commands_end (command_turns.goes next) new h = absurd h
commands_end (command_turns.gives line block) new h = absurd h
commands_end command_turns.ends new h = refl
commands_end (command_turns.stops goes_on) new h = absurd h
commands_end (command_turns.stops (refused spot)) new h = absurd h

pub commands_stop : (t : command_turns.Turned) (given : RefusedLine) (new : CommandReader) → command_turns.Turns t (commands.Refused given) new
    → t ≡ command_turns.stops (refused given)
commands_stop (command_turns.goes next) given new h = absurd h
commands_stop (command_turns.gives line block) given new h = absurd h
commands_stop command_turns.ends given new h = absurd h
commands_stop (command_turns.stops goes_on) given new h = absurd h
commands_stop (command_turns.stops (refused spot)) given new h = ap (λ s. command_turns.stops (refused s)) (sym h)

-- ---- sections that have ended are some

abbrev HasSections : schema_turns.Turned → Type 0
HasSections (schema_turns.goes next) = Unit {0}
HasSections (schema_turns.ends all) = 0 < length all
HasSections (schema_turns.stops stop) = Unit {0}

last_one : (done : List SchemaSection) (section : SchemaSection) → 0 < length (done ++ section ∷ [])
last_one [] section = omega arith
last_one (first ∷ more) section = omega arith

with_tree_some : (start : ℕ) (tree : Result Document TreeFault) (next : Document → schema_turns.Turned) → ((d : Document) → HasSections (next d))
    → HasSections (with_tree start tree schema_turns.stops next)
with_tree_some start (Ok d) next h = h d
with_tree_some start (Err fault) next h = tt

begun_if : (full : Bool) (stop next : schema_turns.Turned) → HasSections stop → HasSections next → HasSections (if full then stop else next)
begun_if true stop next h k = h
begun_if false stop next h k = k

begun_some : (line : ℕ) (done : List SchemaSection) (locations : List (List ℕ)) (begun : Option Begun) → HasSections (schema_turns.begun_by line done locations begun)
begun_some line done locations None = tt
begun_some line done locations (Some s) =
    begun_if (nat_le MOST_SCHEMAS (length done + 1)) _ _ tt (with_tree_some s.start (schema_turns.tree_of s.builder) _ (λ d. tt))

grown_by_some : (start : ℕ) (built : Result Building TreeFault) (next : SchemaReader) → HasSections (grown_by start built schema_turns.stops (schema_turns.goes next))
grown_by_some start (Ok b) next = tt
grown_by_some start (Err fault) next = tt

grown_some : (line : ℕ) (done : List SchemaSection) (it : Item) (begun : Option Begun) → HasSections (schema_turns.grown_in line done it begun)
grown_some line done it None = tt
grown_some line done it (Some s) = grown_by_some s.start _ _

ended_some : (line : ℕ) (done : List SchemaSection) (begun : Option Begun) → HasSections (schema_turns.ended_by line done begun)
ended_some line done None = tt
ended_some line done (Some s) = with_tree_some s.start (schema_turns.tree_of s.builder) _ (λ d. last_one done _)

sections_some : (a : Asked) (line : ℕ) (r : SchemaReader) (it : Item) → HasSections (schema_turns.turned a line r it)
sections_some a line r (items.Schema locations) = begun_some line r.sections locations r.begun
sections_some a line r (items.Start name) = grown_some line r.sections (items.Start name) r.begun
sections_some a line r (items.Attr name value) = grown_some line r.sections (items.Attr name value) r.begun
sections_some a line r (items.Chars text) = grown_some line r.sections (items.Chars text) r.begun
sections_some a line r (items.Close name) = grown_some line r.sections (items.Close name) r.begun
sections_some a line r items.Instruction = grown_some line r.sections items.Instruction r.begun
sections_some a line r items.Document = begun_if (ends_schemas a items.Document) _ _ (ended_some line r.sections r.begun) tt
sections_some a line r items.Edits = begun_if (ends_schemas a items.Edits) _ _ (ended_some line r.sections r.begun) tt
sections_some a line r items.End = begun_if (ends_schemas a items.End) _ _ (ended_some line r.sections r.begun) tt
sections_some a line r items.Dot = begun_if (ends_schemas a items.Dot) _ _ (ended_some line r.sections r.begun) tt
sections_some a line r (items.Command text) = begun_if (ends_schemas a (items.Command text)) _ _ (ended_some line r.sections r.begun) tt

pub some_sections : (a : Asked) (line : ℕ) (r : SchemaReader) (it : Item) (given : List SchemaSection) (new : SchemaReader)
    → schema_turns.Turns (schema_turns.turned a line r it) (schemas.Ends given) new → 0 < length given
some_sections a line r it given new h = subst HasSections (schemas_end (schema_turns.turned a line r it) given new h) (sections_some a line r it)
