-- What a turn of the code has done.
use Rattle.std.specs.Prelude.{◌≡◌, ◌<◌, ℕ, Option, Some, None, length}
use Rattle.told.specs.Told.{Told, over}
use Rattle.told.specs.declared.ending.Ending.{Ending}
use Rattle.open_document.specs.State.{WorkState, empty, ready, working, IsReady, IsOpen as IsDocumentOpen}
use Rattle.stream_sections.specs.inside.DocumentTurns as document_turns
use Rattle.stream_sections.specs.declared.asked.Asked.{Asked}
use Rattle.stream_sections.specs.declared.asked.Asked.TheVariants.{Check, Assess, Session}
use Rattle.stream_sections.specs.declared.schemas.SchemaTurn.{SchemaTurn}
use Rattle.stream_sections.specs.declared.schemas.SchemaTurn.TheVariants as schema_turns
use Rattle.stream_answers.specs.inside.Turns.{Spot, schemas, document, commands, ended}
use Rattle.stream_answers.specs.declared.place.Place.{Place}
use Rattle.stream_answers.specs.declared.place.Place.TheVariants as places
use Rattle.stream_answers.specs.declared.stream.Stream.{Stream}
use Rattle.stream_answers.specs.declared.turn.Turn.{Turn}
use Rattle.stream_answers.specs.declared.turn.Turn.TheVariants as turns

-- a document section has its schema set, and commands have their document, which want of memory has not closed
abbrev pub IsOpen : Place → WorkState → Type 0
IsOpen (places.Schemas r) work = Unit {0}
IsOpen (places.Document r) work = IsReady work
IsOpen (places.Commands r) work = IsDocumentOpen work
IsOpen (places.Ended verdict) work = Unit {0}

-- where a stream stands, by its place and by what it works on; a place that is not open stands nowhere
abbrev pub spot_of : Place → WorkState → Spot
spot_of (places.Schemas r) work = schemas r
spot_of (places.Document r) empty = ended None
spot_of (places.Document r) (ready basis) = document basis r
spot_of (places.Document r) (working s) = ended None
spot_of (places.Commands r) empty = ended None
spot_of (places.Commands r) (ready basis) = ended None
spot_of (places.Commands r) (working s) = commands s r
spot_of (places.Ended verdict) work = ended verdict

abbrev pub stands : Stream → Spot
stands s = spot_of s.place s.work

abbrev pub IsStanding : Stream → Type 0
IsStanding s = IsOpen s.place s.work

-- what is told behind an item: what is told where the stream stands next, or that it has ended
abbrev pub behind : (Spot → Told) → Spot → Option Ending → Told
behind next spot None = next spot
behind next spot (Some given) = over (Some given)

-- how the stream ended by a turn of the code, where it has
abbrev pub ending_by : Turn → Option Ending
ending_by turns.Stays = None
ending_by (turns.Goes other) = None
ending_by (turns.Ends given) = Some given

-- where it stands then: its place stays, changed, or is another one
abbrev pub place_by : Place → Turn → Place
place_by place turns.Stays = place
place_by place (turns.Goes other) = other.value
place_by place (turns.Ends given) = place

-- what is told behind a turn of the code
abbrev pub moved : (Spot → Told) → Place → WorkState → Turn → Told
moved next place work turn = behind next (spot_of (place_by place turn) work) (ending_by turn)

-- where the stream has not ended, its place is open
abbrev pub MovesOpen : Place → WorkState → Turn → Type 0
MovesOpen place work turn = ending_by turn ≡ None → IsOpen (place_by place turn) work

-- the stream goes to this place
abbrev pub GoesTo : Place → Turn → Type 0
GoesTo next turns.Stays = ⊥
GoesTo next (turns.Goes other) = other.value ≡ next
GoesTo next (turns.Ends given) = ⊥

-- where a stream stands whose schema set was accepted at the line of this number
abbrev pub place_behind : Asked → ℕ → Place
place_behind Check line = places.Ended None
place_behind Assess line = places.Document (document_turns.unbegun line)
place_behind Session line = places.Document (document_turns.unbegun line)

-- the stream has ended so
abbrev pub EndsSo : Ending → Turn → Type 0
EndsSo given turn = ending_by turn ≡ Some given

-- schema sections that end are some
abbrev pub AreSome : SchemaTurn → Type 0
AreSome schema_turns.Goes = Unit {0}
AreSome (schema_turns.Ends sections) = 0 < length sections
AreSome (schema_turns.Refused spot) = Unit {0}
