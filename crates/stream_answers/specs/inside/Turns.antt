-- What an item does where a stream stands, and what is told of all that come.
use Rattle.std.specs.Prelude.{ℕ, ◌+◌, Option, Some, None}
use Rattle.item_listing.specs.Listed as listed
use Rattle.item_listing.specs.declared.item.Item.{Item}
use Rattle.told.specs.Told.{Told, over, asks}
use Rattle.told.specs.declared.ending.Ending.TheVariants.{Valid}
use Rattle.open_document.specs.State.{Basis, OpenState, with_documents}
use Rattle.open_document.specs.Answers.{command_told, verdict}
use Rattle.open_document.specs.declared.verdict.Verdict.{Verdict}
use Rattle.stream_sections.specs.Sections as sections
use Rattle.stream_sections.specs.inside.CommandTurns as command_turns
use Rattle.stream_sections.specs.inside.DocumentTurns as document_turns
use Rattle.stream_sections.specs.inside.SchemaTurns as schema_turns
use Rattle.stream_sections.specs.declared.asked.Asked.{Asked}
use Rattle.stream_sections.specs.declared.asked.Asked.TheVariants.{Check, Assess, Session}
use Rattle.stream_sections.specs.declared.commands.CommandReader.{CommandReader}
use Rattle.stream_sections.specs.declared.document.DocumentReader.{DocumentReader}
use Rattle.stream_sections.specs.declared.schemas.SchemaReader.{SchemaReader}
use Rattle.stream_answers.specs.Output.{stop_told, verdict_told, inputs, question_of, compiled_told, opening_told}
use Rattle.stream_answers.specs.declared.wanted.Wanted.{Wanted}

-- Where a stream stands between two lines: among the schema sections; in the document section, by a schema set that was accepted; among the
-- commands, with the document that they edit; or behind the word `end`, with the verdict on the document where one was asked for.
pub data Spot : Type 0 where
  schemas : (reader : SchemaReader) → Spot
  document : (basis : Basis) (reader : DocumentReader) → Spot
  commands : (opened : OpenState) (reader : CommandReader) → Spot
  ended : (verdict : Option Verdict) → Spot

abbrev pub unbegun : Spot
unbegun = schemas schema_turns.unbegun

-- no command has opened a block
abbrev pub no_block : CommandReader
no_block = command_turns.unbegun

-- where a stream stands whose schema was accepted at the line of this number
abbrev pub spot_behind : Asked → ℕ → Basis → Spot
spot_behind Check line basis = ended None
spot_behind Assess line basis = document basis (document_turns.unbegun line)
spot_behind Session line basis = document basis (document_turns.unbegun line)

-- the stream has ended with this document
abbrev pub document_ended : OpenState → Spot
document_ended s = ended (Some (verdict s))

-- an item among the schema sections, and what is told where the stream stands next
abbrev pub schemas_turned : Asked → ℕ → schema_turns.Turned → (Spot → Told) → Told
schemas_turned a line (schema_turns.goes r) next = next (schemas r)
schemas_turned a line (schema_turns.ends all) next = asks (question_of all) (compiled_told (λ set. next (spot_behind a line (with_documents (inputs all) set))))
schemas_turned a line (schema_turns.stops stop) next = stop_told stop

-- an item in the document section
abbrev pub document_turned : Wanted → Basis → document_turns.Turned → (Spot → Told) → Told
document_turned w basis (document_turns.goes r) next = next (document basis r)
document_turned w basis (document_turns.edits d) next = opening_told w basis d (λ s. next (commands s no_block))
document_turned w basis (document_turns.ends d) next = opening_told w basis d (λ s. next (document_ended s))
document_turned w basis (document_turns.stops stop) next = stop_told stop

-- an item among the commands
abbrev pub commands_turned : OpenState → command_turns.Turned → (Spot → Told) → Told
commands_turned s (command_turns.goes r) next = next (commands s r)
commands_turned s (command_turns.gives line block) next = command_told s line block (λ q. next (commands q no_block))
commands_turned s command_turns.ends next = next (document_ended s)
commands_turned s (command_turns.stops stop) next = stop_told stop

-- the item of the line of this number
abbrev pub turned : Wanted → ℕ → Spot → Item → (Spot → Told) → Told
turned w line (schemas r) it next = schemas_turned w.asked line (schema_turns.turned w.asked line r it) next
turned w line (document basis r) it next = document_turned w basis (document_turns.turned w.asked line r it) next
turned w line (commands s r) it next = commands_turned s (command_turns.turned line r it) next
turned w line (ended verdict) it next = stop_told (sections.misplaced line)

-- the line `end` came
abbrev pub end_told : Option Verdict → Told
end_told None = over (Some Valid)
end_told (Some v) = verdict_told v

-- the source has ended behind so many lines: behind the word `end`, or before it came
abbrev pub finished : ℕ → Spot → Told
finished lines (schemas r) = stop_told (sections.no_end lines)
finished lines (document basis r) = stop_told (sections.no_end lines)
finished lines (commands s r) = stop_told (sections.no_end lines)
finished lines (ended verdict) = end_told verdict

-- the items that come, where so many lines were read and the stream stands here
abbrev pub told : Wanted → ℕ → Spot → listed.Listed → Told
told w lines spot (listed.gives it more) = turned w (lines + 1) spot it (λ next. told w (lines + 1) next more)
told w lines spot (listed.refused fault) = stop_told (sections.bad_line fault)
told w lines spot listed.goes_on = stop_told sections.goes_on
told w lines spot listed.done = finished lines spot
