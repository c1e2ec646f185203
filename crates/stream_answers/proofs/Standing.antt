-- Where a stream stands at a place, an item turns what the place's reader turns.
use Rattle.std.proofs.Common.{◌≡◌, ◌⊎◌, inl, inr, ℕ, Option, None, refl, sym, ap, ◌∙◌, subst}
use Rattle.item_listing.specs.declared.item.Item.{Item}
use Rattle.told.specs.Told.{Told}
use Rattle.told.specs.declared.ending.Ending.{Ending}
use Rattle.open_document.specs.State.{Basis, OpenState, WorkState, empty, ready, working, IsReady, IsOpen as IsDocumentOpen}
use Rattle.open_document.specs.declared.verdict.Verdict.{Verdict}
use Rattle.stream_sections.specs.Sections.{misplaced, no_end}
use Rattle.stream_sections.specs.inside.CommandTurns as command_turns
use Rattle.stream_sections.specs.inside.DocumentTurns as document_turns
use Rattle.stream_sections.specs.inside.SchemaTurns as schema_turns
use Rattle.stream_sections.specs.declared.asked.Asked.{Asked}
use Rattle.stream_sections.specs.declared.commands.CommandReader.{CommandReader}
use Rattle.stream_sections.specs.declared.document.DocumentReader.{DocumentReader}
use Rattle.stream_sections.specs.declared.schemas.SchemaReader.{SchemaReader}
use Rattle.stream_sections.specs.declared.schemas.SchemaTurn.{SchemaTurn}
use Rattle.stream_sections.specs.declared.schemas.SchemaTurn.TheVariants as schemas
use Rattle.stream_answers.specs.Output.{stop_told}
use Rattle.stream_answers.specs.inside.Turns.{Spot, turned, schemas_turned, document_turned, commands_turned, end_told, finished}
use Rattle.stream_answers.specs.inside.Turning.{IsOpen, spot_of, behind, ending_by, place_by, moved, MovesOpen, AreSome}
use Rattle.stream_answers.specs.declared.place.Place.{Place}
use Rattle.stream_answers.specs.declared.place.Place.TheVariants as places
use Rattle.stream_answers.specs.declared.turn.Turn.{Turn}
use Rattle.stream_answers.specs.declared.wanted.Wanted.{Wanted}
use Rattle.stream_answers.proofs.Readers.{some_sections}

-- ---- by the place

module _ (w : Wanted) (line : ℕ) (it : Item) (next : Spot → Told) (place : Place) (work : WorkState) where
  pub schemas_turn : (r : SchemaReader) → place ≡ places.Schemas r
      → turned w line (spot_of place work) it next ≡ schemas_turned w.asked line (schema_turns.turned w.asked line r it) next
  schemas_turn r is = ap (λ (p : Place). turned w line (spot_of p work) it next) is

  pub document_turn : (r : DocumentReader) (basis : Basis) → place ≡ places.Document r → work ≡ ready basis
      → turned w line (spot_of place work) it next ≡ document_turned w basis (document_turns.turned w.asked line r it) next
  document_turn r basis is e =
      ap (λ (p : Place). turned w line (spot_of p work) it next) is ∙ ap (λ (x : WorkState). turned w line (spot_of (places.Document r) x) it next) e

  pub commands_turn : (r : CommandReader) (s : OpenState) → place ≡ places.Commands r → work ≡ working s
      → turned w line (spot_of place work) it next ≡ commands_turned s (command_turns.turned line r it) next
  commands_turn r s is e =
      ap (λ (p : Place). turned w line (spot_of p work) it next) is ∙ ap (λ (x : WorkState). turned w line (spot_of (places.Commands r) x) it next) e

  pub ended_turn : (v : Option Verdict) → place ≡ places.Ended v → turned w line (spot_of place work) it next ≡ stop_told (misplaced line)
  ended_turn v is = ap (λ (p : Place). turned w line (spot_of p work) it next) is

module _ (place : Place) (work : WorkState) (h : IsOpen place work) where
  pub is_ready : (r : DocumentReader) → place ≡ places.Document r → IsReady work
  is_ready r is = subst (λ (p : Place). IsOpen p work) is h

  pub is_open : (r : CommandReader) → place ≡ places.Commands r → IsDocumentOpen work
  is_open r is = subst (λ (p : Place). IsOpen p work) is h

-- sections that have ended are some
pub are_some : (a : Asked) (line : ℕ) (r : SchemaReader) (it : Item) (turn : SchemaTurn) (new : SchemaReader)
    → schema_turns.Turns (schema_turns.turned a line r it) turn new → AreSome turn
are_some a line r it schemas.Goes new h = tt
are_some a line r it (schemas.Ends given) new h = some_sections a line r it given new h
are_some a line r it (schemas.Refused spot) new h = tt

-- ---- behind a turn

module _ (place now : Place) (work : WorkState) (turn : Turn) (ended : Option Ending) (end_is : ended ≡ ending_by turn) (place_is : now ≡ place_by place turn) where
  pub settled : (next : Spot → Told) → moved next place work turn ≡ behind next (spot_of now work) ended
  settled next = ap (λ (p : Place). behind next (spot_of p work) (ending_by turn)) (sym place_is) ∙ ap (behind next (spot_of now work)) (sym end_is)

  pub settled_open : MovesOpen place work turn → ended ≡ None → IsOpen now work
  settled_open h none = subst (λ (p : Place). IsOpen p work) (sym place_is) (h (sym end_is ∙ none))

-- ---- the source has ended

abbrev pub IsUnended : Place → Type 0
IsUnended (places.Schemas r) = Unit {0}
IsUnended (places.Document r) = Unit {0}
IsUnended (places.Commands r) = Unit {0}
IsUnended (places.Ended v) = ⊥

pub unended_by : (place : Place) → ((r : SchemaReader) × (place ≡ places.Schemas r)) ⊎ (((r : DocumentReader) × (place ≡ places.Document r)) ⊎ ((r : CommandReader) × (place ≡ places.Commands r)))
    → IsUnended place
unended_by place (inl h) = subst IsUnended (sym h.1) tt
unended_by place (inr (inl h)) = subst IsUnended (sym h.1) tt
unended_by place (inr (inr h)) = subst IsUnended (sym h.1) tt

module _ (lines : ℕ) where
  document_unended : (r : DocumentReader) (work : WorkState) → IsReady work → finished lines (spot_of (places.Document r) work) ≡ stop_told (no_end lines)
  document_unended r empty h = absurd h
  document_unended r (ready basis) h = refl
  document_unended r (working s) h = absurd h

  commands_unended : (r : CommandReader) (work : WorkState) → IsDocumentOpen work → finished lines (spot_of (places.Commands r) work) ≡ stop_told (no_end lines)
  commands_unended r empty h = absurd h
  commands_unended r (ready basis) h = absurd h
  commands_unended r (working s) h = refl

  pub unended : (place : Place) (work : WorkState) → IsOpen place work → IsUnended place → finished lines (spot_of place work) ≡ stop_told (no_end lines)
  unended (places.Schemas r) work h n = refl
  unended (places.Document r) work h n = document_unended r work h
  unended (places.Commands r) work h n = commands_unended r work h
  unended (places.Ended v) work h n = absurd n

  pub ended_is : (place : Place) (work : WorkState) (v : Option Verdict) → place ≡ places.Ended v → finished lines (spot_of place work) ≡ end_told v
  ended_is place work v is = ap (λ (p : Place). finished lines (spot_of p work)) is
