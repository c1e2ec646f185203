-- What is told spot by spot is what is told section by section.
use Rattle.std.proofs.Common.{◌≡◌, ℕ, ◌+◌, List, Option, Some, None, refl, ap, ◌∙◌}
use Rattle.item_listing.specs.Listed as listed
use Rattle.told.specs.Outcomes.{SetOutcome, accepted, broken}
use Rattle.told.specs.Told.{Told, asks, says, free}
use Rattle.open_document.specs.State.{Basis, OpenState, with_documents}
use Rattle.open_document.specs.Answers.{command_told, verdict}
use Rattle.open_document.specs.declared.verdict.Verdict.{Verdict}
use Rattle.stream_sections.specs.Sections as sections
use Rattle.stream_sections.specs.inside.CommandTurns as command_turns
use Rattle.stream_sections.specs.inside.DocumentTurns as document_turns
use Rattle.stream_sections.specs.inside.SchemaTurns as schema_turns
use Rattle.stream_sections.specs.declared.asked.Asked.{Asked}
use Rattle.stream_sections.specs.declared.asked.Asked.TheVariants.{Check, Assess, Session}
use Rattle.stream_sections.specs.declared.commands.CommandReader.{CommandReader}
use Rattle.stream_sections.specs.declared.document.DocumentReader.{DocumentReader}
use Rattle.stream_sections.specs.declared.schemas.SchemaReader.{SchemaReader}
use Rattle.stream_sections.specs.declared.schemas.SchemaSection.{SchemaSection}
use Rattle.stream_answers.specs.Output.{closing_told, commands_told, opening_told, opened_told, schema_ok, inputs, question_of, compiled_told, stream_told, check_told, sections_told}
use Rattle.stream_answers.specs.inside.Turns.{schemas, document, commands, ended, unbegun, no_block, spot_behind, schemas_turned, document_turned, commands_turned, end_told, told}
use Rattle.stream_answers.specs.declared.wanted.Wanted.{Wanted}

-- behind the line `end`
ended_are : (w : Wanted) (lines : ℕ) (v : Option Verdict) (its : listed.Listed)
    → told w lines (ended v) its ≡ closing_told (end_told v) (sections.closing lines its)
ended_are w lines v (listed.gives it more) = refl
ended_are w lines v (listed.refused fault) = refl
ended_are w lines v listed.goes_on = refl
ended_are w lines v listed.done = refl

-- an item among the commands, and those that come
command_step : (w : Wanted) (line : ℕ) (s : OpenState) (t : command_turns.Turned) (more : listed.Listed)
    → ((q : OpenState) (r : CommandReader) → told w line (commands q r) more ≡ commands_told q (command_turns.read line r more))
    → commands_turned s t (λ spot. told w line spot more)
    ≡ commands_told s (command_turns.turn_then t (λ next. command_turns.read line next more) (sections.closing line more))
command_step w line s (command_turns.goes next) more h = h s next
command_step w line s (command_turns.gives text block) more h = ap (command_told s text block) (λ i q. h q no_block i)
command_step w line s command_turns.ends more h = ended_are w line (Some (verdict s)) more
command_step w line s (command_turns.stops stop) more h = refl

commands_are : (w : Wanted) (lines : ℕ) (s : OpenState) (r : CommandReader) (its : listed.Listed)
    → told w lines (commands s r) its ≡ commands_told s (command_turns.read lines r its)
commands_are w lines s r (listed.gives it more) =
    command_step w (lines + 1) s (command_turns.turned (lines + 1) r it) more (λ q x. commands_are w (lines + 1) q x more)
commands_are w lines s r (listed.refused fault) = refl
commands_are w lines s r listed.goes_on = refl
commands_are w lines s r listed.done = refl

module _ (law : (lines : ℕ) (its : listed.Listed) → command_turns.read lines command_turns.unbegun its ≡ sections.commands lines None its) where
  -- commands behind a document
  begun_are : (w : Wanted) (line : ℕ) (s : OpenState) (more : listed.Listed) → told w line (commands s no_block) more ≡ commands_told s (sections.commands line None more)
  begun_are w line s more = commands_are w line s no_block more ∙ ap (commands_told s) (law line more)

  -- an item in the document section, and those that come
  document_step : (w : Wanted) (line : ℕ) (basis : Basis) (turn : document_turns.Turned) (more : listed.Listed)
      → ((r : DocumentReader) → told w line (document basis r) more ≡ opened_told w basis (document_turns.read w.asked line r more))
      → document_turned w basis turn (λ spot. told w line spot more)
      ≡ opened_told w basis (document_turns.turn_then turn (λ next. document_turns.read w.asked line next more) (sections.commands line None more) (sections.closing line more))
  document_step w line basis (document_turns.goes next) more h = h next
  document_step w line basis (document_turns.edits d) more h = ap (opening_told w basis d) (λ i s. begun_are w line s more i)
  document_step w line basis (document_turns.ends d) more h = ap (opening_told w basis d) (λ i s. ended_are w line (Some (verdict s)) more i)
  document_step w line basis (document_turns.stops stop) more h = refl

  document_is : (w : Wanted) (lines : ℕ) (basis : Basis) (r : DocumentReader) (its : listed.Listed)
      → told w lines (document basis r) its ≡ opened_told w basis (document_turns.read w.asked lines r its)
  document_is w lines basis r (listed.gives it more) =
      document_step w (lines + 1) basis (document_turns.turned w.asked (lines + 1) r it) more (λ x. document_is w (lines + 1) basis x more)
  document_is w lines basis r (listed.refused fault) = refl
  document_is w lines basis r listed.goes_on = refl
  document_is w lines basis r listed.done = refl

-- what follows the schema sections
module _ {Rest : Type 0} (w : Wanted) (rest : ℕ → listed.Listed → Rest) (rest_told : Basis → Rest → Told)
    (behind : (lines : ℕ) (basis : Basis) (more : listed.Listed) → told w lines (spot_behind w.asked lines basis) more ≡ rest_told basis (rest lines more)) where
  compiled_is : (line : ℕ) (all : List SchemaSection) (o : SetOutcome) (more : listed.Listed)
      → compiled_told (λ set. told w line (spot_behind w.asked line (with_documents (inputs all) set)) more) o
      ≡ compiled_told (λ set. rest_told (with_documents (inputs all) set) (rest line more)) o
  compiled_is line all (accepted set) more = ap (says (free schema_ok)) (behind line (with_documents (inputs all) set) more)
  compiled_is line all (broken fault) more = refl

  asked_is : (line : ℕ) (all : List SchemaSection) (more : listed.Listed)
      → schemas_turned w.asked line (schema_turns.ends all) (λ spot. told w line spot more)
      ≡ asks (question_of all) (compiled_told (λ set. rest_told (with_documents (inputs all) set) (rest line more)))
  asked_is line all more = ap (asks (question_of all)) (λ i o. compiled_is line all o more i)

  schemas_step : (line : ℕ) (turn : schema_turns.Turned) (more : listed.Listed)
      → ((r : SchemaReader) → told w line (schemas r) more ≡ stream_told rest_told (schema_turns.read w.asked rest line r more))
      → schemas_turned w.asked line turn (λ spot. told w line spot more)
      ≡ stream_told rest_told (schema_turns.turn_then turn (λ next. schema_turns.read w.asked rest line next more) (rest line more))
  schemas_step line (schema_turns.goes next) more h = h next
  schemas_step line (schema_turns.ends all) more h = asked_is line all more
  schemas_step line (schema_turns.stops stop) more h = refl

  schemas_are : (lines : ℕ) (r : SchemaReader) (its : listed.Listed) → told w lines (schemas r) its ≡ stream_told rest_told (schema_turns.read w.asked rest lines r its)
  schemas_are lines r (listed.gives it more) =
      schemas_step (lines + 1) (schema_turns.turned w.asked (lines + 1) r it) more (λ x. schemas_are (lines + 1) x more)
  schemas_are lines r (listed.refused fault) = refl
  schemas_are lines r listed.goes_on = refl
  schemas_are lines r listed.done = refl

abbrev wanted_by : Asked → ℕ → Wanted
wanted_by a most = record { asked = a; most = most }

module _ (alone : (a : Asked) (its : listed.Listed) → schema_turns.read a sections.closing 0 schema_turns.unbegun its ≡ sections.schemas_alone a its)
    (whole : (a : Asked) (its : listed.Listed) → schema_turns.read a (sections.document_section a) 0 schema_turns.unbegun its ≡ sections.with_document a its)
    (of_document : (a : Asked) (lines : ℕ) (its : listed.Listed) → document_turns.read a lines (document_turns.unbegun lines) its ≡ sections.document_section a lines its)
    (of_commands : (lines : ℕ) (its : listed.Listed) → command_turns.read lines command_turns.unbegun its ≡ sections.commands lines None its) where
  opened_is : (w : Wanted) (lines : ℕ) (basis : Basis) (its : listed.Listed)
      → told w lines (document basis (document_turns.unbegun lines)) its ≡ opened_told w basis (sections.document_section w.asked lines its)
  opened_is w lines basis its = document_is of_commands w lines basis (document_turns.unbegun lines) its ∙ ap (opened_told w basis) (of_document w.asked lines its)

  sectioned_for : (a : Asked) (most : ℕ) (its : listed.Listed) → told (wanted_by a most) 0 unbegun its ≡ sections_told (wanted_by a most) its
  sectioned_for Check most its =
      schemas_are (wanted_by Check most) sections.closing check_told (λ lines basis more. ended_are (wanted_by Check most) lines None more) 0 schema_turns.unbegun its
      ∙ ap (stream_told check_told) (alone Check its)
  sectioned_for Assess most its =
      let w = wanted_by Assess most in
      schemas_are w (sections.document_section Assess) (opened_told w) (opened_is w) 0 schema_turns.unbegun its
      ∙ ap (stream_told (opened_told w)) (whole Assess its)
  sectioned_for Session most its =
      let w = wanted_by Session most in
      schemas_are w (sections.document_section Session) (opened_told w) (opened_is w) 0 schema_turns.unbegun its
      ∙ ap (stream_told (opened_told w)) (whole Session its)

  pub sectioned : (w : Wanted) (its : listed.Listed) → told w 0 unbegun its ≡ sections_told w its
  sectioned w its = sectioned_for w.asked w.most its
