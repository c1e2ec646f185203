-- A reader that takes the items one by one comes to what is defined by their lists.
use Rattle.std.proofs.Common.{◌≡◌, ℕ, ◌+◌, List, [], ◌∷◌, ◌++◌, nat_le, length, Bool, true, false, Option, Some, None, Result, Ok, Err, if◌then◌else◌, refl, sym, ap, ◌∙◌, subst}
use Rattle.item_listing.specs.Listed as listed
use Rattle.item_listing.specs.declared.item.Item.{Item}
use Rattle.item_listing.specs.declared.item.Item.TheVariants as items
use Rattle.tree_rows.specs.Forest.{Document}
use Rattle.tree_building.specs.Building.{after, tree}
use Rattle.tree_building.specs.declared.building.Building.{Building}
use Rattle.tree_building.specs.declared.fault.TreeFault.{TreeFault}
use Rattle.stream_sections.specs.Lines.{is_listing, ends_schemas, may_edit, opens_block}
use Rattle.stream_sections.specs.Sections as sections
use Rattle.stream_sections.specs.Sections.{Stop, refused, Stream, schemas, unfinished, Opened, undocumented, Commands, Closing, command, closes, uncommanded, OpenBlock, OpenSection, section_begun, misplaced, built_so_far, grown_by, with_tree, at_command, in_block, among_commands, in_document, begins, grows, ends, in_schemas, schema_sections}
use Rattle.stream_sections.specs.inside.CommandTurns as command_turns
use Rattle.stream_sections.specs.inside.DocumentTurns as document_turns
use Rattle.stream_sections.specs.inside.SchemaTurns as schema_turns
use Rattle.stream_sections.specs.declared.asked.Asked.{Asked}
use Rattle.stream_sections.specs.declared.refusal.Refusal.TheVariants as refusals
use Rattle.stream_sections.specs.declared.commands.CommandReader.{CommandReader}
use Rattle.stream_sections.specs.declared.document.DocumentReader.{DocumentReader}
use Rattle.stream_sections.specs.declared.schemas.Begun.{Begun}
use Rattle.stream_sections.specs.declared.schemas.SchemaReader.{SchemaReader}
use Rattle.stream_sections.specs.declared.schemas.SchemaSection.{SchemaSection}
use Rattle.stream_sections.specs.declared.schemas.TheConstants.{MOST_SCHEMAS}
use Rattle.stream_sections.proofs.Building.{tree_is, built_more}

-- commands
abbrev reader_of : Option OpenBlock → CommandReader
reader_of None = command_turns.unbegun
reader_of (Some b) = record { block = Some (record { line = b.line; items = b.items }) }

abbrev Agree : (CommandReader → Commands) → (Option OpenBlock → Commands) → Type 0
Agree more next = (b : Option OpenBlock) → more (reader_of b) ≡ next b

opens_by : (r : Bool) (text : List ℕ) (more : CommandReader → Commands) (next : Option OpenBlock → Commands) (close : Closing) → Agree more next
    → command_turns.turn_then (if r then command_turns.goes (record { block = Some (record { line = text; items = [] }) }) else command_turns.gives text None) more close
    ≡ (if r then next (Some (record { line = text; items = [] })) else command text None (next None))
opens_by true text more next close h = h (Some (record { line = text; items = [] }))
opens_by false text more next close h = ap (command text None) (h None)

outside_is : (line : ℕ) (it : Item) (more : CommandReader → Commands) (next : Option OpenBlock → Commands) (close : Closing) → Agree more next
    → command_turns.turn_then (command_turns.outside line it) more close ≡ at_command line it next close
outside_is line (items.Command text) more next close h = opens_by (opens_block text) text more next close h
outside_is line items.End more next close h = refl
outside_is line it more next close h = refl

within_by : (r : Bool) (line : ℕ) (b : OpenBlock) (it : Item) (more : CommandReader → Commands) (next : Option OpenBlock → Commands) (close : Closing) → Agree more next
    → command_turns.turn_then (if r then command_turns.goes (record { block = Some (record { line = b.line; items = b.items ++ it ∷ [] }) }) else command_turns.stops (misplaced line)) more close
    ≡ (if r then next (Some (record b { items = b.items ++ it ∷ [] })) else uncommanded (misplaced line))
within_by true line b it more next close h = h (Some (record b { items = b.items ++ it ∷ [] }))
within_by false line b it more next close h = refl

within_is : (line : ℕ) (b : OpenBlock) (it : Item) (more : CommandReader → Commands) (next : Option OpenBlock → Commands) (close : Closing) → Agree more next
    → command_turns.turn_then (command_turns.within line (record { line = b.line; items = b.items }) it) more close ≡ in_block line b it next
within_is line b items.Dot more next close h = ap (command b.line (Some b.items)) (h None)
within_is line b it more next close h = within_by (is_listing it) line b it more next close h

among_is : (line : ℕ) (b : Option OpenBlock) (it : Item) (more : CommandReader → Commands) (next : Option OpenBlock → Commands) (close : Closing) → Agree more next
    → command_turns.turn_then (command_turns.turned line (reader_of b) it) more close ≡ among_commands line b it next close
among_is line None it more next close h = outside_is line it more next close h
among_is line (Some b) it more next close h = within_is line b it more next close h

commands_from : (lines : ℕ) (b : Option OpenBlock) (its : listed.Listed) → command_turns.read lines (reader_of b) its ≡ sections.commands lines b its
commands_from lines b (listed.gives it more) =
    among_is (lines + 1) b it (λ r. command_turns.read (lines + 1) r more) (λ next. sections.commands (lines + 1) next more) (sections.closing (lines + 1) more)
    (λ next. commands_from (lines + 1) next more)
commands_from lines b (listed.refused fault) = refl
commands_from lines b listed.goes_on = refl
commands_from lines b listed.done = refl

pub commands_read : (lines : ℕ) (its : listed.Listed) → command_turns.read lines command_turns.unbegun its ≡ sections.commands lines None its
commands_read lines its = commands_from lines None its

-- the document
abbrev document_reader : ℕ → List Item → DocumentReader
document_reader start its = record { builder = built_so_far its; start = start }

ends_by : (start : ℕ) (t : Result Document TreeFault) (more : DocumentReader → Opened) (edits : Commands) (close : Closing)
    → document_turns.turn_then (with_tree start t document_turns.stops document_turns.ends) more edits close
    ≡ with_tree start t undocumented (λ d. sections.document d (closes close))
ends_by start (Ok d) more edits close = refl
ends_by start (Err fault) more edits close = refl

edits_by : (r : Bool) (line start : ℕ) (t : Result Document TreeFault) (more : DocumentReader → Opened) (edits : Commands) (close : Closing)
    → document_turns.turn_then (if r then with_tree start t document_turns.stops document_turns.edits else document_turns.stops (misplaced line)) more edits close
    ≡ (if r then with_tree start t undocumented (λ d. sections.document d edits) else undocumented (misplaced line))
edits_by true line start (Ok d) more edits close = refl
edits_by true line start (Err fault) more edits close = refl
edits_by false line start t more edits close = refl

document_grows : (start : ℕ) (b : Result Building TreeFault) (more : DocumentReader → Opened) (grown : Opened) (edits : Commands) (close : Closing)
    → more (record { builder = b; start = start }) ≡ grown
    → document_turns.turn_then (grown_by start b document_turns.stops (document_turns.goes (record { builder = b; start = start }))) more edits close
    ≡ grown_by start b undocumented grown
document_grows start (Ok b) more grown edits close h = h
document_grows start (Err fault) more grown edits close h = refl

listing_by : (r : Bool) (line start : ℕ) (b : Result Building TreeFault) (more : DocumentReader → Opened) (grown : Opened) (edits : Commands) (close : Closing)
    → more (record { builder = b; start = start }) ≡ grown
    → document_turns.turn_then (if r then grown_by start b document_turns.stops (document_turns.goes (record { builder = b; start = start }))
    else document_turns.stops (misplaced line)) more edits close
    ≡ (if r then grown_by start b undocumented grown else undocumented (misplaced line))
listing_by true line start b more grown edits close h = document_grows start b more grown edits close h
listing_by false line start b more grown edits close h = refl

module _ (a : Asked) (line start : ℕ) (its : List Item) (more : DocumentReader → Opened) (next : List Item → Opened) (edits : Commands) (close : Closing)
    (h : (all : List Item) → more (document_reader start all) ≡ next all) where
  listing_is : (it : Item)
      → document_turns.turn_then (if is_listing it then grown_by start (after (built_so_far its) it) document_turns.stops
      (document_turns.goes (record { builder = after (built_so_far its) it; start = start })) else document_turns.stops (misplaced line)) more edits close
      ≡ (if is_listing it then grown_by start (built_so_far (its ++ it ∷ [])) undocumented (next (its ++ it ∷ [])) else undocumented (misplaced line))
  listing_is it = subst (λ b. document_turns.turn_then (if is_listing it then grown_by start b document_turns.stops
      (document_turns.goes (record { builder = b; start = start })) else document_turns.stops (misplaced line)) more edits close
      ≡ (if is_listing it then grown_by start (built_so_far (its ++ it ∷ [])) undocumented (next (its ++ it ∷ [])) else undocumented (misplaced line)))
      (built_more its it)
      (listing_by (is_listing it) line start (built_so_far (its ++ it ∷ [])) more (next (its ++ it ∷ [])) edits close (h (its ++ it ∷ [])))

  end_is : document_turns.turn_then (with_tree start (document_turns.tree_of (built_so_far its)) document_turns.stops document_turns.ends) more edits close
      ≡ with_tree start (tree its) undocumented (λ d. sections.document d (closes close))
  end_is = subst (λ t. document_turns.turn_then (with_tree start t document_turns.stops document_turns.ends) more edits close
      ≡ with_tree start (tree its) undocumented (λ d. sections.document d (closes close))) (sym (tree_is its))
      (ends_by start (tree its) more edits close)

  edits_is : document_turns.turn_then (if may_edit a then with_tree start (document_turns.tree_of (built_so_far its)) document_turns.stops document_turns.edits
      else document_turns.stops (misplaced line)) more edits close
      ≡ (if may_edit a then with_tree start (tree its) undocumented (λ d. sections.document d edits) else undocumented (misplaced line))
  edits_is = subst (λ t. document_turns.turn_then (if may_edit a then with_tree start t document_turns.stops document_turns.edits
      else document_turns.stops (misplaced line)) more edits close
      ≡ (if may_edit a then with_tree start (tree its) undocumented (λ d. sections.document d edits) else undocumented (misplaced line))) (sym (tree_is its))
      (edits_by (may_edit a) line start (tree its) more edits close)

  document_is : (it : Item) → document_turns.turn_then (document_turns.turned a line (document_reader start its) it) more edits close
      ≡ in_document a line start its it next edits close
  document_is items.End = end_is
  document_is items.Edits = edits_is
  document_is it = listing_is it

document_from : (a : Asked) (start : ℕ) (its : List Item) (lines : ℕ) (more : listed.Listed)
    → document_turns.read a lines (document_reader start its) more ≡ sections.opened a start its lines more
document_from a start its lines (listed.gives it more) =
    document_is a (lines + 1) start its (λ r. document_turns.read a (lines + 1) r more) (λ all. sections.opened a start all (lines + 1) more)
    (sections.commands (lines + 1) None more) (sections.closing (lines + 1) more) (λ all. document_from a start all (lines + 1) more) it
document_from a start its lines (listed.refused fault) = refl
document_from a start its lines listed.goes_on = refl
document_from a start its lines listed.done = refl

pub document_read : (a : Asked) (lines : ℕ) (more : listed.Listed)
    → document_turns.read a lines (document_turns.unbegun lines) more ≡ sections.document_section a lines more
document_read a lines more = document_from a lines [] lines more

-- schema sections
abbrev begun_of : Option OpenSection → Option Begun
begun_of None = None
begun_of (Some s) = Some (record { locations = s.locations; builder = built_so_far s.items; start = s.start })

abbrev schema_reader : List SchemaSection → Option OpenSection → SchemaReader
schema_reader whole s = record { sections = whole; begun = begun_of s }

begins_by : {Rest : Type 0} (r : Bool) (line start : ℕ) (t : Result Document TreeFault) (reader : Document → SchemaReader) (opened : Document → Stream Rest)
    (more : SchemaReader → Stream Rest) (rest : Rest) → ((d : Document) → more (reader d) ≡ opened d)
    → schema_turns.turn_then (if r then schema_turns.stops (refused (record { line = line; refusal = refusals.TooManySchemas }))
    else with_tree start t schema_turns.stops (λ d. schema_turns.goes (reader d))) more rest
    ≡ (if r then unfinished (refused (record { line = line; refusal = refusals.TooManySchemas })) else with_tree start t unfinished opened)
begins_by true line start t reader opened more rest h = refl
begins_by false line start (Ok d) reader opened more rest h = h d
begins_by false line start (Err fault) reader opened more rest h = refl

schemas_grow : {Rest : Type 0} (start : ℕ) (b : Result Building TreeFault) (reader : SchemaReader) (more : SchemaReader → Stream Rest) (grown : Stream Rest) (rest : Rest)
    → more reader ≡ grown
    → schema_turns.turn_then (grown_by start b schema_turns.stops (schema_turns.goes reader)) more rest ≡ grown_by start b unfinished grown
schemas_grow start (Ok b) reader more grown rest h = h
schemas_grow start (Err fault) reader more grown rest h = refl

schemas_end : {Rest : Type 0} (start : ℕ) (t : Result Document TreeFault) (all : Document → List SchemaSection) (more : SchemaReader → Stream Rest) (rest : Rest)
    → schema_turns.turn_then (with_tree start t schema_turns.stops (λ d. schema_turns.ends (all d))) more rest
    ≡ with_tree start t unfinished (λ d. schemas (all d) rest)
schemas_end start (Ok d) all more rest = refl
schemas_end start (Err fault) all more rest = refl

other_by : {Rest : Type 0} (l e : Bool) (line : ℕ) (grown ended : schema_turns.Turned) (grows ends : Stream Rest) (more : SchemaReader → Stream Rest) (rest : Rest)
    → schema_turns.turn_then grown more rest ≡ grows → schema_turns.turn_then ended more rest ≡ ends
    → schema_turns.turn_then (if l then grown else (if e then ended else schema_turns.stops (misplaced line))) more rest
    ≡ (if l then grows else (if e then ends else unfinished (misplaced line)))
other_by true e line grown ended grows ends more rest g h = g
other_by false true line grown ended grows ends more rest g h = h
other_by false false line grown ended grows ends more rest g h = refl

module _ {Rest : Type 0} (a : Asked) (line : ℕ) (whole : List SchemaSection) (more : SchemaReader → Stream Rest)
    (next : List SchemaSection → OpenSection → Stream Rest) (rest : Rest)
    (h : (all : List SchemaSection) (s : OpenSection) → more (schema_reader all (Some s)) ≡ next all s) where
  begin_is : (s : Option OpenSection) (locations : List (List ℕ))
      → schema_turns.turn_then (schema_turns.begun_by line whole locations (begun_of s)) more rest ≡ begins line locations whole s next
  begin_is None locations = h whole (section_begun line locations)
  begin_is (Some s) locations =
      subst (λ t. schema_turns.turn_then (if nat_le MOST_SCHEMAS (length whole + 1) then schema_turns.stops (refused (record { line = line; refusal = refusals.TooManySchemas }))
      else with_tree s.start t schema_turns.stops
      (λ d. schema_turns.goes (record { sections = whole ++ record { locations = s.locations; tree = d } ∷ []; begun = Some (schema_turns.begun_at line locations) }))) more rest
      ≡ begins line locations whole (Some s) next) (sym (tree_is s.items))
      (begins_by (nat_le MOST_SCHEMAS (length whole + 1)) line s.start (tree s.items)
      (λ d. record { sections = whole ++ record { locations = s.locations; tree = d } ∷ []; begun = Some (schema_turns.begun_at line locations) })
      (λ d. next (whole ++ sections.whole_section s d ∷ []) (section_begun line locations)) more rest
      (λ d. h (whole ++ sections.whole_section s d ∷ []) (section_begun line locations)))

  grow_is : (s : Option OpenSection) (it : Item)
      → schema_turns.turn_then (schema_turns.grown_in line whole it (begun_of s)) more rest ≡ grows line whole s it next
  grow_is None it = refl
  grow_is (Some s) it =
      subst (λ b. schema_turns.turn_then (grown_by s.start b schema_turns.stops
      (schema_turns.goes (record { sections = whole; begun = Some (record { locations = s.locations; builder = b; start = s.start }) }))) more rest
      ≡ grows line whole (Some s) it next) (built_more s.items it)
      (schemas_grow s.start (built_so_far (s.items ++ it ∷ []))
      (record { sections = whole; begun = Some (record { locations = s.locations; builder = built_so_far (s.items ++ it ∷ []); start = s.start }) }) more
      (next whole (record s { items = s.items ++ it ∷ [] })) rest (h whole (record s { items = s.items ++ it ∷ [] })))

  finish_is : (s : Option OpenSection) → schema_turns.turn_then (schema_turns.ended_by line whole (begun_of s)) more rest ≡ ends line whole s rest
  finish_is None = refl
  finish_is (Some s) =
      subst (λ t. schema_turns.turn_then (with_tree s.start t schema_turns.stops
      (λ d. schema_turns.ends (whole ++ record { locations = s.locations; tree = d } ∷ []))) more rest
      ≡ ends line whole (Some s) rest) (sym (tree_is s.items))
      (schemas_end s.start (tree s.items) (λ d. whole ++ sections.whole_section s d ∷ []) more rest)

  other_is : (s : Option OpenSection) (it : Item)
      → schema_turns.turn_then (if is_listing it then schema_turns.grown_in line whole it (begun_of s)
      else (if ends_schemas a it then schema_turns.ended_by line whole (begun_of s) else schema_turns.stops (misplaced line))) more rest
      ≡ (if is_listing it then grows line whole s it next else (if ends_schemas a it then ends line whole s rest else unfinished (misplaced line)))
  other_is s it = other_by (is_listing it) (ends_schemas a it) line (schema_turns.grown_in line whole it (begun_of s)) (schema_turns.ended_by line whole (begun_of s))
      (grows line whole s it next) (ends line whole s rest) more rest (grow_is s it) (finish_is s)

  schemas_are : (s : Option OpenSection) (it : Item)
      → schema_turns.turn_then (schema_turns.turned a line (schema_reader whole s) it) more rest ≡ in_schemas a line whole s it next rest
  schemas_are s (items.Schema locations) = begin_is s locations
  schemas_are s it = other_is s it

schemas_from : {Rest : Type 0} (a : Asked) (rest : ℕ → listed.Listed → Rest) (lines : ℕ) (whole : List SchemaSection) (s : Option OpenSection) (its : listed.Listed)
    → schema_turns.read a rest lines (schema_reader whole s) its ≡ schema_sections a rest lines whole s its
schemas_from a rest lines whole s (listed.gives it more) =
    schemas_are a (lines + 1) whole (λ r. schema_turns.read a rest (lines + 1) r more) (λ all next. schema_sections a rest (lines + 1) all (Some next) more)
    (rest (lines + 1) more) (λ all next. schemas_from a rest (lines + 1) all (Some next) more) s it
schemas_from a rest lines whole s (listed.refused fault) = refl
schemas_from a rest lines whole s listed.goes_on = refl
schemas_from a rest lines whole s listed.done = refl

pub schemas_read : {Rest : Type 0} (a : Asked) (rest : ℕ → listed.Listed → Rest) (its : listed.Listed)
    → schema_turns.read a rest 0 schema_turns.unbegun its ≡ schema_sections a rest 0 [] None its
schemas_read a rest its = schemas_from a rest 0 [] None its
