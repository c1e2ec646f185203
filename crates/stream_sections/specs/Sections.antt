-- What the items of a stream give, section by section; or the first line that is refused.
use Rattle.std.specs.Prelude.{ℕ, ◌+◌, List, [], ◌∷◌, ◌++◌, nat_le, length, Option, Some, None, Result, Ok, Err, if◌then◌else◌}
use Rattle.item_listing.specs.Listed as listed
use Rattle.item_listing.specs.declared.item.Item.{Item}
use Rattle.item_listing.specs.declared.item.Item.TheVariants as items
use Rattle.item_listing.specs.declared.item.Reason.TheVariants.{EndMissing}
use Rattle.item_listing.specs.declared.past.ListingFault.{ListingFault}
use Rattle.tree_rows.specs.Forest.{Document}
use Rattle.tag_names.specs.Scopes.{first_scope}
use Rattle.tree_building.specs.Building.{nothing, after_all, tree}
use Rattle.tree_building.specs.Rules.{document_rules}
use Rattle.tree_building.specs.declared.building.Building.{Building}
use Rattle.tree_building.specs.declared.fault.TreeFault.{TreeFault}
use Rattle.stream_sections.specs.Lines.{is_listing, ends_schemas, may_edit, opens_block}
use Rattle.stream_sections.specs.declared.asked.Asked.{Asked}
use Rattle.stream_sections.specs.declared.refusal.Refusal.TheVariants as refusals
use Rattle.stream_sections.specs.declared.refusal.RefusedLine.{RefusedLine}
use Rattle.stream_sections.specs.declared.schemas.SchemaSection.{SchemaSection}
use Rattle.stream_sections.specs.declared.schemas.TheConstants.{MOST_SCHEMAS}

-- where a stream stops: a line is refused, or further items may come
pub data Stop : Type 0 where
  refused : (spot : RefusedLine) → Stop
  goes_on : Stop

-- the end of a stream: its source has ended behind the line `end`
pub data Closing : Type 0 where
  ended : Closing
  unclosed : (stop : Stop) → Closing

-- commands, each with the items of its block where it opens one, and then the end of the stream
pub data Commands : Type 0 where
  command : (line : List ℕ) (block : Option (List Item)) (more : Commands) → Commands
  closes : (closing : Closing) → Commands
  uncommanded : (stop : Stop) → Commands

-- the document, and then the commands
pub data Opened : Type 0 where
  document : (d : Document) (more : Commands) → Opened
  undocumented : (stop : Stop) → Opened

-- the schema sections, and then what follows
pub data Stream (Rest : Type 0) : Type 0 where
  schemas : (sections : List SchemaSection) (rest : Rest) → Stream Rest
  unfinished : (stop : Stop) → Stream Rest

-- the item of the line cannot stand where it does
abbrev pub misplaced : ℕ → Stop
misplaced line = refused (record { line = line; refusal = refusals.BadSection })

-- a fault of the tree of a section that began at this line: its item names the line
abbrev pub bad_tree : ℕ → TreeFault → Stop
bad_tree start fault = refused (record { line = start + 1 + fault.item; refusal = refusals.Tree fault.reason })

abbrev pub bad_line : ListingFault → Stop
bad_line fault = refused (record { line = fault.line; refusal = refusals.Line fault.reason })

-- the source has ended, and the line `end` is missing
abbrev pub no_end : ℕ → Stop
no_end lines = refused (record { line = lines + 1; refusal = refusals.Line EndMissing })

-- what the first items of a section build, or their first fault
abbrev pub built_so_far : List Item → Result Building TreeFault
built_so_far its = after_all (Ok (nothing document_rules first_scope)) its

-- these are all the items of a section that have come: they go on, or the last is refused
abbrev pub grown_by : {X : Type 0} → ℕ → Result Building TreeFault → (Stop → X) → X → X
grown_by start (Ok b) stop next = next
grown_by start (Err fault) stop next = stop (bad_tree start fault)

abbrev pub grown : {X : Type 0} → ℕ → List Item → (Stop → X) → X → X
grown start its stop next = grown_by start (built_so_far its) stop next

-- the section ends, and its tree is taken
abbrev pub with_tree : {X : Type 0} → ℕ → Result Document TreeFault → (Stop → X) → (Document → X) → X
with_tree start (Ok d) stop next = next d
with_tree start (Err fault) stop next = stop (bad_tree start fault)

-- behind `end` nothing follows, where so many lines were read
abbrev pub closing : ℕ → listed.Listed → Closing
closing lines (listed.gives it more) = unclosed (misplaced (lines + 1))
closing lines (listed.refused fault) = unclosed (bad_line fault)
closing lines listed.goes_on = unclosed goes_on
closing lines listed.done = ended

-- a command that opened a block, and the items of the block that have come
pub record OpenBlock : Type 0 where
  pub line : List ℕ
  pub items : List Item

-- an item among the commands: a command comes alone, or it opens a block
abbrev pub at_command : ℕ → Item → (Option OpenBlock → Commands) → Closing → Commands
at_command line (items.Command text) next close =
    if opens_block text then next (Some (record { line = text; items = [] })) else command text None (next None)
at_command line items.End next close = closes close
at_command line it next close = uncommanded (misplaced line)

-- an item in a block, which a dot ends
abbrev pub in_block : ℕ → OpenBlock → Item → (Option OpenBlock → Commands) → Commands
in_block line b items.Dot next = command b.line (Some b.items) (next None)
in_block line b it next =
    if is_listing it then next (Some (record b { items = b.items ++ it ∷ [] })) else uncommanded (misplaced line)

abbrev pub among_commands : ℕ → Option OpenBlock → Item → (Option OpenBlock → Commands) → Closing → Commands
among_commands line None it next close = at_command line it next close
among_commands line (Some b) it next close = in_block line b it next

-- the commands that come, where so many lines were read, in a block that is open or outside of one
abbrev pub commands : ℕ → Option OpenBlock → listed.Listed → Commands
commands lines b (listed.gives it more) = among_commands (lines + 1) b it (λ next. commands (lines + 1) next more) (closing (lines + 1) more)
commands lines b (listed.refused fault) = uncommanded (bad_line fault)
commands lines b listed.goes_on = uncommanded goes_on
commands lines b listed.done = uncommanded (no_end lines)

-- an item in the document section, which began at this line and has these items: `end` ends it, or `edits` where they may follow
abbrev pub in_document : Asked → ℕ → ℕ → List Item → Item → (List Item → Opened) → Commands → Closing → Opened
in_document a line start its items.End next edits close = with_tree start (tree its) undocumented (λ d. document d (closes close))
in_document a line start its items.Edits next edits close =
    if may_edit a then with_tree start (tree its) undocumented (λ d. document d edits) else undocumented (misplaced line)
in_document a line start its it next edits close =
    if is_listing it then grown start (its ++ it ∷ []) undocumented (next (its ++ it ∷ [])) else undocumented (misplaced line)

-- the document section that began at this line and has these items, where so many lines were read, and what follows
abbrev pub opened : Asked → ℕ → List Item → ℕ → listed.Listed → Opened
opened a start its lines (listed.gives it more) =
    in_document a (lines + 1) start its it (λ next. opened a start next (lines + 1) more) (commands (lines + 1) None more) (closing (lines + 1) more)
opened a start its lines (listed.refused fault) = undocumented (bad_line fault)
opened a start its lines listed.goes_on = undocumented goes_on
opened a start its lines listed.done = undocumented (no_end lines)

-- the document section, which begins behind so many lines
abbrev pub document_section : Asked → ℕ → listed.Listed → Opened
document_section a lines more = opened a lines [] lines more

-- a schema section that was begun: its locations, its line, and its items that have come
pub record OpenSection : Type 0 where
  pub locations : List (List ℕ)
  pub start : ℕ
  pub items : List Item

abbrev pub section_begun : ℕ → List (List ℕ) → OpenSection
section_begun line locations = record { locations = locations; start = line; items = [] }

abbrev pub whole_section : OpenSection → Document → SchemaSection
whole_section s d = record { locations = s.locations; tree = d }

-- a schema section begins: it is the first, or the one before it ends; a stream has at most 256
abbrev pub begins : {Rest : Type 0} → ℕ → List (List ℕ) → List SchemaSection → Option OpenSection → (List SchemaSection → OpenSection → Stream Rest) → Stream Rest
begins line locations done None next = next done (section_begun line locations)
begins line locations done (Some s) next =
    if nat_le MOST_SCHEMAS (length done + 1) then unfinished (refused (record { line = line; refusal = refusals.TooManySchemas }))
    else with_tree s.start (tree s.items) unfinished (λ d. next (done ++ whole_section s d ∷ []) (section_begun line locations))

-- an item of a section's tree
abbrev pub grows : {Rest : Type 0} → ℕ → List SchemaSection → Option OpenSection → Item → (List SchemaSection → OpenSection → Stream Rest) → Stream Rest
grows line done None it next = unfinished (misplaced line)
grows line done (Some s) it next = grown s.start (s.items ++ it ∷ []) unfinished (next done (record s { items = s.items ++ it ∷ [] }))

-- the schema sections end
abbrev pub ends : {Rest : Type 0} → ℕ → List SchemaSection → Option OpenSection → Rest → Stream Rest
ends line done None rest = unfinished (misplaced line)
ends line done (Some s) rest = with_tree s.start (tree s.items) unfinished (λ d. schemas (done ++ whole_section s d ∷ []) rest)

-- an item among the schema sections
abbrev pub in_schemas : {Rest : Type 0} → Asked → ℕ → List SchemaSection → Option OpenSection → Item → (List SchemaSection → OpenSection → Stream Rest) → Rest → Stream Rest
in_schemas a line done s (items.Schema locations) next rest = begins line locations done s next
in_schemas a line done s it next rest =
    if is_listing it then grows line done s it next else (if ends_schemas a it then ends line done s rest else unfinished (misplaced line))

-- the schema sections that come, where so many lines were read, these sections have ended, and one is open, and what follows them
abbrev pub schema_sections : {Rest : Type 0} → Asked → (ℕ → listed.Listed → Rest) → ℕ → List SchemaSection → Option OpenSection → listed.Listed → Stream Rest
schema_sections a rest lines done s (listed.gives it more) =
    in_schemas a (lines + 1) done s it (λ whole next. schema_sections a rest (lines + 1) whole (Some next) more) (rest (lines + 1) more)
schema_sections a rest lines done s (listed.refused fault) = unfinished (bad_line fault)
schema_sections a rest lines done s listed.goes_on = unfinished goes_on
schema_sections a rest lines done s listed.done = unfinished (no_end lines)

-- a stream without a document
abbrev pub schemas_alone : Asked → listed.Listed → Stream Closing
schemas_alone a its = schema_sections a closing 0 [] None its

-- a stream with a document
abbrev pub with_document : Asked → listed.Listed → Stream Opened
with_document a its = schema_sections a (document_section a) 0 [] None its
