-- Whole streams: schema sections and a document section that spell trees, and commands with their blocks.
use Rattle.std.specs.Prelude.{◌≡◌, ℕ, ◌+◌, ◌≤◌, ◌⊎◌, List, [], ◌∷◌, ◌++◌, Bool, true, false, length, Option, Some, None}
use Rattle.item_listing.specs.Listed.{Listed, gives, goes_on as more_come, done}
use Rattle.item_listing.specs.declared.item.Item.{Item}
use Rattle.item_listing.specs.declared.item.Item.TheVariants as items
use Rattle.tag_names.specs.Scopes.{first_scope}
use Rattle.tree_rows.specs.Forest.{Document, count}
use Rattle.tree_building.specs.Spelling.{IsDocument, SpellsDocument}
use Rattle.tree_building.specs.Refusals.{AreListed}
use Rattle.stream_sections.specs.Lines.{opens_block, may_edit}
use Rattle.stream_sections.specs.Sections.{Stop, refused, goes_on, Closing, ended, unclosed, Commands, command, closes, uncommanded, Opened, document, undocumented, Stream, schemas, unfinished}
use Rattle.stream_sections.specs.declared.asked.Asked.{Asked}
use Rattle.stream_sections.specs.declared.asked.Asked.TheVariants.{Check, Assess, Session}
use Rattle.stream_sections.specs.declared.refusal.RefusedLine.{RefusedLine}
use Rattle.stream_sections.specs.declared.schemas.SchemaSection.{SchemaSection}
use Rattle.stream_sections.specs.declared.schemas.TheConstants.{MOST_SCHEMAS}

-- items, and then what follows them
abbrev pub followed : List Item → Listed → Listed
followed [] end = end
followed (it ∷ more) end = gives it (followed more end)

-- the items of a source that has ended behind them
abbrev pub whole : List Item → Listed
whole its = followed its done

-- the items that have come so far
abbrev pub so_far : List Item → Listed
so_far its = followed its more_come

-- these items of a section spell the document; its nodes are numbered from 1
pub record SpellsTree (d : Document) (its : List Item) : Type 0 where
  pub listed : AreListed its
  pub is_document : IsDocument d.forest
  pub spells : SpellsDocument d.forest first_scope its
  pub counted : d.next_free ≡ 1 + count d.forest

-- a line `schema` and the items that spell the tree, for each section; and then what follows
abbrev pub SpellsSchemas : List SchemaSection → (List Item → Type 0) → List Item → Type 0
SpellsSchemas [] Next its = Next its
SpellsSchemas (s ∷ more) Next its =
    (inner : List Item) × (behind : List Item) × (its ≡ items.Schema s.locations ∷ (inner ++ behind)) × SpellsTree s.tree inner × SpellsSchemas more Next behind

-- a word, and then what follows
abbrev pub Word : Item → (List Item → Type 0) → List Item → Type 0
Word word Next its = (behind : List Item) × (its ≡ word ∷ behind) × Next behind

abbrev pub Nothing : List Item → Type 0
Nothing its = its ≡ []

-- a command, with the items of its block where it opens one
pub record Order : Type 0 where
  pub line : List ℕ
  pub block : Option (List Item)

-- a line, and where it opens a block the items of the block up to a dot; and then what follows
abbrev pub SpellsOrder : List ℕ → Option (List Item) → (List Item → Type 0) → List Item → Type 0
SpellsOrder line None Next its = (behind : List Item) × (its ≡ items.Command line ∷ behind) × (opens_block line ≡ false) × Next behind
SpellsOrder line (Some block) Next its =
    (behind : List Item) × (its ≡ items.Command line ∷ (block ++ (items.Dot ∷ behind))) × (opens_block line ≡ true) × AreListed block × Next behind

-- commands, one after another, up to the line `end`
abbrev pub SpellsOrders : List Order → List Item → Type 0
SpellsOrders [] its = Word items.End Nothing its
SpellsOrders (o ∷ more) its = SpellsOrder o.line o.block (SpellsOrders more) its

-- behind the document: the line `end`, or where they are asked for the line `edits` and commands
abbrev pub Follows : Asked → List Order → List Item → Type 0
Follows a orders its = ((orders ≡ []) × Word items.End Nothing its) ⊎ ((may_edit a ≡ true) × Word items.Edits (SpellsOrders orders) its)

-- the items that spell the document, and then what follows
abbrev pub SpellsSection : Asked → Document → List Order → List Item → Type 0
SpellsSection a d orders its = (inner : List Item) × (behind : List Item) × (its ≡ inner ++ behind) × SpellsTree d inner × Follows a orders behind

-- at least one schema section, and no more than a stream may have
pub record AreSections (sections : List SchemaSection) : Type 0 where
  pub some : 1 ≤ length sections
  pub few : length sections ≤ MOST_SCHEMAS

-- a stream for `check`
pub record SpellsCheck (sections : List SchemaSection) (its : List Item) : Type 0 where
  pub sections_are : AreSections sections
  pub spells : SpellsSchemas sections (Word items.End Nothing) its

-- a document is asked for
abbrev pub has_document : Asked → Bool
has_document Check = false
has_document Assess = true
has_document Session = true

-- a stream for `assess` or `session`
pub record SpellsStream (a : Asked) (sections : List SchemaSection) (d : Document) (orders : List Order) (its : List Item) : Type 0 where
  pub asks : has_document a ≡ true
  pub sections_are : AreSections sections
  pub spells : SpellsSchemas sections (Word items.Document (SpellsSection a d orders)) its

-- these commands, and then the end of the stream
abbrev pub given : List Order → Commands
given [] = closes ended
given (o ∷ more) = command o.line o.block (given more)

-- the line that is refused, where one is
abbrev pub stop_refusal : Stop → Option RefusedLine
stop_refusal (refused spot) = Some spot
stop_refusal goes_on = None

abbrev pub closing_refusal : Closing → Option RefusedLine
closing_refusal ended = None
closing_refusal (unclosed stop) = stop_refusal stop

abbrev pub commands_refusal : Commands → Option RefusedLine
commands_refusal (command line block more) = commands_refusal more
commands_refusal (closes closing) = closing_refusal closing
commands_refusal (uncommanded stop) = stop_refusal stop

abbrev pub opened_refusal : Opened → Option RefusedLine
opened_refusal (document d more) = commands_refusal more
opened_refusal (undocumented stop) = stop_refusal stop

abbrev pub stream_refusal : {Rest : Type 0} → (Rest → Option RefusedLine) → Stream Rest → Option RefusedLine
stream_refusal refusal (schemas sections rest) = refusal rest
stream_refusal refusal (unfinished stop) = stop_refusal stop
