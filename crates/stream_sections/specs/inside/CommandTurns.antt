-- What an item does to a reader of commands.
use Rattle.std.specs.Prelude.{◌≡◌, ℕ, ◌+◌, List, [], ◌∷◌, ◌++◌, Option, Some, None, if◌then◌else◌}
use Rattle.item_listing.specs.Listed as listed
use Rattle.item_listing.specs.declared.item.Item.{Item}
use Rattle.item_listing.specs.declared.item.Item.TheVariants as items
use Rattle.stream_sections.specs.Lines.{is_listing, opens_block}
use Rattle.stream_sections.specs.Sections as sections
use Rattle.stream_sections.specs.Sections.{Stop, refused, goes_on, Commands, command, closes, uncommanded, Closing, misplaced, bad_line, no_end}
use Rattle.stream_sections.specs.declared.commands.Block.{Block}
use Rattle.stream_sections.specs.declared.commands.CommandReader.{CommandReader}
use Rattle.stream_sections.specs.declared.commands.CommandTurn.{CommandTurn}
use Rattle.stream_sections.specs.declared.commands.CommandTurn.TheVariants.{Goes, Gives, Ends, Refused}

pub data Turned : Type 0 where
  goes : (next : CommandReader) → Turned
  gives : (line : List ℕ) (block : Option (List Item)) → Turned
  ends : Turned
  stops : (stop : Stop) → Turned

abbrev pub unbegun : CommandReader
unbegun = record { block = None }

-- an item outside of a block
abbrev pub outside : ℕ → Item → Turned
outside line (items.Command text) = if opens_block text then goes (record { block = Some (record { line = text; items = [] }) }) else gives text None
outside line items.End = ends
outside line it = stops (misplaced line)

-- an item in a block
abbrev pub within : ℕ → Block → Item → Turned
within line b items.Dot = gives b.line (Some b.items)
within line b it = if is_listing it then goes (record { block = Some (record b { items = b.items ++ it ∷ [] }) }) else stops (misplaced line)

abbrev pub turned_by : ℕ → Option Block → Item → Turned
turned_by line None it = outside line it
turned_by line (Some b) it = within line b it

-- the item of the line of this number
abbrev pub turned : ℕ → CommandReader → Item → Turned
turned line r it = turned_by line r.block it

-- what was done is what is to be done; behind a command no block is open
abbrev pub Turns : Turned → CommandTurn → CommandReader → Type 0
Turns (goes next) Goes new = new ≡ next
Turns (goes next) (Gives text items) new = ⊥
Turns (goes next) Ends new = ⊥
Turns (goes next) (Refused given) new = ⊥
Turns (gives line block) Goes new = ⊥
Turns (gives line block) (Gives text items) new = (text ≡ line) × (items ≡ block) × (new ≡ unbegun)
Turns (gives line block) Ends new = ⊥
Turns (gives line block) (Refused given) new = ⊥
Turns ends Goes new = ⊥
Turns ends (Gives text items) new = ⊥
Turns ends Ends new = Unit {0}
Turns ends (Refused given) new = ⊥
Turns (stops goes_on) turn new = ⊥
Turns (stops (refused spot)) Goes new = ⊥
Turns (stops (refused spot)) (Gives text items) new = ⊥
Turns (stops (refused spot)) Ends new = ⊥
Turns (stops (refused spot)) (Refused given) new = given ≡ spot

-- what a reader comes to when these items come, where so many lines were read
abbrev pub turn_then : Turned → (CommandReader → Commands) → Closing → Commands
turn_then (goes next) more close = more next
turn_then (gives line block) more close = command line block (more unbegun)
turn_then ends more close = closes close
turn_then (stops stop) more close = uncommanded stop

abbrev pub read : ℕ → CommandReader → listed.Listed → Commands
read lines r (listed.gives it more) = turn_then (turned (lines + 1) r it) (λ next. read (lines + 1) next more) (sections.closing (lines + 1) more)
read lines r (listed.refused fault) = uncommanded (bad_line fault)
read lines r listed.goes_on = uncommanded goes_on
read lines r listed.done = uncommanded (no_end lines)
