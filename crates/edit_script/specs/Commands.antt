-- What a line of a script says.
use Rattle.std.specs.Prelude.{◌≡◌, ℕ, List, Bool, true, ◌||◌, Option, Some, None, Result, Ok, Err, codes, if◌then◌else◌}
use Rattle.std.specs.Str.{bytes_eq}
use Rattle.item_listing.specs.Escapes.{unescaped}
use Rattle.item_listing.specs.declared.item.Item.{Item}
use Rattle.tree_building.specs.Blocks.{one_element}
use Rattle.tree_edits.specs.Edits.{can_be_made}
use Rattle.tree_edits.specs.declared.edit.Edit.{Edit}
use Rattle.tree_edits.specs.declared.edit.Edit.TheVariants as edits
use Rattle.edit_script.specs.Fields.{◌>>=◌, split, needed, last, number, revision}
use Rattle.edit_script.specs.declared.command.Command.{Command}
use Rattle.edit_script.specs.declared.command.Command.TheVariants as commands
use Rattle.edit_script.specs.declared.command.ScriptFault.{ScriptFault}
use Rattle.edit_script.specs.declared.script.NodeAndName.{NodeAndName}
use Rattle.edit_script.specs.declared.command.ScriptFault.TheVariants.{UnknownCommand, WrongFields, BadEscape, BadBlock}

-- the first field, and what is behind its space, None where there is none
abbrev pub word_of : List ℕ → Option (List ℕ × List ℕ) → List ℕ
word_of line None = line
word_of line (Some parts) = parts.0

abbrev pub rest_of : Option (List ℕ × List ℕ) → Option (List ℕ)
rest_of None = None
rest_of (Some parts) = Some parts.1

-- a text, with its escapes replaced
abbrev pub escaped : Option (List ℕ) → Result (List ℕ) ScriptFault
escaped None = Err BadEscape
escaped (Some text) = Ok text

-- the items of a block, which are one element; no block is that of no items
abbrev pub whole : Option (List Item) → Result (List Item) ScriptFault
whole None = Err BadBlock
whole (Some its) = if one_element its then Ok its else Err BadBlock

-- a number, which is the only field
abbrev pub only_number : Option (List ℕ) → Result ℕ ScriptFault
only_number rest = needed rest >>= λ field. last field >>= λ only. number only

-- `insert P I`, with its block
abbrev pub insert : Option (List ℕ) → Option (List Item) → Result Edit ScriptFault
insert rest block =
    needed rest >>= λ more. needed (split more) >>= λ parts. last parts.1 >>= λ second.
    number parts.0 >>= λ parent. number second >>= λ place. whole block >>= λ its. Ok (edits.Insert parent place its)

-- `addtext P I TEXT`
abbrev pub add_text : Option (List ℕ) → Result Edit ScriptFault
add_text rest =
    needed rest >>= λ more. needed (split more) >>= λ parts. needed (split parts.1) >>= λ others.
    number parts.0 >>= λ parent. number others.0 >>= λ place. escaped (unescaped others.1) >>= λ text. Ok (edits.AddText parent place text)

-- `text N TEXT`
abbrev pub set_text : Option (List ℕ) → Result Edit ScriptFault
set_text rest =
    needed rest >>= λ more. needed (split more) >>= λ parts.
    number parts.0 >>= λ node. escaped (unescaped parts.1) >>= λ text. Ok (edits.SetText node text)

-- `remove N`
abbrev pub remove : Option (List ℕ) → Result Edit ScriptFault
remove rest = only_number rest >>= λ node. Ok (edits.Remove node)

-- a number and a name, which are the only fields
abbrev pub number_and_name : Option (List ℕ) → Result NodeAndName ScriptFault
number_and_name rest =
    needed rest >>= λ more. needed (split more) >>= λ parts. last parts.1 >>= λ name. number parts.0 >>= λ node. Ok (record { node = node; name = name })

-- `rename N NAME`
abbrev pub rename : Option (List ℕ) → Result Edit ScriptFault
rename rest = number_and_name rest >>= λ it. Ok (edits.Rename it.node it.name)

-- `set N NAME TEXT`
abbrev pub set : Option (List ℕ) → Result Edit ScriptFault
set rest =
    needed rest >>= λ more. needed (split more) >>= λ parts. needed (split parts.1) >>= λ others.
    number parts.0 >>= λ node. escaped (unescaped others.1) >>= λ value. Ok (edits.SetAttr node others.0 value)

-- `unset N NAME`
abbrev pub unset : Option (List ℕ) → Result Edit ScriptFault
unset rest = number_and_name rest >>= λ it. Ok (edits.UnsetAttr it.node it.name)

-- `assess N`
abbrev pub assess : Option (List ℕ) → Result Command ScriptFault
assess rest = only_number rest >>= λ node. Ok (commands.Assess node)

-- `swap K`
abbrev pub swap : Option (List ℕ) → Result Command ScriptFault
swap rest = only_number rest >>= λ section. Ok (commands.Swap section)

-- nothing stands behind the word
abbrev pub no_field : Option (List ℕ) → Result (Unit {0}) ScriptFault
no_field None = Ok tt
no_field (Some rest) = Err WrongFields

-- a command without fields: `errors`, `report`, `total`, `undo`, `redo`
abbrev pub alone : Command → Option (List ℕ) → Result Command ScriptFault
alone command rest = no_field rest >>= λ none. Ok command

-- `next P I`
abbrev pub next : Option (List ℕ) → Result Command ScriptFault
next rest =
    needed rest >>= λ more. needed (split more) >>= λ parts. last parts.1 >>= λ second.
    number parts.0 >>= λ parent. number second >>= λ place. Ok (commands.Next parent place)

-- a question, a step in the history, or another set
abbrev pub by_other_word : List ℕ → Option (List ℕ) → Result Command ScriptFault
by_other_word word rest =
    if bytes_eq word (codes "assess") then assess rest
    else (if bytes_eq word (codes "errors") then alone commands.Errors rest
    else (if bytes_eq word (codes "report") then alone commands.Report rest
    else (if bytes_eq word (codes "total") then alone commands.Total rest
    else (if bytes_eq word (codes "undo") then alone commands.Undo rest
    else (if bytes_eq word (codes "redo") then alone commands.Redo rest
    else (if bytes_eq word (codes "next") then next rest
    else (if bytes_eq word (codes "swap") then swap rest
    else Err UnknownCommand)))))))

-- the first words of edits
abbrev pub is_edit : List ℕ → Bool
is_edit word =
    bytes_eq word (codes "insert") || (bytes_eq word (codes "addtext") || (bytes_eq word (codes "text") || (bytes_eq word (codes "remove")
    || (bytes_eq word (codes "rename") || (bytes_eq word (codes "set") || bytes_eq word (codes "unset"))))))

-- an edit, by its first word
abbrev pub edit_of : List ℕ → Option (List ℕ) → Option (List Item) → Result Edit ScriptFault
edit_of word rest block =
    if bytes_eq word (codes "insert") then insert rest block
    else (if bytes_eq word (codes "addtext") then add_text rest
    else (if bytes_eq word (codes "text") then set_text rest
    else (if bytes_eq word (codes "remove") then remove rest
    else (if bytes_eq word (codes "rename") then rename rest
    else (if bytes_eq word (codes "set") then set rest
    else (if bytes_eq word (codes "unset") then unset rest
    else Err UnknownCommand))))))

-- the edit of a line and its block
abbrev pub edit_on : List ℕ → Option (List Item) → Result Edit ScriptFault
edit_on line block = edit_of (word_of line (split line)) (rest_of (split line)) block

-- An edit by an author who had seen a revision: of two faults the one of the lesser number, so that a wrong word and wrong fields of the edit come
-- before the two numbers in front of it, and these before its escapes and its block.
abbrev pub turn_by : Result ℕ ScriptFault → Result ℕ ScriptFault → Result Edit ScriptFault → Result Command ScriptFault
turn_by author seen (Err UnknownCommand) = Err UnknownCommand
turn_by author seen (Err WrongFields) = Err WrongFields
turn_by author seen edit = author >>= λ by. seen >>= λ revision. edit >>= λ it. Ok (commands.Turn by revision it)

-- `as A V EDIT`
abbrev pub turn : Option (List ℕ) → Option (List Item) → Result Command ScriptFault
turn rest block =
    needed rest >>= λ more. needed (split more) >>= λ parts. needed (split parts.1) >>= λ others.
    turn_by (number parts.0) (revision others.0) (edit_on others.1 block)

-- an edit, alone or by an author, or another command
abbrev pub by_word : List ℕ → Option (List ℕ) → Option (List Item) → Result Command ScriptFault
by_word word rest block =
    if is_edit word then (edit_of word rest block >>= λ it. Ok (commands.Change it))
    else (if bytes_eq word (codes "as") then turn rest block
    else by_other_word word rest)

-- the command of a line and its block, or the first fault by its number
abbrev pub command : List ℕ → Option (List Item) → Result Command ScriptFault
command line block = by_word (word_of line (split line)) (rest_of (split line)) block

-- a change can be made where a tree takes it
abbrev pub IsReady : Command → Type 0
IsReady (commands.Change edit) = can_be_made edit ≡ true
IsReady (commands.Assess node) = Unit {0}
IsReady commands.Errors = Unit {0}
IsReady commands.Report = Unit {0}
IsReady commands.Total = Unit {0}
IsReady commands.Undo = Unit {0}
IsReady commands.Redo = Unit {0}
IsReady (commands.Next parent index) = Unit {0}
IsReady (commands.Swap section) = Unit {0}
IsReady (commands.Turn author seen edit) = can_be_made edit ≡ true

abbrev pub IsReadyOr : Result Command ScriptFault → Type 0
IsReadyOr (Ok read) = IsReady read
IsReadyOr (Err fault) = Unit {0}
