-- What the item of a line is for the sections of a stream.
use Rattle.std.specs.Prelude.{ℕ, List, Bool, true, false, ◌==◌, ◌&&◌, ◌||◌, codes}
use Rattle.std.specs.List.{before_first, after_first}
use Rattle.std.specs.Str.{bytes_eq}
use Rattle.item_listing.specs.declared.item.Item.{Item}
use Rattle.item_listing.specs.declared.item.Item.TheVariants as items
use Rattle.stream_sections.specs.declared.asked.Asked.{Asked}
use Rattle.stream_sections.specs.declared.asked.Asked.TheVariants.{Check, Assess, Session}

-- an item of a tree
abbrev pub is_listing : Item → Bool
is_listing (items.Start name) = true
is_listing (items.Attr name value) = true
is_listing (items.Chars text) = true
is_listing (items.Close name) = true
is_listing items.Instruction = true
is_listing it = false

abbrev pub is_end : Item → Bool
is_end items.End = true
is_end it = false

abbrev pub is_document : Item → Bool
is_document items.Document = true
is_document it = false

-- the item ends the schema sections: `end` where no document is asked for, else `document`
abbrev pub ends_schemas : Asked → Item → Bool
ends_schemas Check it = is_end it
ends_schemas Assess it = is_document it
ends_schemas Session it = is_document it

-- edits may follow the document
abbrev pub may_edit : Asked → Bool
may_edit Check = false
may_edit Assess = false
may_edit Session = true

abbrev pub is_space : ℕ → Bool
is_space b = b == 32

-- the first word of a text, and what is behind its space, nothing where it has none
abbrev pub first_word : List ℕ → List ℕ
first_word text = before_first is_space text

abbrev pub behind_word : List ℕ → List ℕ
behind_word text = after_first is_space text

-- a block follows the command: its first word is insert, or its first is as and its fourth is insert
abbrev pub opens_block : List ℕ → Bool
opens_block line =
    bytes_eq (first_word line) (codes "insert")
    || (bytes_eq (first_word line) (codes "as") && bytes_eq (first_word (behind_word (behind_word (behind_word line)))) (codes "insert"))
