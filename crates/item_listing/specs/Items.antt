-- What a line says.
use Rattle.std.specs.Prelude.{◌≡◌, ℕ, List, [], ◌∷◌, ◌++◌, Option, Some, None, Result, Ok, Err, Bool, ◌==◌, ◌&&◌, nat_le, nat_eq, length, drop, if◌then◌else◌, codes}
use Rattle.std.specs.List.{before_first, after_first, starts_with}
use Rattle.std.specs.Str.{is_utf8, bytes_eq}
use Rattle.item_listing.specs.Escapes.{unescaped}
use Rattle.item_listing.specs.Locations.{between_tabs}
use Rattle.item_listing.specs.declared.item.Item.{Item}
use Rattle.item_listing.specs.declared.item.Item.TheVariants as items
use Rattle.item_listing.specs.declared.item.Reason.{Reason}
use Rattle.item_listing.specs.declared.item.Reason.TheVariants.{NotUtf8, BadStart, NoName, BadEscape, BadAttributePlace}
use Rattle.item_listing.specs.declared.line.LineError.{LineError}
use Rattle.item_listing.specs.declared.line.LineError.TheVariants as errors

infixl 10 ◌>>=◌
abbrev pub ◌>>=◌ : {A B : Type 0} → Result A Reason → (A → Result B Reason) → Result B Reason
(Ok x) >>= f = f x
(Err e) >>= f = Err e

-- what a function returned is what reading gives, unless memory ran out
abbrev pub Fails : {X : Type 0} → LineError → Result X Reason → Type 0
Fails errors.Memory read = Unit {0}
Fails (errors.Refused reason) read = read ≡ Err reason

abbrev pub Gives : {X : Type 0} → Result X LineError → Result X Reason → Type 0
Gives (Ok x) read = read ≡ Ok x
Gives (Err e) read = Fails e read

-- a name, which is not empty
abbrev pub name_of : List ℕ → Result (List ℕ) Reason
name_of name = if length name == 0 then Err NoName else Ok name

-- a text or a value, with its escapes replaced
abbrev pub text_of : List ℕ → Result (List ℕ) Reason
text_of bytes = texted (unescaped bytes)
  where
    texted : Option (List ℕ) → Result (List ℕ) Reason
    texted None = Err BadEscape
    texted (Some text) = Ok text

-- the name of an attribute goes up to the first space, its value is behind it
abbrev pub attribute_name : List ℕ → List ℕ
attribute_name rest = before_first (λ b. b == 32) rest

abbrev pub attribute_value : List ℕ → List ℕ
attribute_value rest = after_first (λ b. b == 32) rest

unfoldable pub attribute : Bool → List ℕ → Result Item Reason
attribute tag_open rest = do
  name ← name_of (attribute_name rest)
  value ← text_of (attribute_value rest)
  if tag_open then Ok (items.Attr name value) else Err BadAttributePlace

-- a section word, the start of a schema section, or a command
abbrev pub worded : List ℕ → Item
worded line =
    if bytes_eq line (codes "document") then items.Document
    else (if bytes_eq line (codes "edits") then items.Edits
    else (if bytes_eq line (codes "end") then items.End
    else (if starts_with nat_eq line (codes "schema" ++ 9 ∷ []) then items.Schema (between_tabs (drop 7 line))
    else items.Command line)))

-- a line that begins with the byte b, and the rest of it
unfoldable pub by_first : Bool → List ℕ → ℕ → List ℕ → Result Item Reason
by_first tag_open line b rest =
    if b == 40 then (name_of rest >>= λ name. Ok (items.Start name))
    else (if b == 65 then attribute tag_open rest
    else (if b == 45 then (text_of rest >>= λ text. Ok (items.Chars text))
    else (if b == 41 then (name_of rest >>= λ name. Ok (items.Close name))
    else (if b == 63 then Ok items.Instruction
    else (if b == 46 then (if length rest == 0 then Ok items.Dot else Err BadStart)
    else (if nat_le 97 b && nat_le b 122 then Ok (worded line)
    else Err BadStart))))))

abbrev pub started : Bool → List ℕ → Result Item Reason
started tag_open [] = Err BadStart
started tag_open (b ∷ rest) = by_first tag_open (b ∷ rest) b rest

-- a line, where the line before it was a start or an attribute if tag_open
abbrev pub item : Bool → List ℕ → Result Item Reason
item tag_open line = if is_utf8 line then started tag_open line else Err NotUtf8
