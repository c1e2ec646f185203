-- All that a listing will read, however its bytes come in pieces.
use Rattle.std.specs.Prelude.{◌≡◌, ℕ, List, [], ◌∷◌, ◌++◌, Bool, true, false, ◌||◌, Option, Some, None, Result, Ok, Err, if◌then◌else◌}
use Rattle.item_listing.specs.Lines.{cut}
use Rattle.item_listing.specs.State.{Reading}
use Rattle.item_listing.specs.Listing.{and_line, whole_line, begun_line, at_next}
use Rattle.item_listing.specs.declared.item.Item.{Item}
use Rattle.item_listing.specs.declared.item.Reason.{Reason}
use Rattle.item_listing.specs.declared.past.Past.{Past}
use Rattle.item_listing.specs.declared.past.ListingFault.{ListingFault}

-- items in order, and then how they end: a line is refused, further bytes may come, or the source ended after `end`
pub data Listed : Type 0 where
  gives : (it : Item) (more : Listed) → Listed
  refused : (fault : ListingFault) → Listed
  goes_on : Listed
  done : Listed

abbrev pub stops : Bool → Listed
stops closed = if closed then done else goes_on

abbrev pub begun_then : Past → Bool → Option Reason → Listed
begun_then p closed None = stops closed
begun_then p closed (Some reason) = refused (at_next p reason)

abbrev pub whole_then : Past → Result Item Reason → (Item → Listed) → Listed
whole_then p (Ok it) more = gives it (more it)
whole_then p (Err reason) more = refused (at_next p reason)

-- the whole lines, each in its turn, and then the begun line; no byte comes after these if closed
abbrev pub lines_listed : Past → Bool → List (List ℕ) → List ℕ → Listed
lines_listed p closed [] begun = begun_then p closed (begun_line p begun closed)
lines_listed p closed (line ∷ lines) begun = whole_then p (whole_line p line) (λ it. lines_listed (and_line p line it) closed lines begun)

-- the bytes that are held and those that are still to come; a source that has ended gives none
abbrev pub to_come : Reading → List ℕ → List ℕ
to_come r more = if r.finished then r.held else r.held ++ more

-- what a listing will read when these bytes come, with none after them if closed
abbrev pub listed : Reading → List ℕ → Bool → Listed
listed r more closed = let all = cut (to_come r more) in lines_listed r.past (r.finished || closed) all.whole all.begun

-- where nothing is read: further bytes may come, or the source has ended and nothing is left, whatever comes
abbrev pub Waits : Reading → Type 0
Waits r = (r.finished ≡ false → listed r [] false ≡ goes_on) × (r.finished ≡ true → (more : List ℕ) (closed : Bool) → listed r more closed ≡ done)

-- whatever comes, an item is the first of what will be read, and a fault is all that will be read
abbrev pub ReadsOn : Reading → Result (Option Item) ListingFault → Reading → Type 0
ReadsOn old (Ok (Some it)) new = (more : List ℕ) (closed : Bool) → listed old more closed ≡ gives it (listed new more closed)
ReadsOn old (Ok None) new = Waits old
ReadsOn old (Err fault) new = (more : List ℕ) (closed : Bool) → listed old more closed ≡ refused fault
