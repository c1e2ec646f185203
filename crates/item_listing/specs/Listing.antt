-- Reading the items of a listing, one line at a time.
use Rattle.std.specs.Prelude.{◌≡◌, ℕ, ◌+◌, ◌≤◌, List, [], ◌∷◌, ◌++◌, Bool, true, false, ◌==◌, Option, Some, None, Result, Ok, Err, length, if◌then◌else◌}
use Rattle.std.specs.Option.{option_or}
use Rattle.std.specs.List.{before_first, after_first}
use Rattle.item_listing.specs.Lines.{cut, without_return}
use Rattle.item_listing.specs.declared.limits.TheConstants.{MOST_BYTES}
use Rattle.item_listing.specs.Limits.{past_limit, whole_past, byte_after_end}
use Rattle.item_listing.specs.State.{Reading}
use Rattle.item_listing.specs.Items.{item}
use Rattle.item_listing.specs.declared.item.Item.{Item}
use Rattle.item_listing.specs.declared.item.Item.TheVariants as items
use Rattle.item_listing.specs.declared.item.Reason.{Reason}
use Rattle.item_listing.specs.declared.item.Reason.TheVariants.{EndMissing}
use Rattle.item_listing.specs.declared.past.Past.{Past}
use Rattle.item_listing.specs.declared.past.ListingFault.{ListingFault}
use Rattle.item_listing.specs.declared.listing.ListError.{ListError}
use Rattle.item_listing.specs.declared.listing.ListError.TheVariants as errors

-- an attribute may follow
abbrev pub opens : Item → Bool
opens (items.Start name) = true
opens (items.Attr name value) = true
opens (items.Chars text) = false
opens (items.Close name) = false
opens items.Instruction = false
opens (items.Schema locations) = false
opens items.Document = false
opens items.Edits = false
opens items.End = false
opens items.Dot = false
opens (items.Command line) = false

-- nothing may follow
abbrev pub ends : Item → Bool
ends (items.Start name) = false
ends (items.Attr name value) = false
ends (items.Chars text) = false
ends (items.Close name) = false
ends items.Instruction = false
ends (items.Schema locations) = false
ends items.Document = false
ends items.Edits = false
ends items.End = true
ends items.Dot = false
ends (items.Command line) = false

-- the lines that were read, and this one with its line feed
abbrev pub and_line : Past → List ℕ → Item → Past
and_line p line it = record { bytes = p.bytes + (length line + 1); lines = p.lines + 1; tag_open = opens it; ended = ends it }

abbrev pub unless : Option Reason → Result Item Reason → Result Item Reason
unless None read = read
unless (Some reason) read = Err reason

-- what a whole line says: it comes after `end`, or it passes a limit, or it is read by its text
abbrev pub whole_line : Past → List ℕ → Result Item Reason
whole_line p line =
    if p.ended then Err (byte_after_end p.bytes) else unless (whole_past p.bytes line) (item p.tag_open (without_return line))

-- the first byte of these, after `end`
abbrev pub after_end : Past → List ℕ → Option Reason
after_end p [] = None
after_end p (b ∷ more) = Some (byte_after_end p.bytes)

-- why the bytes of a begun line are refused already: they come after `end`, or pass a limit, or the source is closed before `end`
abbrev pub begun_line : Past → List ℕ → Bool → Option Reason
begun_line p begun closed =
    if p.ended then after_end p begun else option_or (past_limit p.bytes 0 begun) (if closed then Some EndMissing else None)

-- the line that comes next, from 1
abbrev pub at_next : Past → Reason → ListingFault
at_next p reason = record { line = p.lines + 1; reason = reason }

abbrev pub read_whole : Past → Result Item Reason → Result (Option Item) ListingFault
read_whole p (Ok it) = Ok (Some it)
read_whole p (Err reason) = Err (at_next p reason)

abbrev pub read_begun : Past → Option Reason → Result (Option Item) ListingFault
read_begun p None = Ok None
read_begun p (Some reason) = Err (at_next p reason)

abbrev pub next_of : Past → Bool → List (List ℕ) → List ℕ → Result (Option Item) ListingFault
next_of p closed [] begun = read_begun p (begun_line p begun closed)
next_of p closed (line ∷ lines) begun = read_whole p (whole_line p line)

-- the item of the next line, None where no whole line is left, or the fault
abbrev pub next : Reading → Result (Option Item) ListingFault
next r = next_of r.past r.finished (cut r.held).whole (cut r.held).begun

-- what is left when the item was read
abbrev pub after : Reading → Option Item → Reading
after r None = r
after r (Some it) = record r { past = and_line r.past (before_first (λ b. b == 10) r.held) it; held = after_first (λ b. b == 10) r.held }

-- a piece of the stream comes; of a source that has ended nothing is taken
abbrev pub fed : Reading → List ℕ → Reading
fed r piece = if r.finished then r else record r { held = r.held ++ piece }

-- how many bytes were taken
abbrev pub bytes_taken : Reading → ℕ
bytes_taken r = r.past.bytes + length r.held

-- what stands after a call: an item was read, or all is as it was
abbrev pub Leaves : Reading → Result (Option Item) ListingFault → Reading → Type 0
Leaves old (Ok it) new = new ≡ after old it
Leaves old (Err fault) new = new ≡ old

-- nothing was read: no whole line is held, and no more bytes were taken than a stream has
abbrev pub IsDrained : Reading → Result (Option Item) ListingFault → Type 0
IsDrained r (Ok None) = ((cut r.held).whole ≡ []) × (bytes_taken r ≤ MOST_BYTES)
IsDrained r (Ok (Some it)) = Unit {0}
IsDrained r (Err fault) = Unit {0}

-- an error is want of memory, or the fault
abbrev pub IsFault : Reading → ListError → Type 0
IsFault r errors.Memory = Unit {0}
IsFault r (errors.Fault fault) = next r ≡ Err fault

-- nothing was read, or the fault
abbrev pub GivesBegun : Result (Option Item) ListError → Past → Option Reason → Type 0
GivesBegun (Ok it) p reason = read_begun p reason ≡ Ok it
GivesBegun (Err errors.Memory) p reason = ⊥
GivesBegun (Err (errors.Fault fault)) p reason = read_begun p reason ≡ Err fault
