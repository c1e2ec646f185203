-- The limits of a stream and of its lines.
use Rattle.std.specs.Prelude.{ℕ, ◌+◌, List, [], ◌∷◌, Option, Some, None, nat_le, length, if◌then◌else◌}
use Rattle.std.specs.Option.{option_or}
use Rattle.item_listing.specs.declared.limits.TheConstants.{MOST_BYTES, MOST_LINE}
use Rattle.item_listing.specs.declared.item.Reason.{Reason}
use Rattle.item_listing.specs.declared.item.Reason.TheVariants.{AfterEnd, TooManyBytes, LineTooLong}

-- of the bytes of a line before its line feed, the first that is past a limit, where so many bytes of the stream and of
-- the line came before; on one byte the stream's limit comes first
abbrev pub past_limit : ℕ → ℕ → List ℕ → Option Reason
past_limit bytes place [] = None
past_limit bytes place (b ∷ more) =
    if nat_le MOST_BYTES bytes then Some TooManyBytes
    else (if nat_le MOST_LINE place then Some LineTooLong
    else past_limit (bytes + 1) (place + 1) more)

-- a line feed is a byte of the stream, where so many came before
abbrev pub feed_past : ℕ → Option Reason
feed_past bytes = if nat_le MOST_BYTES bytes then Some TooManyBytes else None

-- the first byte past a limit, of a whole line and its line feed
abbrev pub whole_past : ℕ → List ℕ → Option Reason
whole_past bytes line = option_or (past_limit bytes 0 line) (feed_past (bytes + length line))

-- the byte after `end`, where so many bytes of the stream came before
abbrev pub byte_after_end : ℕ → Reason
byte_after_end bytes = if nat_le MOST_BYTES bytes then TooManyBytes else AfterEnd
