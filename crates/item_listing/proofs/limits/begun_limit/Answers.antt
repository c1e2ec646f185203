use Rattle.std.proofs.Common.{sym, arith}
use Rattle.item_listing.proofs.Limiting.{fits, passes_bytes, passes_line}
use Rattle.item_listing.proofs.limits.begun_limit.Goals as goal

pub returns-then-room-count : goal.returns-then-room-count
returns-then-room-count c = λ line e. sym (passes_bytes c.args.before 0 line (omega (arith, e)) c.requires (omega arith))

pub returns-else-room-count : goal.returns-else-room-count
returns-else-room-count c = λ line e. sym (fits c.args.before 0 line (omega (arith, e)) (omega (arith, e)))

pub returns-then-count-gt-MOST_LINE : goal.returns-then-count-gt-MOST_LINE
returns-then-count-gt-MOST_LINE c = λ line e. sym (passes_line c.args.before 0 line (omega (arith, e)) (omega arith) (omega arith))

pub returns-else-count-gt-MOST_LINE : goal.returns-else-count-gt-MOST_LINE
returns-else-count-gt-MOST_LINE c = λ line e. sym (fits c.args.before 0 line (omega (arith, e)) (omega (arith, e)))
