use Rattle.std.proofs.Common.{refl}
use Rattle.std.proofs.lemmas.Str.{is_utf8-from_IsUtf8}
use Rattle.item_listing.proofs.Beginnings.{is_utf8-false}
use Rattle.item_listing.proofs.line.read_line.Goals as goal

pub returns-in-Ok : goal.returns-in-Ok
returns-in-Ok c = rw (is_utf8-from_IsUtf8 _ c.in-Ok.ensures.cases.1, ← c.in-Ok.ensures.cases.0) c.read_started.ensures

pub returns-in-Err : goal.returns-in-Err
returns-in-Err c = rw (is_utf8-false _ c.in-Err.ensures.cases.0) refl
