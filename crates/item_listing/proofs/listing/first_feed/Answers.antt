use Rattle.memchr.specs.Find.{is_byte}
use Rattle.item_listing.proofs.FirstByte.{is_position}
use Rattle.item_listing.proofs.listing.first_feed.Goals as goal

pub returns : goal.returns
returns c = is_position (is_byte 10) c.args.bytes.now c.memchr.result c.memchr.ensures
