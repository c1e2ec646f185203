use Rattle.item_listing.proofs.Searching.{found_after, none_after, rest_is}
use Rattle.item_listing.proofs.listing.line_feed.Goals as goal

pub returns-in-Some : goal.returns-in-Some
returns-in-Some c =
    let found = rw (rest_is c.args.searched c.args.bytes.now c.requires.within) at c.in-Some.ensures in
    found_after c.args.searched c.in-Some.further c.args.bytes.now c.requires.within c.requires.plain found

pub returns-in-None : goal.returns-in-None
returns-in-None c =
    let none = rw (rest_is c.args.searched c.args.bytes.now c.requires.within) at c.in-None.ensures in
    none_after c.args.searched c.args.bytes.now c.requires.within c.requires.plain none
