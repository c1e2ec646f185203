use Rattle.item_listing.proofs.Joined.{joined-cut, cut-joined}
use Rattle.item_listing.proofs.listing.lines_are_cut.Goals as goal

pub returns-clause-joined : goal.returns-clause-joined
returns-clause-joined c = joined-cut

pub returns-clause-only : goal.returns-clause-only
returns-clause-only c = cut-joined
