use Rattle.std.proofs.Common.{◌≡◌}
use Rattle.child_listing.proofs.Listed.{named-front}
use Rattle.child_listing.proofs.listing.elements_below.Given as goal

abbrev pub invariant-loop-child : goal.invariant-loop-child
invariant-loop-child l = l.found.items ≡ named-front l.doc l.child-items l.child-index
