use Rattle.std.proofs.Common.{length}
use Rattle.child_listing.proofs.Listed.{IsGivenAt, AreUpTo}
use Rattle.child_listing.proofs.listing.pairs_below.Given as goal

abbrev pub invariant-loop-element : goal.invariant-loop-element
invariant-loop-element l = AreUpTo (IsGivenAt l.set l.doc l.parent l.children.1.now) l.children.0.now (length l.yielded) l.pairs.items
