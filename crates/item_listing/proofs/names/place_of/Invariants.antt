use Rattle.item_listing.proofs.names.place_of.Given as goal

abbrev pub invariant-loop-byte : goal.invariant-loop-byte
invariant-loop-byte l = Unit {0}
