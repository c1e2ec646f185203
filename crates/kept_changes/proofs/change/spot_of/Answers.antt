use Rattle.std.proofs.Common.{subst}
use Rattle.doc_edits.specs.Changes.{CanMake}
use Rattle.kept_changes.proofs.Under.{text-below}
use Rattle.kept_changes.proofs.change.spot_of.Goals as goal

pub owner_of-requires : goal.owner_of-requires
owner_of-requires c = text-below c.requires.0 c.args.doc.now c.requires.1 c.requires.2 c.in-SetText.node (subst (CanMake c.requires.0 c.args.doc.now c.requires.1) c.in-SetText.is c.requires.3)
