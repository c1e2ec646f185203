use Rattle.std.proofs.Common.{[], ◌∷◌, ap}
use Rattle.kept_targets.specs.Seen.{seen_to}
use Rattle.kept_targets.proofs.siblings.KeptSiblings.of.Goals as goal

pub returns : goal.returns
returns c = λ t d z. ap (λ levels. seen_to c.args.records.now.slots c.args.doc.now levels (1 ∷ [])) (c.node_count.ensures.tree t d z)
