use Rattle.std.proofs.Common.{◌≡◌, []}
use Rattle.scope_targets.specs.Kept.{targets_of}
use Rattle.kept_targets.proofs.Touching.{noted-here}
use Rattle.kept_targets.proofs.above.note_target.Goals as goal

pub returns : goal.returns
returns c = noted-here (targets_of c.args.keys.now.counted c.args.node ≡ []) c.args.node c.args.targets.now.items c.push.new.self.items c.in_ok-push.ensures.items
