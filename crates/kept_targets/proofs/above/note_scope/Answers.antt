use Rattle.std.proofs.Common.{◌≡◌, []}
use Rattle.kept_targets.specs.Touched.{scopes_at}
use Rattle.kept_targets.proofs.Touching.{noted-here}
use Rattle.kept_targets.proofs.above.note_scope.Goals as goal

pub returns : goal.returns
returns c = noted-here (scopes_at c.args.by.now.set.now c.args.by.now.state.now.records.slots c.args.node ≡ []) c.args.node c.args.scopes.now.items c.push.new.self.items c.in_ok-push.ensures.items
