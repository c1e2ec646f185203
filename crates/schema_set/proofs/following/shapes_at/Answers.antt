use Rattle.std.proofs.Common.{◌∙◌}
use Rattle.schema_set.proofs.ReachLaws.{shapes-read}
use Rattle.schema_set.proofs.following.shapes_at.Goals as goal

pub returns : goal.returns
returns c = c.as_slice.ensures ∙ shapes-read c.args.sources.now.available.now c.args.place c.shaped_at.result.now c.shaped_at.ensures
