use Rattle.std.proofs.Common.{◌+◌}
use Rattle.tag_names.proofs.TableLaws.{truncate-more}
use Rattle.tag_names.proofs.prefixes.Prefixes.truncate.Goals as goal

pub bindings-preserved : goal.bindings-preserved
bindings-preserved c =
    let i = c.bindings.invariant in
    let more = truncate-more c.bindings.self c.unbind.new.self c.args.self.now c.args.len i.0 c.len.result i.1 i.2 c.bindings-test.true c.len.ensures c.unbind.ensures in
    (i.0 + 1, more.0, more.1)
