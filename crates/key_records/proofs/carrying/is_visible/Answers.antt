use Rattle.std.proofs.Common.{◌∙◌}
use Rattle.identity_constraints.proofs.Exact.{seen_is}
use Rattle.key_records.specs.Tables.{for_key, own, said, same_key_tuple}
use Rattle.key_records.proofs.carrying.is_visible.Goals as goal

pub returns-clause-visible : goal.returns-clause-visible
returns-clause-visible c = λ t below settled children stand.
    let tables = c.args.tables.now in
    c.is_seen.ensures ∙ seen_is same_key_tuple t (own tables) (said tables) settled (for_key c.args.key c.args.tuple.now) c.args.n below children stand
