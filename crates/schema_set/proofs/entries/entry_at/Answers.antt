use Rattle.std.proofs.Common.{◌+◌, ◌/◌, length, refl}
use Rattle.schema_set.proofs.EntryLaws.{entry-is}
use Rattle.schema_set.proofs.entries.entry_at.Goals as goal

pub returns : goal.returns
returns c =
    entry-is c.args.available.now c.args.x (record { number = c.args.x / length c.args.available.now + 1; target = c.in_ok-target.target; shaped = c.shaped_at-shaped.result })
    c.shaped_at-first.result.now refl c.shaped_at-shaped.ensures c.shaped_at-first.ensures c.in_ok-target.ensures
