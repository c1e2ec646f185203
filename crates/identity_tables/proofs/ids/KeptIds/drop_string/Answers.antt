use Rattle.identity_tables.proofs.Dropping.{one-id, one-reference}
use Rattle.identity_tables.proofs.ids.KeptIds.drop_string.Goals as goal

pub drop_id-requires : goal.drop_id-requires
drop_id-requires c = one-id c.self.inside.table c.args.text.now c.args.bearer c.args.role c.in-Id.is (rw (← c.self.view_is) at c.requires)

pub drop_ref-requires : goal.drop_ref-requires
drop_ref-requires c = one-reference c.self.inside.table c.args.text.now c.args.bearer c.args.role c.in-Reference.is (rw (← c.self.view_is) at c.requires)
