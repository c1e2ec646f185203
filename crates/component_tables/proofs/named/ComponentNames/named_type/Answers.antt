use Rattle.component_tables.proofs.NameLaws.{space-known}
use Rattle.component_tables.proofs.named.ComponentNames.named_type.Goals as goal

pub is_schema_space-requires : goal.is_schema_space-requires
is_schema_space-requires c = space-known c.args.names.now c.args.space c.lookup-number.ensures.sound c.requires.space
