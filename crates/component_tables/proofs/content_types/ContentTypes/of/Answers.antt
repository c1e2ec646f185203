use Rattle.component_tables.proofs.ContentLaws.{contents-known}
use Rattle.component_tables.proofs.content_types.ContentTypes.of.Goals as goal

pub returns : goal.returns
returns c = record { contents = contents-known c.args.parts.now c.in_ok-complexes.complexes.items c.in_ok-complexes.ensures.contents }
