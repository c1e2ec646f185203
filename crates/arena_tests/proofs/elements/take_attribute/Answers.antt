use Rattle.doc_changes.specs.Held.{attributes_at}
use Rattle.arena_tests.proofs.Fitting.{pair_is_there}
use Rattle.arena_tests.proofs.elements.take_attribute.Goals as goal

pub unset_attr-requires : goal.unset_attr-requires
unset_attr-requires c =
    pair_is_there _ (attributes_at c.args.doc.now c.args.node) c.args.place c.attr_at.result c.attr_at.ensures.attribute
    c.in-Some.name-1-own.given.0.0 c.in-Some.name-1-own.given.1

pub returns-in-Some : goal.returns-in-Some
returns-in-Some c = let q = c.requires in (_, c.unset_attr.ensures.tree c.args.names.now q.0 q.1)
