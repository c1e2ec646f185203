use Rattle.std.proofs.Common.{sym, ap, ◌∙◌}
use Rattle.std.proofs.lemmas.Option.{none-some}
use Rattle.doc_nodes.specs.Linked.{or_zero}
use Rattle.doc_nodes.proofs.Ordered.{found_alone}
use Rattle.doc_nodes.proofs.links.child_of.Goals as goal

pub act-requires-clause-item : goal.act-requires-clause-item
act-requires-clause-item c = let q = c.requires in (q.1.list, q.1.place, q.1.entries, q.1.at)

pub unreachable-requires : goal.unreachable-requires
unreachable-requires c = let q = c.requires in none-some _ (sym c.in-None.is ∙ found_alone c.act.result q.0 (c.act.ensures.value q.0 q.1) ∙ q.2)

pub returns : goal.returns
returns c = λ e z. ap or_zero (sym c.in-Some.is ∙ found_alone c.act.result e (c.act.ensures.value e z))
