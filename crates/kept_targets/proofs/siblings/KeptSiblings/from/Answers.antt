use Rattle.std.proofs.Common.{ℕ, sym, subst, drop}
use Rattle.path_walk.specs.Sight.{AreNamed}
use Rattle.child_lists.specs.from_kept_records.Books.{KeptView}
use Rattle.kept_targets.specs.Kept.{IsFrom}
use Rattle.kept_targets.specs.Seen.{elements_under, seen_to}
use Rattle.kept_targets.proofs.Named.{down-named}
use Rattle.kept_targets.proofs.Sited.{from-is}
use Rattle.kept_targets.proofs.siblings.KeptSiblings.from.Goals as goal

pub returns-clause-first : goal.returns-clause-first
returns-clause-first c = λ set k whole same is.
    subst (λ (r : KeptView). IsFrom c.args.doc.now r.slots c.args.node (seen_to r.slots c.args.doc.now 128 (drop c.unwrap_or.result (elements_under c.args.doc.now c.parent.result)))) same
    (subst (λ (place : ℕ). IsFrom c.args.doc.now k.records.slots c.args.node (seen_to k.records.slots c.args.doc.now 128 (drop place (elements_under c.args.doc.now c.parent.result)))) (sym c.unwrap_or.ensures)
    (from-is set c.args.doc.now k whole c.args.node is c.element_place.result c.parent.result c.parent.ensures.parent c.element_place.ensures.element c.element_place.ensures.none))

pub returns-clause-named : goal.returns-clause-named
returns-clause-named c = λ set k whole same.
    subst (λ (r : KeptView). AreNamed set.names (seen_to r.slots c.args.doc.now 128 (drop c.unwrap_or.result (elements_under c.args.doc.now c.parent.result)))) same
    (down-named set c.args.doc.now k whole 128 (drop c.unwrap_or.result (elements_under c.args.doc.now c.parent.result)))
