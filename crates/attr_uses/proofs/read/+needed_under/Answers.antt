use Rattle.std.proofs.Common.{◌≡◌, ◌+◌, true, Option, arith, ap, sym, subst, ◌∙◌}
use Rattle.std.specs.Prelude.{IfSome}
use Rattle.std.proofs.lemmas.Bool.{not-true, not-false}
use Rattle.std.proofs.lemmas.Result.{on_ok_weaker}
use Rattle.attr_uses.specs.declared.entry.Entry.{Entry}
use Rattle.attr_uses.specs.Nodes.{node_left, node_right, node_sum, node_entry}
use Rattle.attr_uses.proofs.NeededLaws.{none-put, leaf-needed, leaf-put, fork-if, lower-within, upper-within, upper-start, left-there, right-there, left-map, right-map}
use Rattle.attr_uses.proofs.read.+needed_under.Goals as goal

pub returns-then-not-sum : goal.returns-then-not-sum
returns-then-not-sum t c =
    let needed = ap (λ s. s.needed) (c.sum.ensures ∙ ap node_sum c.node_of-node.ensures) in
    record { put = none-put c.args.nodes.now c.requires.nodes c.args.levels c.args.at c.args.from c.requires.there c.requires.shape c.args.needed.now.items (sym needed ∙ not-true c.sum.result.needed c.if-not-sum.true) }

pub put_entry-requires : goal.put_entry-requires
put_entry-requires t c =
    let needed = ap (λ s. s.needed) (c.sum.ensures ∙ ap node_sum c.node_of-node.ensures) in
    record {
      needed = subst (λ (o : Option Entry). IfSome o (λ entry. entry.needed ≡ true)) (sym (c.entry.ensures ∙ ap node_entry c.node_of-node.ensures))
          (leaf-needed c.args.nodes.now c.args.levels c.args.at (omega arith) c.requires.shape (sym needed ∙ not-false c.sum.result.needed c.if-not-sum.false));
    }

pub returns-then-levels-eq0 : goal.returns-then-levels-eq0
returns-then-levels-eq0 t c = record {
  put = on_ok_weaker c.put_entry.result
      (λ put. leaf-put c.args.nodes.now c.args.levels c.args.at c.args.from c.entry.result c.args.needed.now.items c.put_entry.new.needed.items (omega arith)
      (c.entry.ensures ∙ ap node_entry c.node_of-node.ensures) put)
      c.put_entry.ensures.put;
}

pub needed_under-requires : goal.needed_under-requires
needed_under-requires t c =
    let left' = ap (λ p. p.0) c.sides-left.ensures ∙ ap node_left c.node_of-node.ensures in
    let right' = ap (λ p. p.1) c.sides-left.ensures ∙ ap node_right c.node_of-node.ensures in
    let ns = c.args.nodes.now in (
      omega arith,
      (
        c.requires.nodes,
        (
          omega arith,
          (
            left-there ns c.requires.nodes c.args.levels c.args.at c.requires.there c.requires.shape (omega arith) c.sides-left.result.0 c.sides-left.result.1 left' right',
            (
              left-map ns c.requires.nodes c.args.levels c.args.at c.requires.there c.requires.shape (omega arith) c.sides-left.result.0 c.sides-left.result.1 left' right',
              lower-within c.args.levels c.args.from c.half_of-half.result (omega arith) c.half_of-half.ensures c.requires.within,
            ),
          ),
        ),
      ),
    )

pub overflow_add-from : goal.overflow_add-from
overflow_add-from t c = omega (arith, upper-start c.args.levels c.args.from c.half_of-half.result (omega arith) c.half_of-half.ensures c.requires.within)

pub needed_under-requires-2 : goal.needed_under-requires-2
needed_under-requires-2 t c =
    let left' = ap (λ p. p.0) c.sides-left.ensures ∙ ap node_left c.node_of-node.ensures in
    let right' = ap (λ p. p.1) c.sides-left.ensures ∙ ap node_right c.node_of-node.ensures in
    let ns = c.args.nodes.now in (
      omega arith,
      (
        c.requires.nodes,
        (
          omega arith,
          (
            right-there ns c.requires.nodes c.args.levels c.args.at c.requires.there c.requires.shape (omega arith) c.sides-left.result.0 c.sides-left.result.1 left' right',
            (
              right-map ns c.requires.nodes c.args.levels c.args.at c.requires.there c.requires.shape (omega arith) c.sides-left.result.0 c.sides-left.result.1 left' right',
              upper-within c.args.levels c.args.from c.half_of-half.result (omega arith) c.half_of-half.ensures c.requires.within,
            ),
          ),
        ),
      ),
    )

pub returns : goal.returns
returns t c =
    let left' = ap (λ p. p.0) c.sides-left.ensures ∙ ap node_left c.node_of-node.ensures in
    let right' = ap (λ p. p.1) c.sides-left.ensures ∙ ap node_right c.node_of-node.ensures in
    record {
      put = fork-if c.needed_under-2.result c.args.nodes.now c.args.levels c.args.at c.args.from c.sides-left.result.0 c.sides-left.result.1 (c.args.from + c.half_of-half.result)
          c.args.needed.now.items c.needed_under.new.needed.items c.needed_under-2.new.needed.items (omega arith) c.requires.shape left' right'
          (ap (λ h. c.args.from + h) c.half_of-half.ensures) c.in_ok-needed_under.ensures.put c.needed_under-2.ensures.put;
    }
