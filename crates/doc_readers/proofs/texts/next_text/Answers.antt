use Rattle.std.proofs.Common.{◌≡◌, ◌+◌, sym, ap, ◌∙◌, arith}
use Rattle.doc_nodes.specs.Nodes.{node, children_by, is_element_at}
use Rattle.doc_readers.specs.Texts.{texts_upto}
use Rattle.doc_readers.proofs.Counting.{next-passes}
use Rattle.doc_readers.proofs.texts.next_text.Goals as goal

pub returns : goal.returns
returns c =
    let inv = c.halves.invariant in
    let test = c.halves-test.false in
    let next : c.halves.low + 1 ≡ c.halves.high = omega (arith, inv.apart, test) in
    record {
      past = inv.past;
      none_between = inv.none;
      is_text = next-passes (is_element_at c.args.doc.now) (children_by (node c.args.doc.now c.args.node)) c.halves.low (omega (arith, inv.apart, inv.within))
          (λ e. inv.some (ap (texts_upto c.args.doc.now c.args.node) (sym next) ∙ e ∙ inv.none));
    }
