use Rattle.std.proofs.Common.{sym, ◌∙◌, arith}
use Rattle.doc_edits.proofs.Placing.{many, deep, depth_here, shallow_here}
use Rattle.doc_edits.proofs.places.fit.Goals as goal

pub overflow_sub-depth : goal.overflow_sub-depth
overflow_sub-depth c =
    let s = c.requires.stands in let low = shallow_here s.0 c.args.doc.now s.1 s.2 c.args.parent c.requires.element in
    omega (arith, low, c.depth.ensures.depth)

pub returns-then-are_too_many-clause-err : goal.returns-then-are_too_many-clause-err
returns-then-are_too_many-clause-err c = λ t d z. many d c.args.parent c.args.nodes c.args.deepest (sym (c.are_too_many.ensures t d z) ∙ c.if-are_too_many.true)

pub returns-then-deepest-depth-clause-err : goal.returns-then-deepest-depth-clause-err
returns-then-deepest-depth-clause-err c = λ t d z.
    let low = shallow_here t c.args.doc.now d z c.args.parent c.requires.element in
    let is = depth_here t c.args.doc.now d z c.args.parent c.requires.element in
    deep d c.args.parent c.args.nodes c.args.deepest (sym (c.are_too_many.ensures t d z) ∙ c.if-are_too_many.false)
    (omega (arith, low, is)) (omega (arith, low, is, c.if-deepest-depth.true, c.depth.ensures.depth))

pub returns-clause-ok : goal.returns-clause-ok
returns-clause-ok c = λ t d z.
    let low = shallow_here t c.args.doc.now d z c.args.parent c.requires.element in
    let is = depth_here t c.args.doc.now d z c.args.parent c.requires.element in
    record {
      few = sym (c.are_too_many.ensures t d z) ∙ c.if-are_too_many.false;
      shallow = omega (arith, low, is, c.if-deepest-depth.false, c.depth.ensures.depth);
    }
