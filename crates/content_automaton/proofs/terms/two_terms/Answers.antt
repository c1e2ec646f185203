use Rattle.content_automaton.proofs.Pairing.{one_term_more, one_term_all}
use Rattle.content_automaton.proofs.terms.two_terms.Goals as goal

pub loop-p-preserved : goal.loop-p-preserved
loop-p-preserved c =
    one_term_more c.args.form.now.table c.args.set.now c.loop-p.p-index c.term_of-term.result c.term_of-other.result c.loop-p-test.true c.term_of-other.ensures c.if-other-term.false c.loop-p.invariant

pub returns : goal.returns
returns c = one_term_all c.args.form.now.table c.args.set.now c.loop-p.p-index c.term_of-term.result c.loop-p-test.false c.loop-p.invariant
