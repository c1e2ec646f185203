use Rattle.std.proofs.Common.{arith}
use Rattle.content_automaton.proofs.Pairing.{fits_at, terms_at, one_term_at}
use Rattle.content_automaton.proofs.terms.two_terms_of_one.Goals as goal

pub two_terms-requires : goal.two_terms-requires
two_terms-requires c = fits_at c.args.form.now.table _ c.args.sets.now c.loop-set.set-index c.set-item.result c.deref.result.now c.loop-set-test.true c.set-item.is c.deref.ensures.value c.requires

pub returns-in-Some : goal.returns-in-Some
returns-in-Some c = terms_at c.args.form.now.table _ c.args.sets.now c.loop-set.set-index c.set-item.result c.deref.result.now c.loop-set-test.true c.set-item.is c.deref.ensures.value _ _ c.in-Some.ensures

pub returns : goal.returns
returns c = λ s l. c.loop-set.invariant s (let e = c.loop-set-test.false in omega arith)

pub loop-set-preserved : goal.loop-set-preserved
loop-set-preserved c = one_term_at c.args.form.now.table _ c.args.sets.now c.loop-set.set-index c.set-item.result c.deref.result.now c.loop-set-test.true c.set-item.is c.deref.ensures.value
    c.in_default.ensures c.loop-set.invariant
