use Rattle.content_automaton.proofs.Pairing.{fits_at}
use Rattle.content_automaton.proofs.terms.terms_of.Goals as goal

pub first_term-requires : goal.first_term-requires
first_term-requires c = fits_at c.args.form.now.table _ c.args.states.now c.loop-set.set-index c.set-item.result c.deref.result.now c.loop-set-test.true c.set-item.is c.deref.ensures.value c.requires
