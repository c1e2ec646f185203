use Rattle.std.proofs.Common.{◌∙◌}
use Rattle.particle_models.specs.Unrolled.{unrolled}
use Rattle.content_automaton.proofs.Modelling.{within_of, listed_of, states_counted, automaton_of, too_many_then, too_large, not_too_large}
use Rattle.content_automaton.proofs.automaton.Automaton.build.Goals as goal

pub list_terms-requires-clause-within : goal.list_terms-requires-clause-within
list_terms-requires-clause-within c = within_of c.args.names.now c.args.terms.now c.in_ok-symbols.symbols c.in_ok-symbols.ensures c.requires.within

pub returns-in-Err-TooManyStates-clause-refused : goal.returns-in-Err-TooManyStates-clause-refused
returns-in-Err-TooManyStates-clause-refused c = λ once accepts inhabited model m count h.
    too_many_then c.in-Err-TooManyStates.field-0 _ c.in-Err-TooManyStates.field-0-is c.in-Err-TooManyStates.ensures.too_many (unrolled inhabited model 0) m.unrolled.positions count
    ((states_counted c.args.names.now c.in_ok-symbols.symbols c.args.terms.now c.args.form.now c.as_slice.result.now c.in_ok-listing.listing.attributions.items c.count-count.result
    (listed_of c.args.names.now c.in_ok-symbols.symbols c.args.terms.now c.args.form.now.terms c.in_ok-listing.listing.accepted.items c.as_slice.result.now c.in_ok-listing.listing.attributions.items c.count-count.result
    c.count-count.ensures.count c.in_ok-listing.ensures c.as_slice.ensures.value c.requires.count c.count-count.ensures.named c.in_ok-symbols.ensures c.requires.within once)
    accepts inhabited model m count).1 h)

pub returns-then-is_too_large-clause-refused : goal.returns-then-is_too_large-clause-refused
returns-then-is_too_large-clause-refused c = λ once accepts inhabited model m. (
  c.in-Ok.machine.count,
  c.in_ok-symbols.symbols,
  (states_counted c.args.names.now c.in_ok-symbols.symbols c.args.terms.now c.args.form.now c.as_slice.result.now c.in_ok-listing.listing.attributions.items c.count-count.result
      (listed_of c.args.names.now c.in_ok-symbols.symbols c.args.terms.now c.args.form.now.terms c.in_ok-listing.listing.accepted.items c.as_slice.result.now c.in_ok-listing.listing.attributions.items c.count-count.result
      c.count-count.ensures.count c.in_ok-listing.ensures c.as_slice.ensures.value c.requires.count c.count-count.ensures.named c.in_ok-symbols.ensures c.requires.within once)
      accepts inhabited model m c.in-Ok.machine.count).0 (c.in-Ok.ensures.count (unrolled inhabited model 0) m.unrolled.positions),
  c.in_ok-symbols.ensures,
  c.in-Ok.ensures.few,
  too_large c.is_too_large.result c.args.cells_left c.dead.result c.count-count.result c.in-Ok.machine.count _ c.is_too_large.ensures c.if-is_too_large.true c.dead.ensures.number c.count-count.ensures.count,
)

pub returns-clause-automaton : goal.returns-clause-automaton
returns-clause-automaton c = λ once accepts inhabited model m.
    automaton_of c.args.names.now c.in_ok-symbols.symbols c.args.terms.now c.args.form.now c.as_slice.result.now c.in_ok-listing.listing.attributions.items c.count-count.result
    (listed_of c.args.names.now c.in_ok-symbols.symbols c.args.terms.now c.args.form.now.terms c.in_ok-listing.listing.accepted.items c.as_slice.result.now c.in_ok-listing.listing.attributions.items c.count-count.result
    c.count-count.ensures.count c.in_ok-listing.ensures c.as_slice.ensures.value c.requires.count c.count-count.ensures.named c.in_ok-symbols.ensures c.requires.within once)
    accepts inhabited model m c.in-Ok.machine c.in-Ok.ensures.symbols
    (c.in-Ok.ensures.language (unrolled inhabited model 0) m.unrolled.positions) (c.in-Ok.ensures.pair (unrolled inhabited model 0) m.unrolled.positions)
    (c.in-Ok.ensures.terms (unrolled inhabited model 0) m.unrolled.positions) c.in_ok-kept.kept.items (c.in_ok-kept.ensures.items ∙ c.requires.ids)

pub returns-clause-room : goal.returns-clause-room
returns-clause-room c = λ once accepts inhabited model m. (
  (states_counted c.args.names.now c.in_ok-symbols.symbols c.args.terms.now c.args.form.now c.as_slice.result.now c.in_ok-listing.listing.attributions.items c.count-count.result
      (listed_of c.args.names.now c.in_ok-symbols.symbols c.args.terms.now c.args.form.now.terms c.in_ok-listing.listing.accepted.items c.as_slice.result.now c.in_ok-listing.listing.attributions.items c.count-count.result
      c.count-count.ensures.count c.in_ok-listing.ensures c.as_slice.ensures.value c.requires.count c.count-count.ensures.named c.in_ok-symbols.ensures c.requires.within once)
      accepts inhabited model m c.in-Ok.machine.count).0 (c.in-Ok.ensures.count (unrolled inhabited model 0) m.unrolled.positions),
  c.in-Ok.ensures.few,
  not_too_large c.is_too_large.result c.args.cells_left c.dead.result c.count-count.result c.in-Ok.machine.count _ c.is_too_large.ensures c.if-is_too_large.false c.dead.ensures.number c.count-count.ensures.count,
)
