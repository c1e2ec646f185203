use Rattle.std.proofs.Common.{true}
use Rattle.content_automaton.proofs.Numbering.{where_then}
use Rattle.content_automaton.proofs.Reached.{within_table}
use Rattle.content_automaton.proofs.Language.{speaks}
use Rattle.content_automaton.proofs.Counting.{counted, too_many_states}
use Rattle.content_automaton.proofs.Pairing.{term_is}
use Rattle.content_automaton.proofs.Automata.{states_fit, is_automaton, pair_reached}
use Rattle.content_automaton.proofs.machine.Machine.build.Goals as goal

pub find_states-requires-clause-within : goal.find_states-requires-clause-within
find_states-requires-clause-within c = within_table c.requires.positions.0 c.args.form.now.table c.requires.positions.1 (λ p n. true)

pub returns-in-Err-clause-too_many : goal.returns-in-Err-clause-too_many
returns-in-Err-clause-too_many c =
    where_then _ _ c.in-Err.stop c.in-Err.ensures.too_many (λ many tree are count all. too_many_states tree c.args.form.now.table are _ c.args.symbols many count all)

pub terms_of-requires : goal.terms_of-requires
terms_of-requires c = states_fit _ _ _ _ _ _ c.as_slice-states.ensures.keys c.in-Ok.ensures.states c.requires.positions.0 c.requires.positions.1

pub two_terms_of_one-pair-requires : goal.two_terms_of_one-pair-requires
two_terms_of_one-pair-requires c = states_fit _ _ _ _ _ _ c.as_slice-states.ensures.keys c.in-Ok.ensures.states c.requires.positions.0 c.requires.positions.1

pub returns-clause-language : goal.returns-clause-language
returns-clause-language c = λ tree are. speaks tree c.args.form.now.table are _ _ _
    (is_automaton _ _ _ _ _ _ c.as_slice-states.ensures.keys c.in-Ok.ensures.states _ _ _ _ _ c.in-Ok.ensures.few c.in-Ok.ensures.steps c.in-Ok.ensures.cells
    c.in_ok-ends.ensures.ends c.in_ok-ends.ensures.count c.has_word.ensures c.in_ok-terms.ensures.terms c.in_ok-terms.ensures.count c.two_terms_of_one-pair.ensures)

pub returns-clause-count : goal.returns-clause-count
returns-clause-count c = λ tree are. counted tree c.args.form.now.table are _ _ _
    (is_automaton _ _ _ _ _ _ c.as_slice-states.ensures.keys c.in-Ok.ensures.states _ _ _ _ _ c.in-Ok.ensures.few c.in-Ok.ensures.steps c.in-Ok.ensures.cells
    c.in_ok-ends.ensures.ends c.in_ok-ends.ensures.count c.has_word.ensures c.in_ok-terms.ensures.terms c.in_ok-terms.ensures.count c.two_terms_of_one-pair.ensures)

pub returns-clause-terms : goal.returns-clause-terms
returns-clause-terms c = λ tree are. term_is tree c.args.form.now.table are _ _ _
    (is_automaton _ _ _ _ _ _ c.as_slice-states.ensures.keys c.in-Ok.ensures.states _ _ _ _ _ c.in-Ok.ensures.few c.in-Ok.ensures.steps c.in-Ok.ensures.cells
    c.in_ok-ends.ensures.ends c.in_ok-ends.ensures.count c.has_word.ensures c.in_ok-terms.ensures.terms c.in_ok-terms.ensures.count c.two_terms_of_one-pair.ensures)

pub returns-clause-pair : goal.returns-clause-pair
returns-clause-pair c = λ tree are. pair_reached _ _ _ _ _ _ c.as_slice-states.ensures.keys c.in-Ok.ensures.states _ _ _ _ _ c.in-Ok.ensures.few c.in-Ok.ensures.steps c.in-Ok.ensures.cells
    c.in_ok-ends.ensures.ends c.in_ok-ends.ensures.count c.has_word.ensures c.in_ok-terms.ensures.terms c.in_ok-terms.ensures.count c.two_terms_of_one-pair.ensures tree are
