use Rattle.std.proofs.Common.{◌+◌, ◌<◌, ℕ, List, replicate, sym, ap, subst, ◌∙◌, arith}
use Rattle.std.specs.Prelude.{All}
use Rattle.xs_names.specs.Numbering.{HasNoRepeats}
use Rattle.content_automaton.specs.declared.rows.Entry.{Entry}
use Rattle.content_automaton.specs.declared.attribution.Attribution.TheVariants.{Nothing}
use Rattle.content_automaton.specs.Terms.{names_of, spaces_of}
use Rattle.content_automaton.specs.Symbols.{count_of}
use Rattle.content_automaton.specs.Rows.{IsRow}
use Rattle.content_automaton.specs.Listed.{IsListedUpTo}
use Rattle.content_automaton.proofs.Together.{own, listed_none, listed_more, listed_all}
use Rattle.content_automaton.proofs.listing.list_terms.Goals as goal

pub loop-number-init : goal.loop-number-init
loop-number-init c =
    subst (λ (xs : List (List ℕ)). IsListedUpTo c.args.names.now c.args.symbols.now c.args.terms.now 0 xs c.in_ok-attributions.attributions.items) (sym c.new-accepted.ensures.items)
    (listed_none c.args.names.now c.args.symbols.now c.args.terms.now c.in_ok-attributions.attributions.items
    (c.in_ok-attributions.ensures.items_if_clones_equal (λ y e. e) ∙ ap (λ n. replicate n Nothing) c.count-count.ensures.count))

pub row_of-requires-clause-own_names : goal.row_of-requires-clause-own_names
row_of-requires-clause-own_names c =
    own names_of c.args.terms.now c.args.symbols.now.names c.requires.symbols.names c.loop-number.number c.index-terms-number.result c.loop-number-test.true c.index-terms-number.is

pub row_of-requires-clause-own_spaces : goal.row_of-requires-clause-own_spaces
row_of-requires-clause-own_spaces c =
    own spaces_of c.args.terms.now c.args.symbols.now.spaces c.requires.symbols.spaces c.loop-number.number c.index-terms-number.result c.loop-number-test.true c.index-terms-number.is

pub loop-number-preserved : goal.loop-number-preserved
loop-number-preserved c =
    let row : List Entry = c.as_slice-entries.result.now in
    let same = sym c.as_slice-entries.ensures.value in
    let below = subst (λ (r : List Entry). All (λ (e : Entry). e.symbol < count_of c.args.symbols.now) r) same c.in_ok-row.ensures.below in
    subst (λ (xs : List (List ℕ)). IsListedUpTo c.args.names.now c.args.symbols.now c.args.terms.now (c.loop-number.number + 1) xs c.note_row.new.list.items) (sym c.in_ok-push.ensures.items)
    (listed_more c.args.names.now c.args.symbols.now c.args.terms.now c.loop-number.number c.loop-number.accepted.items c.loop-number.attributions.items c.note_row.new.list.items c.loop-number.invariant
    c.index-terms-number.result c.loop-number-test.true c.index-terms-number.is row
    (subst (λ (r : List Entry). HasNoRepeats c.args.names.now.names → IsRow c.args.names.now c.args.symbols.now c.index-terms-number.result r) same c.in_ok-row.ensures.gives) below
    c.in_ok-accepted_of.field-0 c.in_ok-accepted_of.ensures.members c.in_ok-accepted_of.ensures.rises (c.in_ok-accepted_of.ensures.below (count_of c.args.symbols.now) below)
    c.note_row.ensures.noted c.note_row.ensures.count)

pub returns : goal.returns
returns c = listed_all c.args.names.now c.args.symbols.now c.args.terms.now c.loop-number.number c.loop-number.accepted.items c.loop-number.attributions.items c.loop-number.invariant
    (let l = c.loop-number-test.false in let k = c.loop-number.auto.number-end in omega arith)
