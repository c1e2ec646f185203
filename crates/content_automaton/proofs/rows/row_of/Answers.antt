use Rattle.std.proofs.Common.{List, map, sym, ap, subst, ◌∙◌}
use Rattle.std.specs.Prelude.{Contains, All}
use Rattle.content_automaton.specs.declared.symbol_terms.Given.{Given}
use Rattle.content_automaton.specs.declared.symbol_terms.Accepts.{Accepts}
use Rattle.content_automaton.specs.Terms.{names_of, spaces_of}
use Rattle.content_automaton.specs.Rows.{entry_of}
use Rattle.content_automaton.proofs.Items.{then_ok}
use Rattle.content_automaton.proofs.Rowing.{element_row, wildcard_row, element_below, wildcard_below}
use Rattle.content_automaton.proofs.rows.row_of.Goals as goal

pub element_row-requires-clause-own_names : goal.element_row-requires-clause-own_names
element_row-requires-clause-own_names c =
    subst (λ (given : List Given). All (Contains c.args.symbols.now.names) (map (λ (g : Given). g.name) given)) (sym c.as_slice.ensures)
    (subst (λ (a : Accepts). All (Contains c.args.symbols.now.names) (names_of a)) c.in-Element.is c.requires.own_names)

pub returns-in-Element-clause-gives : goal.returns-in-Element-clause-gives
returns-in-Element-clause-gives c =
    rw c.in-Element.is (then_ok c.element_row.result _ _ c.element_row.ensures
    (λ row e once. element_row c.args.names.now c.args.symbols.now c.in-Element.given row.items once c.requires.within
    (subst (λ (a : Accepts). All (Contains c.args.symbols.now.names) (names_of a)) c.in-Element.is c.requires.own_names)
    (e ∙ ap (map (entry_of c.args.names.now c.args.symbols.now)) c.as_slice.ensures)))

pub returns-in-Wildcard-clause-gives : goal.returns-in-Wildcard-clause-gives
returns-in-Wildcard-clause-gives c =
    rw c.in-Wildcard.is (then_ok c.wildcard_row.result _ _ c.wildcard_row.ensures
    (λ row are once. wildcard_row c.args.names.now c.args.symbols.now c.in-Wildcard.namespaces c.in-Wildcard.class row.items
    (subst (λ (a : Accepts). All (Contains c.args.symbols.now.spaces) (spaces_of a)) c.in-Wildcard.is c.requires.own_spaces) are))

pub returns-in-Element-clause-below : goal.returns-in-Element-clause-below
returns-in-Element-clause-below c =
    then_ok c.element_row.result _ _ c.element_row.ensures (λ row e. element_below c.args.names.now c.args.symbols.now c.as_slice.result.now row.items e)

pub returns-in-Wildcard-clause-below : goal.returns-in-Wildcard-clause-below
returns-in-Wildcard-clause-below c =
    then_ok c.wildcard_row.result _ _ c.wildcard_row.ensures (λ row are. wildcard_below c.args.names.now c.args.symbols.now c.in-Wildcard.namespaces c.in-Wildcard.class _ row.items are)
