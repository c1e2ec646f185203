use Rattle.std.proofs.Common.{◌≡◌, ℕ, List, map, sym, ap, subst, ◌∙◌, take_all}
use Rattle.std.specs.Prelude.{Contains}
use Rattle.content_automaton.specs.declared.rows.Entry.{Entry}
use Rattle.content_automaton.specs.Rows.{AreSymbolsIn}
use Rattle.content_automaton.proofs.Rowing.{symbols_in, list_below}
use Rattle.content_automaton.proofs.rows.accepted_of.Goals as goal

members : (c : goal.After-from_vec) → AreSymbolsIn c.args.row.now c.from_vec.result
members c = λ n.
    let row : List Entry = c.args.row.now in
    let m = c.sort_unique.ensures.members n in
    let s = symbols_in row n in
    let e : c.loop-entry.list.items ≡ map (λ (e : Entry). e.symbol) row = c.loop-entry.invariant ∙ ap (map (λ (e : Entry). e.symbol)) (take_all c.loop-entry.entry-index row c.loop-entry-test.false) in (
      (λ h. s.0 (subst (λ (xs : List ℕ). Contains xs n) e (m.0 (subst (λ (xs : List ℕ). Contains xs n) c.from_vec.ensures h)))),
      (λ h. subst (λ (xs : List ℕ). Contains xs n) (sym c.from_vec.ensures) (m.1 (subst (λ (xs : List ℕ). Contains xs n) (sym e) (s.1 h)))),
    )

pub returns-clause-members : goal.returns-clause-members
returns-clause-members c = members c

pub returns-clause-below : goal.returns-clause-below
returns-clause-below c = λ m below. list_below c.args.row.now c.from_vec.result m (members c) below
