use Rattle.std.proofs.Common.{◌≡◌, ℕ, ◌<◌, true, [], ◌∷◌, ◌++◌, Option, Some, take, length, sym, subst, ◌∙◌, arith}
use Rattle.std.proofs.lemmas.Bool.{false≢true}
use Rattle.content_models.specs.declared.automaton.ContentAutomaton.{ContentAutomaton}
use Rattle.model_terms.specs.Symbols.{AreSymbolsBy}
use Rattle.model_terms.specs.Terms.{begins, stuck_in, term_after}
use Rattle.model_terms.specs.Places.{IsBefore}
use Rattle.model_lists.proofs.MemberKeeping.{over-members}
use Rattle.model_lists.proofs.Choosing.{one-symbol, front-of, begun, term-first, term-placed}
use Rattle.model_lists.proofs.Handling.{as-many, view, row-in, row-of, member-of, list-many}
use Rattle.model_lists.proofs.lists.ModelLists.term.Goals as goal

pub goes_by_place-requires : goal.goes_by_place-requires
goes_by_place-requires g c =
    let q = c.requires in
    one-symbol c.args.automaton.now q.0 c.args.child.place c.args.child.symbol q.4 q.2 q.3

pub returns-then-not-goes_by_place-clause-term : goal.returns-then-not-goes_by_place-clause-term
returns-then-not-goes_by_place-clause-term g c =
    let q = c.requires in
    λ symbols l at of s.
    let within : c.args.child.place < length symbols = (let many = list-many c.args.self.now c.args.list.dead c.args.list.list c.args.automaton.now c.args.automaton.now q.0 symbols q.1 l in let less = q.2 in omega arith) in
    c.first_term.ensures (one-symbol c.args.automaton.now symbols c.args.child.place c.args.child.symbol of within at) ∙
    term-first c.args.automaton.now symbols c.args.child.place c.args.child.symbol of within at (λ mixed before. false≢true (sym c.if-not-goes_by_place.true ∙ c.goes_by_place.ensures.1 (mixed, subst (λ (o : Option ℕ). IsBefore o c.args.child.place) (sym s) before)))

pub index-requires : goal.index-requires
index-requires g c =
    let q = rw (← c.self.view_is) at c.requires in
    as-many _ _ _ c.self.inside.rows.ok.0 (row-in c.self.inside.rows.items c.self.inside.alls c.args.list c.in-Some.dead c.in-Some.is c.args.automaton.now q.0 q.1)

pub term_row-requires : goal.term_row-requires
term_row-requires g c =
    let q = rw (← c.self.view_is) at c.requires in
    (q.0, row-of c.self.inside.rows.items c.self.inside.alls c.args.list c.in-Some.dead c.in-Some.is c.index.result.now c.index.ensures c.args.automaton.now q.0 q.1, q.2, q.3, q.4)

pub returns-in-Some-clause-term : goal.returns-in-Some-clause-term
returns-in-Some-clause-term g c =
    let q = rw (← c.self.view_is) at c.requires in
    rw (← c.self.view_is) (λ symbols l at of s.
    let within : c.args.child.place < length symbols = (let many = list-many (view c.self.inside.rows.items c.self.inside.alls) c.args.list.dead c.args.list.list c.args.automaton.now c.args.automaton.now q.0 symbols q.1 l in let less = q.2 in omega arith) in
    let both = c.goes_by_place.ensures.0 c.if-not-goes_by_place.false in
    let before : IsBefore (stuck_in (Some c.args.automaton.now) symbols) c.args.child.place = subst (λ (o : Option ℕ). IsBefore o c.args.child.place) s both.1 in
    c.term_row.ensures.term symbols (row-of c.self.inside.rows.items c.self.inside.alls c.args.list c.in-Some.dead c.in-Some.is c.index.result.now c.index.ensures c.args.automaton.now symbols l) (front-of c.args.automaton.now symbols c.args.child.place c.args.child.symbol of within at) (begun c.args.automaton.now symbols c.args.child.place c.args.child.symbol of within at before) ∙ term-placed c.args.automaton.now symbols c.args.child.place c.args.child.symbol of within at both.0 before)

pub returns-in-Some-clause-steps : goal.returns-in-Some-clause-steps
returns-in-Some-clause-steps g c =
    rw (← c.self.view_is) (λ symbols l. c.term_row.ensures.steps symbols (row-of c.self.inside.rows.items c.self.inside.alls c.args.list c.in-Some.dead c.in-Some.is c.index.result.now c.index.ensures c.args.automaton.now symbols l))

pub returns-in-Some-clause-none : goal.returns-in-Some-clause-none
returns-in-Some-clause-none g c =
    let both = c.goes_by_place.ensures.0 c.if-not-goes_by_place.false in
    λ e. absurd (false≢true (sym e ∙ both.0))

pub members_of-requires : goal.members_of-requires
members_of-requires g c =
    let q = rw (← c.self.view_is) at c.requires in
    over-members c.self.inside.alls c.args.list.list c.args.automaton.now q.0 (member-of c.self.inside.rows.items c.self.inside.alls c.self.inside.alls c.args.list c.in-None.is c.args.automaton.now q.0 q.1)

pub returns-in-None-clause-term : goal.returns-in-None-clause-term
returns-in-None-clause-term g c =
    let q = rw (← c.self.view_is) at c.requires in
    rw (← c.self.view_is) (λ symbols l at of s.
    let within : c.args.child.place < length symbols = (let many = list-many (view c.self.inside.rows.items c.self.inside.alls) c.args.list.dead c.args.list.list c.args.automaton.now c.args.automaton.now q.0 symbols q.1 l in let less = q.2 in omega arith) in
    let both = c.goes_by_place.ensures.0 c.if-not-goes_by_place.false in
    let before : IsBefore (stuck_in (Some c.args.automaton.now) symbols) c.args.child.place = subst (λ (o : Option ℕ). IsBefore o c.args.child.place) s both.1 in
    let front = take c.args.child.place symbols in
    subst (λ (a : ContentAutomaton). c.member_term.result ≡ term_after a front c.args.child.symbol) (sym c.members_of.ensures)
    (c.member_term.ensures front (subst (λ (a : ContentAutomaton). AreSymbolsBy a (front ++ c.args.child.symbol ∷ [])) c.members_of.ensures (front-of c.args.automaton.now symbols c.args.child.place c.args.child.symbol of within at))
    (subst (λ (a : ContentAutomaton). begins a (front ++ c.args.child.symbol ∷ []) ≡ true) c.members_of.ensures (begun c.args.automaton.now symbols c.args.child.place c.args.child.symbol of within at before))) ∙ term-placed c.args.automaton.now symbols c.args.child.place c.args.child.symbol of within at both.0 before)

pub returns-in-None-clause-none : goal.returns-in-None-clause-none
returns-in-None-clause-none g c =
    let both = c.goes_by_place.ensures.0 c.if-not-goes_by_place.false in
    λ e. absurd (false≢true (sym e ∙ both.0))
