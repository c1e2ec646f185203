use Rattle.std.proofs.Common.{length, refl, sym, ap, subst, ◌∙◌, arith}
use Rattle.std.proofs.lemmas.List.{length-map}
use Rattle.content_models.specs.declared.automaton.ContentAutomaton.{ContentAutomaton}
use Rattle.model_terms.specs.Symbols.{AreSymbolsBy}
use Rattle.model_terms.specs.Terms.{is_ambivalent_symbol}
use Rattle.model_lists.proofs.Others.{made-live, same-live}
use Rattle.model_lists.proofs.RowKeeping.{shape-of, row-made}
use Rattle.model_lists.proofs.Filling.{rows-fit}
use Rattle.model_lists.proofs.rows.build_row.Goals as goal

pub states_of-requires : goal.states_of-requires
states_of-requires g c =
    let s = c.requires.shape in
    (s.0, s.1)

pub build-requires : goal.build-requires
build-requires g c =
    rw c.in_ok-leaves.ensures (rows-fit c.states_of.result.now (is_ambivalent_symbol c.args.automaton.now) c.args.symbols.now (subst (λ (a : ContentAutomaton). AreSymbolsBy a c.args.symbols.now) c.states_of.ensures c.requires.symbols) c.args.lists.now.shape (sym (shape-of c.args.automaton.now c.states_of.result.now c.states_of.ensures c.args.lists.now.shape c.requires.shape)))

pub returns-clause-list : goal.returns-clause-list
returns-clause-list g c =
    row-made c.args.automaton.now c.states_of.result.now c.states_of.ensures c.args.lists.now c.build.new.self c.args.symbols.now c.in_ok-leaves.leaves.items c.in_ok-leaves.ensures (shape-of c.args.automaton.now c.states_of.result.now c.states_of.ensures c.args.lists.now.shape c.requires.shape) _ c.build.result c.build.ensures.ok

pub returns-clause-others : goal.returns-clause-others
returns-clause-others g c =
    made-live c.args.lists.now c.build.new.self _ _ c.in_ok-leaves.leaves.items c.build.result c.build.ensures.fresh c.build.ensures.ok c.build.ensures.err

pub returns-clause-steps : goal.returns-clause-steps
returns-clause-steps g c =
    let many = ap length c.in_ok-leaves.ensures ∙ length-map c.args.symbols.now _ in
    let s = c.build.ensures.steps in
    omega arith

pub returns-in_err-leaves-clause-others : goal.returns-in_err-leaves-clause-others
returns-in_err-leaves-clause-others g c =
    same-live c.args.lists.now c.args.lists.now refl
