use Rattle.std.proofs.Common.{◌≡◌, ℕ, ◌+◌, ◌==◌, Some, None, length, position, sym, ap, subst, ◌∙◌}
use Rattle.xs_names.specs.Names.{space_of}
use Rattle.content_automaton.specs.Symbols.{SymbolTable}
use Rattle.content_automaton.proofs.Symboling.{symbol_own, symbol_space, symbol_last, symbol_grown}
use Rattle.content_automaton.proofs.symbols.Symbols.symbol.Goals as goal

pub returns-in-Some-clause-symbol : goal.returns-in-Some-clause-symbol
returns-in-Some-clause-symbol c =
    sym (symbol_own c.args.names.now c.args.self.now c.ns-space.ensures.sound.names_once c.requires.within c.args.name c.requires.name c.in-Some.own
    (subst (λ (s : SymbolTable). Some c.in-Some.own ≡ position (λ m. c.args.name == m) s.names) c.self.view_is c.in-Some.ensures.index))

pub returns-in-Some-get_index_of-clause-symbol : goal.returns-in-Some-get_index_of-clause-symbol
returns-in-Some-get_index_of-clause-symbol c =
    ap (λ k. k + c.in-Some-get_index_of.found) (c.len.ensures.len ∙ ap (λ (s : SymbolTable). length s.names) c.self.view_is) ∙
    sym (symbol_space c.args.names.now c.args.self.now c.ns-space.ensures.sound.names_once c.requires.within c.args.name c.requires.name c.in-Some-get_index_of.found
    (subst (λ (s : SymbolTable). None ≡ position (λ m. c.args.name == m) s.names) c.self.view_is c.in_default.ensures.index)
    (subst (λ (s : SymbolTable). Some c.in-Some-get_index_of.found ≡ position (λ m. space_of c.args.names.now c.args.name == m) s.spaces) c.self.view_is
    (subst (λ (ns : ℕ). Some c.in-Some-get_index_of.found ≡ position (λ m. ns == m) c.self.inside.spaces) c.ns-space.ensures.value c.in-Some-get_index_of.ensures.index)))

pub returns-clause-symbol : goal.returns-clause-symbol
returns-clause-symbol c =
    ap (λ k. k + c.len-3.result) (c.len-2.ensures.len ∙ ap (λ (s : SymbolTable). length s.names) c.self.view_is) ∙
    (ap (λ k. length c.args.self.now.names + k) (c.len-3.ensures.len ∙ ap (λ (s : SymbolTable). length s.spaces) c.self.view_is) ∙
    sym (symbol_last c.args.names.now c.args.self.now c.ns-space.ensures.sound.names_once c.requires.within c.args.name c.requires.name
    (subst (λ (s : SymbolTable). None ≡ position (λ m. c.args.name == m) s.names) c.self.view_is c.in_default.ensures.index)
    (subst (λ (s : SymbolTable). None ≡ position (λ m. space_of c.args.names.now c.args.name == m) s.spaces) c.self.view_is
    (subst (λ (ns : ℕ). None ≡ position (λ m. ns == m) c.self.inside.spaces) c.ns-space.ensures.value c.in_default-get_index_of.ensures.index))))

pub returns-in-Some-clause-grown : goal.returns-in-Some-clause-grown
returns-in-Some-clause-grown c = λ old g within. symbol_grown old c.args.names.now c.args.self.now g within

pub returns-in-Some-get_index_of-clause-grown : goal.returns-in-Some-get_index_of-clause-grown
returns-in-Some-get_index_of-clause-grown c = λ old g within. symbol_grown old c.args.names.now c.args.self.now g within

pub returns-clause-grown : goal.returns-clause-grown
returns-clause-grown c = λ old g within. symbol_grown old c.args.names.now c.args.self.now g within
