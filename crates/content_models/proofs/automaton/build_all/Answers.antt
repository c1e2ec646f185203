use Rattle.std.proofs.Common.{map, arith, sym, ap, ◌∙◌}
use Rattle.content_models.specs.declared.member.AllMember.{AllMember}
use Rattle.content_models.proofs.Building.{all-there, all-few, all-within, all-built, all-room, all-passed}
use Rattle.content_models.proofs.automaton.build_all.Goals as goal

pub read_terms-requires-clause-there : goal.read_terms-requires-clause-there
read_terms-requires-clause-there c =
    all-there c.args.source.names.now c.args.source.parts.now c.args.source.members.now c.args.source.declarations.now c.args.source.inhabited.now c.args.source.classes.now c.args.p c.requires.source
    c.args.found.members.now c.args.found.optional c.requires.found c.requires.limited c.in_ok-read.read.members.items c.in_ok-read.ensures.members
    c.deref.result.now (c.deref.ensures.value ∙ c.in_ok-read.ensures.ids)

pub build-requires-clause-few : goal.build-requires-clause-few
build-requires-clause-few c =
    all-few c.args.source.names.now c.args.source.parts.now c.args.source.members.now c.args.source.declarations.now c.args.source.inhabited.now c.args.source.classes.now c.args.p c.requires.source
    c.args.found.members.now c.args.found.optional c.requires.found c.requires.limited c.deref-2.result.now (c.deref-2.ensures.value ∙ c.in_ok-read.ensures.members)

pub build-requires-clause-within : goal.build-requires-clause-within
build-requires-clause-within c =
    all-within c.args.source.names.now c.args.source.parts.now c.args.source.members.now c.args.source.declarations.now c.args.source.inhabited.now c.args.source.classes.now c.args.p c.requires.source
    c.args.found.members.now c.args.found.optional c.requires.found c.requires.limited c.deref-2.result.now (c.deref-2.ensures.value ∙ c.in_ok-read.ensures.members)
    c.deref.result.now (c.deref.ensures.value ∙ (c.in_ok-read.ensures.ids ∙ ap (map (λ (m : AllMember). m.term)) (sym c.deref-2.ensures.value)))
    c.deref-4.result.now (c.deref-4.ensures.value ∙ c.in_ok-terms.ensures)

pub returns-then-symbol_count-cells_left-clause-refused :
    goal.returns-then-symbol_count-cells_left-clause-refused
returns-then-symbol_count-cells_left-clause-refused c =
    all-passed c.args.source.names.now c.args.source.parts.now c.args.source.members.now c.args.source.declarations.now c.args.source.inhabited.now c.args.source.classes.now c.args.p c.requires.source
    c.args.found.members.now c.args.found.optional c.requires.found c.requires.limited c.deref-2.result.now (c.deref-2.ensures.value ∙ c.in_ok-read.ensures.members)
    c.deref.result.now (c.deref.ensures.value ∙ (c.in_ok-read.ensures.ids ∙ ap (map (λ (m : AllMember). m.term)) (sym c.deref-2.ensures.value)))
    c.deref-4.result.now (c.deref-4.ensures.value ∙ c.in_ok-terms.ensures)
    c.args.cells_left c.symbol_count.result c.in_ok-automaton.automaton c.symbol_count.ensures
    (let l = c.if-symbol_count-cells_left.true in omega arith) c.in_ok-automaton.ensures.symbols

pub returns-clause-automaton : goal.returns-clause-automaton
returns-clause-automaton c =
    all-built c.args.source.names.now c.args.source.parts.now c.args.source.members.now c.args.source.declarations.now c.args.source.inhabited.now c.args.source.classes.now c.args.p c.requires.source
    c.args.found.members.now c.args.found.optional c.requires.found c.requires.limited c.deref-2.result.now (c.deref-2.ensures.value ∙ c.in_ok-read.ensures.members)
    c.deref.result.now (c.deref.ensures.value ∙ (c.in_ok-read.ensures.ids ∙ ap (map (λ (m : AllMember). m.term)) (sym c.deref-2.ensures.value)))
    c.deref-4.result.now (c.deref-4.ensures.value ∙ c.in_ok-terms.ensures)
    c.in_ok-automaton.automaton c.in_ok-automaton.ensures.automaton c.in_ok-automaton.ensures.symbols

pub returns-clause-room : goal.returns-clause-room
returns-clause-room c =
    all-room c.args.source.names.now c.args.source.parts.now c.args.source.members.now c.args.source.declarations.now c.args.source.inhabited.now c.args.source.classes.now c.args.p c.requires.source
    c.args.found.members.now c.args.found.optional c.requires.found c.requires.limited c.deref-2.result.now (c.deref-2.ensures.value ∙ c.in_ok-read.ensures.members)
    c.deref.result.now (c.deref.ensures.value ∙ (c.in_ok-read.ensures.ids ∙ ap (map (λ (m : AllMember). m.term)) (sym c.deref-2.ensures.value)))
    c.deref-4.result.now (c.deref-4.ensures.value ∙ c.in_ok-terms.ensures)
    c.args.cells_left c.symbol_count.result c.in_ok-automaton.automaton c.symbol_count.ensures
    (let l = c.if-symbol_count-cells_left.false in omega arith)
