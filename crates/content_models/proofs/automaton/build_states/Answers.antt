use Rattle.std.proofs.Common.{◌≡◌, ℕ, List, Some, refl, sym, subst, ◌∙◌}
use Rattle.std.specs.Prelude.{All}
use Rattle.particle_models.specs.Unrolled.{positions_of}
use Rattle.particle_models.proofs.Rooting.{few_is}
use Rattle.particle_forms.specs.Models.{model_of}
use Rattle.content_models.specs.Terms.{term_number}
use Rattle.content_models.proofs.Building.{unrolled-is, numbers-are, positions-there, ids-there, terms-within, states-built, states-room, states-passed, cells-passed}
use Rattle.content_models.proofs.automaton.build_states.Goals as goal

pub term_ids-requires : goal.term_ids-requires
term_ids-requires c = record {
  terms = subst (λ (xs : List ℕ). All (λ n. term_number c.args.source.parts.now n ≡ Some n) xs) (sym c.terms.ensures)
      (numbers-are c.args.source.names.now c.args.source.parts.now c.args.source.members.now c.args.source.declarations.now c.args.source.inhabited.now c.args.source.classes.now c.args.p c.requires.source c.requires.no_all c.in-Ok.form
      (unrolled-is c.args.source.names.now c.args.source.parts.now c.args.source.members.now c.args.source.declarations.now c.args.source.inhabited.now c.args.source.classes.now c.args.p c.requires.source c.in_ok-form.field-0 c.in-Ok.form c.in-Ok.is c.in_ok-form.ensures.unrolled));
}

pub read_terms-requires-clause-there : goal.read_terms-requires-clause-there
read_terms-requires-clause-there c =
    ids-there c.args.source.names.now c.args.source.parts.now c.args.source.members.now c.args.source.declarations.now c.args.source.inhabited.now c.args.source.classes.now c.args.p c.requires.source c.requires.no_all c.in-Ok.form
    (unrolled-is c.args.source.names.now c.args.source.parts.now c.args.source.members.now c.args.source.declarations.now c.args.source.inhabited.now c.args.source.classes.now c.args.p c.requires.source c.in_ok-form.field-0 c.in-Ok.form c.in-Ok.is c.in_ok-form.ensures.unrolled)
    c.deref.result.now (c.deref.ensures.value ∙ (c.in_ok-ids.ensures ∙ c.terms.ensures))

pub build-requires-clause-positions : goal.build-requires-clause-positions
build-requires-clause-positions c =
    positions-there c.args.source.names.now c.args.source.parts.now c.args.source.members.now c.args.source.declarations.now c.args.source.inhabited.now c.args.source.classes.now c.args.p c.requires.source c.requires.no_all c.in-Ok.form
    (unrolled-is c.args.source.names.now c.args.source.parts.now c.args.source.members.now c.args.source.declarations.now c.args.source.inhabited.now c.args.source.classes.now c.args.p c.requires.source c.in_ok-form.field-0 c.in-Ok.form c.in-Ok.is c.in_ok-form.ensures.unrolled)

pub build-requires-clause-within : goal.build-requires-clause-within
build-requires-clause-within c =
    terms-within c.args.source.names.now c.args.source.parts.now c.args.source.members.now c.args.source.declarations.now c.args.source.inhabited.now c.args.source.classes.now c.args.p c.requires.source c.requires.no_all c.in-Ok.form
    (unrolled-is c.args.source.names.now c.args.source.parts.now c.args.source.members.now c.args.source.declarations.now c.args.source.inhabited.now c.args.source.classes.now c.args.p c.requires.source c.in_ok-form.field-0 c.in-Ok.form c.in-Ok.is c.in_ok-form.ensures.unrolled)
    c.deref.result.now (c.deref.ensures.value ∙ (c.in_ok-ids.ensures ∙ c.terms.ensures))
    c.deref-3.result.now (c.deref-3.ensures.value ∙ c.in_ok-terms.ensures)

pub returns-in-Ok-2-clause-automaton : goal.returns-in-Ok-2-clause-automaton
returns-in-Ok-2-clause-automaton c =
    states-built c.args.source.names.now c.args.source.parts.now c.args.source.members.now c.args.source.declarations.now c.args.source.inhabited.now c.args.source.classes.now c.args.p c.requires.source c.requires.no_all c.in-Ok.form
    (unrolled-is c.args.source.names.now c.args.source.parts.now c.args.source.members.now c.args.source.declarations.now c.args.source.inhabited.now c.args.source.classes.now c.args.p c.requires.source c.in_ok-form.field-0 c.in-Ok.form c.in-Ok.is c.in_ok-form.ensures.unrolled)
    c.deref.result.now (c.deref.ensures.value ∙ (c.in_ok-ids.ensures ∙ c.terms.ensures))
    c.deref-3.result.now (c.deref-3.ensures.value ∙ c.in_ok-terms.ensures)
    c.in-Ok-2.automaton (rw c.in-Ok-2.is at c.in_ok-automaton.ensures.automaton) (rw c.in-Ok-2.is at c.in_ok-automaton.ensures.symbols)

pub returns-in-Ok-2-clause-room : goal.returns-in-Ok-2-clause-room
returns-in-Ok-2-clause-room c =
    states-room c.args.source.names.now c.args.source.parts.now c.args.source.members.now c.args.source.declarations.now c.args.source.inhabited.now c.args.source.classes.now c.args.p c.requires.source c.requires.no_all c.in-Ok.form
    (unrolled-is c.args.source.names.now c.args.source.parts.now c.args.source.members.now c.args.source.declarations.now c.args.source.inhabited.now c.args.source.classes.now c.args.p c.requires.source c.in_ok-form.field-0 c.in-Ok.form c.in-Ok.is c.in_ok-form.ensures.unrolled)
    c.deref.result.now (c.deref.ensures.value ∙ (c.in_ok-ids.ensures ∙ c.terms.ensures))
    c.deref-3.result.now (c.deref-3.ensures.value ∙ c.in_ok-terms.ensures)
    (few_is c.in_ok-form.field-0 c.in-Ok.form (positions_of (model_of c.args.source.parts.now c.args.p)) (positions_of (model_of c.args.source.parts.now c.args.p)) c.in-Ok.is c.in_ok-form.ensures.too_many refl)
    c.args.cells_left c.in-Ok-2.automaton (rw c.in-Ok-2.is at c.in_ok-automaton.ensures.room)

pub returns-in-Err-TooManyStates-clause-refused : goal.returns-in-Err-TooManyStates-clause-refused
returns-in-Err-TooManyStates-clause-refused c =
    states-passed c.args.source.names.now c.args.source.parts.now c.args.source.members.now c.args.source.declarations.now c.args.source.inhabited.now c.args.source.classes.now c.args.p c.requires.source c.requires.no_all c.in-Ok.form
    (unrolled-is c.args.source.names.now c.args.source.parts.now c.args.source.members.now c.args.source.declarations.now c.args.source.inhabited.now c.args.source.classes.now c.args.p c.requires.source c.in_ok-form.field-0 c.in-Ok.form c.in-Ok.is c.in_ok-form.ensures.unrolled)
    c.deref.result.now (c.deref.ensures.value ∙ (c.in_ok-ids.ensures ∙ c.terms.ensures))
    c.deref-3.result.now (c.deref-3.ensures.value ∙ c.in_ok-terms.ensures)
    (few_is c.in_ok-form.field-0 c.in-Ok.form (positions_of (model_of c.args.source.parts.now c.args.p)) (positions_of (model_of c.args.source.parts.now c.args.p)) c.in-Ok.is c.in_ok-form.ensures.too_many refl)
    c.args.cells_left (rw (c.in-Err-TooManyStates.is, c.in-Err-TooManyStates.field-0-is) at c.in_ok-automaton.ensures.refused)

pub returns-clause-refused : goal.returns-clause-refused
returns-clause-refused c =
    cells-passed c.args.source.names.now c.args.source.parts.now c.args.source.members.now c.args.source.declarations.now c.args.source.inhabited.now c.args.source.classes.now c.args.p c.requires.source c.requires.no_all c.in-Ok.form
    (unrolled-is c.args.source.names.now c.args.source.parts.now c.args.source.members.now c.args.source.declarations.now c.args.source.inhabited.now c.args.source.classes.now c.args.p c.requires.source c.in_ok-form.field-0 c.in-Ok.form c.in-Ok.is c.in_ok-form.ensures.unrolled)
    c.deref.result.now (c.deref.ensures.value ∙ (c.in_ok-ids.ensures ∙ c.terms.ensures))
    c.deref-3.result.now (c.deref-3.ensures.value ∙ c.in_ok-terms.ensures)
    (few_is c.in_ok-form.field-0 c.in-Ok.form (positions_of (model_of c.args.source.parts.now c.args.p)) (positions_of (model_of c.args.source.parts.now c.args.p)) c.in-Ok.is c.in_ok-form.ensures.too_many refl)
    c.args.cells_left (rw (c.in-Err-TableTooLarge.is, c.in-Err-TableTooLarge.field-0-is) at c.in_ok-automaton.ensures.refused)
