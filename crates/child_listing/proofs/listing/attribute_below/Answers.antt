use Rattle.std.proofs.Common.{◌≡◌, Some, None, map, option_copied, sym, ap, subst, ◌∙◌}
use Rattle.model_terms.specs.Symbols.{AreSymbolsBy}
use Rattle.kept_judging.specs.from_kept_records.Fit.{models_of}
use Rattle.child_listing.proofs.Listed.{none-listed}
use Rattle.child_listing.proofs.Symbols.{model-of, names-within, are-symbols}
use Rattle.child_listing.proofs.listing.attribute_below.Goals as goal

pub returns-in_default-clause-listed : goal.returns-in_default-clause-listed
returns-in_default-clause-listed g c =
    let none : models_of c.args.set.now c.args.of ≡ None = sym c.model_of.ensures ∙ ap option_copied c.in_default.is in
    none-listed c.args.kept.now.lists c.args.set.now.names (models_of c.args.set.now c.args.of) c.args.elements.now c.in_ok-attribute_none.field-0 none
    c.in_ok-attribute_none.ensures.stuck c.in_ok-attribute_none.ensures.terms

pub symbols_below-requires-clause-within : goal.symbols_below-requires-clause-within
symbols_below-requires-clause-within g c =
    let a = c.in-Some.automaton.now in
    let some : models_of c.args.set.now c.args.of ≡ Some a = sym c.model_of.ensures ∙ ap option_copied c.in-Some.is in
    names-within c.args.set.now a (model-of c.args.set.now c.requires.usable c.args.of a some)

pub list_by-requires-clause-symbols : goal.list_by-requires-clause-symbols
list_by-requires-clause-symbols g c =
    let a = c.in-Some.automaton.now in
    let some : models_of c.args.set.now c.args.of ≡ Some a = sym c.model_of.ensures ∙ ap option_copied c.in-Some.is in
    subst (AreSymbolsBy a) (sym (c.as_slice.ensures.value ∙ c.in_ok-symbols.ensures))
    (are-symbols c.args.set.now a (model-of c.args.set.now c.requires.usable c.args.of a some) (map (λ e. e.1) c.args.elements.now))
