use Rattle.std.proofs.Common.{◌∙◌, ◌&&◌, ap, sym, rules, tests}
use Rattle.std.specs.List.{list_any}
use Rattle.std.proofs.lemmas.Iterator.{YieldsList-from_slice}
use Rattle.std.proofs.lemmas.Iterator.Search.{any_from_yields_List}
use Rattle.redefine_faults.specs.Redefinitions.{derives}
use Rattle.redefine_faults.specs.inside.Numbers.{of_number, any_inside}
use Rattle.redefine_faults.proofs.own.content_derives.Goals as goal

pub returns-then-is_content : goal.returns-then-is_content
returns-then-is_content c =
    any_from_yields_List (λ item. list_any (λ s. derives c.args.document.now.shaped.now.shapes c.args.document.now.target c.args.name.now s.form) (of_number c.args.numbered.now item)) _ _ c.any.result c.any.ensures.ran
    (YieldsList-from_slice c.as_slice.result.now cc) (λ x b q k. search (rules, tests))
    ∙ ap (list_any (λ item. list_any (λ s. derives c.args.document.now.shaped.now.shapes c.args.document.now.target c.args.name.now s.form) (of_number c.args.numbered.now item))) c.as_slice.ensures
    ∙ ap (λ b. b && any_inside c.args.numbered.now (λ s. derives c.args.document.now.shaped.now.shapes c.args.document.now.target c.args.name.now s.form) c.args.content.now) (sym c.if-is_content.true ∙ c.is_content.ensures)
