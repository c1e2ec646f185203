use Rattle.std.proofs.Common.{◌∙◌, ap, rules, tests}
use Rattle.std.specs.List.{list_any}
use Rattle.std.proofs.lemmas.Iterator.{YieldsList-from_slice}
use Rattle.std.proofs.lemmas.Iterator.Search.{any_from_yields_List}
use Rattle.redefine_faults.specs.inside.Numbers.{of_number}
use Rattle.redefine_faults.specs.inside.Selves.{is_derivation}
use Rattle.redefine_faults.proofs.InnerLaws.{itself-derives}
use Rattle.redefine_faults.proofs.own.derives_from_itself.Goals as goal

pub returns : goal.returns
returns c =
    itself-derives c.args.document.now.shaped.now.shapes c.args.numbered.now c.requires.numbered c.args.document.now.target c.args.name.now c.args.version.now c.any.result
    (any_from_yields_List (λ item. list_any (is_derivation c.args.numbered.now c.args.document.now.shaped.now.shapes c.args.document.now.target c.args.name.now) (of_number c.args.numbered.now item)) _ _ c.any.result c.any.ensures.ran
    (YieldsList-from_slice c.as_slice.result.now cc) (λ x b q k. search (rules, tests))
    ∙ ap (list_any (λ item. list_any (is_derivation c.args.numbered.now c.args.document.now.shaped.now.shapes c.args.document.now.target c.args.name.now) (of_number c.args.numbered.now item))) c.as_slice.ensures)
