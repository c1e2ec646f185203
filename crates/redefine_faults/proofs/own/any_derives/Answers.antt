use Rattle.std.proofs.Common.{rules, tests}
use Rattle.std.proofs.lemmas.Iterator.{YieldsList-from_slice}
use Rattle.std.proofs.lemmas.Iterator.Search.{any_from_yields_List}
use Rattle.redefine_faults.specs.Redefinitions.{derives}
use Rattle.redefine_faults.specs.inside.Numbers.{of_number}
use Rattle.redefine_faults.proofs.OwnLaws.{any-read}
use Rattle.redefine_faults.proofs.own.any_derives.Goals as goal

pub returns : goal.returns
returns c =
    any-read (λ r. r.now) (λ s. derives c.args.document.now.shaped.now.shapes c.args.document.now.target c.args.name.now s.form) c.of_number-shapes.result.now (of_number c.args.numbered.now c.args.item) c.any.result c.of_number-shapes.ensures
    (any_from_yields_List (λ r. derives c.args.document.now.shaped.now.shapes c.args.document.now.target c.args.name.now r.now.form) _ _ c.any.result c.any.ensures.ran (YieldsList-from_slice c.of_number-shapes.result.now cc) (λ x b q k. search (rules, tests)))
