use Rattle.std.proofs.Common.{rules, tests}
use Rattle.std.proofs.lemmas.Iterator.{YieldsList-from_slice}
use Rattle.std.proofs.lemmas.Iterator.Search.{any_from_yields_List}
use Rattle.redefine_faults.specs.inside.Numbers.{of_number}
use Rattle.redefine_faults.specs.inside.Selves.{is_derivation}
use Rattle.redefine_faults.proofs.OwnLaws.{any-read}
use Rattle.redefine_faults.proofs.own.any_derivation.Goals as goal

pub returns : goal.returns
returns c =
    any-read (λ r. r.now) (is_derivation c.args.numbered.now c.args.document.now.shaped.now.shapes c.args.document.now.target c.args.name.now) c.of_number-shapes.result.now (of_number c.args.numbered.now c.args.item) c.any.result
    c.of_number-shapes.ensures
    (any_from_yields_List (λ r. is_derivation c.args.numbered.now c.args.document.now.shaped.now.shapes c.args.document.now.target c.args.name.now r.now) _ _ c.any.result c.any.ensures.ran
    (YieldsList-from_slice c.of_number-shapes.result.now cc) (λ x b q k. search (rules, tests)))
