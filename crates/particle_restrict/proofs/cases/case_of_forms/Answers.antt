use Rattle.std.proofs.Common.{[], refl}
use Rattle.particle_models.specs.Parts.{trees_from}
use Rattle.particle_restrict.proofs.CellLaws.{part-read}
use Rattle.particle_restrict.proofs.cases.case_of_forms.Goals as goal

pub returns : goal.returns
returns c =
    let there = rw c.in-Some.is at c.requires.derived.there in
    let base_there = rw c.in-Some-root.is at c.requires.base.there in
    let read = part-read c.args.derived.now.parts.items c.in-Some.d c.index.result.now c.requires.derived.ordered there c.index.ensures c.index.result.now refl in
    let base_read = part-read c.args.base.now.parts.items c.in-Some-root.b c.index-2.result.now c.requires.base.ordered base_there c.index-2.ensures c.index-2.result.now refl in
    rw (c.in-Some.is, c.in-Some-root.is, read, base_read) (c.part_case.ensures (trees_from [] c.args.derived.now.parts.items) (trees_from [] c.args.base.now.parts.items))
