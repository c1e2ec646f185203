use Rattle.std.proofs.Common.{◌∙◌}
use Rattle.particle_models.specs.declared.part.Part.TheVariants.{Leaf, Group}
use Rattle.particle_restrict.proofs.CellLaws.{part-read}
use Rattle.particle_restrict.proofs.cells.cell_of.Goals as goal

pub over_leaf-requires-clause-leaf : goal.over_leaf-requires-clause-leaf
over_leaf-requires-clause-leaf g c =
    part-read c.args.sides.now.base.now c.args.b c.index-sides-b.result c.requires.sides.base_ordered c.requires.base c.index-sides-b.is (Leaf c.in-Leaf.bounds c.in-Leaf.u) (c.index-sides-b.is ∙ c.in-Leaf.is)

pub returns-in-Leaf : goal.returns-in-Leaf
returns-in-Leaf g c =
    rw (part-read c.args.sides.now.base.now c.args.b c.index-sides-b.result c.requires.sides.base_ordered c.requires.base c.index-sides-b.is (Leaf c.in-Leaf.bounds c.in-Leaf.u) (c.index-sides-b.is ∙ c.in-Leaf.is)) c.over_leaf.ensures

pub returns-in_ok-restricts-in-Group : goal.returns-in_ok-restricts-in-Group
returns-in_ok-restricts-in-Group g c =
    let is = rw c.as_slice.ensures at c.in_ok-restricts-in-Group.ensures in
    rw (part-read c.args.sides.now.base.now c.args.b c.index-sides-b.result c.requires.sides.base_ordered c.requires.base c.index-sides-b.is (Group c.in-Group.bounds c.in-Group.compositor c.in-Group.members) (c.index-sides-b.is ∙ c.in-Group.is))
    (record { restricts = is; within = is })
