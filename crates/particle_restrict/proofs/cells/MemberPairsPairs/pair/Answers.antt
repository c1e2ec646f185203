use Rattle.particle_restrict.proofs.cells.MemberPairsPairs.pair.Goals as goal

pub cell_at-cell-requires : goal.cell_at-cell-requires
cell_at-cell-requires g c = (c.requires.valid c.args.member c.args.base c.requires.member c.requires.base).0

pub returns : goal.returns
returns g c = record { restricts = rw c.cell_at-cell.ensures (c.requires.valid c.args.member c.args.base c.requires.member c.requires.base).1 }
