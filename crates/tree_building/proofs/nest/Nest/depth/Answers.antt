use Rattle.std.proofs.Common.{reverse, arith}
use Rattle.std.proofs.lemmas.List.{length-reverse}
use Rattle.tree_building.proofs.NestLaws.{length-elements}
use Rattle.tree_building.proofs.nest.Nest.depth.Goals as goal

pub returns : goal.returns
returns c =
    let marks = c.self.inside.marks in
    rw (← c.self.view_is) (omega (arith, c.len.ensures, length-elements c.self.inside.prefixes (reverse marks.items), length-reverse marks.items, marks.ok.0))
