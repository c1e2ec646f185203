use Rattle.std.proofs.Common.{ap, ◌∙◌, [], arith}
use Rattle.particle_forms.specs.Steps.{known}
use Rattle.particle_models.specs.Parts.{trees_from}
use Rattle.particle_models.specs.declared.part.Part.TheVariants.{Leaf, Group}
use Rattle.particle_restrict.proofs.TotalLaws.{known-total, totals-length}
use Rattle.particle_restrict.proofs.CellLaws.{part-read, members-read, group-cell}
use Rattle.particle_restrict.proofs.RangeLaws.{leaf-restricts}
use Rattle.particle_restrict.proofs.cells.over_leaf.Goals as goal

pub total_at-total-requires : goal.total_at-total-requires
total_at-total-requires g c =
    let e = totals-length c.args.sides.now.totals.now c.args.sides.now.derived.now c.requires.sides.ranges in
    let l = c.requires.there in omega arith

pub returns-in-Leaf : goal.returns-in-Leaf
returns-in-Leaf g c =
    rw (part-read c.args.sides.now.derived.now c.args.d c.index-sides-d.result c.requires.sides.ordered c.requires.there c.index-sides-d.is (Leaf c.in-Leaf.bounds c.in-Leaf.t) (c.index-sides-d.is ∙ c.in-Leaf.is))
    (let within = rw c.any_number-any.ensures at c.terms_restrict-within.ensures in
    record {
      restricts = leaf-restricts (g.T.Derivation.derives c.args.sides.now.types.now) c.in-Leaf.bounds c.args.base _ _ c.terms_restrict-within.result c.range_ok-ok.result c.both-restricts.result
          c.both-restricts.ensures within c.range_ok-ok.ensures;
      within = within;
    })

pub returns-in-Group : goal.returns-in-Group
returns-in-Group g c =
    let part = Group c.in-Group.field-0 c.in-Group.field-1 c.in-Group.members in
    let read = part-read c.args.sides.now.derived.now c.args.d c.index-sides-d.result c.requires.sides.ordered c.requires.there c.index-sides-d.is part (c.index-sides-d.is ∙ c.in-Group.is) in
    let low = members-read c.args.sides.now.derived.now c.args.d c.index-sides-d.result c.requires.sides.ordered c.requires.there c.index-sides-d.is part (c.index-sides-d.is ∙ c.in-Group.is) in
    let total = c.total_at-total.ensures ∙ (ap (λ t. known t c.args.d) c.requires.sides.ranges ∙ known-total (trees_from [] c.args.sides.now.derived.now) c.args.d) in
    rw (c.both-restricts-in-Group.ensures, c.both-within.ensures)
    (group-cell c.args.sides.now.terms.now (g.T.Derivation.derives c.args.sides.now.types.now) c.args.sides.now.derived.now c.args.sides.now.base.now c.args.cells.now c.args.d c.args.b c.requires.count c.requires.cells
    c.args.u c.in-Group.field-0 c.args.base c.in-Group.field-1 c.in-Group.members c.is_wildcard-wild.result c.all_within-each.result c.total_ok-ok.result c.requires.base read c.requires.leaf low
    c.is_wildcard-wild.ensures (rw c.as_slice.ensures at c.all_within-each.ensures) (rw total at c.total_ok-ok.ensures))
