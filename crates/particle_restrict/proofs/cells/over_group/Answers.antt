use Rattle.std.proofs.Common.{[], ℕ, length, get_or, sym, ap, ◌∙◌, arith}
use Rattle.std.proofs.lemmas.Bool.{false≢true}
use Rattle.particle_models.specs.Parts.{trees_from}
use Rattle.particle_models.specs.declared.part.Part.TheVariants.{Leaf, Group}
use Rattle.particle_restrict.proofs.TotalLaws.{totals-length}
use Rattle.particle_restrict.proofs.MemberLaws.{length-emptiable}
use Rattle.particle_restrict.proofs.CellLaws.{row_below, have-below, part-read, members-read, leaf-group, group-group}
use Rattle.particle_restrict.proofs.cells.over_group.Goals as goal

pub emptiable_of-requires : goal.emptiable_of-requires
emptiable_of-requires g c k d l =
    let e = totals-length c.args.sides.now.base_totals.now c.args.sides.now.base.now c.requires.sides.base_ranges in
    let h = c.requires.base k d l in omega arith

pub returns-then-not-is_element : goal.returns-then-not-is_element
returns-then-not-is_element g c =
    let read = part-read c.args.sides.now.derived.now c.args.d c.index-sides-d.result c.requires.sides.ordered c.requires.there c.index-sides-d.is (Leaf c.in-Leaf.field-0 c.in-Leaf.t) (c.index-sides-d.is ∙ c.in-Leaf.is) in
    ((λ h. absurd (false≢true h)), (λ r. absurd (false≢true (sym c.if-not-is_element.true ∙ c.is_element.ensures.1 (rw read at r).0))))

pub group_restricts-requires-clause-base : goal.group_restricts-requires-clause-base
group_restricts-requires-clause-base g c =
    let flags = c.in_ok-emptiable.ensures (trees_from [] c.args.sides.now.base.now) c.requires.sides.base_ranges in
    ap length (c.deref.ensures.value ∙ flags) ∙ length-emptiable (trees_from [] c.args.sides.now.base.now) c.args.base_members.now

pub returns-in-Leaf : goal.returns-in-Leaf
returns-in-Leaf g c =
    let read = part-read c.args.sides.now.derived.now c.args.d c.index-sides-d.result c.requires.sides.ordered c.requires.there c.index-sides-d.is (Leaf c.in-Leaf.field-0 c.in-Leaf.t) (c.index-sides-d.is ∙ c.in-Leaf.is) in
    let flags = c.in_ok-emptiable.ensures (trees_from [] c.args.sides.now.base.now) c.requires.sides.base_ranges in
    let law = leaf-group c.args.sides.now.terms.now (g.T.Derivation.derives c.args.sides.now.types.now) c.args.sides.now.derived.now c.args.sides.now.base.now c.args.d c.in-Leaf.t c.in-Leaf.field-0 c.args.base c.args.base_compositor c.args.base_members.now
    read (c.is_element.ensures.0 c.if-not-is_element.false) in
    let is = rw (c.once.ensures.once, c.deref.ensures.value, flags) at c.in_ok-fits-in-Leaf.ensures in
    ((λ h. law.1 (is.0 h)), (λ h. is.1 (law.0 h)))

pub group_restricts-requires-in-Group-clause-valid : goal.group_restricts-requires-in-Group-clause-valid
group_restricts-requires-in-Group-clause-valid g c =
    let low = members-read c.args.sides.now.derived.now c.args.d c.index-sides-d.result c.requires.sides.ordered c.requires.there c.index-sides-d.is (Group c.in-Group.bounds c.in-Group.compositor c.in-Group.members) (c.index-sides-d.is ∙ c.in-Group.is) in
    let n : ℕ = length c.args.sides.now.base.now in
    rw c.as_slice.ensures (have-below c.args.sides.now.terms.now (g.T.Derivation.derives c.args.sides.now.types.now) c.args.sides.now.derived.now c.args.sides.now.base.now c.args.cells.now c.in-Group.members c.args.base_members.now
    c.requires.cells
    (λ i j l m. let k = row_below (get_or c.in-Group.members i 0) c.args.d n (get_or c.args.base_members.now j 0) (low i 0 l) (c.requires.base j 0 m) in let h = c.requires.members j 0 m in omega arith)
    c.requires.base)

pub group_restricts-requires-in-Group-clause-base : goal.group_restricts-requires-in-Group-clause-base
group_restricts-requires-in-Group-clause-base g c =
    let flags = c.in_ok-emptiable.ensures (trees_from [] c.args.sides.now.base.now) c.requires.sides.base_ranges in
    ap length (c.deref-in-Group.ensures.value ∙ flags) ∙ length-emptiable (trees_from [] c.args.sides.now.base.now) c.args.base_members.now

pub returns : goal.returns
returns g c =
    let read = part-read c.args.sides.now.derived.now c.args.d c.index-sides-d.result c.requires.sides.ordered c.requires.there c.index-sides-d.is (Group c.in-Group.bounds c.in-Group.compositor c.in-Group.members) (c.index-sides-d.is ∙ c.in-Group.is) in
    let flags = c.in_ok-emptiable.ensures (trees_from [] c.args.sides.now.base.now) c.requires.sides.base_ranges in
    let law = group-group c.args.sides.now.terms.now (g.T.Derivation.derives c.args.sides.now.types.now) c.args.sides.now.derived.now c.args.sides.now.base.now c.args.d c.in-Group.bounds c.args.base c.in-Group.compositor c.args.base_compositor
    c.in-Group.members c.args.base_members.now read in
    let is = rw (c.len.ensures, c.as_slice.ensures, c.deref-in-Group.ensures.value, flags) at c.in_ok-fits-in-Group.ensures in
    ((λ h. law.1 (is.0 h)), (λ h. is.1 (law.0 h)))
