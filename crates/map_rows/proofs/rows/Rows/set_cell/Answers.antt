use Rattle.std.proofs.Common.{◌∙◌, ℕ, List, Some, subst, sym, set}
use Rattle.std.proofs.lemmas.List.{with_items_is}
use Rattle.std.specs.Vec.{with_items}
use Rattle.map_rows.specs.Rows.{Updates}
use Rattle.map_rows.specs.Kept.{row_of, row_map}
use Rattle.map_rows.proofs.Keeping.{live_said}
use Rattle.map_rows.proofs.Said.{Said, cell_said}
use Rattle.map_rows.proofs.rows.Rows.set_cell.Goals as goal

pub find-place-requires : goal.find-place-requires
find-place-requires c =
    let s = c.self.inside in
    let l = live_said s.width s.cap s.blocks.items s.live.marks c.args.self.now c.row.inside.number c.args.row c.requires.row.0 c.self.view_is c.row.view_is c.requires.row.1 in
    rw c.deref.ensures.value (c.self.invariant.placed c.row.inside.number l.0)

said : (c : goal.After-self-1) → Said c.self.inside.width c.self.inside.cap (with_items c.self.inside.blocks c.write.new.blocks).items c.self.inside.live.marks c.self.inside.spare c.args.self.now c.args.row
    (set (row_of c.self.inside.blocks.items c.self.inside.width c.row.inside.number) c.args.at c.args.value)
said c =
    let s = c.self.inside in
    let l = live_said s.width s.cap s.blocks.items s.live.marks c.args.self.now c.row.inside.number c.args.row c.requires.row.0 c.self.view_is c.row.view_is c.requires.row.1 in
    cell_said s.width s.cap s.blocks.items c.deref_mut.result.now c.write.new.blocks (with_items s.blocks c.write.new.blocks).items s.live.marks s.spare c.args.self.now c.find-place.result c.row.inside.number c.args.row c.args.at c.args.value
    c.self.invariant l.0 c.deref_mut.ensures.value c.find-place.ensures.block c.find-place.ensures.start c.write.ensures.frame c.write.ensures.value
    (rw (← c.self.view_is) at c.requires.at) (rw (← c.self.view_is) at c.requires.value) c.self.view_is c.row.view_is (with_items_is s.blocks c.write.new.blocks (c.write.ensures.frame.blocks ∙ c.deref_mut.ensures.len))

pub invariant_of-self : goal.invariant_of-self
invariant_of-self c = (said c).kept

pub returns-clause-row : goal.returns-clause-row
returns-clause-row c = λ xs e.
    let s = c.self.inside in
    let l = live_said s.width s.cap s.blocks.items s.live.marks c.args.self.now c.row.inside.number c.args.row xs c.self.view_is c.row.view_is e in
    subst (λ (ys : List ℕ). Updates c.args.self.now (row_map s.width s.cap (with_items s.blocks c.write.new.blocks).items s.live.marks) c.args.row (Some (set ys c.args.at c.args.value))) (sym l.1) (said c).row_is

pub returns-clause-rows : goal.returns-clause-rows
returns-clause-rows c = (said c).rows
