use Rattle.std.proofs.Common.{◌∙◌, ap, subst, sym}
use Rattle.std.proofs.lemmas.List.{with_items_is}
use Rattle.std.specs.Vec.{with_items}
use Rattle.map_rows.specs.Filling.{CanFill, plain_number, plain_row}
use Rattle.map_rows.specs.Rows.{RowMap}
use Rattle.map_rows.specs.Kept.{row_map}
use Rattle.map_rows.proofs.Keeping.{live_said}
use Rattle.map_rows.proofs.Made.{plain_small, plain_is}
use Rattle.map_rows.proofs.Said.{Said, whole_said}
use Rattle.map_rows.proofs.rows.Rows.fill.Goals as goal

pub find-place-requires : goal.find-place-requires
find-place-requires c =
    let s = c.self.inside in
    let l = live_said s.width s.cap s.blocks.items s.live.marks c.args.self.now c.row.inside.number c.args.row c.requires.row.0 c.self.view_is c.row.view_is c.requires.row.1 in
    rw c.deref.ensures.value (c.self.invariant.placed c.row.inside.number l.0)

said : (c : goal.After-self-1) → Said c.self.inside.width c.self.inside.cap (with_items c.self.inside.blocks c.write_row.new.blocks).items c.self.inside.live.marks c.self.inside.spare c.args.self.now c.args.row (plain_row c.args.self.now.width c.args.plain)
said c =
    let s = c.self.inside in
    let l = live_said s.width s.cap s.blocks.items s.live.marks c.args.self.now c.row.inside.number c.args.row c.requires.row.0 c.self.view_is c.row.view_is c.requires.row.1 in
    let can = subst (λ (v : RowMap). CanFill v c.args.plain) (sym c.self.view_is) c.requires.plain in
    whole_said s.width s.cap s.blocks.items c.deref_mut.result.now c.write_row.new.blocks (with_items s.blocks c.write_row.new.blocks).items s.live.marks s.spare c.args.self.now c.find-place.result c.row.inside.number c.args.row (plain_number c.args.plain) (plain_row c.args.self.now.width c.args.plain)
    c.self.invariant l.0 c.deref_mut.ensures.value c.find-place.ensures.block c.find-place.ensures.start c.write_row.ensures.frame c.write_row.ensures.value
    (plain_small (row_map s.width s.cap s.blocks.items s.live.marks) c.args.plain can) (plain_is s.width c.args.plain ∙ ap (λ (v : RowMap). plain_row v.width c.args.plain) c.self.view_is) c.self.view_is c.row.view_is
    (with_items_is s.blocks c.write_row.new.blocks (c.write_row.ensures.frame.blocks ∙ c.deref_mut.ensures.len))

pub invariant_of-self : goal.invariant_of-self
invariant_of-self c = (said c).kept

pub returns-clause-row : goal.returns-clause-row
returns-clause-row c = (said c).row_is

pub returns-clause-rows : goal.returns-clause-rows
returns-clause-rows c = (said c).rows
