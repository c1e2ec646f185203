use Rattle.std.proofs.Common.{◌∙◌, List, sym, subst}
use Rattle.std.proofs.lemmas.List.{with_items_is}
use Rattle.std.specs.Vec.{with_items}
use Rattle.map_rows.specs.Piece.{Piece}
use Rattle.map_rows.specs.Rows.{AreRows}
use Rattle.map_rows.specs.Kept.{row_map}
use Rattle.map_rows.proofs.Keeping.{AreRows-kept}
use Rattle.map_rows.proofs.Turnover.{Taken, take_said}
use Rattle.map_rows.proofs.rows.Rows.take_row.Goals as goal

pub returns-in_err-number-clause-rows : goal.returns-in_err-number-clause-rows
returns-in_err-number-clause-rows c =
    let s = c.self.inside in
    subst (λ (bs : List Piece). AreRows (row_map s.width s.cap bs s.live.marks)) (sym c.in_err-number.ensures.blocks) (AreRows-kept s.width s.cap s.blocks.items s.live.marks s.spare c.self.invariant)

said : (c : goal.After-set) → Taken c.self.inside.width c.self.inside.cap (with_items c.take.new.blocks c.clear_link.new.blocks).items c.set.new.self.marks c.take.new.self c.args.self.now c.in_ok-number.number
said c =
    let s = c.self.inside in
    let new = c.clear_link.new.blocks in
    take_said s.width s.cap s.blocks.items c.take.new.blocks.items c.deref_mut.result.now new (with_items c.take.new.blocks new).items s.live.marks c.set.new.self.marks s.spare c.take.new.self c.args.self.now c.find-place.result c.in_ok-number.number
    c.self.invariant (c.in_ok-number.ensures.ok s.live.marks c.self.invariant.spared) c.deref_mut.ensures.value c.find-place.ensures.block c.find-place.ensures.start c.clear_link.ensures.frame c.clear_link.ensures.first c.clear_link.ensures.second
    c.self.view_is (with_items_is c.take.new.blocks new (c.clear_link.ensures.frame.blocks ∙ c.deref_mut.ensures.len)) c.set.ensures

pub invariant_of-self-2 : goal.invariant_of-self-2
invariant_of-self-2 c = (said c).kept

pub returns-clause-was_free : goal.returns-clause-was_free
returns-clause-was_free c = (said c).was_free

pub returns-clause-ok : goal.returns-clause-ok
returns-clause-ok c = (said c).is_row

pub returns-clause-rows : goal.returns-clause-rows
returns-clause-rows c = (said c).rows
