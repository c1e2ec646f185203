use Rattle.std.proofs.Common.{◌∙◌, max, List, subst, sym}
use Rattle.std.proofs.lemmas.List.{with_items_is}
use Rattle.std.specs.Vec.{with_items}
use Rattle.map_rows.specs.Free.{AreSpare}
use Rattle.map_rows.specs.Piece.{Piece}
use Rattle.map_rows.specs.Places.{IsPlace}
use Rattle.map_rows.proofs.Keeping.{live_said}
use Rattle.map_rows.proofs.Turnover.{Gives, give_said}
use Rattle.map_rows.proofs.rows.Rows.give_row.Goals as goal

pub give-requires : goal.give-requires
give-requires c =
    let s = c.self.inside in
    let stride = max s.width 2 in
    let l = live_said s.width s.cap s.blocks.items s.live.marks c.args.self.now c.row.inside.number c.args.row c.requires.0 c.self.view_is c.row.view_is c.requires.1 in
    let back = sym c.deref_mut.ensures.value in (
      s.live.marks,
      subst (λ (bs : List Piece). AreSpare bs stride s.live.marks s.spare) back c.self.invariant.spared,
      l.0,
      subst (λ (bs : List Piece). IsPlace bs stride c.row.inside.number) back (c.self.invariant.placed c.row.inside.number l.0),
    )

said : (c : goal.After-set) → Gives c.self.inside.width c.self.inside.cap (with_items c.self.inside.blocks c.give.new.blocks).items c.set.new.self.marks c.give.new.self c.args.self.now c.args.row
said c =
    let s = c.self.inside in
    let stride = max s.width 2 in
    let l = live_said s.width s.cap s.blocks.items s.live.marks c.args.self.now c.row.inside.number c.args.row c.requires.0 c.self.view_is c.row.view_is c.requires.1 in
    let back = sym c.deref_mut.ensures.value in
    let spared = c.give.ensures.spare s.live.marks (subst (λ (bs : List Piece). AreSpare bs stride s.live.marks s.spare) back c.self.invariant.spared) l.0 in
    give_said s.width s.cap s.blocks.items c.deref_mut.result.now c.give.new.blocks (with_items s.blocks c.give.new.blocks).items s.live.marks c.set.new.self.marks s.spare c.give.new.self c.args.self.now c.row.inside.number c.args.row
    c.self.invariant l.0 c.deref_mut.ensures.value c.give.ensures.frame spared c.self.view_is c.row.view_is (with_items_is s.blocks c.give.new.blocks (c.give.ensures.frame.blocks ∙ c.deref_mut.ensures.len)) c.set.ensures

pub invariant_of-self : goal.invariant_of-self
invariant_of-self c = (said c).kept

pub returns-clause-row : goal.returns-clause-row
returns-clause-row c = (said c).row_is

pub returns-clause-rows : goal.returns-clause-rows
returns-clause-rows c = (said c).rows
