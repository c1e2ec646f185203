use Rattle.std.proofs.Common.{◌<◌, length, get_or, ◌∙◌, arith}
use Rattle.xs_positions.proofs.Linking.{lists}
use Rattle.xs_positions.proofs.Sharing.{number_there, row_at}
use Rattle.xs_positions.proofs.shared.SharedRows.row.Goals as goal

pub index-number-requires : goal.index-number-requires
index-number-requires c =
    let l = number_there (lists c.self.inside.rows.items) c.self.inside.numbers.items c.args.place (rw (← c.self.view_is) at c.requires) in
    omega (arith, l, c.self.inside.numbers.ok.0)

pub index-requires : goal.index-requires
index-requires c =
    let l = number_there (lists c.self.inside.rows.items) c.self.inside.numbers.items c.args.place (rw (← c.self.view_is) at c.requires) in
    let t : get_or c.self.inside.numbers.items c.args.place c.index-number.result.now < length c.self.inside.rows.items = c.self.invariant c.args.place c.index-number.result.now l in
    omega (arith, t, c.index-number.ensures, c.self.inside.rows.ok.0)

pub returns : goal.returns
returns c =
    let within = rw (← c.self.view_is) at c.requires in
    let l = number_there (lists c.self.inside.rows.items) c.self.inside.numbers.items c.args.place within in
    let t : get_or c.self.inside.numbers.items c.args.place c.index-number.result.now < length c.self.inside.rows.items = c.self.invariant c.args.place c.index-number.result.now l in
    rw (← c.self.view_is) (c.deref.ensures.value ∙ row_at c.self.inside.rows.items c.self.inside.numbers.items c.args.place c.index-number.result.now c.index.result.now
    within c.index-number.ensures (omega (arith, t, c.index-number.ensures)) c.index.ensures)
