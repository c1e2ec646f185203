use Rattle.std.proofs.Common.{arith, eqb-true}
use Rattle.xs_positions.proofs.Linking.{lists}
use Rattle.xs_positions.proofs.Sharing.{number_there, one_row}
use Rattle.xs_positions.proofs.shared.SharedRows.is_one.Goals as goal

pub index-one-requires : goal.index-one-requires
index-one-requires c =
    let within = rw (← c.self.view_is) at c.requires in
    let l = number_there (lists c.self.inside.rows.items) c.self.inside.numbers.items c.args.place within.0 in
    omega (arith, l, c.self.inside.numbers.ok.0)

pub index-two-requires : goal.index-two-requires
index-two-requires c =
    let within = rw (← c.self.view_is) at c.requires in
    let l = number_there (lists c.self.inside.rows.items) c.self.inside.numbers.items c.args.other within.1 in
    omega (arith, l, c.self.inside.numbers.ok.0)

pub returns : goal.returns
returns c = λ t.
    let within = rw (← c.self.view_is) at c.requires in
    rw (← c.self.view_is) (one_row (lists c.self.inside.rows.items) c.self.inside.numbers.items c.args.place c.args.other c.index-one.result.now c.index-two.result.now
    within.0 within.1 c.index-one.ensures c.index-two.ensures (eqb-true c.index-one.result.now c.index-two.result.now t))
