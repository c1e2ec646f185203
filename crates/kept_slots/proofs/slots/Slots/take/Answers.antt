use Rattle.std.proofs.Common.{rules, ◌<◌, length, None, arith}
use Rattle.kept_slots.proofs.Reading.{seen-set}
use Rattle.kept_slots.proofs.slots.Slots.take.Goals as goal

pub returns-clause-change : goal.returns-clause-change
returns-clause-change g c =
    let lt : c.args.number < length c.self.inside.slots.items = first_of (omega (arith, c.if-number-len.false, c.len.ensures, c.self.inside.slots.ok.0), search rules) in
    rw (← c.self.view_is, c.replace.ensures.after) (seen-set (λ kept. kept.value) c.self.inside.slots.items c.args.number None lt)
