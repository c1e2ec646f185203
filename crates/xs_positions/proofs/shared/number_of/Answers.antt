use Rattle.std.proofs.Common.{◌∙◌}
use Rattle.xs_positions.proofs.Sharing.{known_row, row_pushed}
use Rattle.xs_positions.proofs.shared.number_of.Goals as goal

pub returns-then-is_at : goal.returns-then-is_at
returns-then-is_at c =
    let is = rw (c.deref.ensures.value, c.deref-2.ensures.value) at (c.is_at.ensures c.if-is_at.true) in
    known_row c.args.rows.now.items c.args.row.items c.args.known is.0 is.1

pub returns : goal.returns
returns c = row_pushed c.args.rows.now.items c.push.new.self.items c.args.row c.len-number.result (c.len-number.ensures ∙ c.args.rows.now.ok.0) c.in_ok-push.ensures.items
