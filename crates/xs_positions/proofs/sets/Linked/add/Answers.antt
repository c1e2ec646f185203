use Rattle.std.proofs.Common.{◌++◌, drop, ap, ◌∙◌}
use Rattle.std.proofs.lemmas.List.{take_rest}
use Rattle.xs_positions.proofs.Linking.{added_apart}
use Rattle.xs_positions.proofs.sets.Linked.add.Goals as goal

pub returns : goal.returns
returns c =
    added_apart c.requires.0 c.args.numbers.now c.args.row.now.items c.extend_from_slice-3.new.self.items c.args.p c.args.self.now c.requires.1 (c.has.ensures.0 c.if-not-has.false)
    (rw (take_rest c.args.numbers.now c.args.self.now.end) at c.in_ok-extend_from_slice-3.ensures.items ∙ ap (λ xs. xs ++ drop c.args.self.now.end c.args.numbers.now) c.in_ok-extend_from_slice-2.ensures.items)
