use Rattle.std.proofs.Common.{ap, ◌∙◌}
use Rattle.xs_positions.proofs.Linking.{lists}
use Rattle.xs_positions.proofs.Sharing.{cloned_there, cloned_rows}
use Rattle.xs_positions.proofs.shared.SharedRows.try_clone.Goals as goal

pub invariant_of-result : goal.invariant_of-result
invariant_of-result c =
    cloned_there c.self.inside.rows.items c.in_ok-rows.rows.items c.self.inside.numbers.items c.in_ok-numbers.numbers.items
    (c.in_ok-rows.ensures ∙ ap lists c.deref.ensures.value) (c.in_ok-numbers.ensures.items ∙ c.deref-2.ensures.value) c.self.invariant

pub returns : goal.returns
returns c =
    cloned_rows c.self.inside.rows.items c.in_ok-rows.rows.items c.self.inside.numbers.items c.in_ok-numbers.numbers.items
    (c.in_ok-rows.ensures ∙ ap lists c.deref.ensures.value) (c.in_ok-numbers.ensures.items ∙ c.deref-2.ensures.value) ∙ c.self.view_is
