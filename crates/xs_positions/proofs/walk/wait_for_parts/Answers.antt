use Rattle.std.proofs.Common.{◌≡◌, ◌++◌, replicate, ap, ◌∙◌}
use Rattle.xs_positions.specs.declared.walk.Task.TheVariants.{Visit}
use Rattle.xs_positions.proofs.Listed.{on_ok, visit_copies}
use Rattle.xs_positions.proofs.walk.wait_for_parts.Goals as goal

pub returns-in-Repeat : goal.returns-in-Repeat
returns-in-Repeat c = on_ok c.wait_for_copies.result (c.wait_for_copies.new.tasks.items ≡ c.args.tasks.now.items ++ replicate c.copies.result (Visit c.in-Repeat.part)) _
    (λ h. rw c.in-Repeat.is (h ∙ ap (λ l. c.args.tasks.now.items ++ l) (visit_copies _ _ c.in-Repeat.part c.copies.ensures))) c.wait_for_copies.ensures
