use Rattle.kept_targets.proofs.finding.touched_by.Goals as goal

pub returns : goal.returns
returns c =
    (record { targets = c.new.result; scopes = c.new-2.result }, c.new.ensures.items, c.new-2.ensures.items, c.in_ok-add_touching.ensures)
