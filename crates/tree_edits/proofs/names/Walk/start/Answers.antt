use Rattle.std.proofs.Common.{ap, ◌++◌, ◌∙◌}
use Rattle.tree_edits.proofs.Scoping.{joined_one, started}
use Rattle.tree_edits.proofs.names.Walk.start.Goals as goal

pub returns-clause-names : goal.returns-clause-names
returns-clause-names c =
    started c.args.self.now.names c.and_tag-self.result c.args.self.now.scope c.bind_all.new.self c.in_ok-bindings.field-0.bindings c.args.self.now.sizes.items
    c.push.new.self.items c.len.result (record { name = c.in_ok-try_clone.field-0; attributes = c.in_ok-lines_of.field-0 }) c.args.name.now c.args.rest.now
    c.in_ok-try_clone.ensures c.in_ok-lines_of.ensures
    (c.and_tag-self.ensures
    ∙ joined_one c.args.self.now.names (record { scope = c.args.self.now.scope; tag = record { name = c.in_ok-try_clone.field-0; attributes = c.in_ok-lines_of.field-0 } }) c.in_ok-bindings.field-0.faults
    c.in_ok-bindings.ensures.faults)
    c.in_ok-bindings.ensures.bindings
    (c.in_ok-bind_all.ensures.ok ∙ ap (λ b. b ++ c.args.self.now.scope) c.as_slice.ensures) c.len.ensures c.in_ok-push.ensures.items
