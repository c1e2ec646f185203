use Rattle.std.proofs.Common.{ap, ◌∙◌}
use Rattle.xs_names.specs.Names.{with_space}
use Rattle.plain_tree.proofs.Staying.{space_stays}
use Rattle.doc_changes.proofs.PlantedNames.{space_is}
use Rattle.doc_changes.proofs.naming.name_binding.Goals as goal

pub returns-clause-binding : goal.returns-clause-binding
returns-clause-binding c =
    let number = rw c.as_str.ensures at c.in_ok-namespace.ensures.number in
    λ i. record { prefix = c.in_ok-prefix.ensures i; namespace = space_is c.namespace_id.new.self c.in_ok-namespace.namespace c.args.binding.now.namespace number i }

pub returns-in_err-prefix-clause-known : goal.returns-in_err-prefix-clause-known
returns-in_err-prefix-clause-known c = λ h.
    let t = c.args.names.now in c.in_ok-namespace.ensures.table ∙ ap (with_space t) c.as_str.ensures ∙ space_stays t c.args.binding.now.namespace h

pub returns-clause-known : goal.returns-clause-known
returns-clause-known c = λ h.
    let t = c.args.names.now in c.in_ok-namespace.ensures.table ∙ ap (with_space t) c.as_str.ensures ∙ space_stays t c.args.binding.now.namespace h
