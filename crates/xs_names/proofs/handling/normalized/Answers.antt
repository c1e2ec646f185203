use Rattle.std.proofs.Common.{◌∙◌}
use Rattle.xs_names.specs.declared.handling.WhiteSpace.TheVariants.{Replace, Collapse}
use Rattle.xs_names.proofs.Again.{same_items}
use Rattle.xs_names.proofs.handling.normalized.Goals as goal

pub returns-in_ok-from_string-in-Replace-clause-items : goal.returns-in_ok-from_string-in-Replace-clause-items
returns-in_ok-from_string-in-Replace-clause-items c = same_items Replace c.args.text.now _ (c.in_ok-from_string-in-Replace.ensures ∙ c.in_ok-replaced-in-Replace.ensures)

pub returns-in_ok-from_string-in-Collapse-clause-items : goal.returns-in_ok-from_string-in-Collapse-clause-items
returns-in_ok-from_string-in-Collapse-clause-items c = same_items Collapse c.args.text.now _ (c.in_ok-from_string-in-Collapse.ensures ∙ c.in_ok-collapsed-in-Collapse.ensures)
