use Rattle.std.proofs.Common.{ap, ◌∙◌}
use Rattle.attr_uses.specs.Uses.{use_named}
use Rattle.attr_uses.proofs.tables.AttrTables.use_named.Goals as goal

pub returns : goal.returns
returns c = record {
  named = λ t ids value s. c.use_numbered.ensures.named t ids value s ∙ ap (use_named t value.uses) c.number.ensures;
}
