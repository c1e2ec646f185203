use Rattle.std.proofs.Common.{None}
use Rattle.type_derivation.proofs.GrowLaws.{adds-none, there-if}
use Rattle.type_derivation.proofs.contents.base_content.Goals as goal

pub returns-in-Builtin-clause-added : goal.returns-in-Builtin-clause-added
returns-in-Builtin-clause-added c = adds-none c.args.parts.now c.requires.ranked None tt

pub returns-in-Simple-clause-added : goal.returns-in-Simple-clause-added
returns-in-Simple-clause-added c = adds-none c.args.parts.now c.requires.ranked None tt

pub returns-in-Complex-clause-added : goal.returns-in-Complex-clause-added
returns-in-Complex-clause-added c =
    adds-none c.args.parts.now c.requires.ranked c.content.result (there-if c.args.parts.now c.in-Complex.id c.content.result c.requires.contents c.content.ensures.content)
