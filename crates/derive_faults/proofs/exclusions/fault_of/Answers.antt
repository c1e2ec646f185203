use Rattle.std.proofs.Common.{◌∙◌}
use Rattle.element_declarations.proofs.HeadLaws.{head-is, named-below}
use Rattle.derive_faults.proofs.exclusions.fault_of.Goals as goal

pub is_derived-requires-clause-there : goal.is_derived-requires-clause-there
is_derived-requires-clause-there c =
    (named-below c.args.parts.now c.requires.ranked c.args.element c.in-Some.head (head-is c.args.parts.now c.args.element c.element-part.result.now c.element-part.ensures.part ∙ c.in-Some.is)).there
