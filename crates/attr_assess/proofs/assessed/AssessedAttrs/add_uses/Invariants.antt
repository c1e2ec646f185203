use Rattle.std.proofs.Common.{◌≡◌, take}
use Rattle.attr_assess.specs.inside.Lists.{HoldsEach, IsUseJudged}
use Rattle.attr_assess.proofs.assessed.AssessedAttrs.add_uses.Given as goal

abbrev pub invariant-loop-added : goal.invariant-loop-added
invariant-loop-added l = record {
  held : HoldsEach (IsUseJudged l.schema.parts.now) (take l.added-index l.uses) l.fn.self l.self;
  same : l.types ≡ l.fn.types;
}
