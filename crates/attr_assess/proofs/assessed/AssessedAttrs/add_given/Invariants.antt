use Rattle.std.proofs.Common.{◌≡◌, take}
use Rattle.attr_assess.specs.Assessed.{IsGivenJudged}
use Rattle.attr_assess.specs.inside.Lists.{HoldsEach}
use Rattle.attr_assess.proofs.assessed.AssessedAttrs.add_given.Given as goal

abbrev pub invariant-loop-attr : goal.invariant-loop-attr
invariant-loop-attr l = record {
  held : HoldsEach (IsGivenJudged l.schema.names.now l.schema.parts.now l.of l.scope) (take l.attr-index l.attrs) l.fn.self l.self;
  same : l.types ≡ l.fn.types;
}
