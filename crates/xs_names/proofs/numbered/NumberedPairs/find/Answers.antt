use Rattle.std.proofs.Common.{◌∙◌}
use Rattle.xs_names.specs.Numbering.{same_pair}
use Rattle.xs_names.specs.Pairs.{numbers}
use Rattle.xs_names.proofs.NumberingLaws.{position-map}
use Rattle.xs_names.proofs.numbered.NumberedPairs.find.Goals as goal

pub returns-in-None : goal.returns-in-None
returns-in-None c =
    rw (← c.self.view_is) (c.in-None.ensures.index ∙ position-map numbers (same_pair (numbers c.args.pair)) c.self.inside.inner)

pub returns-in-Some : goal.returns-in-Some
returns-in-Some c =
    rw (← c.self.view_is) (c.in-Some.ensures.index ∙ position-map numbers (same_pair (numbers c.args.pair)) c.self.inside.inner)
