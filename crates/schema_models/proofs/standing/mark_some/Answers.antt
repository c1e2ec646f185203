use Rattle.std.proofs.Common.{◌≡◌, ℕ, Some, set, true, sym, subst}
use Rattle.schema_models.specs.inside.Marks.{IsMarkedMore}
use Rattle.schema_models.proofs.MarkLaws.{some-more, nothing-more}
use Rattle.schema_models.proofs.standing.mark_some.Goals as goal

pub returns-in-Some : goal.returns-in-Some
returns-in-Some c =
    subst (λ (x : ℕ). IsMarkedMore (λ k. c.args.id ≡ Some k) c.args.marks.now (set c.args.marks.now x true)) (sym c.number.ensures)
    (some-more c.args.id c.in-Some.id c.args.marks.now c.in-Some.is (c.requires.there c.in-Some.id c.in-Some.is))

pub returns-in-None : goal.returns-in-None
returns-in-None c = nothing-more c.args.id c.args.marks.now c.in-None.is
