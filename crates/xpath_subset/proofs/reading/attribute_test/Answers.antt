use Rattle.std.proofs.Common.{sym, subst}
use Rattle.std.specs.Option.{MatchOption}
use Rattle.xpath_subset.specs.inside.Lasts.{IsLastOf, EndsAtElement, EndsAtAttribute}
use Rattle.xpath_subset.proofs.Lasts.{at_sign, after_axis}
use Rattle.xpath_subset.proofs.reading.attribute_test.Goals as goal

pub returns-in-Some : goal.returns-in-Some
returns-in-Some c = subst (λ kind. EndsAtAttribute (IsLastOf kind) c.args.text.now c.in-Some.test.now) (sym c.in-Field.is) (at_sign c.args.text.now c.in-Some.test.now c.in-Some.ensures)

pub returns-in-None : goal.returns-in-None
returns-in-None c = subst (λ kind. MatchOption c.after-in-None.result (EndsAtElement (IsLastOf kind) c.args.text.now) (λ test. EndsAtAttribute (IsLastOf kind) c.args.text.now test.now)) (sym c.in-Field.is) (after_axis (λ t. t.now) c.args.text.now c.in-None.ensures c.after-in-None.result c.after-in-None.ensures)
