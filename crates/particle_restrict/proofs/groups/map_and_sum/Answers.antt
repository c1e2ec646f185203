use Rattle.std.proofs.Common.{sym, ◌∙◌}
use Rattle.std.proofs.lemmas.Bool.{false≢true}
use Rattle.particle_restrict.proofs.groups.map_and_sum.Goals as goal

pub returns-then-not-sum_ok : goal.returns-then-not-sum_ok
returns-then-not-sum_ok g c = ((λ h. absurd (false≢true h)), (λ h. absurd (false≢true (sym c.if-not-sum_ok.true ∙ c.sum_ok.ensures.1 h.range))))

pub returns : goal.returns
returns g c = (
  (λ h. record { range = c.sum_ok.ensures.0 c.if-not-sum_ok.false; each = c.each_restricts_some.ensures.some.0 h }),
  (λ h. c.each_restricts_some.ensures.some.1 h.each),
)
