use Rattle.std.proofs.Common.{sym, ◌∙◌}
use Rattle.std.proofs.lemmas.Bool.{false≢true}
use Rattle.particle_restrict.proofs.groups.recurse.Goals as goal

pub returns-then-not-range_ok : goal.returns-then-not-range_ok
returns-then-not-range_ok g c = ((λ h. absurd (false≢true h)), (λ h. absurd (false≢true (sym c.if-not-range_ok.true ∙ c.range_ok.ensures.1 h.range))))

pub returns : goal.returns
returns g c = (
  (λ h. record { range = c.range_ok.ensures.0 c.if-not-range_ok.false; map = c.in_ok-fits.ensures.map.0 h }),
  (λ h. c.in_ok-fits.ensures.map.1 h.map),
)
