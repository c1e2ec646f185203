use Rattle.std.proofs.Common.{sym, ◌∙◌}
use Rattle.particle_restrict.proofs.leaves.keeps_properties.Goals as goal

pub returns : goal.returns
returns c = (
  (λ h. record {
    name = c.has_name.ensures.0 c.if-not-has_name.false;
    nillable = c.follows.ensures.0 c.if-not-follows.false;
    fixed = c.keeps_fixed.ensures.0 c.if-not-keeps_fixed.false;
    constraints = rw (c.as_slice.ensures, c.as_slice-2.ensures) at (sym c.are_among.ensures ∙ c.if-not-are_among.false);
    blocks = c.is_superset.ensures.0 h;
  }),
  (λ r. c.is_superset.ensures.1 r.blocks),
)
