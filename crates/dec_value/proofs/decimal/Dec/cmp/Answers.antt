use Rattle.dec_value.proofs.Arithmetic.{compared_bits, compared_back}
use Rattle.dec_value.proofs.Reading.{equal_where_one}
use Rattle.dec_value.proofs.decimal.Dec.cmp.Goals as goal

pub returns-then-self-other : goal.returns-then-self-other
returns-then-self-other c = rw (← c.self.view_is, ← c.other.view_is)
    (let order = compared_bits c.self.inside.unscaled c.other.inside.unscaled c.self.inside.scale c.other.inside.scale c.compare_shifted.result
    c.self.invariant.narrow c.other.invariant.narrow c.if-self-other.true c.compare_shifted.ensures in
    record { value = order; equal = equal_where_one _ _ c.self.invariant c.other.invariant _ order })

pub returns-else-self-other : goal.returns-else-self-other
returns-else-self-other c = rw (← c.self.view_is, ← c.other.view_is)
    (let order = compared_back c.self.inside.unscaled c.other.inside.unscaled c.self.inside.scale c.other.inside.scale
    c.compare_shifted-else-self-other.result c.reverse.result c.self.invariant.narrow c.other.invariant.narrow
    c.if-self-other.false c.reverse.ensures c.compare_shifted-else-self-other.ensures in
    record { value = order; equal = equal_where_one _ _ c.self.invariant c.other.invariant _ order })
