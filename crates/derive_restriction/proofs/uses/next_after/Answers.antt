use Rattle.std.proofs.Common.{arith}
use Rattle.derive_restriction.proofs.uses.next_after.Goals as goal

pub returns-else-name-lt4294967295 : goal.returns-else-name-lt4294967295
returns-else-name-lt4294967295 c = record { next = λ t ids value also s u name a b. absurd (omega (arith, a, b, c.if-name-lt4294967295.false)) }
