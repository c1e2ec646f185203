use Rattle.std.proofs.Common.{◌≡◌, rules}
use Rattle.dec_value.specs.Decimal.{total_digits_of}
use Rattle.dec_value.proofs.Numerals.{total-admits}
use Rattle.dec_value.proofs.decimal.Dec.total_digits.Goals as goal

pub returns-clause-admits : goal.returns-clause-admits
returns-clause-admits c =
    let e : c.max.result ≡ total_digits_of c.args.self.now = search rules in total-admits c.args.self.now c.max.result e
