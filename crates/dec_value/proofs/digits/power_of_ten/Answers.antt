use Rattle.dec_value.proofs.Arithmetic.{ten_fits_unsigned}
use Rattle.dec_value.proofs.digits.power_of_ten.Goals as goal

pub pow-requires : goal.pow-requires
pow-requires c = ten_fits_unsigned c.args.exponent c.requires
