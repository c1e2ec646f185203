-- The bounds of the types of integers, their facets minInclusive and maxInclusive: Datatypes 3.3.13 to 3.3.25. A number
-- past them is the value of a literal, and these facets refuse it: cvc-minInclusive-valid, cvc-maxInclusive-valid.
use Rattle.std.specs.Prelude.{Some, None, ℤ, pos, negsuc}
use Rattle.xs_codes.specs.declared.builtin.Builtin.{Builtin}
use Rattle.xs_codes.specs.declared.builtin.Builtin.TheVariants as types
use Rattle.dec_value.specs.Decimal.{Decimal}
use Rattle.simple_values.specs.declared.bounds.Bounds.{Bounds}

-- the number that an integer is
abbrev pub whole : ℤ → Decimal
whole n = record { unscaled = n; scale = 0 }

abbrev pub between : ℤ → ℤ → Bounds
between least greatest = record { least = Some (whole least); greatest = Some (whole greatest) }

abbrev pub from : ℤ → Bounds
from least = record { least = Some (whole least); greatest = None }

abbrev pub up_to : ℤ → Bounds
up_to greatest = record { least = None; greatest = Some (whole greatest) }

abbrev pub everywhere : Bounds
everywhere = record { least = None; greatest = None }

-- the bounds of 8, 16, 32 and 64 bits with a sign and without, and those on one side; negsuc n is -1 - n
abbrev pub bounds_of : Builtin → Bounds
bounds_of types.Byte = between (negsuc 127) (pos 127)
bounds_of types.Short = between (negsuc 32_767) (pos 32_767)
bounds_of types.Int = between (negsuc 2_147_483_647) (pos 2_147_483_647)
bounds_of types.Long = between (negsuc 9_223_372_036_854_775_807) (pos 9_223_372_036_854_775_807)
bounds_of types.UnsignedByte = between (pos 0) (pos 255)
bounds_of types.UnsignedShort = between (pos 0) (pos 65_535)
bounds_of types.UnsignedInt = between (pos 0) (pos 4_294_967_295)
bounds_of types.UnsignedLong = between (pos 0) (pos 18_446_744_073_709_551_615)
bounds_of types.NonPositiveInteger = up_to (pos 0)
bounds_of types.NegativeInteger = up_to (negsuc 0)
bounds_of types.NonNegativeInteger = from (pos 0)
bounds_of types.PositiveInteger = from (pos 1)
bounds_of _ = everywhere
