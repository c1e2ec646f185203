-- How many binary digits a number has.
use Rattle.std.specs.Prelude.{ℕ, zero, suc, ◌/◌}

-- the digits of a number that has at most this many
abbrev pub bits_up_to : ℕ → ℕ → ℕ
bits_up_to zero n = 0
bits_up_to (suc most) zero = 0
bits_up_to (suc most) (suc n) = suc (bits_up_to most (suc n / 2))

-- the number of binary digits, which for 0 is 0
abbrev pub bits : ℕ → ℕ
bits n = bits_up_to n n
