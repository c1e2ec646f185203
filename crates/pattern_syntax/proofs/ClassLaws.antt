-- Tests of groups of characters.
use Rattle.std.proofs.Common.{◌≡◌, Bool, true, false, not, cond, refl}
use mathlib.Core.Bool.{beq}

-- where the groups so far all have the character: whether the whole class has it, by what the class of the rest says
abbrev pub turned : Bool → Bool → Bool
turned true b = not b
turned false b = b

-- one test or its opposite
pub ne-if : (a n : Bool) → not (beq a n) ≡ cond n (not a) a
ne-if true true = refl
ne-if true false = refl
ne-if false true = refl
ne-if false false = refl
