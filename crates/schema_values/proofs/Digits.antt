-- Numbers of digits that are not told apart above a cap.
use Rattle.std.proofs.Common.{◌≡◌, ℕ, ◌+◌, ◌-◌, ◌*◌, ◌<◌, List, [], ◌∷◌, length, drop, get_or, min, true, arith, refl, ◌∙◌, sym, add-one, drop-cons, suc}
use Rattle.std.specs.List.{list_all}
use Rattle.schema_values.specs.Values.{number_from, is_digit}

pub number_capped : (cap : ℕ) (ds : List ℕ) (a b : ℕ) → min cap a ≡ min cap b → min cap (number_from a ds) ≡ min cap (number_from b ds)
number_capped cap [] a b e = e
number_capped cap (d ∷ ds) a b e = number_capped cap ds (a * 10 + (d - 48)) (b * 10 + (d - 48)) (omega arith)

number_step : (cap : ℕ) (d : ℕ) (ds : List ℕ) (a m : ℕ) → m ≡ min cap (a * 10 + (d - 48)) → min cap (number_from m ds) ≡ min cap (number_from a (d ∷ ds))
number_step cap d ds a m e = number_capped cap ds m (a * 10 + (d - 48)) (omega arith)

pub number_next : (cap : ℕ) (bytes : List ℕ) (i a m : ℕ) → i < length bytes → m ≡ min cap (a * 10 + (get_or bytes i 0 - 48))
    → min cap (number_from a (drop i bytes)) ≡ min cap (number_from 0 bytes) → min cap (number_from m (drop (i + 1) bytes)) ≡ min cap (number_from 0 bytes)
number_next cap bytes i a m h e so_far =
    rw add-one (number_step cap (get_or bytes i 0) (drop (suc i) bytes) a m e ∙ (rw (drop-cons bytes i 0) at so_far))

pub digits_next : (bytes : List ℕ) (i : ℕ) → i < length bytes → is_digit (get_or bytes i 0) ≡ true
    → list_all is_digit (drop i bytes) ≡ list_all is_digit bytes → list_all is_digit (drop (i + 1) bytes) ≡ list_all is_digit bytes
digits_next bytes i h d so_far = rw add-one (let step = rw (drop-cons bytes i 0) at so_far in rw d at step)
