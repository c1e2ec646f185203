-- The rows that are made of no other, and of two.
use Rattle.std.proofs.Common.{◌≡◌, ℕ, ◌+◌, ◌<◌, ◌≤◌, min, List, refl, ap, ◌∙◌, arith}
use Rattle.map_rows.specs.Piece.{Piece}
use Rattle.map_rows.specs.Places.{number}
use Rattle.map_rows.specs.Rows.{RowMap, values_from}
use Rattle.map_rows.specs.Filling.{plain_number, pair_number, IsWithin, CanFill, CanPair, plain_row, pair_row}
use Rattle.map_rows.specs.declared.place.Place.{Place}
use Rattle.map_rows.specs.declared.whole.Plain.{Plain}
use Rattle.map_rows.specs.declared.whole.Plain.TheVariants.{Zeros, Places}
use Rattle.map_rows.specs.declared.whole.Operation.{Operation}
use Rattle.map_rows.specs.declared.whole.Operation.TheVariants.{Composition, Sum}
use Rattle.map_rows.proofs.Lists.{values-zeros}
use Rattle.map_rows.proofs.Said.{composition_is, sums_are}

pub plain_small : (v : RowMap) (plain : Plain) → CanFill v plain → (i : ℕ) → i < v.width → plain_number plain i ≤ v.cap
plain_small v Zeros can i l = omega arith
plain_small v Places can i l = omega (arith, can, l)

pub plain_is : (width : ℕ) (plain : Plain) → values_from (plain_number plain) 0 width ≡ plain_row width plain
plain_is width Zeros = values-zeros 0 width
plain_is width Places = refl

-- what two functions give together depends on their values alone
pub pair_alike : (operation : Operation) (f f' g g' : ℕ → ℕ) → ((k : ℕ) → f k ≡ f' k) → ((k : ℕ) → g k ≡ g' k) → (i : ℕ) → pair_number operation f g i ≡ pair_number operation f' g' i
pair_alike Composition f f' g g' ef eg i = eg (f i) ∙ ap g' (ef i)
pair_alike (Sum cap) f f' g g' ef eg i = ap (λ x. min (x + g i) cap) (ef i) ∙ ap (λ y. min (f' i + y) cap) (eg i)

module _ (v : RowMap) (f : ℕ → ℕ) (small : (i : ℕ) → i < v.width → f i ≤ v.cap) where
  pub pair_small : (operation : Operation) (g : ℕ → ℕ) → CanPair v operation → ((i : ℕ) → i < v.width → g i ≤ v.cap) → (i : ℕ) → i < v.width → pair_number operation f g i ≤ v.cap
  pair_small Composition g can also i l = also (f i) (let s = small i l in omega (arith, s, can))
  pair_small (Sum cap) g can also i l = omega (arith, can)

  pub pair_is : (operation : Operation) (g : ℕ → ℕ) → CanPair v operation → values_from (pair_number operation f g) 0 v.width ≡ pair_row operation (values_from f 0 v.width) (values_from g 0 v.width)
  pair_is Composition g can = composition_is f g v.width (λ i l. let s = small i l in omega (arith, s, can))
  pair_is (Sum cap) g can = sums_are cap f g v.width

  pub pair_within : (a : List Piece) (p : Place) (operation : Operation) → CanPair v operation → ((i : ℕ) → number a p.block (p.start + i) ≡ f i) → IsWithin a v.width operation p
  pair_within a p Composition can read = λ i l. let s = small i l in let r = read i in omega (arith, r, s, can)
  pair_within a p (Sum cap) can read = tt
