-- What a row is made of while its cells are written.
use Rattle.std.proofs.Common.{◌≡◌, ℕ, ◌+◌, ◌<◌, ◌≤◌, min, List, sym, ap, ◌∙◌, subst, refl, arith}
use Rattle.map_rows.specs.Piece.{Piece}
use Rattle.map_rows.specs.Places.{LiesIn, ChangesOnly, number}
use Rattle.map_rows.specs.Filling.{number_for, IsWithin, IsFilling, IsApart}
use Rattle.map_rows.specs.declared.place.Place.{Place}
use Rattle.map_rows.specs.declared.whole.Operation.{Operation}
use Rattle.map_rows.specs.declared.whole.Operation.TheVariants.{Composition, Sum}
use Rattle.map_rows.specs.declared.whole.Filling.{Filling}
use Rattle.map_rows.specs.declared.whole.Filling.TheVariants.{Alone, Pair}
use Rattle.map_rows.proofs.Frames.{stays_apart}

lies_still : (a b : List Piece) (k from n width : ℕ) (p : Place) → ChangesOnly a b k from n → LiesIn a p width → LiesIn b p width
lies_still a b k from n width p only l = record {
  block = rw only.blocks l.block;
  base = l.base ∙ sym (only.bases p.block);
  room = rw (only.sizes p.block) l.room;
  fits = l.fits;
}

module _ (a b : List Piece) (out : Place) (i width : ℕ) (only : ChangesOnly a b out.block out.start i) (le : i ≤ width) where
  within_still : (operation : Operation) (p q : Place) → IsApart out width (Pair operation p q) → IsWithin a width operation p → IsWithin b width operation p
  within_still Composition p q apart w = λ j l. subst (λ n. n < width) (sym (stays_apart a b out p i width j only le apart.0 l)) (w j l)
  within_still (Sum cap) p q apart w = tt

  pub filling_still : (filling : Filling) → IsApart out width filling → IsFilling a width filling → IsFilling b width filling
  filling_still (Alone plain) apart f = tt
  filling_still (Pair operation p q) apart f = record {
    first = lies_still a b out.block out.start i width p only f.first;
    second = lies_still a b out.block out.start i width q only f.second;
    within = within_still operation p q apart f.within;
  }

  pub number_still : (filling : Filling) (j : ℕ) → j < width → IsApart out width filling → IsFilling a width filling → number_for b filling j ≡ number_for a filling j
  number_still (Alone plain) j l apart f = refl
  number_still (Pair Composition p q) j l apart f =
      stays_apart a b out q i width (number b p.block (p.start + j)) only le apart.1 (within_still Composition p q apart f.within j l)
      ∙ ap (λ m. number a q.block (q.start + m)) (stays_apart a b out p i width j only le apart.0 l)
  number_still (Pair (Sum cap) p q) j l apart f =
      ap (λ x. min (x + number b q.block (q.start + j)) cap) (stays_apart a b out p i width j only le apart.0 l)
      ∙ ap (λ y. min (number a p.block (p.start + j) + y) cap) (stays_apart a b out q i width j only le apart.1 l)

-- fewer cells lie there too, in the same blocks
pub lies_within : (a bs b : List Piece) (p : Place) (n m : ℕ) → a ≡ bs → b ≡ bs → m ≤ n → LiesIn a p n → LiesIn b p m
lies_within a bs b p n m ea eb le l =
    let there : LiesIn b p n = subst (λ (x : List Piece). LiesIn x p n) (ea ∙ sym eb) l in
    record { block = there.block; base = there.base; room = let r = there.room in omega (arith, le, r); fits = let f = there.fits in omega (arith, le, f) }
