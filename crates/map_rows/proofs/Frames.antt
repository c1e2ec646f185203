-- Blocks after some writes.
use Rattle.std.proofs.Common.{◌≡◌, ℕ, ◌+◌, ◌-◌, ◌^◌, ◌<◌, ◌≤◌, min, List, sym, ◌∙◌, subst, inl, inr, arith}
use Rattle.std.proofs.lemmas.Bool.{cases_eq}
use Rattle.map_rows.specs.Piece.{Piece}
use Rattle.map_rows.specs.Places.{ChangesOnly, AreApart, number}
use Rattle.map_rows.specs.declared.place.Place.{Place}

-- one cell more was written
pub ChangesOnly-more : (a b c : List Piece) (k from i : ℕ) → ChangesOnly a b k from i → ChangesOnly b c k (from + i) 1 → ChangesOnly a c k from (i + 1)
ChangesOnly-more a b c k from i x y = record {
  blocks = y.blocks ∙ x.blocks;
  bases = λ j. y.bases j ∙ x.bases j;
  sizes = λ j. y.sizes j ∙ x.sizes j;
  others = λ j m out. y.others j m (elim out [
    | inl n ↦ inl n
    | inr far ↦ inr (elim far [ inl l ↦ inl (omega (arith, l)) | inr g ↦ inr (omega (arith, g)) ])
  ]) ∙ x.others j m (elim out [
    | inl n ↦ inl n
    | inr far ↦ inr (elim far [ inl l ↦ inl l | inr g ↦ inr (omega (arith, g)) ])
  ]);
}

pub written_more : (b c : List Piece) (k from i : ℕ) (f : ℕ → ℕ) → ((j : ℕ) → j < i → number b k (from + j) ≡ f j) → ChangesOnly b c k (from + i) 1 → number c k (from + i) ≡ f i
    → (j : ℕ) → j < i + 1 → number c k (from + j) ≡ f j
written_more b c k from i f before only now j l = elim (cases_eq j i) [
  | inl e ↦ subst (λ n. number c k (from + n) ≡ f n) (sym e) now
  | inr n ↦ (let less : j < i = omega (arith, n, l) in only.others k (from + j) (inr (inl (omega (arith, less)))) ∙ before j less)
]

-- a row that lies apart is as before
pub stays_apart : (a b : List Piece) (out p : Place) (i n j : ℕ) → ChangesOnly a b out.block out.start i → i ≤ n → AreApart out p n → j < n → number b p.block (p.start + j) ≡ number a p.block (p.start + j)
stays_apart a b out p i n j only le apart l = only.others p.block (p.start + j) (elim apart [
  | inl other ↦ inl (λ e. other (sym e))
  | inr far ↦ inr (elim far [ inl past ↦ inr (omega (arith, past, le)) | inr below ↦ inl (omega (arith, below, l)) ])
])

-- a sum that stops at the greatest u16 and then at the cap is one that stops at the cap
pub capped_sum : (x y s cap : ℕ) → s ≡ min (x + y) (2 ^ 16 - 1) → cap < 2 ^ 16 → min s cap ≡ min (x + y) cap
capped_sum x y s cap e l = omega (arith, e, l)
