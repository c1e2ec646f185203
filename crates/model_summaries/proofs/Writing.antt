-- The cells of a leaf row, one after another.
use Rattle.std.proofs.Common.{◌≡◌, ◌≢◌, ℕ, ◌+◌, ◌<◌, ◌≤◌, List, Option, Some, length, get_or, set, refl, sym, ap, ◌∙◌, arith, get_or-set_same, get_or-set_other, below_more, length-set}
use Rattle.std.proofs.lemmas.Grind.{same_number_lists}
use Rattle.map_rows.specs.Rows.{RowMap, get, IsRow, AreRows, Updates, values_from}
use Rattle.map_rows.proofs.Lists.{length-values, values_at}

-- the row so far: the first cells are written
pub record IsWritten (first now : RowMap) (row width : ℕ) (f : ℕ → ℕ) (i : ℕ) : Type 0 where
  pub written : List ℕ
  pub is : get now row ≡ Some written
  pub below : (k : ℕ) → k < i → get_or written k 0 ≡ f k
  pub size : 0 < i → length written ≡ width
  pub others : (q : ℕ) → q ≢ row → get now q ≡ get first q
  pub width_is : now.width ≡ first.width
  pub cap_is : now.cap ≡ first.cap
  pub width_was : first.width ≡ width

pub first-written : (first : RowMap) (row width : ℕ) (f : ℕ → ℕ) (xs : List ℕ) → get first row ≡ Some xs → first.width ≡ width → IsWritten first first row width f 0
first-written first row width f xs e w = record {
  written = xs;
  is = e;
  below = λ k l. absurd (omega arith);
  size = λ l. absurd (omega arith);
  others = λ q d. refl;
  width_is = refl;
  cap_is = refl;
  width_was = w;
}

pub next-written : (first now next : RowMap) (row width : ℕ) (f : ℕ → ℕ) (i v : ℕ) (h : IsWritten first now row width f i) → i < width → v ≡ f i →
    ((xs : List ℕ) → get now row ≡ Some xs → Updates now next row (Some (set xs i v))) → AreRows next → IsWritten first next row width f (i + 1)
next-written first now next row width f i v h l e changes rows =
    let u = changes h.written h.is in
    let full = (rows row (set h.written i v) u.changed).len in
    let many : length (set h.written i v) ≡ width = full ∙ (u.width ∙ (h.width_is ∙ h.width_was)) in
    let own : length h.written ≡ width = sym (length-set h.written i v) ∙ many in
    record {
      written = set h.written i v;
      is = u.changed;
      below = below_more (λ k. get_or (set h.written i v) k 0 ≡ f k) i
          (λ k less. (get_or-set_other h.written i k v 0 (omega arith)) ∙ h.below k less)
          (get_or-set_same h.written i v 0 (omega arith) ∙ e);
      size = λ _. many;
      others = λ q d. u.others q d ∙ h.others q d;
      width_is = u.width ∙ h.width_is;
      cap_is = u.cap ∙ h.cap_is;
      width_was = h.width_was;
    }

pub all-written : (first now : RowMap) (row width : ℕ) (f : ℕ → ℕ) (i : ℕ) → IsWritten first now row width f i → 0 < width → width ≤ i → Updates first now row (Some (values_from f 0 width))
all-written first now row width f i h some l = record {
  changed = h.is ∙ ap Some (same_number_lists h.written (values_from f 0 width) (h.size (omega arith) ∙ sym (length-values f 0 width))
      (λ k less. let w = h.size (omega arith) in
      h.below k (omega arith) ∙ sym (values_at f 0 width k (omega arith) ∙ ap f (omega arith))));
  others = h.others;
  width = h.width_is;
  cap = h.cap_is;
}
