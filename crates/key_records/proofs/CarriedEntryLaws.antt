-- Tables after one entry more, as counts.
use Rattle.std.proofs.Common.{◌≡◌, ℕ, ◌+◌, ◌*◌, ◌&&◌, ◌==◌, Bool, true, false, if◌then◌else◌, List, refl, sym, ap, ◌∙◌, arith, true≢false, nat_eq}
use Rattle.std.specs.Bool.{Decides}
use Rattle.std.proofs.lemmas.Bool.{and_from, and_parts, eqb-true, eq-eqb}
use Rattle.std.proofs.lemmas.Slice.Eq.{slice_eq-Decides}
use Rattle.simple_values.specs.declared.key.Key.{Key}
use Rattle.simple_values.proofs.Keys.{key_decides}
use Rattle.identity_tables.specs.Tuple.{same_tuple}
use Rattle.identity_tables.specs.KeyTables.{Tables, is_entry, IsOneMoreTuple}
use Rattle.key_records.specs.Tables.{KeyTuple, same_key_tuple, for_key, own, said, IsOneMoreOwn}

pub tuple_decides : (xs ys : List Key) → Decides (same_tuple xs ys) (xs ≡ ys)
tuple_decides xs ys = slice_eq-Decides key_decides xs ys (same_tuple xs ys) refl

to-same : (x y : KeyTuple) → same_key_tuple x y ≡ true → x ≡ y
to-same x y e =
    let both = and_parts (nat_eq x.key y.key) (same_tuple x.tuple y.tuple) e in
    let key : x.key ≡ y.key = eqb-true x.key y.key both.0 in
    let tuple : x.tuple ≡ y.tuple = (tuple_decides x.tuple y.tuple).0 both.1 in
    λ i. record { key = key i; tuple = tuple i }

from-same : (x y : KeyTuple) → x ≡ y → same_key_tuple x y ≡ true
from-same x y same =
    and_from (nat_eq x.key y.key) (same_tuple x.tuple y.tuple) (eq-eqb x.key y.key (ap (λ (z : KeyTuple). z.key) same)) ((tuple_decides x.tuple y.tuple).1 (ap (λ (z : KeyTuple). z.tuple) same))

pub decides : (x y : KeyTuple) → Decides (same_key_tuple x y) (x ≡ y)
decides x y = (to-same x y, from-same x y)

three : (a b c : Bool) → (a && b && c) ≡ true → (a ≡ true) × (b ≡ true) × (c ≡ true)
three true true true e = (refl, refl, refl)
three true true false e = absurd (true≢false (sym e))
three true false c e = absurd (true≢false (sym e))
three false b c e = absurd (true≢false (sym e))

three-all : (a b c : Bool) → a ≡ true → b ≡ true → c ≡ true → (a && b && c) ≡ true
three-all a b c p q r = λ i. p i && q i && r i

is-false : (b : Bool) → (b ≡ true → ⊥) → b ≡ false
is-false true never = absurd (never refl)
is-false false never = refl

module _ (scope table : ℕ) (tuple : List Key) (m other : ℕ) (y : List Key) where
  entry-is : is_entry scope table tuple m other y ≡ true → (scope ≡ m) × (table ≡ other) × (tuple ≡ y)
  entry-is e =
      let all = three (scope == m) (table == other) (same_tuple tuple y) e in
      (eqb-true scope m all.0, eqb-true table other all.1, (tuple_decides tuple y).0 all.2)

  entry-here : scope ≡ m → table ≡ other → tuple ≡ y → is_entry scope table tuple m other y ≡ true
  entry-here a b c = three-all (scope == m) (table == other) (same_tuple tuple y) (eq-eqb scope m a) (eq-eqb table other b) ((tuple_decides tuple y).1 c)

  entry-off : ((scope ≡ m) → (table ≡ other) → (tuple ≡ y) → ⊥) → is_entry scope table tuple m other y ≡ false
  entry-off never = is-false (is_entry scope table tuple m other y) (λ e. let all = entry-is e in never all.0 all.1 all.2)

same-without : (new old : ℕ) (b : Bool) → new ≡ old + (if b then 1 else 0) → b ≡ false → new ≡ old
same-without new old true e f = absurd (true≢false f)
same-without new old false e f = omega (arith, e)

more-with : (new old : ℕ) (b : Bool) → new ≡ old + (if b then 1 else 0) → b ≡ true → new ≡ old + 1
more-with new old true e f = e
more-with new old false e f = absurd (true≢false (sym f))

-- one child element more is said to have the tuple
module _ (fewer more : Tables) (n k : ℕ) (tuple : List Key) (grown : IsOneMoreTuple fewer more n (2 * k + 1) tuple) where
  pub own_kept : (m : ℕ) (y : KeyTuple) → own more m y ≡ own fewer m y
  own_kept m y =
      same-without (own more m y) (own fewer m y) (is_entry n (2 * k + 1) tuple m (2 * y.key) y.tuple) (grown m (2 * y.key) y.tuple)
      (entry-off n (2 * k + 1) tuple m (2 * y.key) y.tuple (λ a b c. omega (arith, b)))

  pub said_more : said more n (for_key k tuple) ≡ said fewer n (for_key k tuple) + 1
  said_more =
      more-with (said more n (for_key k tuple)) (said fewer n (for_key k tuple)) (is_entry n (2 * k + 1) tuple n (2 * k + 1) tuple) (grown n (2 * k + 1) tuple)
      (entry-here n (2 * k + 1) tuple n (2 * k + 1) tuple refl refl refl)

  pub said_others : (m : ℕ) (y : KeyTuple) → (n ≡ m → for_key k tuple ≡ y → ⊥) → said more m y ≡ said fewer m y
  said_others m y off =
      same-without (said more m y) (said fewer m y) (is_entry n (2 * k + 1) tuple m (2 * y.key + 1) y.tuple) (grown m (2 * y.key + 1) y.tuple)
      (entry-off n (2 * k + 1) tuple m (2 * y.key + 1) y.tuple (λ a b c. let key : k ≡ y.key = omega (arith, b) in off a (λ i. record { key = key i; tuple = c i })))

-- the element has the tuple once more among its own
module _ (fewer more : Tables) (n k : ℕ) (tuple : List Key) (grown : IsOneMoreTuple fewer more n (2 * k) tuple) where
  pub said_kept : (m : ℕ) (y : KeyTuple) → said more m y ≡ said fewer m y
  said_kept m y =
      same-without (said more m y) (said fewer m y) (is_entry n (2 * k) tuple m (2 * y.key + 1) y.tuple) (grown m (2 * y.key + 1) y.tuple)
      (entry-off n (2 * k) tuple m (2 * y.key + 1) y.tuple (λ a b c. omega (arith, b)))

  pub own_others : (m : ℕ) (y : KeyTuple) → (n ≡ m → for_key k tuple ≡ y → ⊥) → own more m y ≡ own fewer m y
  own_others m y off =
      same-without (own more m y) (own fewer m y) (is_entry n (2 * k) tuple m (2 * y.key) y.tuple) (grown m (2 * y.key) y.tuple)
      (entry-off n (2 * k) tuple m (2 * y.key) y.tuple (λ a b c. let key : k ≡ y.key = omega (arith, b) in off a (λ i. record { key = key i; tuple = c i })))

  own-if : (m : ℕ) (y : KeyTuple) (b : Bool) → (nat_eq n m && same_key_tuple (for_key k tuple) y) ≡ b → own more m y ≡ own fewer m y + (if b then 1 else 0)
  own-if m y true e =
      let both = and_parts (nat_eq n m) (same_key_tuple (for_key k tuple) y) e in
      let same = to-same (for_key k tuple) y both.1 in
      more-with (own more m y) (own fewer m y) (is_entry n (2 * k) tuple m (2 * y.key) y.tuple) (grown m (2 * y.key) y.tuple)
      (entry-here n (2 * k) tuple m (2 * y.key) y.tuple (eqb-true n m both.0) (ap (λ (z : KeyTuple). 2 * z.key) same) (ap (λ (z : KeyTuple). z.tuple) same))
  own-if m y false e =
      let off = λ (a : n ≡ m) (same : for_key k tuple ≡ y). true≢false (sym (and_from (nat_eq n m) (same_key_tuple (for_key k tuple) y) (eq-eqb n m a) (from-same (for_key k tuple) y same)) ∙ e) in
      let kept = own_others m y off in
      omega (arith, kept)

  pub own_more : IsOneMoreOwn fewer more n k tuple
  own_more m y = own-if m y (nat_eq n m && same_key_tuple (for_key k tuple) y) refl
