-- Values by buckets.
use Rattle.std.proofs.Common.{◌≡◌, ℕ, ◌+◌, ◌<◌, ◌==◌, ◌||◌, Bool, true, false, ◌&&◌, List, [], ◌∷◌, ◌++◌, length, get_or, take, set, cond, bytes_eq, refl, ap, sym, subst, ◌∙◌, inl, inr, arith, append-nil, eq-eqb}
use Rattle.std.specs.Prelude.{◌%◌, filter}
use Rattle.std.specs.Ordering.{int_eq}
use Rattle.std.proofs.lemmas.Bool.{cases_eq, false≢true, eqb-true, and_parts}
use Rattle.std.proofs.lemmas.Bool.Decides.{nat_tests, Decides-int_eq}
use Rattle.std.proofs.lemmas.List.{length-set, get_or-set_same, get_or-set_other}
use Rattle.std.proofs.lemmas.List.Elements.{filter_more}
use Rattle.std.proofs.lemmas.Slice.Eq.{bytes_eq-Decides}
use Rattle.dec_value.specs.Decimal.{Decimal}
use Rattle.simple_values.specs.declared.atom.Atom.{Atom}
use Rattle.simple_values.specs.declared.atom.Atom.TheVariants.{Untyped, Text, Uri, Name, Boolean, Number, Hex, Base64, Instant, Duration}
use Rattle.simple_values.specs.declared.value.Value.{Value}
use Rattle.simple_values.specs.declared.value.Value.TheVariants as values
use Rattle.simple_values.specs.Same.{same, same_atom}
use Rattle.facet_checks.specs.Check.{is_among}
use Rattle.facet_checks.specs.inside.Buckets.{text_number, atom_number, value_number, falls, AreBuckets}

-- ---- values that are the same have one number

text_is : (a b : List ℕ) → bytes_eq a b ≡ true → a ≡ b
text_is a b = (bytes_eq-Decides a b).0

number_is : (a b : Decimal) → (int_eq a.unscaled b.unscaled && (a.scale == b.scale)) ≡ true → a ≡ b
number_is a b e =
    let h = and_parts (int_eq a.unscaled b.unscaled) (a.scale == b.scale) e in
    let p : a.unscaled ≡ b.unscaled = (Decides-int_eq a.unscaled b.unscaled).0 h.0 in
    let q : a.scale ≡ b.scale = eqb-true _ _ h.1 in
    λ i. record { unscaled = p i; scale = q i }

atom_alike : (a b : Atom) → same_atom a b ≡ true → atom_number a ≡ atom_number b
atom_alike (Untyped a) (Untyped b) e = ap (text_number 0) (text_is a b e)
atom_alike (Text a) (Text b) e = ap (text_number 0) (text_is a b e)
atom_alike (Uri a) (Uri b) e = ap (text_number 0) (text_is a b e)
atom_alike (Name a) (Name b) e = refl
atom_alike (Boolean a) (Boolean b) e = refl
atom_alike (Number a) (Number b) e = ap (λ d. atom_number (Number d)) (number_is a b e)
atom_alike (Hex a) (Hex b) e = refl
atom_alike (Base64 a) (Base64 b) e = refl
atom_alike (Instant j a) (Instant k b) e = refl
atom_alike (Duration a) (Duration b) e = refl
atom_alike a b e = absurd (false≢true e)

value_alike : (a b : Value) → same a b ≡ true → value_number a ≡ value_number b
value_alike (values.Atom s a) (values.Atom t b) e = atom_alike a b e
value_alike (values.List a) (values.List b) e = refl
value_alike a b e = absurd (false≢true e)

-- ---- a value is found in its bucket

module _ (count b : ℕ) where
  step : (t s : Bool) (v x : Value) (vs : List Value) → falls count b v ≡ t → same v x ≡ s → falls count b x ≡ true
      → is_among (filter (falls count b) vs) x ≡ is_among vs x → is_among (cond t (v ∷ filter (falls count b) vs) (filter (falls count b) vs)) x ≡ (s || is_among vs x)
  step true s v x vs e f here rest = ap (λ c. c || is_among (filter (falls count b) vs) x) f ∙ ap (λ r. s || r) rest
  step false false v x vs e f here rest = rest
  step false true v x vs e f here rest =
      let alike : falls count b v ≡ falls count b x = ap (λ n. (n % count) == b) (value_alike v x f) in
      absurd (false≢true (sym e ∙ (alike ∙ here)))

  pub found : (all : List Value) (x : Value) → falls count b x ≡ true → is_among (filter (falls count b) all) x ≡ is_among all x
  found [] x here = refl
  found (v ∷ vs) x here = step (falls count b v) (same v x) v x vs refl refl here (found vs x here)

pub in_bucket : (all : List Value) (buckets : List (List Value)) (x : Value) (at : ℕ) → AreBuckets all buckets → at ≡ value_number x % length buckets → at < length buckets
    → is_among (get_or buckets at []) x ≡ is_among all x
in_bucket all buckets x at are is there =
    ap (λ list. is_among list x) (are.each at there) ∙ found (length buckets) at all x (eq-eqb (value_number x % length buckets) at (sym is))

-- ---- one value more

pub no_values : (buckets : List (List Value)) → 0 < length buckets → ((b : ℕ) → get_or buckets b [] ≡ []) → AreBuckets [] buckets
no_values buckets some empty = record { some = some; each = λ b l. empty b }

differs : (x y : ℕ) → (x ≡ y → ⊥) → (x == y) ≡ false
differs x y d = grind (arith, nat_tests)

pub one_more : (all : List Value) (i at : ℕ) (v : Value) (old new : List (List Value)) → i < length all → v ≡ get_or all i v → AreBuckets (take i all) old
    → at ≡ value_number v % length old → at < length old → new ≡ set old at (get_or old at [] ++ v ∷ []) → AreBuckets (take (i + 1) all) new
one_more all i at v old new l is are place there e = record {
  some = (let k : length new ≡ length old = size in let p = are.some in omega arith);
  each = λ b h. subst (λ n. get_or new b [] ≡ filter (falls n b) (take (i + 1) all)) (sym size) (each b (let k : length new ≡ length old = size in omega arith));
}
  where
    size : length new ≡ length old
    size = ap length e ∙ length-set old at (get_or old at [] ++ v ∷ [])

    kept : (b : ℕ) (t : Bool) → falls (length old) b v ≡ t → filter (falls (length old) b) (take (i + 1) all) ≡ filter (falls (length old) b) (take i all) ++ cond t (v ∷ []) []
    kept b t f =
        filter_more (falls (length old) b) all i v l
        ∙ (ap (λ x. filter (falls (length old) b) (take i all) ++ cond (falls (length old) b x) (x ∷ []) []) (sym is)
        ∙ ap (λ c. filter (falls (length old) b) (take i all) ++ cond c (v ∷ []) []) f)

    each : (b : ℕ) → b < length old → get_or new b [] ≡ filter (falls (length old) b) (take (i + 1) all)
    each b h = elim (cases_eq b at) [
      | inl same ↦ (
          let f : falls (length old) b v ≡ true = eq-eqb (value_number v % length old) b (sym place ∙ sym same) in
          ap (λ xs. get_or xs b []) e ∙ (ap (λ k. get_or (set old at (get_or old at [] ++ v ∷ [])) k []) same ∙ (get_or-set_same old at (get_or old at [] ++ v ∷ []) [] there
          ∙ (ap (λ k. get_or old k [] ++ v ∷ []) (sym same) ∙ (ap (λ xs. xs ++ v ∷ []) (are.each b h) ∙ sym (kept b true f))))))
      | inr other ↦ (
          let f : falls (length old) b v ≡ false = differs (value_number v % length old) b (λ s. other (sym s ∙ sym place)) in
          ap (λ xs. get_or xs b []) e ∙ (get_or-set_other old at b (get_or old at [] ++ v ∷ []) [] other
          ∙ (are.each b h ∙ (sym (append-nil (filter (falls (length old) b) (take i all))) ∙ sym (kept b false f)))))
    ]
