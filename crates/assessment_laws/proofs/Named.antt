-- The names of attributes that are added, and of those that are missing, are determined.
use Rattle.std.proofs.Common.{◌≡◌, ℕ, ◌<◌, ◌^◌, Bool, true, false, List, [], Some, length, refl, sym, ap, ◌∙◌, arith, true≢false}
use Rattle.std.specs.Prelude.{Contains, nat_eq}
use Rattle.std.specs.Cmp.{IsStrictWeakOrder, IsTotalOrder}
use Rattle.std.specs.Cmp.Lexicographic.{slice_cmp, on_texts}
use Rattle.std.specs.List.Sorted.{IsSortedBy}
use Rattle.std.specs.Ordering.{nat_cmp, ordering_then, ordering_reverse, is_lt, is_eq}
use Rattle.std.specs.declared.cmp.Ordering.{Ordering}
use Rattle.std.specs.declared.cmp.Ordering.TheVariants.{Less, Equal, Greater}
use Rattle.std.specs.Set.{is_member}
use Rattle.std.proofs.lemmas.Bool.Decides.{Decides-eqb}
use Rattle.std.proofs.lemmas.Cmp.{then_total, nat_eq_equiv}
use Rattle.std.proofs.lemmas.List.Elements.{All-contains, All-weaker}
use Rattle.std.proofs.lemmas.List.MinMax.{ranks_by}
use Rattle.std.proofs.lemmas.Map.Made.{length-le_from_is_member}
use Rattle.std.proofs.lemmas.Map.Text.{is_eq-slice_cmp}
use Rattle.std.proofs.lemmas.Map.Views.{Contains-from_any, list_any-from_Contains}
use Rattle.std.proofs.lemmas.Option.{slice_get-get_or}
use Rattle.std.proofs.lemmas.Slice.Eq.{bytes_eq-Decides}
use Rattle.xs_names.specs.Names.{NameTable, IsSound, space_of, local_of}
use Rattle.attr_assess.specs.Lacking.{AreThose}
use Rattle.attr_assess.specs.Order.{space_text, name_order, is_before}
use Rattle.assessment_laws.proofs.Sorted.{HasSame, same-list}

-- ---- all numbers of which a test is true

module _ (test : ℕ → Bool) (bound : ℕ) where
  moved : (xs ys : List ℕ) → AreThose test bound xs → AreThose test bound ys → (z : ℕ) → Contains xs z → Contains ys z
  moved xs ys a c z has = c.each z (All-contains (λ name. name < bound) xs z a.below has) (All-contains (λ name. test name ≡ true) xs z a.hold has)

  pub those-same : (xs ys : List ℕ) → AreThose test bound xs → AreThose test bound ys → HasSame xs ys
  those-same xs ys a c = record { into = moved xs ys a c; back = moved ys xs c a }

  member-moved : (xs ys : List ℕ) → AreThose test bound xs → AreThose test bound ys → (z : ℕ) → is_member nat_eq xs z ≡ true → is_member nat_eq ys z ≡ true
  member-moved xs ys a c z is =
      list_any-from_Contains nat_eq_equiv z ys (moved xs ys a c z (Contains-from_any (λ x y. (Decides-eqb x y).0) z xs is))

  pub those-as-many : (xs ys : List ℕ) → AreThose test bound xs → AreThose test bound ys → length xs ≡ length ys
  those-as-many xs ys a c =
      let less = length-le_from_is_member nat_eq_equiv xs ys a.once (member-moved xs ys a c) in
      let more = length-le_from_is_member nat_eq_equiv ys xs c.once (member-moved ys xs c a) in
      omega (arith, less, more)

-- ---- the order of added attributes

equal-by : (r : Ordering) → is_lt r ≡ false → is_lt (ordering_reverse r) ≡ false → r ≡ Equal
equal-by Less a b = absurd (true≢false a)
equal-by Equal a b = refl
equal-by Greater a b = absurd (true≢false b)

then-equal : (r s : Ordering) → ordering_then r s ≡ Equal → (r ≡ Equal) × (s ≡ Equal)
then-equal Less s e = cc
then-equal Equal s e = (refl, e)
then-equal Greater s e = cc

text-is : (xs ys : List ℕ) → slice_cmp nat_cmp xs ys ≡ Equal → xs ≡ ys
text-is xs ys e = (bytes_eq-Decides xs ys).0 (sym (is_eq-slice_cmp xs ys) ∙ ap is_eq e)

module _ (names : NameTable) (sound : IsSound names) where
  order-total : IsTotalOrder (name_order names)
  order-total = then_total (on_texts (space_text names)) (on_texts (local_of names))

  pub ranks : IsStrictWeakOrder (is_before names)
  ranks = ranks_by order-total (λ (name : ℕ). name)

  -- names with one namespace and one local part are one
  name-is : (a b : ℕ) → a < length names.names → b < length names.names → space_text names a ≡ space_text names b → local_of names a ≡ local_of names b → a ≡ b
  name-is a b low high space local =
      let x = slice_get-get_or names.names a (0, []) low in
      let y = slice_get-get_or names.names b (0, []) high in
      let sx = slice_get-get_or names.spaces (space_of names a) [] (sound.within a (space_of names a) (local_of names a) x) in
      let sy = slice_get-get_or names.spaces (space_of names b) [] (sound.within b (space_of names b) (local_of names b) y) in
      let one : space_of names a ≡ space_of names b = sound.spaces_once (space_of names a) (space_of names b) (space_text names a) sx (sy ∙ ap Some (sym space)) in
      sound.names_once a b (space_of names a, local_of names a) x (y ∙ λ i. Some (sym one i, sym local i))

  pub ties : (a b : ℕ) → a < length names.names → b < length names.names → is_before names a b ≡ false → is_before names b a ≡ false → a ≡ b
  ties a b low high before behind =
      let reversed : name_order names b a ≡ ordering_reverse (name_order names a b) = order-total.antisymm b a in
      let both = then-equal (slice_cmp nat_cmp (space_text names a) (space_text names b)) (slice_cmp nat_cmp (local_of names a) (local_of names b))
      (equal-by (name_order names a b) before (ap is_lt (sym reversed) ∙ behind)) in
      name-is a b low high (text-is (space_text names a) (space_text names b) both.0) (text-is (local_of names a) (local_of names b) both.1)

  -- the names of the table of which a test is true, in their order
  pub sorted-same : (test : ℕ → Bool) (xs ys : List ℕ) → ((name : ℕ) → test name ≡ true → name < length names.names) → AreThose test (2 ^ 32) xs → AreThose test (2 ^ 32) ys
      → IsSortedBy (is_before names) xs → IsSortedBy (is_before names) ys → xs ≡ ys
  sorted-same test xs ys within a c up vp =
      same-list (is_before names) ranks (λ name. name < length names.names) ties xs ys
      (All-weaker (λ name. test name ≡ true) (λ name. name < length names.names) within xs a.hold)
      (All-weaker (λ name. test name ≡ true) (λ name. name < length names.names) within ys c.hold)
      up vp a.once c.once (those-same test (2 ^ 32) xs ys a c)
