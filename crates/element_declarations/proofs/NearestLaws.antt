-- The nearest heads that content models name, each by those of lower rank.
use Rattle.std.proofs.Common.{◌≡◌, ◌⊎◌, inl, inr, ℕ, zero, suc, ◌+◌, ◌<◌, Bool, true, false, List, Option, None, Some, length, get_or, slice_get, slice_index, refl, sym, ◌∙◌, subst, ap, arith}
use Rattle.std.specs.Prelude.{⊤, IfSome, if◌then◌else◌}
use Rattle.std.proofs.lemmas.Bool.{false≢true}
use Rattle.std.proofs.lemmas.Option.{none-some, same_Some, slice_get-get_or, get_or_from_slice_get}
use Rattle.xs_components.specs.Tables.{Tables}
use Rattle.xs_components.specs.declared.element.ElementDecl.{ElementDecl}
use Rattle.component_references.specs.Descent.{AsksLower}
use Rattle.component_references.specs.Order.{IsFilledBelow}
use Rattle.component_references.specs.Ranked.{IsRanked, IsBelow}
use Rattle.component_references.proofs.DescentLaws.{along-is}
use Rattle.element_declarations.specs.Groups.{head_of, HasHead, named, through, is_named}
use Rattle.element_declarations.specs.inside.Nearest.{nearest_by, nearest_step, nearest_of, known, AreNearest}
use Rattle.element_declarations.proofs.HeadLaws.{Remains, head-is, has-above, named-below}

-- a part that was read by its number
pub part-read : {T : Type 0} (read parts : List T) (x : ℕ) (part : T) → read ≡ parts → part ≡ get_or read x part → x < length parts → slice_get parts x ≡ Some part
part-read read parts x part same is there =
    slice_get-get_or parts x part there ∙ ap Some (sym (is ∙ ap (λ ps. get_or ps x part) same))

module _ (t : Tables) (ranked : IsRanked t) where
  by-same : (f g : ℕ → Option ℕ) (rank : ℕ) → ((y : ℕ) → IsBelow t.elements rank y → f y ≡ g y) → (head : Option ℕ) → IfSome head (IsBelow t.elements rank) → nearest_by t f head ≡ nearest_by t g head
  by-same f g rank same None low = refl
  by-same f g rank same (Some x) low = ap (λ (o : Option ℕ). if is_named t x then Some x else o) (same x low)

  head-below : (x : ℕ) (o : Option ℕ) → head_of t x ≡ o → IfSome o (IsBelow t.elements (slice_index t.elements.ranks x))
  head-below x None is = tt
  head-below x (Some h) is = named-below t ranked x h is

  step-asks : AsksLower (slice_index t.elements.ranks) None (λ nearest. nearest_step nearest t) (λ x. ⊤)
  step-asks x f g is same = by-same f g (slice_index t.elements.ranks x) (λ y low. same y tt low.lower) (head_of t x) (head-below x (head_of t x) refl)

  nearest-is : (x : ℕ) → nearest_of t x ≡ nearest_step (nearest_of t) t x
  unfolding nearest_of
  nearest-is x = along-is (slice_index t.elements.ranks) None (λ nearest. nearest_step nearest t) (λ x. ⊤) step-asks x tt

  nearest-with : (x : ℕ) (o : Option ℕ) → head_of t x ≡ o → nearest_of t x ≡ nearest_by t (nearest_of t) o
  nearest-with x o is = nearest-is x ∙ ap (nearest_by t (nearest_of t)) is

  module _ (x : ℕ) (part : ElementDecl) (is : slice_get t.elements.parts x ≡ Some part) where
    -- the nearest head by a table that has those of lower rank
    pub rule-nearest : (table : List (Option ℕ)) → IsFilledBelow (length t.elements.parts) t.elements.ranks (nearest_of t) (slice_index t.elements.ranks x) table →
        nearest_by t (known table) part.head ≡ nearest_of t x
    rule-nearest table filled =
        by-same (known table) (nearest_of t) (slice_index t.elements.ranks x)
        (λ y low. get_or_from_slice_get table y (nearest_of t y) None (filled y low.there low.lower))
        part.head (ranked.elements x part is) ∙
        sym (nearest-with x part.head (head-is t x part is))

    pub own-head-there : IfSome part.head (λ h. h < length t.elements.parts)
    own-head-there = of part.head (ranked.elements x part is)
      where
        of : (head : Option ℕ) → IfSome head (IsBelow t.elements (slice_index t.elements.ranks x)) → IfSome head (λ h. h < length t.elements.parts)
        of None low = tt
        of (Some h) low = low.there

  -- ---- what the nearest head is

  by-mark : (b : Bool) (e up x : ℕ) → is_named t up ≡ b → head_of t e ≡ Some up → (if b then Some up else nearest_of t up) ≡ Some x → (nearest_of t up ≡ Some x → HasHead t up x × (is_named t x ≡ true)) →
      HasHead t e x × (is_named t x ≡ true)
  by-mark true e up x mark is some above =
      let same : up ≡ x = same_Some up x some in
      (named e x (is ∙ ap Some same), subst (λ y. is_named t y ≡ true) same mark)
  by-mark false e up x mark is some above = let a = above some in (through e up x is a.0, a.1)

  by-head : (e x : ℕ) (o : Option ℕ) → head_of t e ≡ o → nearest_by t (nearest_of t) o ≡ Some x →
      ((up : ℕ) → head_of t e ≡ Some up → nearest_of t up ≡ Some x → HasHead t up x × (is_named t x ≡ true)) → HasHead t e x × (is_named t x ≡ true)
  by-head e x None is some above = absurd (none-some x some)
  by-head e x (Some up) is some above = by-mark (is_named t up) e up x refl is some (above up is)

  nearest-within : (n e x : ℕ) → slice_index t.elements.ranks e < n → nearest_of t e ≡ Some x → HasHead t e x × (is_named t x ≡ true)
  nearest-within zero e x l some = absurd (omega (arith, l))
  nearest-within (suc n) e x l some =
      by-head e x (head_of t e) refl (sym (nearest-is e) ∙ some)
      (λ up is more. nearest-within n up x (let b = (named-below t ranked e up is).lower in omega (arith, b, l)) more)

  pub nearest-has : (e x : ℕ) → nearest_of t e ≡ Some x → HasHead t e x × (is_named t x ≡ true)
  nearest-has e x some = nearest-within (suc (slice_index t.elements.ranks e)) e x (omega arith) some

  -- what is the nearest head, or above it, is a head
  pub nearest-remains : (e h : ℕ) (o : Option ℕ) → nearest_of t e ≡ o → Remains t o h → HasHead t e h
  nearest-remains e h None is r = absurd r
  nearest-remains e h (Some x) is (inl same) = subst (HasHead t e) same (nearest-has e x is).0
  nearest-remains e h (Some x) is (inr has) = has-above t e x h (nearest-has e x is).0 has

  at-head : (b : Bool) (h : ℕ) → b ≡ true → Remains t (if b then Some h else nearest_of t h) h
  at-head true h told = inl refl
  at-head false h told = absurd (false≢true told)

  past-head : (b : Bool) (up h : ℕ) → HasHead t up h → Remains t (nearest_of t up) h → Remains t (if b then Some up else nearest_of t up) h
  past-head true up h has r = inr has
  past-head false up h has r = r

  -- a head that content models name is the nearest one, or above it
  pub has-nearest : (e h : ℕ) → HasHead t e h → is_named t h ≡ true → Remains t (nearest_of t e) h
  has-nearest _ _ (named e h is) told = subst (λ o. Remains t o h) (sym (nearest-with e (Some h) is)) (at-head (is_named t h) h told)
  has-nearest _ _ (through e up h is has) told = subst (λ o. Remains t o h) (sym (nearest-with e (Some up) is)) (past-head (is_named t up) up h has (has-nearest up h has told))

-- the table was filled
pub are-nearest : (t : Tables) (first table : List (Option ℕ)) → length first ≡ length t.elements.parts → length table ≡ length first → ((n : ℕ) → n < length t.elements.parts → slice_get table n ≡ Some (nearest_of t n)) →
    AreNearest t table
are-nearest t first table long alike filled = record {
  each = alike ∙ long;
  are = λ n l. get_or_from_slice_get table n (nearest_of t n) None (filled n (let e = alike ∙ long in omega (arith, l, e)));
}
