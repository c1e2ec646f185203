-- Derivation along bases, by the runs of types.
use Rattle.std.proofs.Common.{◌≡◌, ℕ, ◌<◌, ◌≤◌, ◌⊎◌, ◌↔◌, inl, inr, Bool, true, false, Option, None, Some, refl, sym, ap, ◌∙◌, subst, zero, suc, arith}
use Rattle.std.specs.Prelude.{if◌then◌else◌, IsTrue, MatchOption}
use Rattle.std.specs.Option.{option_and_then}
use Rattle.std.proofs.lemmas.Bool.{true≢false}
use Rattle.xs_components.specs.Tables.{Tables}
use Rattle.xs_components.specs.declared.common.Methods.{Methods}
use Rattle.xs_components.specs.declared.common.TypeId.{TypeId}
use Rattle.xs_components.specs.declared.common.TypeId.TheVariants.{AnyType, Builtin, Simple, Complex}
use Rattle.xs_components.specs.declared.simple.SimpleForm.{SimpleForm}
use Rattle.xs_components.specs.declared.simple.SimpleForm.TheVariants.{Restrict, ListOf, UnionOf}
use Rattle.xs_components.specs.declared.simple.SimpleType.{SimpleType}
use Rattle.component_references.specs.Heights.{type_height, IsType, IsLower}
use Rattle.component_references.specs.Ranked.{IsRanked}
use Rattle.component_tables.specs.declared.bases.BaseLine.{BaseLine}
use Rattle.component_tables.specs.Bases.{simple_number, complex_number, restricted_number, IsDerived, simple, complex, BaseTable, line_at, IsFree, Starts, Follows, AreLinesOf}
use Rattle.type_derivation.specs.Derives.{above, above_complex, unless, simple_base}
use Rattle.type_derivation.specs.inside.Along.{DerivesAlong, itself, from_base, GoesUp}
use Rattle.type_derivation.proofs.BaseLaws.{above-lower}
use Rattle.type_derivation.proofs.AlongLaws.{along-trans, along-height, Up, first-step}

none-some : {X : Type 0} (x : X) → None ≡ Some x → ⊥
none-some x e = cc

some-same : {X : Type 0} (a b : X) → Some a ≡ Some b → a ≡ b
some-same a b e = cc

simple-is : (of : TypeId) (n : ℕ) → simple_number of ≡ Some n → of ≡ Simple n
simple-is AnyType n e = absurd (none-some n e)
simple-is (Builtin k) n e = absurd (none-some n e)
simple-is (Complex id) n e = absurd (none-some n e)
simple-is (Simple id) n e = ap (λ k. Simple k) (some-same id n e)

complex-is : (of : TypeId) (n : ℕ) → complex_number of ≡ Some n → of ≡ Complex n
complex-is AnyType n e = absurd (none-some n e)
complex-is (Builtin k) n e = absurd (none-some n e)
complex-is (Simple id) n e = absurd (none-some n e)
complex-is (Complex id) n e = ap (λ k. Complex k) (some-same id n e)

restricted-is : (form : SimpleForm) (n : ℕ) → restricted_number form ≡ Some n → simple_base form ≡ Simple n
restricted-is (Restrict base step) n e = simple-is base n e
restricted-is (ListOf item) n e = absurd (none-some n e)
restricted-is (UnionOf members) n e = absurd (none-some n e)

-- the method of a step is excluded
abbrev pub method : Bool → Methods → Bool
method by_extension excluded = if by_extension then excluded.extension else excluded.restriction

by-method : (ext : Bool) (excluded : Methods) (x : TypeId) → (if ext then unless excluded.extension x else unless excluded.restriction x) ≡ unless (method ext excluded) x
by-method true excluded x = refl
by-method false excluded x = refl

unless-some : (m : Bool) (x y : TypeId) → unless m x ≡ Some y → (m ≡ false) × (x ≡ y)
unless-some true x y e = absurd (none-some y e)
unless-some false x y e = (refl, some-same x y e)

unless-free : (m : Bool) (x : TypeId) → m ≡ false → unless m x ≡ Some x
unless-free m x e = ap (λ m. unless m x) e

module _ (t : Tables) where
  -- the base of a type that is derived from one of its kind
  derived-above : (of base : TypeId) (ext : Bool) → IsDerived t of base ext → (excluded : Methods) → above t excluded of ≡ unless (method ext excluded) base
  derived-above _ _ _ (simple id n part e named) excluded =
      ap (option_and_then (λ (part : SimpleType). unless excluded.restriction (simple_base part.form))) e ∙ ap (unless excluded.restriction) (restricted-is part.form n named)
  derived-above _ _ _ (complex id n part e named) excluded =
      ap (option_and_then (above_complex excluded)) e ∙ by-method part.by_extension excluded part.base ∙ ap (unless (method part.by_extension excluded)) (complex-is part.base n named)

  abbrev plain : Methods
  plain = record { extension = false; restriction = false; substitution = false; by_list = false; by_union = false }

  plain-method : (ext : Bool) → method ext plain ≡ false
  plain-method true = refl
  plain-method false = refl

  derived-low : IsRanked t → (of base : TypeId) (ext : Bool) → IsDerived t of base ext → IsLower t (type_height t of) base
  derived-low ranked of base ext d =
      let e : above t plain of ≡ Some base = derived-above of base ext d plain ∙ unless-free (method ext plain) base (plain-method ext) in
      rw e at (above-lower t ranked plain of)

-- a type stands in a run at another or behind it
pub data Below (t : Tables) (b : BaseTable) (next : TypeId → Option TypeId) : TypeId → TypeId → Type 0 where
  here : (x : TypeId) → Below t b next x x
  behind : (top base of : TypeId) → next base ≡ Some of → Follows t base of (line_at b base) (line_at b of) → Below t b next top base → Below t b next top of

-- values of a line by those of the one before it
module _ (excluded : Methods) where
  keep : (m : Bool) (a c r : ℕ) → c ≡ a → (m ≡ false) ⊎ (a ≤ r) → (m ≡ false) ⊎ (c ≤ r)
  keep m a c r e (inl free) = inl free
  keep m a c r e (inr le) = inr (omega (arith, e, le))

  free-on : (ext : Bool) (above line : BaseLine) (r : ℕ) → line.extended ≡ (if ext then line.rank else above.extended) → line.restricted ≡ (if ext then above.restricted else line.rank) →
      method ext excluded ≡ false → IsFree above r excluded → IsFree line r excluded
  free-on true above line r e f m free = (inl m, keep excluded.restriction above.restricted line.restricted r f free.1)
  free-on false above line r e f m free = (keep excluded.extension above.extended line.extended r e free.0, inl m)

  free-past : (m : Bool) (rank c r : ℕ) → c ≡ rank → r < rank → (m ≡ false) ⊎ (c ≤ r) → m ≡ false
  free-past m rank c r e l (inl free) = free
  free-past m rank c r e l (inr le) = absurd (omega (arith, e, l, le))

  free-off : (ext : Bool) (above line : BaseLine) (r : ℕ) → line.extended ≡ (if ext then line.rank else above.extended) → line.restricted ≡ (if ext then above.restricted else line.rank) →
      r < line.rank → IsFree line r excluded → (method ext excluded ≡ false) × IsFree above r excluded
  free-off true above line r e f l free =
      let m = free-past excluded.extension line.rank line.extended r e l free.0 in
      (m, (inl m, keep excluded.restriction line.restricted above.restricted r (sym f) free.1))
  free-off false above line r e f l free =
      let m = free-past excluded.restriction line.rank line.restricted r f l free.1 in
      (m, (keep excluded.extension line.extended above.extended r (sym e) free.0, inl m))

bounded-by : (ext : Bool) (rank a c : ℕ) → c ≡ (if ext then rank else a) → a ≤ rank → c ≤ rank
bounded-by true rank a c e h = omega (arith, e)
bounded-by false rank a c e h = omega (arith, e, h)

bounded-other : (ext : Bool) (rank a c : ℕ) → c ≡ (if ext then a else rank) → a ≤ rank → c ≤ rank
bounded-other true rank a c e h = omega (arith, e, h)
bounded-other false rank a c e h = omega (arith, e)

module _ (t : Tables) (ranked : IsRanked t) (b : BaseTable) (lines : AreLinesOf t b) where
  abbrev line : TypeId → BaseLine
  line of = line_at b of

  abbrev Under : TypeId → TypeId → Type 0
  Under = Below t b lines.next

  same-first : (x y : TypeId) → Under x y → (line y).first ≡ (line x).first
  same-first _ _ (here x) = refl
  same-first _ _ (behind top base of n f u) = f.first ∙ same-first top base u

  rank-le : (x y : TypeId) → Under x y → (line x).rank ≤ (line y).rank
  rank-le _ _ (here x) = omega arith
  rank-le _ _ (behind top base of n f u) = let l = f.lower in let i = rank-le top base u in omega (arith, l, i)

  follows-low : (base of : TypeId) → Follows t base of (line base) (line of) → IsLower t (type_height t of) base
  follows-low base of f = derived-low t ranked of base f.by_extension f.derived

  height-le : (x y : TypeId) → Under x y → type_height t x ≤ type_height t y
  height-le _ _ (here x) = omega arith
  height-le _ _ (behind top base of n f u) = let low = follows-low base of f in let l = low.lower in let i = height-le top base u in omega (arith, l, i)

  rank-same : (x y : TypeId) → Under x y → (line y).rank ≤ (line x).rank → x ≡ y
  rank-same _ _ (here x) h = refl
  rank-same _ _ (behind top base of n f u) h = let l = f.lower in let i = rank-le top base u in absurd (omega (arith, l, i, h))

  height-same : (x y : TypeId) → Under x y → type_height t y ≤ type_height t x → x ≡ y
  height-same _ _ (here x) h = refl
  height-same _ _ (behind top base of n f u) h = let low = follows-low base of f in let l = low.lower in let i = height-le top base u in absurd (omega (arith, l, i, h))

  -- one starts the run of another
  pub record StartsRun (top of : TypeId) : Type 0 where
    pub starts : Starts top (line top)
    pub there : IsType t top
    pub under : Under top of

  first-of : (n : ℕ) (x : TypeId) → IsType t x → type_height t x < n → StartsRun (line x).first x
  first-of zero x is h = absurd (omega (arith, h))
  first-of (suc n) x is h = elim (lines.runs x is) [
    | inl s ↦ subst (λ top. StartsRun top x) (sym s.first) (record { starts = s; there = is; under = here x })
    | inr g ↦ (let low = follows-low g.base x g.follows in
        let l = low.lower in
        let up = first-of n g.base low.there (omega (arith, l, h)) in
        subst (λ top. StartsRun top x) (sym g.follows.first) (record { starts = up.starts; there = up.there; under = behind (line g.base).first g.base x g.is_next g.follows up.under }))
  ]

  pub first-run : (x : TypeId) → IsType t x → StartsRun (line x).first x
  first-run x is = first-of (suc (type_height t x)) x is (omega arith)

  pub first-there : (x : TypeId) → IsType t x → IsType t (line x).first
  first-there x is = let run = first-run x is in run.there

  -- what stands behind a type stands at the one that goes on behind it, or behind that
  child : (p x y : TypeId) → lines.next p ≡ Some x → Under p y → (p ≡ y) ⊎ Under x y
  child _ x _ is (here p) = inl refl
  child _ x _ is (behind top base of n f u) = elim (child top x base is u) [
    | inl e ↦ (let one : x ≡ of = some-same x of (sym is ∙ ap lines.next e ∙ n) in inr (subst (λ z. Under z of) (sym one) (here of)))
    | inr v ↦ inr (behind x base of n f v)
  ]

  -- of two in one run, one is behind the other
  linear : (z x y : TypeId) → Under z x → Under z y → Under x y ⊎ Under y x
  linear _ _ y (here z) v = inl v
  linear _ _ y (behind top base of n f u) v = elim (linear top base y u v) [
    | inl w ↦ elim (child base of y n w) [
      | inl e ↦ inr (subst (λ z. Under z of) e (behind base base of n f (here base)))
      | inr o ↦ inl o
    ]
    | inr w ↦ inr (behind y base of n f w)
  ]

  in-one : (x y : TypeId) → IsType t x → IsType t y → (line x).first ≡ (line y).first → Under x y ⊎ Under y x
  in-one x y isx isy e =
      let rx = first-run x isx in
      let ry = first-run y isy in
      linear (line x).first x y rx.under (subst (λ z. Under z y) (sym e) ry.under)

  within : (x y : TypeId) → IsType t x → IsType t y → (line x).first ≡ (line y).first → (line y).rank ≤ (line x).rank → Under y x
  within x y isx isy e h = elim (in-one x y isx isy e) [
    | inl u ↦ subst (λ z. Under z x) (rank-same x y u h) (here x)
    | inr u ↦ u
  ]

  pub record IsBounded (x : TypeId) : Type 0 where
    pub extended : (line x).extended ≤ (line x).rank
    pub restricted : (line x).restricted ≤ (line x).rank

  bounded-in : (z x : TypeId) → Starts z (line z) → Under z x → IsBounded x
  bounded-in _ _ s (here x) = let e = s.extended in let f = s.restricted in record { extended = omega (arith, e); restricted = omega (arith, f) }
  bounded-in _ _ s (behind top base of n f u) =
      let up = bounded-in top base s u in
      let l = f.lower in
      let a = up.extended in
      let c = up.restricted in
      record {
        extended = bounded-by f.by_extension (line of).rank (line base).extended (line of).extended f.extended (omega (arith, l, a));
        restricted = bounded-other f.by_extension (line of).rank (line base).restricted (line of).restricted f.restricted (omega (arith, l, c));
      }

  bounded : (x : TypeId) → IsType t x → IsBounded x
  bounded x is = let run = first-run x is in bounded-in (line x).first x run.starts run.under

  module _ (excluded : Methods) where
    follows-above : (base of : TypeId) (f : Follows t base of (line base) (line of)) → above t excluded of ≡ unless (method f.by_extension excluded) base
    follows-above base of f = derived-above t of base f.by_extension f.derived excluded

    -- where no step is excluded, a type derives from one before it
    free-derives : (y x : TypeId) → Under y x → IsFree (line x) (line y).rank excluded → DerivesAlong t excluded x y
    free-derives _ _ (here x) free = itself x
    free-derives _ _ (behind y base of n f u) free =
        let i = rank-le y base u in
        let l = f.lower in
        let off = free-off excluded f.by_extension (line base) (line of) (line y).rank f.extended f.restricted (omega (arith, i, l)) free in
        from_base of base y (follows-above base of f ∙ unless-free (method f.by_extension excluded) base off.0) (free-derives y base u off.1)

    -- a step up in a run
    step-up : (base of to : TypeId) (f : Follows t base of (line base) (line of)) → Up t excluded of to → (method f.by_extension excluded ≡ false) × DerivesAlong t excluded base to
    step-up base of to f up =
        let s = unless-some (method f.by_extension excluded) base up.next (sym (follows-above base of f) ∙ up.there) in
        (s.0, subst (λ x. DerivesAlong t excluded x to) (sym s.1) up.derives)

    own-free : (x : TypeId) → IsBounded x → IsFree (line x) (line x).rank excluded
    own-free x bound = (inr bound.extended, inr bound.restricted)

    derives-free : (y x : TypeId) → IsBounded y → Under y x → DerivesAlong t excluded x y → IsFree (line x) (line y).rank excluded
    derives-free _ _ bound (here x) d = own-free x bound
    derives-free _ _ bound (behind y base of n f u) d = elim (first-step t excluded of y d) [
      | inl e ↦ (let i = rank-le y base u in let l = f.lower in let same = ap (λ (x : TypeId). (line x).rank) e in absurd (omega (arith, i, l, same)))
      | inr up ↦ (let s = step-up base of y f up in
          free-on excluded f.by_extension (line base) (line of) (line y).rank f.extended f.restricted s.0 (derives-free y base bound u s.1))
    ]

    -- in one run
    module _ (x y : TypeId) (isx : IsType t x) (isy : IsType t y) (one : (line x).first ≡ (line y).first) where
      pub run-derives : (line y).rank ≤ (line x).rank → IsFree (line x) (line y).rank excluded → DerivesAlong t excluded x y
      run-derives h free = free-derives y x (within x y isx isy one h) free

      under-one : DerivesAlong t excluded x y → Under y x
      under-one d = elim (in-one x y isx isy one) [
        | inl u ↦ subst (λ z. Under z x) (height-same x y u (along-height t excluded ranked x y d)) (here x)
        | inr u ↦ u
      ]

      pub derives-run : DerivesAlong t excluded x y → ((line y).rank ≤ (line x).rank) × IsFree (line x) (line y).rank excluded
      derives-run d = let u = under-one d in (rank-le y x u, derives-free y x (bounded y isy) u d)

    -- out of a run
    leaves : (z x y : TypeId) → IsBounded z → Under z x → ((line x).first ≡ (line y).first → ⊥) → DerivesAlong t excluded x y → IsFree (line x) (line z).rank excluded × Up t excluded z y
    leaves _ _ y bound (here x) other d = elim (first-step t excluded x y d) [
      | inl e ↦ absurd (other (ap (λ (x : TypeId). (line x).first) e))
      | inr up ↦ (own-free x bound, up)
    ]
    leaves _ _ y bound (behind z base of n f u) other d = elim (first-step t excluded of y d) [
      | inl e ↦ absurd (other (ap (λ (x : TypeId). (line x).first) e))
      | inr up ↦ (let s = step-up base of y f up in
          let rest = leaves z base y bound u (λ e. other (f.first ∙ e)) s.1 in
          (free-on excluded f.by_extension (line base) (line of) (line z).rank f.extended f.restricted s.0 rest.0, rest.1))
    ]

    module _ (x : TypeId) (is : IsType t x) where
      run-leaves : (y : TypeId) → ((line x).first ≡ (line y).first → ⊥) → DerivesAlong t excluded x y → IsFree (line x) (line (line x).first).rank excluded × Up t excluded (line x).first y
      run-leaves y other d = let run = first-run x is in leaves (line x).first x y (bounded (line x).first run.there) run.under other d

      pub blocked-in : (y : TypeId) → ((line x).first ≡ (line y).first → ⊥) → (IsFree (line x) (line (line x).first).rank excluded → ⊥) → DerivesAlong t excluded x y → ⊥
      blocked-in y other not d = let l = run-leaves y other d in not l.0

      pub ends-at : (y : TypeId) → ((line x).first ≡ (line y).first → ⊥) → above t excluded (line x).first ≡ None → DerivesAlong t excluded x y → ⊥
      ends-at y other none d = let l = run-leaves y other d in let up = l.1 in none-some up.next (sym none ∙ up.there)

      pub goes-to : (y next : TypeId) → ((line x).first ≡ (line y).first → ⊥) → IsFree (line x) (line (line x).first).rank excluded → above t excluded (line x).first ≡ Some next → GoesUp t excluded x next y
      goes-to y next other free there =
          let run = first-run x is in
          let low : IsLower t (type_height t (line x).first) next = rw there at (above-lower t ranked excluded (line x).first) in
          let h = height-le (line x).first x run.under in
          let less = low.lower in
          record {
            lower = record { there = low.there; lower = omega (arith, h, less) };
            on = λ d. let l = run-leaves y other d in let up = l.1 in subst (λ z. DerivesAlong t excluded z y) (some-same up.next next (sym up.there ∙ there)) up.derives;
            back = λ d. along-trans t excluded x (line x).first y (free-derives (line x).first x run.under free) (from_base (line x).first next y there d);
          }

    -- by lines that were looked up
    module _ (x y : TypeId) (isx : IsType t x) (isy : IsType t y) (l e : BaseLine) (l-is : l ≡ line x) (e-is : e ≡ line y) (r : Bool) where
      pub apart : (IsTrue r ↔ (l.first ≡ e.first)) → r ≡ false → (line x).first ≡ (line y).first → ⊥
      apart tells fails same = true≢false (sym (tells.1 (ap (λ (z : BaseLine). z.first) l-is ∙ same ∙ ap (λ (z : BaseLine). z.first) (sym e-is))) ∙ fails)

      pub reached : (one : Bool) → (IsTrue one ↔ (l.first ≡ e.first)) → one ≡ true → (IsTrue r ↔ ((e.rank ≤ l.rank) × IsFree l e.rank excluded)) → IsTrue r ↔ DerivesAlong t excluded x y
      reached one same holds tells =
          let first : (line x).first ≡ (line y).first = ap (λ (z : BaseLine). z.first) (sym l-is) ∙ same.0 holds ∙ ap (λ (z : BaseLine). z.first) e-is in
          let by-l = subst (λ (z : BaseLine). IsTrue r ↔ ((e.rank ≤ z.rank) × IsFree z e.rank excluded)) l-is tells in
          let by-both = subst (λ (z : BaseLine). IsTrue r ↔ ((z.rank ≤ (line x).rank) × IsFree (line x) z.rank excluded)) e-is by-l in
          ((λ holds. let p = by-both.0 holds in run-derives x y isx isy first p.0 p.1), (λ d. by-both.1 (derives-run x y isx isy first d)))

    module _ (x : TypeId) (is : IsType t x) (l f : BaseLine) (first : TypeId) (l-is : l ≡ line x) (first-is : first ≡ l.first) (f-is : f ≡ line first) where
      its-first : first ≡ (line x).first
      its-first = first-is ∙ ap (λ (z : BaseLine). z.first) l-is

      pub looked-there : IsType t first
      looked-there = subst (IsType t) (sym its-first) (first-there x is)

      abbrev Free : Type 0
      Free = IsFree (line x) (line (line x).first).rank excluded

      free-by : (r : Bool) → (IsTrue r ↔ IsFree l f.rank excluded) → IsTrue r ↔ Free
      free-by r tells =
          let by-l = subst (λ (z : BaseLine). IsTrue r ↔ IsFree z f.rank excluded) l-is tells in
          subst (λ (z : BaseLine). IsTrue r ↔ IsFree (line x) z.rank excluded) (f-is ∙ ap (line_at b) its-first) by-l

      -- a type is derived from none above its run
      pub stops : (r : Bool) → (IsTrue r ↔ IsFree l f.rank excluded) → r ≡ false → (y : TypeId) → ((line x).first ≡ (line y).first → ⊥) → DerivesAlong t excluded x y → ⊥
      stops r tells fails y other d = blocked-in x is y other (λ free. true≢false (sym ((free-by r tells).1 free) ∙ fails)) d

      pub goes : (r : Bool) → (IsTrue r ↔ IsFree l f.rank excluded) → r ≡ true → (o : Option TypeId) → o ≡ above t excluded first → (y : TypeId) → ((line x).first ≡ (line y).first → ⊥) →
          MatchOption o (DerivesAlong t excluded x y → ⊥) (λ next. GoesUp t excluded x next y)
      goes r tells holds None e y other = ends-at x is y other (sym (e ∙ ap (above t excluded) its-first))
      goes r tells holds (Some next) e y other = goes-to x is y next other ((free-by r tells).0 holds) (sym (e ∙ ap (above t excluded) its-first))
