-- What the kinds come to together.
use Rattle.std.proofs.Common.{◌≡◌, ◌⊎◌, Bool, true, false, if◌then◌else◌, Option, None, Some, refl, sym, ap, ◌∙◌, subst}
use Rattle.std.specs.Prelude.{IfNone}
use Rattle.std.proofs.lemmas.Option.{none-some}
use Rattle.xs_codes.specs.declared.fault.Fault.{Fault}
use Rattle.xs_components.specs.Tables.{Tables}
use Rattle.xs_codes.specs.Least.{is_before, sooner, IsLeast}
use Rattle.xs_codes.proofs.LeastLaws.{least-sum}
use Rattle.component_references.specs.Ranked.{IsRanked}
use Rattle.component_references.specs.Circles.{IsTypeCircle, IsElementCircle, IsAttrGroupCircle, IsGroupCircle, IsCircular, HaveHeights}
use Rattle.component_references.specs.inside.Parts.{AreTypesRanked, AreElementsRanked, AreAttrGroupsRanked, AreModelsRanked, AreTypeHeights, AreElementHeights, AreAttrGroupHeights, AreModelHeights, HaveTypeRanks, HaveElementRanks, HaveAttrGroupRanks, HaveModelRanks}
use Rattle.component_references.proofs.RankLaws.{all-ranked}

not-none : (t : Bool) (a b : Fault) → (if t then Some b else Some a) ≡ None → ⊥
not-none true a b e = none-some b (sym e)
not-none false a b e = none-some a (sym e)

-- where neither is there, there is no sooner one
none-both : (a b : Option Fault) → sooner a b ≡ None → (a ≡ None) × (b ≡ None)
none-both None None e = (refl, refl)
none-both None (Some b) e = absurd (none-some b (sym e))
none-both (Some a) None e = absurd (none-some a (sym e))
none-both (Some a) (Some b) e = absurd (not-none (is_before b a) a b e)

at-none : (o : Option Fault) (P : Type 0) → o ≡ None → IfNone o P → P
at-none o P e h = subst (λ (x : Option Fault). IfNone x P) e h

module _ (t0 t1 t2 t3 t4 : Tables) (ht : HaveTypeRanks t0 t1) (he : HaveElementRanks t1 t2) (ha : HaveAttrGroupRanks t2 t3) (hm : HaveModelRanks t3 t4)
    (types elements groups models r : Option Fault) (is : r ≡ sooner (sooner types elements) (sooner groups models)) where
  pub ranked-if-none : IfNone types (AreTypesRanked t1) → IfNone elements (AreElementsRanked t2) → IfNone groups (AreAttrGroupsRanked t3) → IfNone models (AreModelsRanked t4) → IfNone r (IsRanked t4)
  ranked-if-none a b c d = on r refl
    where
      on : (o : Option Fault) → r ≡ o → IfNone o (IsRanked t4)
      on (Some f) e = tt
      on None e =
          let both = none-both (sooner types elements) (sooner groups models) (sym is ∙ e) in
          let first = none-both types elements both.0 in
          let second = none-both groups models both.1 in
          all-ranked t0 t1 t2 t3 t4 ht (at-none types (AreTypesRanked t1) first.0 a) he (at-none elements (AreElementsRanked t2) first.1 b)
          ha (at-none groups (AreAttrGroupsRanked t3) second.0 c) hm (at-none models (AreModelsRanked t4) second.1 d)

  pub heights-if-none : IfNone types (AreTypeHeights t1) → IfNone elements (AreElementHeights t2) → IfNone groups (AreAttrGroupHeights t3) → IfNone models (AreModelHeights t4) → IfNone r (HaveHeights t4)
  heights-if-none a b c d = on r refl
    where
      on : (o : Option Fault) → r ≡ o → IfNone o (HaveHeights t4)
      on (Some f) e = tt
      on None e =
          let both = none-both (sooner types elements) (sooner groups models) (sym is ∙ e) in
          let first = none-both types elements both.0 in
          let second = none-both groups models both.1 in
          let h1 : AreTypeHeights t2 = subst AreTypeHeights (sym he.1) (at-none types (AreTypeHeights t1) first.0 a) in
          let h2 : AreTypeHeights t3 = subst AreTypeHeights (sym ha.1) h1 in
          let e2 : AreElementHeights t3 = subst AreElementHeights (sym ha.1) (at-none elements (AreElementHeights t2) first.1 b) in
          record {
            types = subst AreTypeHeights (sym hm.2) h2;
            elements = subst AreElementHeights (sym hm.2) e2;
            attr_groups = subst AreAttrGroupHeights (sym hm.2) (at-none groups (AreAttrGroupHeights t3) second.0 c);
            models = at-none models (AreModelHeights t4) second.1 d;
          }

  pub least-of-all : IsLeast (IsTypeCircle t0) types → IsLeast (IsElementCircle t1) elements → IsLeast (IsAttrGroupCircle t2) groups → IsLeast (IsGroupCircle t3) models → IsLeast (IsCircular t0) r
  least-of-all a b c d =
      let b0 : IsLeast (IsElementCircle t0) elements = subst (λ (t : Tables). IsLeast (IsElementCircle t) elements) ht.2 b in
      let c1 : IsLeast (IsAttrGroupCircle t1) groups = subst (λ (t : Tables). IsLeast (IsAttrGroupCircle t) groups) he.1 c in
      let c0 : IsLeast (IsAttrGroupCircle t0) groups = subst (λ (t : Tables). IsLeast (IsAttrGroupCircle t) groups) ht.2 c1 in
      let d2 : IsLeast (IsGroupCircle t2) models = subst (λ (t : Tables). IsLeast (IsGroupCircle t) models) ha.1 d in
      let d1 : IsLeast (IsGroupCircle t1) models = subst (λ (t : Tables). IsLeast (IsGroupCircle t) models) he.1 d2 in
      let d0 : IsLeast (IsGroupCircle t0) models = subst (λ (t : Tables). IsLeast (IsGroupCircle t) models) ht.2 d1 in
      subst (IsLeast (IsCircular t0)) (sym is)
      (least-sum (λ f. IsTypeCircle t0 f ⊎ IsElementCircle t0 f) (λ f. IsAttrGroupCircle t0 f ⊎ IsGroupCircle t0 f) (sooner types elements) (sooner groups models)
      (least-sum (IsTypeCircle t0) (IsElementCircle t0) types elements a b0) (least-sum (IsAttrGroupCircle t0) (IsGroupCircle t0) groups models c0 d0))
