-- Elements that an edit does not touch.
use Rattle.std.proofs.Common.{◌≡◌, ℕ, List, [], ◌∷◌, ◌++◌, inl, inr, Option, None, Some, refl, sym, ap, subst, ◌∙◌}
use Rattle.xs_names.specs.Names.{NameTable}
use Rattle.xs_components.specs.Tables.{Tables}
use Rattle.xpath_subset.specs.declared.paths.IdentityPaths.{IdentityPaths}
use Rattle.identity_constraints.specs.Counting.{Has}
use Rattle.identity_constraints.specs.Seen.{KeyElement, KeyForest, none, element}
use Rattle.path_walk.specs.inside.Walk.{reached}
use Rattle.scope_targets.specs.Targetings.{targetings_for, targetings_up, targetings_of}
use Rattle.scope_targets.specs.Kin.{Kin, AreSeen, AreAbove, AreAround, IsSameScope, Leaves}

-- scopes above one another are the same
abbrev pub AreSameScopes : Tables → List KeyElement → List KeyElement → Type 0
AreSameScopes t [] [] = Unit {0}
AreSameScopes t [] (b ∷ other) = ⊥
AreSameScopes t (a ∷ one) [] = ⊥
AreSameScopes t (a ∷ one) (b ∷ other) = IsSameScope t a b × AreSameScopes t one other

module _ (t : Tables) (old new : Kin) (free steady : ℕ → Type 0) (leaves : Leaves t old new free steady) where
  pub same-below : (ns : List ℕ) (f g : KeyForest) → ((c : ℕ) → Has c ns → free c) → AreSeen old ns f → AreSeen new ns g → g ≡ f
  same-below [] none none off before after = refl
  same-below [] none (element own below next) off before after = absurd after
  same-below [] (element own below next) g off before after = absurd before
  same-below (n ∷ ns) none g off before after = absurd before
  same-below (n ∷ ns) (element own below next) none off before after = absurd after
  same-below (n ∷ ns) (element own below next) (element own2 below2 next2) off before after =
      let is = off n (inl refl) in
      let mine : own2 ≡ own = after.0 ∙ leaves.own n is ∙ sym before.0 in
      let under = same-below (old.children n) below below2 (λ c h. leaves.below n c is h) before.1.0 (subst (λ cs. AreSeen new cs below2) (leaves.children n is) after.1.0) in
      let behind = same-below ns next next2 (λ c h. off c (inr h)) before.1.1 after.1.1 in
      λ i. element (mine i) (under i) (behind i)

  pub same-above : (o : Option ℕ) (one other : List KeyElement) → ((p : ℕ) → o ≡ Some p → steady p) → AreAbove old o one → AreAbove new o other → AreSameScopes t other one
  same-above None [] [] stands before after = tt
  same-above None [] (b ∷ other) stands before after = absurd after
  same-above None (a ∷ one) other stands before after = absurd before
  same-above (Some p) [] other stands before after = absurd before
  same-above (Some p) (a ∷ one) [] stands before after = absurd after
  same-above (Some p) (a ∷ one) (b ∷ other) stands before after =
      let is = stands p refl in (
        subst (λ (x : KeyElement). IsSameScope t x a) (sym after.0) (subst (λ (x : KeyElement). IsSameScope t (new.seen p) x) (sym before.0) (leaves.same p is)),
        same-above (old.parent p) one other (λ q e. leaves.steady_above p q is e) before.1 (subst (λ q. AreAbove new q other) (leaves.steady_parent p is) after.1),
      )

  module _ (names : NameTable) (identities : List IdentityPaths) where
    same-up : (way : List ℕ) (own : KeyElement) (below : KeyForest) (one other : List KeyElement) → AreSameScopes t other one
        → targetings_up names t identities way own below other ≡ targetings_up names t identities way own below one
    same-up way own below [] [] same = refl
    same-up way own below [] (b ∷ other) same = absurd same
    same-up way own below (a ∷ one) [] same = absurd same
    same-up way own below (a ∷ one) (b ∷ other) same =
        let rest = ap (λ (name : ℕ). targetings_up names t identities (name ∷ way) own below other) same.0.name ∙ same-up (a.name ∷ way) own below one other same.1 in
        λ i. targetings_for names t identities (same.0.number i) (same.0.constraints i) (reached way own below) ++ rest i

  module _ (n : ℕ) (is_free : free n) (below new_below : KeyForest) (above new_above : List KeyElement) (around : AreAround old new n below new_below above new_above) where
    pub below-stays : new_below ≡ below
    below-stays =
        same-below (old.children n) below new_below (λ c h. leaves.below n c is_free h) around.below_are (subst (λ cs. AreSeen new cs new_below) (leaves.children n is_free) around.new_below_are)

    pub targets-stay : (names : NameTable) (identities : List IdentityPaths) → targetings_of names t identities new_above (new.seen n) new_below ≡ targetings_of names t identities above (old.seen n) below
    targets-stay names identities =
        let mine = leaves.own n is_free in
        let scopes = same-above (old.parent n) above new_above (λ p e. leaves.above n p is_free e) around.above_are (subst (λ q. AreAbove new q new_above) (leaves.parent n is_free) around.new_above_are) in
        (λ i. targetings_up names t identities [] (mine i) (below-stays i) (mine i ∷ new_above))
        ∙ same-up names identities [] (old.seen n) below (old.seen n ∷ above) (old.seen n ∷ new_above) (record { number = refl; name = refl; constraints = refl }, scopes)
