-- Elements that are targets of nothing.
use Rattle.std.proofs.Common.{◌≡◌, ℕ, List, [], ◌∷◌, ◌++◌, Bool, true, false, refl, sym, subst, ◌∙◌}
use Rattle.xs_names.specs.Names.{NameTable}
use Rattle.xs_components.specs.Tables.{Tables}
use Rattle.xpath_subset.specs.declared.paths.IdentityPaths.{IdentityPaths}
use Rattle.identity_constraints.specs.Seen.{KeyElement, KeyForest}
use Rattle.identity_constraints.specs.Targets.{constraints_of, is_target, paths_of}
use Rattle.path_walk.specs.inside.Walk.{reached}
use Rattle.scope_targets.specs.Targetings.{is_among, targeting_for, targeting_first, targetings_for, targetings_up, targetings_of}
use Rattle.scope_targets.specs.Kin.{Kin, AreAbove, AreAround, Leaves}
use Rattle.scope_targets.proofs.Staying.{AreSameScopes, same-above}

first-none : {A : Type 0} (xs ys : List A) → xs ++ ys ≡ [] → xs ≡ []
first-none [] ys e = refl
first-none (x ∷ xs) ys e = absurd (cc)

rest-none : {A : Type 0} (xs ys : List A) → xs ++ ys ≡ [] → ys ≡ []
rest-none [] ys e = e
rest-none (x ∷ xs) ys e = absurd (cc)

both-none : {A : Type 0} (xs ys : List A) → xs ≡ [] → ys ≡ [] → xs ++ ys ≡ []
both-none xs ys e f = (λ i. e i ++ f i)

module _ (names : NameTable) (t : Tables) (identities : List IdentityPaths) (way : List ℕ) (own new_own : KeyElement) (below new_below : KeyForest) where
  -- which constraint has it as a target goes by the way alone
  for-none : (scope k : ℕ) → targeting_for names t identities scope k (reached way own below) ≡ [] → targeting_for names t identities scope k (reached way new_own new_below) ≡ []
  for-none scope k e = by (is_target names (paths_of identities k).selector (reached way own below)) refl
    where
      by : (b : Bool) → is_target names (paths_of identities k).selector (reached way own below) ≡ b → targeting_for names t identities scope k (reached way new_own new_below) ≡ []
      by true is = absurd (cc)
      by false is = cc

  one-none : (scope k : ℕ) (ks : List ℕ) → targeting_first names t identities scope k ks (reached way own below) ≡ [] → targeting_first names t identities scope k ks (reached way new_own new_below) ≡ []
  one-none scope k ks e = by (is_among k ks) refl
    where
      by : (b : Bool) → is_among k ks ≡ b → targeting_first names t identities scope k ks (reached way new_own new_below) ≡ []
      by true is = cc
      by false is = let here : targeting_for names t identities scope k (reached way own below) ≡ [] = cc in let there = for-none scope k here in cc

  all-none : (scope : ℕ) (ks : List ℕ) → targetings_for names t identities scope ks (reached way own below) ≡ [] → targetings_for names t identities scope ks (reached way new_own new_below) ≡ []
  all-none scope [] e = refl
  all-none scope (k ∷ ks) e =
      let one = targeting_first names t identities scope k ks (reached way own below) in
      let more = targetings_for names t identities scope ks (reached way own below) in
      both-none (targeting_first names t identities scope k ks (reached way new_own new_below)) (targetings_for names t identities scope ks (reached way new_own new_below))
      (one-none scope k ks (first-none one more e)) (all-none scope ks (rest-none one more e))

module _ (names : NameTable) (t : Tables) (identities : List IdentityPaths) (own new_own : KeyElement) (below new_below : KeyForest) where
  pub up-none : (way : List ℕ) (one other : List KeyElement) → AreSameScopes t other one → targetings_up names t identities way own below one ≡ [] → targetings_up names t identities way new_own new_below other ≡ []
  up-none way [] [] same e = refl
  up-none way [] (b ∷ other) same e = absurd same
  up-none way (a ∷ one) [] same e = absurd same
  up-none way (a ∷ one) (b ∷ other) same e =
      let here = targetings_for names t identities a.number (constraints_of t a) (reached way own below) in
      let rest = targetings_up names t identities (a.name ∷ way) own below one in
      let mine = all-none names t identities way own new_own below new_below a.number (constraints_of t a) (first-none here rest e) in
      let more = up-none (a.name ∷ way) one other same.1 (rest-none here rest e) in
      both-none (targetings_for names t identities b.number (constraints_of t b) (reached way new_own new_below)) (targetings_up names t identities (b.name ∷ way) new_own new_below other)
      ((λ i. targetings_for names t identities (same.0.number i) (same.0.constraints i) (reached way new_own new_below)) ∙ mine)
      (subst (λ (name : ℕ). targetings_up names t identities (name ∷ way) new_own new_below other ≡ []) (sym same.0.name) more)

module _ (names : NameTable) (t : Tables) (identities : List IdentityPaths) (old new : Kin) (free steady : ℕ → Type 0) (leaves : Leaves t old new free steady) where
  -- a steady element that is a target of nothing still is
  pub bare-stays : (n : ℕ) → steady n → (below new_below : KeyForest) (above new_above : List KeyElement) → AreAround old new n below new_below above new_above
      → targetings_of names t identities above (old.seen n) below ≡ [] → targetings_of names t identities new_above (new.seen n) new_below ≡ []
  bare-stays n is below new_below above new_above around bare =
      let scopes = same-above t old new free steady leaves (old.parent n) above new_above (λ p e. leaves.steady_above n p is e) around.above_are
      (subst (λ q. AreAbove new q new_above) (leaves.steady_parent n is) around.new_above_are) in
      up-none names t identities (old.seen n) (new.seen n) below new_below [] (old.seen n ∷ above) (new.seen n ∷ new_above) (leaves.same n is, scopes) bare
