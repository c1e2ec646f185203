-- The scopes of the targets that an element is are at and above it.
use Rattle.std.proofs.Common.{◌≡◌, ℕ, Bool, true, false, if◌then◌else◌, List, [], ◌∷◌, Option, None, Some, inl, inr, refl, sym, ap, ◌∙◌, subst}
use Rattle.xs_names.specs.Names.{NameTable}
use Rattle.xs_components.specs.Tables.{Tables}
use Rattle.xpath_subset.specs.declared.paths.IdentityPaths.{IdentityPaths}
use Rattle.identity_constraints.specs.Seen.{KeyElement, KeyForest, Reached}
use Rattle.identity_constraints.specs.Targets.{constraints_of, is_target, outcome_at, paths_of}
use Rattle.scope_targets.specs.Kin.{Kin, AreAbove}
use Rattle.scope_targets.specs.Targetings.{Targeting, is_among, targeting_for, targeting_first, targetings_for, targetings_up}
use Rattle.doc_nodes.specs.Nodes.{Has}
use Rattle.kept_targets.proofs.Among.{has-either}

module _ (names : NameTable) (t : Tables) (identities : List IdentityPaths) where
  one-scope : (scope k : ℕ) (r : Reached) (a : Targeting) → Has a (targeting_for names t identities scope k r) → a.scope ≡ scope
  one-scope scope k r a h = by (is_target names (paths_of identities k).selector r) h
    where
      by : (b : Bool) → Has a (if b then record { scope = scope; constraint = k; outcome = outcome_at names t identities k r } ∷ [] else []) → a.scope ≡ scope
      by true has = elim has [ inl e ↦ sym (ap (λ (x : Targeting). x.scope) e) | inr none ↦ absurd none ]
      by false has = absurd has

  first-scope : (scope k : ℕ) (ks : List ℕ) (r : Reached) (a : Targeting) → Has a (targeting_first names t identities scope k ks r) → a.scope ≡ scope
  first-scope scope k ks r a h = by (is_among k ks) h
    where
      by : (b : Bool) → Has a (if b then [] else targeting_for names t identities scope k r) → a.scope ≡ scope
      by true has = absurd has
      by false has = one-scope scope k r a has

  for-scope : (scope : ℕ) (ks : List ℕ) (r : Reached) (a : Targeting) → Has a (targetings_for names t identities scope ks r) → a.scope ≡ scope
  for-scope scope [] r a h = absurd h
  for-scope scope (k ∷ ks) r a h =
      elim (has-either a (targeting_first names t identities scope k ks r) (targetings_for names t identities scope ks r) h) [
        | inl first ↦ first-scope scope k ks r a first
        | inr later ↦ for-scope scope ks r a later
      ]

  -- what holds of the numbers above and goes on upwards holds of the scopes
  module _ (v : Kin) (P : ℕ → Type 0) (numbered : (p : ℕ) → P p → (v.seen p).number ≡ p) (goes : (p q : ℕ) → P p → v.parent p ≡ Some q → P q) (own : KeyElement) (below : KeyForest) (a : Targeting) where
    pub up-scopes : (o : Option ℕ) (es : List KeyElement) (way : List ℕ) → AreAbove v o es → ((p : ℕ) → o ≡ Some p → P p) → Has a (targetings_up names t identities way own below es) → P a.scope
    up-scopes None [] way are start h = absurd h
    up-scopes None (e ∷ es) way are start h = absurd are
    up-scopes (Some p) [] way are start h = absurd are
    up-scopes (Some p) (e ∷ es) way are start h =
        let here = start p refl in
        elim (has-either a (targetings_for names t identities e.number (constraints_of t e) (record { way = way; own = own; below = below })) (targetings_up names t identities (e.name ∷ way) own below es) h) [
          | inl mine ↦
              let scope = for-scope e.number (constraints_of t e) (record { way = way; own = own; below = below }) a mine in
              subst P (sym (scope ∙ ap (λ (x : KeyElement). x.number) are.0 ∙ numbered p here)) here
          | inr later ↦ up-scopes (v.parent p) es (e.name ∷ way) are.1 (λ q up. goes p q here up) later
        ]
