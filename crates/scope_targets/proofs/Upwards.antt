-- Scopes one after another, upwards.
use Rattle.std.proofs.Common.{◌≡◌, ◌<◌, ◌+◌, ℕ, List, [], ◌∷◌, ◌++◌, drop, get_or, length, map, refl, sym, ap, subst, ◌∙◌, append_assoc, append-nil}
use Rattle.std.proofs.lemmas.List.{drop_more}
use Rattle.std.specs.Prelude.{All, insert}
use Rattle.std.proofs.lemmas.List.Elements.{All-cons, All-head, All-tail}
use Rattle.xs_names.specs.Names.{NameTable}
use Rattle.xs_components.specs.Tables.{Tables}
use Rattle.xpath_subset.specs.declared.paths.IdentityPaths.{IdentityPaths}
use Rattle.identity_constraints.specs.Seen.{KeyElement, KeyForest}
use Rattle.identity_constraints.specs.Targets.{constraints_of}
use Rattle.path_walk.specs.Sight.{seen}
use Rattle.path_walk.specs.declared.sight.KeySight.{KeySight}
use Rattle.path_walk.specs.inside.Walk.{reached}
use Rattle.scope_targets.specs.Found.{AreNamesOf}
use Rattle.scope_targets.specs.Targetings.{Targeting, targetings_for, targetings_up}

pub left-more : (all : List KeySight) (i : ℕ) (s : KeySight) → i < length all → s ≡ get_or all i s → drop i all ≡ s ∷ drop (i + 1) all
left-more all i s within is = drop_more all i s within ∙ ap (λ (x : KeySight). x ∷ drop (i + 1) all) (sym is)

pub in-front : (xs : List ℕ) (x : ℕ) → insert xs 0 x ≡ x ∷ xs
in-front [] x = refl
in-front (y ∷ ys) x = refl

module _ (names : NameTable) where
  pub named-first : (left above : List KeySight) (s : KeySight) → left ≡ s ∷ above → AreNamesOf names (map seen left) → (seen s).name < length names.names
  named-first left above s is named = All-head (λ (e : KeyElement). e.name < length names.names) (seen s) (map seen above) (subst (λ ss. AreNamesOf names (map seen ss)) is named)

  pub named-above : (left above : List KeySight) (s : KeySight) → left ≡ s ∷ above → AreNamesOf names (map seen left) → AreNamesOf names (map seen above)
  named-above left above s is named = All-tail (λ (e : KeyElement). e.name < length names.names) (seen s) (map seen above) (subst (λ ss. AreNamesOf names (map seen ss)) is named)

  pub ways-more : (way new : List ℕ) (name : ℕ) → new ≡ name ∷ way → name < length names.names → All (λ n. n < length names.names) way → All (λ n. n < length names.names) new
  ways-more way new name is named all = subst (All (λ n. n < length names.names)) (sym is) (All-cons (λ n. n < length names.names) name way named all)

  module _ (t : Tables) (identities : List IdentityPaths) (own : KeyElement) (below : KeyForest) where
    pub up-one : (way new : List ℕ) (left above : List KeySight) (s : KeySight) (old now all : List Targeting) → left ≡ s ∷ above → new ≡ (seen s).name ∷ way
        → now ≡ old ++ targetings_for names t identities (seen s).number (constraints_of t (seen s)) (reached way own below)
        → old ++ targetings_up names t identities way own below (map seen left) ≡ all
        → now ++ targetings_up names t identities new own below (map seen above) ≡ all
    up-one way new left above s old now all is put found so =
        (λ i. found i ++ targetings_up names t identities (put i) own below (map seen above))
        ∙ append_assoc old (targetings_for names t identities (seen s).number (constraints_of t (seen s)) (reached way own below)) (targetings_up names t identities ((seen s).name ∷ way) own below (map seen above))
        ∙ ap (λ (ss : List KeySight). old ++ targetings_up names t identities way own below (map seen ss)) (sym is)
        ∙ so

    pub up-all : (way : List ℕ) (left : List KeySight) (now all : List Targeting) → left ≡ [] → now ++ targetings_up names t identities way own below (map seen left) ≡ all → now ≡ all
    up-all way left now all none so = sym (append-nil now) ∙ ap (λ (ss : List KeySight). now ++ targetings_up names t identities way own below (map seen ss)) (sym none) ∙ so
