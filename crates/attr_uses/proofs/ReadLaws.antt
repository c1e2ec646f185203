-- What is read from the map of attribute uses.
use Rattle.std.proofs.Common.{◌≡◌, ℕ, ◌+◌, ◌^◌, ◌<◌, Bool, true, List, [], ◌∷◌, Option, None, Some, filter, refl, sym, ap, subst, ◌∙◌}
use Rattle.std.specs.Prelude.{IsTrue, ◌↔◌}
use Rattle.std.specs.Option.{option_map, IsSomeAnd}
use Rattle.xs_components.specs.Tables.{Tables}
use Rattle.attr_uses.specs.Maps.{entry_is, SomeIs, TwoAre}
use Rattle.attr_uses.specs.Maps as maps
use Rattle.attr_uses.specs.declared.entry.Entry.{Entry}
use Rattle.attr_uses.specs.declared.entry.UseAt.{UseAt}
use Rattle.attr_uses.specs.declared.entry.NeededUse.{NeededUse}
use Rattle.attr_uses.specs.Written.{has_name}
use Rattle.attr_uses.specs.Uses.{first_of, use_named}
use Rattle.attr_uses.specs.Tables.{entry_of, entry_for, has_another, is_id_named, is_needed_named, HasTwoOfOneName, HasTwoIds, AreNeeded, IsNextUnlike}

some-needed : (o : Option Entry) (at : UseAt) → IsSomeAnd o (λ entry. (entry.needed ≡ true) × (entry.first ≡ at)) → (entry_is (λ e. e.needed) o ≡ true) × (option_map (λ e. e.first) o ≡ Some at)
some-needed None at is = absurd is
some-needed (Some entry) at is = (is.0, ap Some is.1)

module _ (t : Tables) (ids : List Bool) where
  entry-first : (us : List UseAt) → option_map (λ e. e.first) (entry_of t ids us) ≡ first_of us
  entry-first [] = refl
  entry-first (u ∷ us) = refl

  entry-differ : (us : List UseAt) → entry_is (λ e. e.double) (entry_of t ids us) ≡ has_another us
  entry-differ [] = refl
  entry-differ (u ∷ us) = refl

  entry-id : (us : List UseAt) → entry_is (λ e. e.id) (entry_of t ids us) ≡ is_id_named t ids (first_of us)
  entry-id [] = refl
  entry-id (u ∷ us) = refl

  entry-needed : (us : List UseAt) → entry_is (λ e. e.needed) (entry_of t ids us) ≡ is_needed_named t (first_of us)
  entry-needed [] = refl
  entry-needed (u ∷ us) = refl

  pub named-by : (uses : List UseAt) (name : ℕ) (o : Option Entry) → o ≡ entry_for t ids uses name → option_map (λ e. e.first) o ≡ use_named t uses name
  named-by uses name o e = ap (option_map (λ x. x.first)) e ∙ entry-first (filter (has_name t name) uses)

  module _ (uses : List UseAt) (depth : ℕ) (deep : depth ≡ 32) where
    within : (name : ℕ) → name < 2 ^ depth → name < 2 ^ 32
    within name h = subst (λ d. name < 2 ^ d) deep h

    without : (name : ℕ) → name < 2 ^ 32 → name < 2 ^ depth
    without name h = subst (λ d. name < 2 ^ d) (sym deep) h

    pub two-of-one : (b : Bool) → IsTrue b ↔ SomeIs depth (λ e. e.double) (entry_for t ids uses) → IsTrue b ↔ HasTwoOfOneName t uses
    two-of-one b told = (
      λ x. let w = told.0 x in (w.0, within w.0 w.1, sym (entry-differ (filter (has_name t w.0) uses)) ∙ w.2),
      λ w. told.1 (w.0, without w.0 w.1, entry-differ (filter (has_name t w.0) uses) ∙ w.2),
    )

    pub two-ids : (b : Bool) → IsTrue b ↔ TwoAre depth (λ e. e.id) (entry_for t ids uses) → IsTrue b ↔ HasTwoIds t ids uses
    two-ids b told = (
      λ x. let w = told.0 x in (w.0, w.1, w.2, within w.1 w.3, sym (entry-id (filter (has_name t w.0) uses)) ∙ w.4, sym (entry-id (filter (has_name t w.1) uses)) ∙ w.5),
      λ w. told.1 (w.0, w.1, w.2, without w.1 w.3, entry-id (filter (has_name t w.0) uses) ∙ w.4, entry-id (filter (has_name t w.1) uses) ∙ w.5),
    )

    pub all-needed : (from : ℕ) (xs : List NeededUse) → maps.AreNeeded (entry_for t ids uses) from (2 ^ depth) xs → AreNeeded t uses from xs
    all-needed from [] none = λ name a b. sym (entry-needed (filter (has_name t name) uses)) ∙ none name a (without name b)
    all-needed from (x ∷ xs) are =
        let is = are.0 in
        let told = some-needed (entry_for t ids uses x.name) x.at is.needed in (
          record {
            behind = is.behind;
            within = within x.name is.within;
            needed = sym (entry-needed (filter (has_name t x.name) uses)) ∙ told.0;
            none = λ other a b. sym (entry-needed (filter (has_name t other) uses)) ∙ is.none other a b;
          },
          sym (entry-first (filter (has_name t x.name) uses)) ∙ told.1,
          all-needed (x.name + 1) xs are.1,
        )

  same-named : (uses others : List UseAt) (name : ℕ) → entry_for t ids uses name ≡ entry_for t ids others name → use_named t uses name ≡ use_named t others name
  same-named uses others name e = sym (entry-first (filter (has_name t name) uses)) ∙ (ap (option_map (λ x. x.first)) e ∙ entry-first (filter (has_name t name) others))

  pub next-unlike : (uses others : List UseAt) (depth : ℕ) → depth ≡ 32 → (from : ℕ) (next : Option ℕ) → maps.IsNextUnlike depth (entry_for t ids uses) (entry_for t ids others) from next → IsNextUnlike t uses others from next
  next-unlike uses others depth deep from None alike = λ name a b. same-named uses others name (alike name a (subst (λ d. name < 2 ^ d) (sym deep) b))
  next-unlike uses others depth deep from (Some name) is = record {
    behind = is.behind;
    within = subst (λ d. name < 2 ^ d) deep is.within;
    alike = λ other a b. same-named uses others other (is.alike other a b);
  }
