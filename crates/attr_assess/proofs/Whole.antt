-- The records and the values of an element's attributes: those that it has, and those that are added.
use Rattle.std.proofs.Common.{◌≡◌, ◌^◌, List, [], ◌++◌, Option, None, Some, map, sym, ap, ◌∙◌, subst, append-nil}
use Rattle.xs_names.specs.Names.{NameTable}
use Rattle.xs_components.specs.Tables.{Tables}
use Rattle.xs_components.specs.declared.common.TypeId.{TypeId}
use Rattle.attr_uses.specs.declared.entry.UseAt.{UseAt}
use Rattle.facets.specs.Trying.{Scope}
use Rattle.assess_records.specs.declared.shape.NamedText.{NamedText}
use Rattle.attr_assess.specs.Governing.{uses_for}
use Rattle.attr_assess.specs.Lacking.{is_missing, AreThose}
use Rattle.attr_assess.specs.Added.{AreLacking}
use Rattle.attr_assess.specs.declared.added.AddedUse.{AddedUse}
use Rattle.attr_assess.specs.declared.lacking.Lacking.{Lacking}
use Rattle.attr_assess.proofs.Steps.{nothing-missing, nothing-added}
use Rattle.attr_assess.specs.Assessed.{record_of, value_of, IsGivenJudged, IsAddedJudged, AreAttrsAssessed}
use Rattle.attr_assess.specs.inside.Lists.{HoldsEach, HoldsLacking, IsUseJudged}
use Rattle.attr_assess.specs.declared.assessed.AssessedAttrs.{AssessedAttrs}
use Rattle.attr_assess.proofs.Zips.{zip-none}
use Rattle.attr_assess.proofs.Held.{joins, uses-judged}

module _ {A B : Type 0} (f : A → B) (start : List B) (none : start ≡ []) where
  all-of : (xs : List A) (found : List B) → found ≡ start ++ map f xs → found ≡ map f (xs ++ [])
  all-of xs found e = e ∙ (ap (λ zs. zs ++ map f xs) none ∙ ap (map f) (sym (append-nil xs)))

  both-of : (xs ys : List A) (middle found : List B) → middle ≡ start ++ map f xs → found ≡ middle ++ map f ys → found ≡ map f (xs ++ ys)
  both-of xs ys middle found e g = joins f start middle found xs ys e g ∙ ap (λ zs. zs ++ map f (xs ++ ys)) none

module _ (names : NameTable) (t : Tables) (scope : Scope) (attrs : List NamedText) (start : AssessedAttrs)
    (no_records : start.records ≡ []) (no_values : start.values ≡ []) (none_missing : start.missing ≡ []) where
  skipped : (found : AssessedAttrs) → HoldsEach (IsGivenJudged names t None scope) attrs start found → AreAttrsAssessed names t None scope attrs found
  skipped found held = record {
    given = held.0;
    added = [];
    added_names = [];
    given_are = held.1;
    names_are = nothing-added names t attrs;
    added_are = zip-none (IsAddedJudged t []);
    records = all-of record_of start.records no_records held.0 found.records held.2.records;
    values = all-of value_of start.values no_values held.0 found.values held.2.values;
    missing = subst (AreThose (is_missing t [] attrs) (2 ^ 32)) (sym (held.2.missing ∙ none_missing)) (nothing-missing t attrs);
  }

  typed : (type : TypeId) (middle found : AssessedAttrs) → HoldsEach (IsGivenJudged names t (Some type) scope) attrs start middle →
      HoldsLacking names t (uses_for t type).uses attrs middle found → AreAttrsAssessed names t (Some type) scope attrs found
  typed type middle found held more = record {
    given = held.0;
    added = more.added;
    added_names = more.added_names;
    given_are = held.1;
    names_are = more.names_are;
    added_are = more.added_are;
    records = both-of record_of start.records no_records held.0 more.added middle.records found.records held.2.records more.records;
    values = both-of value_of start.values no_values held.0 more.added middle.values found.values held.2.values more.values;
    missing = more.missing;
  }

  -- of an element that is skipped
  pub skipped-assessed : (of : Option TypeId) (found : AssessedAttrs) → of ≡ None → HoldsEach (IsGivenJudged names t of scope) attrs start found →
      AreAttrsAssessed names t of scope attrs found
  skipped-assessed of found e held =
      subst (λ o. AreAttrsAssessed names t o scope attrs found) (sym e)
      (skipped found (subst (λ o. HoldsEach (IsGivenJudged names t o scope) attrs start found) e held))

  -- of an element that has a governing type
  pub typed-assessed : (of : Option TypeId) (type : TypeId) (middle found : AssessedAttrs) → of ≡ Some type →
      HoldsEach (IsGivenJudged names t of scope) attrs start middle → HoldsLacking names t (uses_for t type).uses attrs middle found →
      AreAttrsAssessed names t of scope attrs found
  typed-assessed of type middle found e held more =
      subst (λ o. AreAttrsAssessed names t o scope attrs found) (sym e)
      (typed type middle found (subst (λ o. HoldsEach (IsGivenJudged names t o scope) attrs start middle) e held) more)

-- the attributes that are added, with the names of those that are missing
module _ (names : NameTable) (t : Tables) (uses : List UseAt) (attrs : List NamedText) (old middle new : AssessedAttrs)
    (same_records : middle.records ≡ old.records) (same_values : middle.values ≡ old.values) where
  pub lacking-holds : (lacking : Lacking) → middle.missing ≡ lacking.missing → AreLacking names t uses attrs lacking →
      HoldsEach (IsUseJudged t) lacking.added middle new → HoldsLacking names t uses attrs old new
  lacking-holds lacking e lacks more = record {
    added = more.0;
    added_names = map (λ (a : AddedUse). a.name) lacking.added;
    names_are = lacks.added;
    added_are = uses-judged names t uses lacking.added more.0 lacks.uses_are more.1;
    records = more.2.records ∙ ap (λ rs. rs ++ map record_of more.0) same_records;
    values = more.2.values ∙ ap (λ vs. vs ++ map value_of more.0) same_values;
    missing = subst (AreThose (is_missing t uses attrs) (2 ^ 32)) (sym (more.2.missing ∙ e)) lacks.missing;
  }
