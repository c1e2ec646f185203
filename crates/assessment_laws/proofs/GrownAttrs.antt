-- The records of attributes, where the table of names has grown: no attribute that is added has a name that is new.
use Rattle.std.proofs.Common.{◌≡◌, ℕ, ◌+◌, ◌<◌, true, List, [], ◌∷◌, Option, None, Some, length, get_or, refl, sym, ap, ◌∙◌, subst, arith, true≢false}
use Rattle.std.specs.Prelude.{All, slice_get}
use Rattle.std.specs.Cmp.Lexicographic.{slice_cmp}
use Rattle.std.specs.List.{AllZip}
use Rattle.std.specs.List.Sorted.{IsSortedBy}
use Rattle.std.specs.Option.{option_map, option_and_then}
use Rattle.std.specs.Ordering.{nat_cmp, ordering_then, is_lt}
use Rattle.std.proofs.lemmas.Bool.{and_parts}
use Rattle.std.proofs.lemmas.List.Elements.{All-head, All-tail, All-weaker}
use Rattle.std.proofs.lemmas.Option.{same_Some}
use Rattle.xs_names.specs.Names.{NameTable, Grown, IsSound}
use Rattle.xs_names.proofs.GrownLaws.{space_of-Grown, local_of-Grown}
use Rattle.xs_components.specs.Tables.{Tables}
use Rattle.xs_components.specs.declared.attribute.AttributeDecl.{AttributeDecl}
use Rattle.xs_components.specs.declared.attribute.AttrUse.{AttrUse}
use Rattle.xs_components.specs.declared.common.TypeId.{TypeId}
use Rattle.xs_components.specs.declared.common.TypeId.TheVariants.{AnyType, Builtin, Simple, Complex}
use Rattle.attr_uses.specs.declared.entry.UseAt.{UseAt}
use Rattle.attr_uses.specs.Uses.{AttrUses, use_named}
use Rattle.attr_uses.specs.Written.{use_at}
use Rattle.component_tables.specs.Named.{attribute_with}
use Rattle.assess_records.specs.declared.outcome.ValueSource.TheVariants.{Given}
use Rattle.assess_records.specs.declared.shape.NamedText.{NamedText}
use Rattle.attr_assess.specs.Added.{AreNamed}
use Rattle.attr_assess.specs.Assessed.{IsGivenJudged, element_uses, AreAttrsAssessed}
use Rattle.attr_assess.specs.Governing.{uses_for, by_use, by_uses, by_type, by_wildcard, unless_instance, attr_governing}
use Rattle.attr_assess.specs.Lacking.{is_lacking, gives_one, part_named, is_added}
use Rattle.attr_assess.specs.Order.{is_before}
use Rattle.attr_assess.specs.Records.{IsAttrJudged}
use Rattle.attr_assess.specs.declared.assessed.AssessedAttrs.{AssessedAttrs}
use Rattle.attr_assess.specs.declared.governing.AttrGoverning.{AttrGoverning}
use Rattle.attr_assess.specs.declared.judged.JudgedAttr.{JudgedAttr}
use Rattle.attr_assess.proofs.Needs.{use-name-is, name-there}
use Rattle.facets.specs.Trying.{Scope}
use Rattle.assessment_laws.proofs.Spaces.{instance-kept, text-kept}

-- ---- an attribute that is added has the name of a declaration

module _ (names : NameTable) (t : Tables) (named : AreNamed names t) where
  declared-within : (n : ℕ) (o : Option AttributeDecl) (name : ℕ) → slice_get t.attributes.parts n ≡ o → option_map (λ (decl : AttributeDecl). decl.name) o ≡ Some name → name < length names.names
  declared-within n None name e is = cc
  declared-within n (Some decl) name e is = subst (λ (k : ℕ). k < length names.names) (same_Some decl.name name is) (name-there names t n decl named e)

  used-within : (o : Option AttrUse) (name : ℕ) →
      option_and_then (λ (part : AttrUse). option_map (λ (decl : AttributeDecl). decl.name) (slice_get t.attributes.parts part.attribute)) o ≡ Some name → name < length names.names
  used-within None name is = cc
  used-within (Some part) name is = declared-within part.attribute (slice_get t.attributes.parts part.attribute) name refl is

  added-within : (uses : List UseAt) (given : List NamedText) (name : ℕ) → is_added t uses given name ≡ true → name < length names.names
  added-within uses given name is = of (use_named t uses name) refl (and_parts (is_lacking given name) (gives_one t (part_named t uses name)) is).1
    where
      of : (o : Option UseAt) → use_named t uses name ≡ o → gives_one t (option_and_then (use_at t) o) ≡ true → name < length names.names
      of None e gives = absurd (true≢false (sym gives))
      of (Some u) e gives = used-within (use_at t u) name (use-name-is t uses name u e)

module _ (old new : NameTable) (g : Grown old new) (sound : IsSound old) (t : Tables) where
  -- ---- what governs one

  uses-kept : (value : AttrUses) (name : ℕ) → name < length old.names → by_uses t new value name ≡ by_uses t old value name
  uses-kept value name l =
      ap (λ (space : ℕ). by_use t (use_named t value.uses name) (by_wildcard value.wildcard space (attribute_with t name))) (space_of-Grown old new g name l)

  by-type-kept : (of : TypeId) (name : ℕ) → name < length old.names → by_type t new of name ≡ by_type t old of name
  by-type-kept (Builtin kind) name l = refl
  by-type-kept (Simple id) name l = refl
  by-type-kept AnyType name l = uses-kept (uses_for t AnyType) name l
  by-type-kept (Complex id) name l = uses-kept (uses_for t (Complex id)) name l

  governing-kept : (of : Option TypeId) (name : ℕ) → name < length old.names → attr_governing t new of name ≡ attr_governing t old of name
  governing-kept None name l = refl
  governing-kept (Some of) name l =
      let which = instance-kept old new g sound name l in
      let otherwise = by-type-kept of name l in
      λ i. unless_instance (which i) (otherwise i)

  given-kept : (of : Option TypeId) (scope : Scope) (attrs : List NamedText) (xs : List JudgedAttr) → All (λ (a : NamedText). a.name < length old.names) attrs →
      AllZip (IsGivenJudged old t of scope) attrs xs → AllZip (IsGivenJudged new t of scope) attrs xs
  given-kept of scope [] [] within z = tt
  given-kept of scope [] (x ∷ xs) within z = absurd z
  given-kept of scope (a ∷ attrs) [] within z = absurd z
  given-kept of scope (a ∷ attrs) (x ∷ xs) within z = (
    subst (λ (by : AttrGoverning). IsAttrJudged t a.name Given scope a.text by x)
        (sym (governing-kept of a.name (All-head (λ (b : NamedText). b.name < length old.names) a attrs within))) z.0,
    given-kept of scope attrs xs (All-tail (λ (b : NamedText). b.name < length old.names) a attrs within) z.1,
  )

  -- ---- the order of those that are added

  before-kept : (a b : ℕ) → a < length old.names → b < length old.names → is_before new a b ≡ is_before old a b
  before-kept a b l m =
      let first = text-kept old new g sound a l in
      let second = text-kept old new g sound b m in
      let one = local_of-Grown old new g a l in
      let two = local_of-Grown old new g b m in
      λ i. is_lt (ordering_then (slice_cmp nat_cmp (first i) (second i)) (slice_cmp nat_cmp (one i) (two i)))

  sorted-kept : (names : List ℕ) → All (λ (n : ℕ). n < length old.names) names → IsSortedBy (is_before old) names → IsSortedBy (is_before new) names
  sorted-kept names all sorted k d low l =
      before-kept (get_or names (k + 1) d) (get_or names k d) (all (k + 1) d l) (all k d (omega (arith, l))) ∙ sorted k d low l

  -- ---- all of them

  pub assessed-kept : AreNamed old t → (of : Option TypeId) (scope : Scope) (attrs : List NamedText) (assessed : AssessedAttrs) → All (λ (a : NamedText). a.name < length old.names) attrs →
      AreAttrsAssessed old t of scope attrs assessed → AreAttrsAssessed new t of scope attrs assessed
  assessed-kept named of scope attrs assessed within h = record {
    given = h.given;
    added = h.added;
    added_names = h.added_names;
    given_are = given-kept of scope attrs h.given within h.given_are;
    names_are = record {
      those = h.names_are.those;
      sorted = sorted-kept h.added_names
          (All-weaker (λ (n : ℕ). is_added t (element_uses t of) attrs n ≡ true) (λ (n : ℕ). n < length old.names) (λ n e. added-within old t named (element_uses t of) attrs n e) h.added_names h.names_are.those.hold)
          h.names_are.sorted;
    };
    added_are = h.added_are;
    records = h.records;
    values = h.values;
    missing = h.missing;
  }
