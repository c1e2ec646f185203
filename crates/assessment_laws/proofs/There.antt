-- The names and the types of the records of attributes are there.
use Rattle.std.proofs.Common.{◌≡◌, ℕ, ◌<◌, true, List, Option, None, Some, map, length, refl, sym, subst, ◌∙◌, true≢false}
use Rattle.std.specs.Prelude.{All, slice_get}
use Rattle.std.specs.List.{AllZip}
use Rattle.std.specs.Option.{IsSomeAnd, option_map, option_and_then}
use Rattle.std.proofs.lemmas.Bool.{and_parts}
use Rattle.std.proofs.lemmas.List.{map-append}
use Rattle.std.proofs.lemmas.List.Elements.{All-append, All-weaker}
use Rattle.std.proofs.lemmas.Option.{same_Some, slice_get_within}
use Rattle.xs_codes.specs.declared.fault.Found.{Found}
use Rattle.xs_names.specs.Names.{NameTable}
use Rattle.xs_components.specs.Tables.{Tables}
use Rattle.xs_components.specs.declared.attribute.AttributeDecl.{AttributeDecl}
use Rattle.xs_components.specs.declared.attribute.AttrUse.{AttrUse}
use Rattle.xs_components.specs.declared.common.TypeId.{TypeId}
use Rattle.xs_components.specs.declared.common.TypeId.TheVariants.{AnyType, Builtin, Simple, Complex}
use Rattle.xs_components.specs.declared.common.ValueConstraint.{ValueConstraint}
use Rattle.xs_components.specs.declared.complex.ComplexType.{ComplexType}
use Rattle.xs_components.specs.declared.simple.SimpleType.{SimpleType}
use Rattle.component_references.specs.Heights.{IsType}
use Rattle.component_references.specs.Ranked.{IsRanked}
use Rattle.attr_uses.specs.declared.entry.UseAt.{UseAt}
use Rattle.simple_types.specs.Trees.{simple_tree, type_tree, part_tree, content_part, content_step}
use Rattle.simple_types.specs.TypeTree.{TypeTree}
use Rattle.simple_types.proofs.TreeLaws.{simple_tree_is, type_tree_is}
use Rattle.simple_types.specs.SimpleTypes.{IsSimpleTree}
use Rattle.facets.specs.Trying.{Scope}
use Rattle.attr_uses.specs.Written.{use_at}
use Rattle.attr_uses.specs.Uses.{use_named}
use Rattle.assess_records.specs.declared.outcome.ValueSource.{ValueSource}
use Rattle.assess_records.specs.declared.outcome.ValueSource.TheVariants.{Given, Schema}
use Rattle.assess_records.specs.declared.shape.NamedText.{NamedText}
use Rattle.attr_assess.specs.Governing.{attr_governing}
use Rattle.attr_assess.specs.declared.governing.AttrGoverning.{AttrGoverning}
use Rattle.attr_assess.specs.declared.governing.AttrGoverning.TheVariants.{Instance, Declared, Unassessed, Refused}
use Rattle.attr_assess.specs.Lacking.{effective_constraint, gives_one, is_lacking, part_named, is_added}
use Rattle.attr_assess.specs.Added.{AreNamed}
use Rattle.attr_assess.proofs.Needs.{use-name-is, name-there}
use Rattle.attr_assess.specs.Records.{codes_if, undeclared, IsDeclaredJudged, IsByDeclaration, IsAttrJudged}
use Rattle.attr_assess.specs.declared.judged.JudgedAttr.{JudgedAttr}
use Rattle.attr_assess.specs.Assessed.{record_of, element_uses, IsGivenJudged, IsAddedJudged, AreAttrsAssessed}
use Rattle.attr_assess.specs.declared.assessed.AssessedAttrs.{AssessedAttrs}
use Rattle.assessment_laws.specs.There.{IsThere}
use Rattle.assessment_laws.proofs.AttrZips.{zip-each}

-- ---- a simple type is there

module _ (t : Tables) (ranked : IsRanked t) where
  simple-part : (id : ℕ) (tree : TypeId → TypeTree) (o : Option SimpleType) → slice_get t.simples.parts id ≡ o → IsSimpleTree (part_tree tree o) → id < length t.simples.parts
  simple-part id tree None e h = absurd h
  simple-part id tree (Some part) e h = slice_get_within t.simples.parts id part e

  complex-part : (id : ℕ) (content : TypeId → TypeTree) (o : Option ComplexType) → slice_get t.complexes.parts id ≡ o → IsSimpleTree (content_part (simple_tree t) content o) → id < length t.complexes.parts
  complex-part id content None e h = absurd h
  complex-part id content (Some part) e h = slice_get_within t.complexes.parts id part e

  step-there : (of : TypeId) → IsSimpleTree (content_step t (type_tree t) of) → IsType t of
  step-there AnyType h = tt
  step-there (Builtin kind) h = tt
  step-there (Simple id) h =
      simple-part id (simple_tree t) (slice_get t.simples.parts id) refl (subst IsSimpleTree (simple_tree_is t ranked (Simple id)) h)
  step-there (Complex id) h = complex-part id (type_tree t) (slice_get t.complexes.parts id) refl h

  pub type-there : (of : TypeId) → IsSimpleTree (type_tree t of) → IsType t of
  type-there of h = step-there of (subst IsSimpleTree (type_tree_is t ranked of) h)

module _ (names : NameTable) (t : Tables) (named : AreNamed names t) where
  -- ---- the name of a use is there

  name-of-decl : (n : ℕ) (o : Option AttributeDecl) (name : ℕ) → slice_get t.attributes.parts n ≡ o → option_map (λ (decl : AttributeDecl). decl.name) o ≡ Some name → name < length names.names
  name-of-decl n None name e is = cc
  name-of-decl n (Some decl) name e is = subst (λ k. k < length names.names) (same_Some decl.name name is) (name-there names t n decl named e)

  name-of-part : (o : Option AttrUse) (name : ℕ) →
      option_and_then (λ (part : AttrUse). option_map (λ (decl : AttributeDecl). decl.name) (slice_get t.attributes.parts part.attribute)) o ≡ Some name → name < length names.names
  name-of-part None name is = cc
  name-of-part (Some part) name is = name-of-decl part.attribute (slice_get t.attributes.parts part.attribute) name refl is

  name-in : (uses : List UseAt) (name : ℕ) (u : UseAt) → use_named t uses name ≡ Some u → name < length names.names
  name-in uses name u e = name-of-part (use_at t u) name (use-name-is t uses name u e)

  -- the name of an attribute that is added
  pub added-in : (uses : List UseAt) (given : List NamedText) (name : ℕ) → is_added t uses given name ≡ true → name < length names.names
  added-in uses given name is = of (use_named t uses name) refl (and_parts (is_lacking given name) (gives_one t (part_named t uses name)) is).1
    where
      of : (o : Option UseAt) → use_named t uses name ≡ o → gives_one t (option_and_then (use_at t) o) ≡ true → name < length names.names
      of None e gives = absurd (true≢false (sym gives))
      of (Some u) e gives = name-in uses name u e

  -- ---- the record of an attribute

  module _ (types : (n : ℕ) (decl : AttributeDecl) → slice_get t.attributes.parts n ≡ Some decl → IsType t decl.of) where
    module _ (name : ℕ) (source : ValueSource) (scope : Scope) (text : List ℕ) (within : name < length names.names) where
      undeclared-there : (codes : List Found) (judged : JudgedAttr) → judged ≡ undeclared name source codes → IsThere names t judged.known
      undeclared-there codes judged e = subst (λ (j : JudgedAttr). IsThere names t j.known) (sym e) record { named = within; typed = tt }

      declared-there : (of : TypeId) (by_declaration by_use : Option ValueConstraint) (judged : JudgedAttr) → IsType t of →
          IsDeclaredJudged t name source scope text of by_declaration by_use judged → IsThere names t judged.known
      declared-there of by_declaration by_use judged there is =
          subst (λ (j : JudgedAttr). IsThere names t j.known) (sym is.2) record { named = within; typed = there }

      by-declaration : (n : ℕ) (o : Option AttributeDecl) (by : Option UseAt) (judged : JudgedAttr) → slice_get t.attributes.parts n ≡ o →
          IsByDeclaration t name source scope text o by judged → IsThere names t judged.known
      by-declaration n None by judged e is = undeclared-there (codes_if None) judged is
      by-declaration n (Some decl) by judged e is = declared-there decl.of decl.value _ judged (types n decl e) is

      judged-there : (g : AttrGoverning) (judged : JudgedAttr) → IsAttrJudged t name source scope text g judged → IsThere names t judged.known
      judged-there (Instance kind) judged is = declared-there (Builtin kind) None None judged tt is
      judged-there (Declared attribute by) judged is = by-declaration attribute (slice_get t.attributes.parts attribute) by judged refl is
      judged-there Unassessed judged is = undeclared-there (codes_if None) judged is
      judged-there (Refused code) judged is = undeclared-there (codes_if (Some code)) judged is

    -- the attributes that are added
    module _ (name : ℕ) (judged : JudgedAttr) (within : name < length names.names) where
      by-constraint : (u : UseAt) (part : AttrUse) (o : Option ValueConstraint) →
          IsSomeAnd o (λ (c : ValueConstraint). IsAttrJudged t name Schema c.scope c.text (Declared part.attribute (Some u)) judged) → IsThere names t judged.known
      by-constraint u part None is = absurd is
      by-constraint u part (Some c) is = judged-there name Schema c.scope c.text within (Declared part.attribute (Some u)) judged is

      by-part : (u : UseAt) (o : Option AttrUse) →
          IsSomeAnd o (λ (part : AttrUse). IsSomeAnd (effective_constraint t part) (λ (c : ValueConstraint). IsAttrJudged t name Schema c.scope c.text (Declared part.attribute (Some u)) judged)) →
          IsThere names t judged.known
      by-part u None is = absurd is
      by-part u (Some part) is = by-constraint u part (effective_constraint t part) is

      by-use : (o : Option UseAt) →
          IsSomeAnd o (λ (u : UseAt). IsSomeAnd (use_at t u) (λ (part : AttrUse). IsSomeAnd (effective_constraint t part) (λ (c : ValueConstraint). IsAttrJudged t name Schema c.scope c.text (Declared part.attribute (Some u)) judged))) →
          IsThere names t judged.known
      by-use None is = absurd is
      by-use (Some u) is = by-part u (use_at t u) is

    -- ---- all of them

    module _ (of : Option TypeId) (scope : Scope) (attrs : List NamedText) (within : All (λ (a : NamedText). a.name < length names.names) attrs) where
      given-there : (given : List JudgedAttr) → AllZip (IsGivenJudged names t of scope) attrs given → All (IsThere names t) (map record_of given)
      given-there given zip =
          zip-each (IsGivenJudged names t of scope) (λ (a : NamedText). a.name < length names.names) (IsThere names t) record_of
          (λ a judged low is. judged-there a.name Given scope a.text low (attr_governing t names of a.name) judged is) attrs given within zip

      added-there : (uses : List UseAt) (added_names : List ℕ) (added : List JudgedAttr) → All (λ name. is_added t uses attrs name ≡ true) added_names →
          AllZip (IsAddedJudged t uses) added_names added → All (IsThere names t) (map record_of added)
      added-there uses added_names added hold zip =
          zip-each (IsAddedJudged t uses) (λ name. name < length names.names) (IsThere names t) record_of
          (λ name judged low is. by-use name judged low (use_named t uses name) is) added_names added
          (All-weaker (λ name. is_added t uses attrs name ≡ true) (λ name. name < length names.names) (added-in uses attrs) added_names hold) zip

      pub assessed-there : (assessed : AssessedAttrs) → AreAttrsAssessed names t of scope attrs assessed → All (IsThere names t) assessed.records
      assessed-there assessed are =
          subst (All (IsThere names t)) (sym (are.records ∙ map-append record_of are.given are.added))
          (All-append (IsThere names t) (map record_of are.given) (map record_of are.added)
          (given-there are.given are.given_are) (added-there (element_uses t of) are.added_names are.added are.names_are.those.hold are.added_are))

-- by the simple types of a set
pub attrs-there : (names : NameTable) (t : Tables) → AreNamed names t → IsRanked t → ((n : ℕ) (decl : AttributeDecl) → slice_get t.attributes.parts n ≡ Some decl → IsSimpleTree (type_tree t decl.of)) →
    (of : Option TypeId) (scope : Scope) (attrs : List NamedText) → All (λ (a : NamedText). a.name < length names.names) attrs →
    (assessed : AssessedAttrs) → AreAttrsAssessed names t of scope attrs assessed → All (IsThere names t) assessed.records
attrs-there names t named ranked simple of scope attrs within assessed are =
    assessed-there names t named (λ n decl e. type-there t ranked decl.of (simple n decl e)) of scope attrs within assessed are
