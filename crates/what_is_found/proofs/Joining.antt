-- The assessment with the codes that are said beside, and without.
use Rattle.std.proofs.Common.{◌≡◌, ℕ, ◌==◌, Bool, true, if◌then◌else◌, List, [], ◌++◌, Option, refl, sym, ap, ◌∙◌, subst}
use Rattle.std.specs.Prelude.{not}
use Rattle.std.specs.List.{flat_map}
use Rattle.std.proofs.lemmas.Grind.{flat_map-append}
use Rattle.xs_names.specs.Scope.{first_scope}
use Rattle.xs_codes.specs.declared.fault.Found.{Found}
use Rattle.tree_rows.specs.Forest.{Forest, none, text, element}
use Rattle.tree_rows.specs.declared.row.Attribute.{Attribute}
use Rattle.identity_tables.specs.Ids.{id_codes}
use Rattle.assess_records.specs.Counts.{counts_of}
use Rattle.assess_records.specs.Numbered.{Scope, Head, head_of, heads, named_texts, scope_in, characters, shape_of}
use Rattle.assess_records.specs.declared.counts.ChildCounts.{ChildCounts}
use Rattle.assess_records.specs.declared.record.ElementRecord.{ElementRecord}
use Rattle.assess_records.specs.declared.shape.ElementShape.{ElementShape}
use Rattle.elem_governing.specs.declared.pairs.Governing.{Governing}
use Rattle.elem_codes.specs.Facts.{has_children}
use Rattle.elem_codes.specs.Records.{element_record}
use Rattle.elem_assess.specs.Local.{IsLocal, said_on}
use Rattle.elem_assess.specs.declared.records.Judged.{Judged}
use Rattle.assessment.specs.Attribution.{SchemaSet}
use Rattle.assessment.specs.Assessment.{Entry, Assessed, nothing, entry, Beside, first_pair, other_pairs, sibling_records, judged_of, AreJudged, IsEntry, AreAssessed, root_pairs, IsAssessment}
use Rattle.assessment.specs.Bearings.{bearings_below, bearings, borne_of, borne_values}
use Rattle.assessment.specs.Joined.{is_root}
use Rattle.assessment.specs.Plain.{plain_beside}
use Rattle.xpath_subset.specs.declared.paths.IdentityPaths.{IdentityPaths}
use Rattle.identity_constraints.specs.Seen.{element as key_element}
use Rattle.identity_constraints.specs.Satisfied.{identity_at}
use Rattle.what_is_found.specs.Identity.{seen_element, seen, beside_of, with_more, has_invalid, with_all, said, with_codes}
use Rattle.what_is_found.proofs.Counts.{invalid-counted, invalid-stays, tried-stays, children-stay}
use Rattle.what_is_found.proofs.Shapes.{local-again, record-again, record_of_other}

-- ---- what identity constraints and IDs see does not depend on codes

module _ (codes : ℕ → List Found) where
  seen-same : (f : Assessed) → seen (with_all codes f) ≡ seen f
  seen-same nothing = refl
  seen-same (entry own below next) = λ i. key_element (seen_element own) (seen-same below i) (seen-same next i)

  below-same : (parent : ℕ) (f : Assessed) → flat_map borne_of (bearings_below parent (with_all codes f)) ≡ flat_map borne_of (bearings_below parent f)
  below-same parent nothing = refl
  below-same parent (entry own below next) =
      let first = below-same own.number below in
      let rest = below-same parent next in
      let own_atoms = borne_of (record { bearer = parent; own = own }) in
      ap (λ more. own_atoms ++ more)
      (flat_map-append borne_of (bearings_below own.number (with_all codes below)) (bearings_below parent (with_all codes next))
      ∙ ((λ i. first i ++ rest i) ∙ sym (flat_map-append borne_of (bearings_below own.number below) (bearings_below parent next))))

  borne-same : (f : Assessed) → borne_values (with_all codes f) ≡ borne_values f
  borne-same nothing = refl
  borne-same (entry own below next) =
      let first = below-same own.number below in
      let rest = borne-same next in
      let own_atoms = borne_of (record { bearer = own.number; own = own }) in
      ap (λ more. own_atoms ++ more)
      (flat_map-append borne_of (bearings_below own.number (with_all codes below)) (bearings (with_all codes next))
      ∙ ((λ i. first i ++ rest i) ∙ sym (flat_map-append borne_of (bearings_below own.number below) (bearings next))))

  pub beside-same : (s : SchemaSet) (identities : List IdentityPaths) (f : Forest) (found : Assessed) → beside_of s identities f (with_all codes found) ≡ beside_of s identities f found
  beside-same s identities f found =
      let seen_is = seen-same found in
      let borne_is = borne-same found in
      λ i. record {
        identity = λ number. identity_at s.names s.parts identities number (seen_is i);
        ids = λ number. if is_root f number then id_codes (borne_is i) else [];
      }

-- ---- one element

module _ (s : SchemaSet) (b : Beside) (g : Governing) (h : Head) (number : ℕ) (attributes : List Attribute) (children : Forest) (inner : List Governing) (below : Assessed) where
  abbrev counted : Assessed → ChildCounts
  counted f = counts_of (sibling_records f)

  abbrev shape_by : Option ℕ → ChildCounts → List Found → List Found → ElementShape
  shape_by stuck counts identity ids = shape_of h (named_texts s.names attributes) (characters children) stuck counts identity ids

  abbrev joined : Assessed
  joined = with_all (said b) below

  abbrev with_said : Entry → Entry
  with_said own = record own { element = with_more (said b own.number) (has_invalid joined) own.element }

  -- the record with the codes by the record without
  module _ (stuck : Option ℕ) (n : ℕ) (of : Governing) where
    abbrev plain_shape : ElementShape
    plain_shape = shape_by stuck (counted below) [] []

    abbrev said_shape : ElementShape
    said_shape = shape_by stuck (counted joined) (b.identity n) (b.ids n)

    stays : not ((counted below).invalid == 0) ≡ true → not ((counted joined).invalid == 0) ≡ true
    stays e = invalid-counted joined ∙ invalid-stays (said b) below (sym (invalid-counted below) ∙ e)

    record-said : (judged : Judged) (k : IsLocal s.names s.parts of plain_shape judged) →
        record_of_other plain_shape (counted joined) (b.identity n) (b.ids n) (children-stay (said b) below) s.names s.parts of judged k ≡ with_more (said b n) (has_invalid joined) judged.element
    record-said judged k =
        record-again plain_shape (counted joined) (b.identity n) (b.ids n) (children-stay (said b) below) s.parts s.names of (said_on s.names s.parts of plain_shape) k.attributes.missing k.known.outcome k.attributes.records
        refl refl (tried-stays (said b) below) stays
        ∙ (ap (λ (q : Bool). with_more (said b n) q (element_record s.names s.parts of plain_shape (said_on s.names s.parts of plain_shape) k.attributes.missing k.known.outcome k.attributes.records)) (invalid-counted joined)
        ∙ ap (λ (r : ElementRecord). with_more (said b n) (has_invalid joined) r) (sym k.known.record_is))

    judged-said : (judged : Judged) → IsLocal s.names s.parts of plain_shape judged →
        IsLocal s.names s.parts of said_shape (record judged { element = with_more (said b n) (has_invalid joined) judged.element })
    judged-said judged k =
        subst (λ (r : ElementRecord). IsLocal s.names s.parts of said_shape (record judged { element = r })) (record-said judged k)
        (local-again plain_shape (counted joined) (b.identity n) (b.ids n) (children-stay (said b) below) s.names s.parts of judged k)

    judged-plain : (judged : Judged) → IsLocal s.names s.parts of said_shape judged →
        (e : ElementRecord) × IsLocal s.names s.parts of plain_shape (record judged { element = e }) × (judged.element ≡ with_more (said b n) (has_invalid joined) e)
    judged-plain judged k =
        let back : has_children (counted below) ≡ has_children (counted joined) = sym (children-stay (said b) below) in
        let plain = record_of_other said_shape (counted below) [] [] back s.names s.parts of judged k in
        let local = local-again said_shape (counted below) [] [] back s.names s.parts of judged k in
        let again = record-said (record judged { element = plain }) local in
        (plain, local, k.known.record_is ∙ again)

  entry-said : (own : Entry) → IsEntry s plain_beside g h number attributes children inner below own → IsEntry s b g h number attributes children inner joined (with_said own)
  entry-said own e = record {
    number_is = e.number_is;
    governing_is = e.governing_is;
    stuck = e.stuck;
    terms = e.terms;
    attributed = e.attributed;
    inner_is = e.inner_is;
    known =
        subst (λ (n : ℕ). AreJudged s (shape_by e.stuck (counted joined) (b.identity n) (b.ids n)) (with_said own)) e.number_is
        (judged-said e.stuck own.number own.governing (judged_of own) e.known);
  }

  entry-plain : (own : Entry) → IsEntry s b g h number attributes children inner joined own →
      (plain : Entry) × IsEntry s plain_beside g h number attributes children inner below plain × (own ≡ with_said plain)
  entry-plain own e =
      let known = subst (λ (n : ℕ). AreJudged s (shape_by e.stuck (counted joined) (b.identity n) (b.ids n)) own) (sym e.number_is) e.known in
      let found = judged-plain e.stuck own.number own.governing (judged_of own) known in (
        record own { element = found.0 },
        record {
          number_is = e.number_is;
          governing_is = e.governing_is;
          stuck = e.stuck;
          terms = e.terms;
          attributed = e.attributed;
          inner_is = e.inner_is;
          known = found.1;
        },
        ap (λ (r : ElementRecord). record own { element = r }) found.2,
      )

-- ---- siblings, and what is below them

module _ (s : SchemaSet) (b : Beside) where
  all-said : (f : Forest) (scope : Scope) (pairs : List Governing) (found : Assessed) → AreAssessed s plain_beside scope pairs f found → AreAssessed s b scope pairs f (with_all (said b) found)
  all-said none scope pairs found a = ap (with_all (said b)) a
  all-said (text number chars next) scope pairs found a = all-said next scope pairs found a
  all-said (element number name bindings attributes children next) scope pairs found a = (
    record a.0 { element = with_more (said b a.0.number) (has_invalid (with_all (said b) a.2)) a.0.element },
    a.1,
    with_all (said b) a.2,
    with_all (said b) a.3,
    ap (with_all (said b)) a.4,
    entry-said s b (first_pair pairs) (head_of s.names scope name bindings attributes) number attributes children a.1 a.2 a.0 a.5,
    all-said children (scope_in s.names bindings scope) a.1 a.2 a.6,
    all-said next scope (other_pairs pairs) a.3 a.7,
  )

  all-plain : (f : Forest) (scope : Scope) (pairs : List Governing) (found : Assessed) → AreAssessed s b scope pairs f found →
      (plain : Assessed) × AreAssessed s plain_beside scope pairs f plain × (found ≡ with_all (said b) plain)
  all-plain none scope pairs found a = (nothing, refl, a)
  all-plain (text number chars next) scope pairs found a = all-plain next scope pairs found a
  all-plain (element number name bindings attributes children next) scope pairs found a =
      let u = all-plain children (scope_in s.names bindings scope) a.1 a.2 a.6 in
      let v = all-plain next scope (other_pairs pairs) a.3 a.7 in
      let there = subst (λ (below : Assessed). IsEntry s b (first_pair pairs) (head_of s.names scope name bindings attributes) number attributes children a.1 below a.0) u.2 a.5 in
      let o = entry-plain s b (first_pair pairs) (head_of s.names scope name bindings attributes) number attributes children a.1 u.0 a.0 there in (
        entry o.0 u.0 v.0,
        (o.0, a.1, u.0, v.0, refl, o.1, u.1, v.1),
        a.4 ∙ (λ i. entry (o.2 i) (u.2 i) (v.2 i)),
      )

-- ---- the whole

pub joined-is : (s : SchemaSet) (identities : List IdentityPaths) (f : Forest) (found : Assessed) → IsAssessment s plain_beside f found →
    IsAssessment s (beside_of s identities f (with_codes s identities f found)) f (with_codes s identities f found)
joined-is s identities f found a =
    let b = beside_of s identities f found in
    subst (λ (c : Beside). IsAssessment s c f (with_codes s identities f found)) (sym (beside-same (said b) s identities f found))
    (all-said s b f first_scope (root_pairs s (heads s.names first_scope f)) found a)

pub parted-is : (s : SchemaSet) (identities : List IdentityPaths) (f : Forest) (found : Assessed) → IsAssessment s (beside_of s identities f found) f found →
    (plain : Assessed) × IsAssessment s plain_beside f plain × (found ≡ with_codes s identities f plain)
parted-is s identities f found a =
    let b = beside_of s identities f found in
    let u = all-plain s b f first_scope (root_pairs s (heads s.names first_scope f)) found a in
    let same : b ≡ beside_of s identities f u.0 = ap (beside_of s identities f) u.2 ∙ beside-same (said b) s identities f u.0 in
    (u.0, u.1, u.2 ∙ ap (λ (c : Beside). with_all (said c) u.0) same)
