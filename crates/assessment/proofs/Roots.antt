-- The codes of IDs at the root of an assessed document.
use Rattle.std.proofs.Common.{◌≡◌, ◌⊎◌, inl, inr, ℕ, ◌+◌, ◌≤◌, ◌==◌, if◌then◌else◌, cond, List, [], Option, refl, sym, ap, ◌∙◌, subst, arith}
use Rattle.std.proofs.lemmas.Bool.{eq-eqb, ne_eqb}
use Rattle.xs_names.specs.Scope.{first_scope}
use Rattle.xs_codes.specs.declared.fault.Found.{Found}
use Rattle.tree_rows.specs.Forest.{Forest, none, text, element}
use Rattle.tree_rows.specs.Whole.{HasRoot, times}
use Rattle.tree_rows.specs.declared.row.Attribute.{Attribute}
use Rattle.assess_records.specs.Counts.{counts_of}
use Rattle.assess_records.specs.declared.record.ElementRecord.{ElementRecord}
use Rattle.assess_records.specs.declared.shape.ElementShape.{ElementShape}
use Rattle.elem_governing.specs.declared.pairs.Governing.{Governing}
use Rattle.elem_assess.specs.Marked.{with_ids, marked_record}
use Rattle.assess_records.specs.Numbered.{Head, head_of, heads, named_texts, scope_in, characters, shape_of}
use Rattle.assessment.specs.Attribution.{SchemaSet}
use Rattle.assessment.specs.Assessment.{Entry, Assessed, entry, Beside, first_pair, other_pairs, sibling_records, AreJudged, IsEntry, root_pairs, IsAssessment}
use Rattle.assessment.specs.Local.{HasElement}
use Rattle.assessment.specs.Plain.{plain_beside}
use Rattle.identity_tables.specs.Ids.{id_codes}
use Rattle.assessment.specs.Bearings.{borne_values}
use Rattle.assessment.specs.Joined.{beside_of, marked_entry, with_codes}
use Rattle.assessment.proofs.Alike.{SaidAlike, element-counts, assessed-alike}

-- what is found out about an element with codes of IDs and without
abbrev pub IsBehind : SchemaSet → Type 0
IsBehind s = (shape : ElementShape) (codes : List Found) → shape.ids ≡ [] → (own : Entry) → AreJudged s shape own → AreJudged s (with_ids codes shape) (marked_entry codes own)

abbrev pub IsTakenOff : SchemaSet → Type 0
IsTakenOff s = (shape : ElementShape) (codes : List Found) → shape.ids ≡ [] → (own : Entry) → AreJudged s (with_ids codes shape) own →
    (e : ElementRecord) × AreJudged s shape (record own { element = e }) × (own.element ≡ marked_record codes e)

module _ (s : SchemaSet) (behind : IsBehind s) (taken_off : IsTakenOff s) (g : Governing) (h : Head) (number : ℕ) (attributes : List Attribute) (children : Forest) (inner : List Governing) (below : Assessed) (codes : List Found) (b : Beside)
    (identity : b.identity number ≡ []) (ids : b.ids number ≡ codes) where
  abbrev shape_by : Option ℕ → List Found → List Found → ElementShape
  shape_by stuck own said = shape_of h (named_texts s.names attributes) (characters children) stuck (counts_of (sibling_records below)) own said

  entry-marked : (own : Entry) → IsEntry s plain_beside g h number attributes children inner below own → IsEntry s b g h number attributes children inner below (marked_entry codes own)
  entry-marked own e = record {
    number_is = e.number_is;
    governing_is = e.governing_is;
    stuck = e.stuck;
    terms = e.terms;
    attributed = e.attributed;
    inner_is = e.inner_is;
    known =
        subst (λ (said : List Found). AreJudged s (shape_by e.stuck (b.identity number) said) (marked_entry codes own)) (sym ids)
        (subst (λ (said : List Found). AreJudged s (shape_by e.stuck said codes) (marked_entry codes own)) (sym identity)
        (behind (shape_by e.stuck [] []) codes refl own e.known));
  }

  entry-plain : (own : Entry) → IsEntry s b g h number attributes children inner below own →
      (plain : Entry) × IsEntry s plain_beside g h number attributes children inner below plain × (own ≡ marked_entry codes plain)
  entry-plain own e =
      let known =
      subst (λ (said : List Found). AreJudged s (shape_by e.stuck [] said) own) ids
      (subst (λ (said : List Found). AreJudged s (shape_by e.stuck said (b.ids number)) own) identity e.known) in
      let found = (taken_off (shape_by e.stuck [] []) codes refl own known) in (
        record own { element = found.0 },
        record {
          number_is = e.number_is;
          governing_is = e.governing_is;
          stuck = e.stuck;
          terms = e.terms;
          attributed = e.attributed;
          inner_is = e.inner_is;
          known = found.1;
        },
        ap (λ (r : ElementRecord). record own { element = r }) found.2,
      )

-- the root's number is no other element's
apart : (number : ℕ) (children next : Forest) → 1 + (times number children + times number next) ≤ 1 → (n : ℕ) → HasElement n children ⊎ HasElement n next → number ≡ n → ⊥
apart number children next once n (inl there) same = let some = element-counts number children (subst (λ m. HasElement m children) (sym same) there) in omega arith
apart number children next once n (inr there) same = let some = element-counts number next (subst (λ m. HasElement m next) (sym same) there) in omega arith

module _ (number n : ℕ) (other : number ≡ n → ⊥) (codes : List Found) where
  none-said : (if number == n then codes else []) ≡ []
  none-said = rw (ne_eqb number n other) refl

root-said : (number : ℕ) (codes : List Found) → (if number == number then codes else []) ≡ codes
root-said number codes = rw (eq-eqb number number refl) refl

once-at : (number : ℕ) (children next : Forest) → (if number == number then 1 else 0) + (times number children + times number next) ≤ 1 → 1 + (times number children + times number next) ≤ 1
once-at number children next once = let one : cond {A = ℕ} (number == number) 1 0 ≡ 1 = rw (eq-eqb number number refl) refl in omega arith

module _ (s : SchemaSet) (behind : IsBehind s) (taken_off : IsTakenOff s) where
  pub joined : (f : Forest) (found : Assessed) → HasRoot f → ((key : ℕ) → times key f ≤ 1) → IsAssessment s plain_beside f found → IsAssessment s (beside_of f (with_codes found)) f (with_codes found)
  joined none found root differ a = absurd root
  joined (text number chars next) found root differ a = absurd root
  joined (element number name bindings attributes children next) found root differ a =
      let f = element number name bindings attributes children next in
      let pairs = root_pairs s (heads s.names first_scope f) in
      let own = a.0 in
      let plain = entry a.0 a.2 a.3 in
      let codes = id_codes (borne_values plain) in
      let b = beside_of f (with_codes plain) in
      let once = once-at number children next (differ number) in
      let alike : (n : ℕ) → HasElement n children ⊎ HasElement n next → SaidAlike plain_beside b n = λ n there. record {
        identity_is = refl;
        ids_are = sym (none-said number n (apart number children next once n there) (id_codes (borne_values (with_codes plain))));
      } in
      subst (λ (x : Assessed). IsAssessment s (beside_of f (with_codes x)) f (with_codes x)) (sym a.4) (
        marked_entry codes own,
        a.1,
        a.2,
        a.3,
        refl,
        entry-marked s behind taken_off (first_pair pairs) (head_of s.names first_scope name bindings attributes) number attributes children a.1 a.2 codes b refl (root-said number codes) own a.5,
        assessed-alike s plain_beside b children (scope_in s.names bindings first_scope) a.1 a.2 (λ n has. alike n (inl has)) a.6,
        assessed-alike s plain_beside b next first_scope (other_pairs pairs) a.3 (λ n has. alike n (inr has)) a.7,
      )

  pub parted : (f : Forest) (found : Assessed) → HasRoot f → ((key : ℕ) → times key f ≤ 1) → IsAssessment s (beside_of f found) f found → (plain : Assessed) × IsAssessment s plain_beside f plain × (found ≡ with_codes plain)
  parted none found root differ a = absurd root
  parted (text number chars next) found root differ a = absurd root
  parted (element number name bindings attributes children next) found root differ a =
      let f = element number name bindings attributes children next in
      let pairs = root_pairs s (heads s.names first_scope f) in
      let b = beside_of f found in
      let codes = id_codes (borne_values found) in
      let once = once-at number children next (differ number) in
      let alike : (n : ℕ) → HasElement n children ⊎ HasElement n next → SaidAlike b plain_beside n = λ n there. record {
        identity_is = refl;
        ids_are = none-said number n (apart number children next once n there) codes;
      } in
      let own = entry-plain s behind taken_off (first_pair pairs) (head_of s.names first_scope name bindings attributes) number attributes children a.1 a.2 codes b refl (root-said number codes) a.0 a.5 in
      let plain = entry own.0 a.2 a.3 in
      let whole : found ≡ entry (marked_entry codes own.0) a.2 a.3 = a.4 ∙ ap (λ (e : Entry). entry e a.2 a.3) own.2 in
      let same : codes ≡ id_codes (borne_values plain) = ap (λ (x : Assessed). id_codes (borne_values x)) whole in (
        plain,
        (
          own.0,
          a.1,
          a.2,
          a.3,
          refl,
          own.1,
          assessed-alike s b plain_beside children (scope_in s.names bindings first_scope) a.1 a.2 (λ n has. alike n (inl has)) a.6,
          assessed-alike s b plain_beside next first_scope (other_pairs pairs) a.3 (λ n has. alike n (inr has)) a.7,
        ),
        whole ∙ ap (λ (cs : List Found). entry (marked_entry cs own.0) a.2 a.3) same,
      )
