-- Where no type is at fault, the literals of every type are known.
use Rattle.std.proofs.Common.{◌≡◌, ℕ, zero, suc, ◌+◌, ◌<◌, inl, inr, Bool, true, false, not, if◌then◌else◌, length, List, [], ◌∷◌, Option, None, Some, map, slice_get, slice_index, refl, sym, ap, subst, ◌∙◌, arith}
use Rattle.std.specs.Prelude.{All, is_some}
use Rattle.std.proofs.lemmas.Bool.{false≢true, cases_lt}
use Rattle.std.proofs.lemmas.Option.{none-some, slice_get_past}
use Rattle.std.proofs.lemmas.List.Elements.{All-head, All-tail, All-weaker}
use Rattle.xs_codes.specs.declared.fault.Fault.{Fault}
use Rattle.xs_codes.specs.Least.{is_before}
use Rattle.xs_codes.specs.declared.code.Code.TheVariants.{XSimpleFinal, CosListOfAtomic}
use Rattle.xs_components.specs.Tables.{Tables}
use Rattle.xs_components.specs.declared.common.Place.{Place}
use Rattle.xs_components.specs.declared.common.TypeId.{TypeId}
use Rattle.xs_components.specs.declared.common.TypeId.TheVariants as types
use Rattle.xs_components.specs.declared.simple.FacetItem.{FacetItem}
use Rattle.xs_components.specs.declared.simple.SimpleForm.{SimpleForm}
use Rattle.xs_components.specs.declared.simple.SimpleForm.TheVariants.{Restrict, ListOf, UnionOf}
use Rattle.xs_components.specs.declared.simple.SimpleType.{SimpleType}
use Rattle.xs_components.specs.declared.complex.ContentForm.{ContentForm}
use Rattle.xs_components.specs.declared.complex.ContentForm.TheVariants as contents
use Rattle.xs_components.specs.declared.complex.ComplexType.{ComplexType}
use Rattle.component_references.specs.Heights.{first_height, IsLower}
use Rattle.component_references.specs.Ranked.{named_types, IsRanked}
use Rattle.facet_rules.specs.First.{Rule, rule, sooner, noted, first_from, fault_at}
use Rattle.facets.specs.declared.facets.Facets.{Facets}
use Rattle.facets.specs.declared.known.Judged.{Judged}
use Rattle.facets.specs.declared.known.Known.{Known}
use Rattle.facets.specs.declared.known.Known.TheVariants.{Whole}
use Rattle.facets.specs.Facets.{IsStepJudged}
use Rattle.facets.specs.Source.{list_of}
use Rattle.simple_types.specs.TypeTree.{TypeTree, members_of}
use Rattle.simple_types.specs.Trees.{form_tree, part_tree, simple_tree, content_form, content_part, type_tree}
use Rattle.simple_types.specs.SimpleValidity.{made_from, made_from_both}
use Rattle.simple_types.proofs.TreeLaws.{simple_tree_is, type_tree_is}
use Rattle.simple_types.specs.declared.judged.TypeFacets.{TypeFacets}
use Rattle.simple_types.specs.declared.judged.JudgedType.{JudgedType}
use Rattle.simple_types.specs.Lookup.{entry_of, entry_at, looked_up, content_of}
use Rattle.simple_types.specs.TypeRules.{no_fault, base_rules, item_rules, is_final_for_lists}
use Rattle.simple_types.specs.Forms.{left_behind, IsStepMade, list_facets, known_of_members, IsFormMade, IsContentMade}
use Rattle.simple_types.specs.Judging.{Holds, IsSimpleAt, IsContentAt, AreSimplesJudged, AreContentsJudged}
use Rattle.simple_types.specs.declared.types.SimpleTypes.{SimpleTypes}
use Rattle.simple_types.specs.SimpleTypes.{AreTypesOf, IsWhole, sooner_if, first_of, first_fault_of, IsSimpleTree, AreSimpleTrees}

sooner-some : (best : Option Fault) (fault : Fault) → sooner best fault ≡ None → ⊥
sooner-some None fault e = none-some fault (sym e)
sooner-some (Some best) fault e = of (is_before fault best) e
  where
    of : (b : Bool) → (if b then Some fault else Some best) ≡ None → ⊥
    of true e = none-some fault (sym e)
    of false e = none-some best (sym e)

noted-none : (best : Option Fault) (r : Rule) → noted best r ≡ None → (best ≡ None) × (r.broken ≡ false)
noted-none best r e = of r.broken refl e
  where
    of : (b : Bool) → r.broken ≡ b → (if b then sooner best (fault_at r.at r.code) else best) ≡ None → (best ≡ None) × (r.broken ≡ false)
    of true is e = absurd (sooner-some best (fault_at r.at r.code) e)
    of false is e = (e, is)

pub first-none : (rules : List Rule) (best : Option Fault) → first_from best rules ≡ None → best ≡ None
first-none [] best e = e
first-none (r ∷ rs) best e = (noted-none best r (first-none rs (noted best r) e)).0

-- the first rule of some that are not broken
pub first-unbroken : (r : Rule) (rules : List Rule) (best : Option Fault) → first_from best (r ∷ rules) ≡ None → r.broken ≡ false
first-unbroken r rules best e = (noted-none best r (first-none rules (noted best r) e)).1

not-false : (b : Bool) → not b ≡ false → b ≡ true
not-false true e = refl
not-false false e = absurd (false≢true (sym e))

-- no type of the table is at fault
abbrev AreFaultless : List JudgedType → Type 0
AreFaultless [] = Unit {0}
AreFaultless (judged ∷ rest) = (judged.fault ≡ None) × AreFaultless rest

sooner_if-none : (best fault : Option Fault) → sooner_if best fault ≡ None → (best ≡ None) × (fault ≡ None)
sooner_if-none best None e = (e, refl)
sooner_if-none best (Some fault) e = absurd (sooner-some best fault e)

first_of-none : (table : List JudgedType) (best : Option Fault) → first_of best table ≡ None → (best ≡ None) × AreFaultless table
first_of-none [] best e = (e, tt)
first_of-none (judged ∷ rest) best e =
    let more = first_of-none rest (sooner_if best judged.fault) e in
    let both = sooner_if-none best judged.fault more.0 in
    (both.0, (both.1, more.1))

faultless-at : (table : List JudgedType) (n : ℕ) (made : JudgedType) → AreFaultless table → slice_get table n ≡ Some made → made.fault ≡ None
faultless-at [] n made h e = absurd (none-some made e)
faultless-at (judged ∷ rest) zero made h e = ap (λ (o : Option JudgedType). fault_of o) (sym e) ∙ h.0
  where
    fault_of : Option JudgedType → Option Fault
    fault_of None = None
    fault_of (Some judged) = judged.fault
faultless-at (judged ∷ rest) (suc n) made h e = faultless-at rest n made h.1 e

module _ (step_known : (behind : Facets) (step : List FacetItem) (judged : Judged) → IsStepJudged behind Whole step judged → judged.fault ≡ None → (facets : Facets) × (judged.facets ≡ Some facets)) where
  step_whole : (behind : TypeFacets) (step : List FacetItem) (made : JudgedType) → IsStepMade behind step made → made.fault ≡ None → behind.known ≡ Whole → made.of.known ≡ Whole
  step_whole behind step made is none whole =
      let judged : Judged = is.0 in
      let known = subst (λ known. IsStepJudged behind.facets known step judged) whole is.1 in
      let found = step_known behind.facets step judged known (sym (ap (λ (m : JudgedType). m.fault) is.2) ∙ none) in
      ap (λ (m : JudgedType). m.of.known) is.2 ∙ ap (λ made. (left_behind behind made).known) found.1 ∙ whole

  module _ (look : TypeId → TypeFacets) (tree : TypeId → TypeTree) where
    abbrev IsFine : TypeId → Type 0
    IsFine of = IsSimpleTree (tree of) → (look of).known ≡ Whole

    members_whole : (members : List TypeId) (known : Known) → known ≡ Whole → AreSimpleTrees (members_of (map tree members)) → All IsFine members → known_of_members look known members ≡ Whole
    members_whole [] known k simple h = k
    members_whole (m ∷ ms) known k simple h =
        members_whole ms (made_from_both known (look m).known) (ap (λ one. made_from_both one (look m).known) k ∙ ap made_from (All-head IsFine m ms h simple.0)) simple.1 (All-tail IsFine m ms h)

    form_whole : (t : Tables) (at : Place) (form : SimpleForm) (made : JudgedType) → IsFormMade t look at form made → made.fault ≡ None → IsSimpleTree (form_tree tree form) → All IsFine (named_types form) → made.of.known ≡ Whole
    form_whole t at (Restrict base step) made is none simple h =
        let judged : JudgedType = is.0 in
        let inner : judged.fault ≡ None = first-none (base_rules t at base) judged.fault (sym (ap (λ (m : JudgedType). m.fault) is.2) ∙ none) in
        ap (λ (m : JudgedType). m.of.known) is.2 ∙ step_whole (look base) step judged is.1 inner (All-head IsFine base [] h simple)
    form_whole t at (ListOf item) made is none simple h =
        ap (λ (m : JudgedType). m.of.known) is
        ∙ of (list_of (look item).facets) (sym (ap (λ (m : JudgedType). m.fault) is) ∙ none) (All-head IsFine item [] h simple)
      where
        of : (o : Option Facets) → first_from no_fault (item_rules t at item (is_some o)) ≡ None → (look item).known ≡ Whole → (list_facets o (look item).known).known ≡ Whole
        of None e whole =
            let last : true ≡ false = (noted-none (noted no_fault (rule (is_final_for_lists t item) at XSimpleFinal)) (rule true at CosListOfAtomic) e).1 in
            absurd (false≢true (sym last))
        of (Some facets) e whole = ap made_from whole
    form_whole t at (UnionOf members) made is none simple h =
        ap (λ (m : JudgedType). m.of.known) is ∙ members_whole members Whole refl simple h

  module _ (simple content : TypeId → TypeFacets) (trees contents_of : TypeId → TypeTree) where
    content_whole : (by_extension : Bool) (base : TypeId) (form : ContentForm) (made : JudgedType) → IsContentMade simple content by_extension base form made → made.fault ≡ None
        → IsSimpleTree (content_form trees contents_of by_extension base form) → (IsSimpleTree (contents_of base) → (content base).known ≡ Whole) → ((of : TypeId) → IsSimpleTree (trees of) → (simple of).known ≡ Whole) → made.of.known ≡ Whole
    content_whole true base (contents.Simple own step) made is none s h hs = ap (λ (m : JudgedType). m.of.known) is ∙ h s
    content_whole true base (contents.Complex None mixed) made is none s h hs = ap (λ (m : JudgedType). m.of.known) is ∙ h s
    content_whole true base (contents.Complex (Some p) mixed) made is none s h hs = absurd s
    content_whole false base (contents.Simple None step) made is none s h hs = step_whole (content base) step made is none (h s)
    content_whole false base (contents.Simple (Some own) step) made is none s h hs = step_whole (simple own) step made is none (hs own s)
    content_whole false base (contents.Complex effective mixed) made is none s h hs = absurd s

  module _ (t : Tables) (ranked : IsRanked t) (table : List JudgedType) (are : AreSimplesJudged t table) (faultless : AreFaultless table) where
    lower_whole : (bound : ℕ) → ((n : ℕ) → slice_index t.simples.ranks n < bound → n < length t.simples.parts → IsSimpleTree (simple_tree t (types.Simple n)) → (entry_at table n).known ≡ Whole)
        → (of : TypeId) → IsLower t (first_height + bound) of → IsSimpleTree (simple_tree t of) → (looked_up table of).known ≡ Whole
    lower_whole bound rec types.AnyType low simple = absurd (subst IsSimpleTree (simple_tree_is t ranked types.AnyType) simple)
    lower_whole bound rec (types.Builtin kind) low simple = refl
    lower_whole bound rec (types.Complex id) low simple = absurd (subst IsSimpleTree (simple_tree_is t ranked (types.Complex id)) simple)
    lower_whole bound rec (types.Simple id) low simple = rec id (omega (arith, low.lower)) low.there simple

    entry_whole : (bound n : ℕ) → slice_index t.simples.ranks n < bound → n < length t.simples.parts → IsSimpleTree (simple_tree t (types.Simple n)) → (entry_at table n).known ≡ Whole
    entry_whole zero n low there simple = absurd (omega arith)
    entry_whole (suc bound) n low there simple =
        of (slice_get table n) refl (slice_get t.simples.parts n) refl (are.each n there) (λ of lower. lower_whole bound (λ n low there. entry_whole bound n low there) of lower)
      where
        of : (entry : Option JudgedType) → slice_get table n ≡ entry → (o : Option SimpleType) → slice_get t.simples.parts n ≡ o → Holds (IsSimpleAt t table n) entry
            → ((of : TypeId) → IsLower t (first_height + bound) of → IsSimpleTree (simple_tree t of) → (looked_up table of).known ≡ Whole) → (entry_of entry).known ≡ Whole
        of None at o e h rec = absurd h
        of (Some made) at None e h rec = absurd (subst (Holds (λ part. IsFormMade t (looked_up table) part.at part.form made)) e h)
        of (Some made) at (Some part) e h rec =
            let is = subst (Holds (λ part. IsFormMade t (looked_up table) part.at part.form made)) e h in
            let low' = All-weaker (IsLower t (first_height + slice_index t.simples.ranks n)) (IsLower t (first_height + bound)) (λ of l. record { there = l.there; lower = omega (arith, l.lower, low) }) (named_types part.form) (ranked.simples n part e) in
            form_whole (looked_up table) (simple_tree t) t part.at part.form made is (faultless-at table n made faultless at)
            (subst IsSimpleTree (simple_tree_is t ranked (types.Simple n) ∙ ap (part_tree (simple_tree t)) e) simple)
            (All-weaker (IsLower t (first_height + bound)) (λ of. IsSimpleTree (simple_tree t of) → (looked_up table of).known ≡ Whole) rec (named_types part.form) low')

    simple_whole : (of : TypeId) → IsSimpleTree (simple_tree t of) → (looked_up table of).known ≡ Whole
    simple_whole types.AnyType simple = absurd (subst IsSimpleTree (simple_tree_is t ranked types.AnyType) simple)
    simple_whole (types.Builtin kind) simple = refl
    simple_whole (types.Complex id) simple = absurd (subst IsSimpleTree (simple_tree_is t ranked (types.Complex id)) simple)
    simple_whole (types.Simple id) simple = elim (cases_lt id (length t.simples.parts)) [
      | inl there ↦ entry_whole (suc (slice_index t.simples.ranks id)) id (omega arith) there simple
      | inr past ↦ absurd (subst IsSimpleTree (simple_tree_is t ranked (types.Simple id) ∙ ap (part_tree (simple_tree t)) (slice_get_past t.simples.parts id past)) simple)
    ]

  module _ (t : Tables) (ranked : IsRanked t) (simples complexes : List JudgedType) (are : AreSimplesJudged t simples) (contents_are : AreContentsJudged t simples complexes) (faultless : AreFaultless simples) (contents_faultless : AreFaultless complexes) where
    content_lower_whole : (bound : ℕ) → ((n : ℕ) → slice_index t.complexes.ranks n < bound → n < length t.complexes.parts → IsSimpleTree (type_tree t (types.Complex n)) → (entry_at complexes n).known ≡ Whole)
        → (of : TypeId) → IsLower t (first_height + bound) of → IsSimpleTree (type_tree t of) → (content_of simples complexes of).known ≡ Whole
    content_lower_whole bound rec types.AnyType low simple = simple_whole t ranked simples are faultless types.AnyType (subst IsSimpleTree (type_tree_is t ranked types.AnyType) simple)
    content_lower_whole bound rec (types.Builtin kind) low simple = refl
    content_lower_whole bound rec (types.Simple id) low simple = simple_whole t ranked simples are faultless (types.Simple id) (subst IsSimpleTree (type_tree_is t ranked (types.Simple id)) simple)
    content_lower_whole bound rec (types.Complex id) low simple = rec id (omega (arith, low.lower)) low.there simple

    content_entry_whole : (bound n : ℕ) → slice_index t.complexes.ranks n < bound → n < length t.complexes.parts → IsSimpleTree (type_tree t (types.Complex n)) → (entry_at complexes n).known ≡ Whole
    content_entry_whole zero n low there simple = absurd (omega arith)
    content_entry_whole (suc bound) n low there simple =
        of (slice_get complexes n) refl (slice_get t.complexes.parts n) refl (contents_are.each n there) (λ of lower. content_lower_whole bound (λ n low there. content_entry_whole bound n low there) of lower)
      where
        of : (entry : Option JudgedType) → slice_get complexes n ≡ entry → (o : Option ComplexType) → slice_get t.complexes.parts n ≡ o → Holds (IsContentAt t simples complexes n) entry
            → ((of : TypeId) → IsLower t (first_height + bound) of → IsSimpleTree (type_tree t of) → (content_of simples complexes of).known ≡ Whole) → (entry_of entry).known ≡ Whole
        of None at o e h rec = absurd h
        of (Some made) at None e h rec = absurd (subst (Holds (λ part. IsContentMade (looked_up simples) (content_of simples complexes) part.by_extension part.base part.content made)) e h)
        of (Some made) at (Some part) e h rec =
            let is = subst (Holds (λ part. IsContentMade (looked_up simples) (content_of simples complexes) part.by_extension part.base part.content made)) e h in
            let l = ranked.complexes n part e in
            let base : IsLower t (first_height + bound) part.base = record { there = l.there; lower = omega (arith, l.lower, low) } in
            content_whole (looked_up simples) (content_of simples complexes) (simple_tree t) (type_tree t) part.by_extension part.base part.content made is (faultless-at complexes n made contents_faultless at)
            (subst IsSimpleTree (type_tree_is t ranked (types.Complex n) ∙ ap (content_part (simple_tree t) (type_tree t)) e) simple)
            (rec part.base base) (simple_whole t ranked simples are faultless)

    type_whole : (of : TypeId) → IsSimpleTree (type_tree t of) → (content_of simples complexes of).known ≡ Whole
    type_whole types.AnyType simple = simple_whole t ranked simples are faultless types.AnyType (subst IsSimpleTree (type_tree_is t ranked types.AnyType) simple)
    type_whole (types.Builtin kind) simple = refl
    type_whole (types.Simple id) simple = simple_whole t ranked simples are faultless (types.Simple id) (subst IsSimpleTree (type_tree_is t ranked (types.Simple id)) simple)
    type_whole (types.Complex id) simple = elim (cases_lt id (length t.complexes.parts)) [
      | inl there ↦ content_entry_whole (suc (slice_index t.complexes.ranks id)) id (omega arith) there simple
      | inr past ↦ absurd (subst IsSimpleTree (type_tree_is t ranked (types.Complex id) ∙ ap (content_part (simple_tree t) (type_tree t)) (slice_get_past t.complexes.parts id past)) simple)
    ]

  -- where no type is at fault, every type that is simple is known
  pub all_whole : (t : Tables) → IsRanked t → (types_of : SimpleTypes) → AreTypesOf t types_of → first_fault_of types_of ≡ None → (of : TypeId) → IsSimpleTree (type_tree t of) → IsWhole types_of of
  all_whole t ranked types_of are none of simple =
      let outer = first_of-none types_of.complexes (first_of None types_of.simples) none in
      let inner = first_of-none types_of.simples None outer.0 in
      type_whole t ranked types_of.simples types_of.complexes are.simples are.complexes inner.1 outer.1 of simple
