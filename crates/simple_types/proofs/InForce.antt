-- What judging a type comes to is what is in force for it, unfolded.
use Rattle.std.proofs.Common.{◌≡◌, ℕ, zero, suc, ◌+◌, ◌<◌, inl, inr, length, Bool, true, false, List, [], ◌∷◌, Option, None, Some, map, slice_get, slice_index, refl, sym, ap, subst, ◌∙◌, arith}
use Rattle.std.specs.Prelude.{All}
use Rattle.std.specs.Option.{unwrap_or}
use Rattle.std.proofs.lemmas.Bool.{cases_lt}
use Rattle.std.proofs.lemmas.Option.{slice_get_past}
use Rattle.std.proofs.lemmas.List.Elements.{All-head, All-tail, All-weaker, All-nil, All-cons}
use Rattle.xs_components.specs.Tables.{Tables}
use Rattle.xs_components.specs.declared.common.Place.{Place}
use Rattle.xs_components.specs.declared.common.TypeId.{TypeId}
use Rattle.xs_components.specs.declared.common.TypeId.TheVariants as types
use Rattle.xs_components.specs.declared.simple.FacetItem.{FacetItem}
use Rattle.xs_components.specs.declared.simple.SimpleForm.{SimpleForm}
use Rattle.xs_components.specs.declared.simple.SimpleForm.TheVariants.{Restrict, ListOf, UnionOf}
use Rattle.xs_components.specs.declared.simple.SimpleType.{SimpleType}
use Rattle.xs_components.specs.declared.complex.ContentForm.{ContentForm}
use Rattle.xs_components.specs.declared.complex.ContentForm.TheVariants as contents
use Rattle.xs_components.specs.declared.complex.ComplexType.{ComplexType}
use Rattle.component_references.specs.Heights.{first_height, IsLower}
use Rattle.component_references.specs.Ranked.{named_types, IsRanked}
use Rattle.facets.specs.declared.facets.Facets.{Facets}
use Rattle.facets.specs.declared.known.Known.{Known}
use Rattle.facets.specs.declared.known.Known.TheVariants.{Whole}
use Rattle.facets.specs.UnionMembers.{Members}
use Rattle.facets.specs.Making.{no_members, with_member}
use Rattle.facets.specs.Source.{list_of}
use Rattle.simple_types.specs.TypeTree.{TypeTree, not_simple, restriction, list_type, union_type, members_of}
use Rattle.simple_types.specs.Trees.{form_tree, part_tree, simple_tree, content_form, content_part, type_tree}
use Rattle.simple_types.specs.SimpleValidity.{AreInForce, IsMade, AreMembers, IsListKnown, made_from_both, known_behind}
use Rattle.simple_types.proofs.TreeLaws.{simple_tree_is, type_tree_is}
use Rattle.simple_types.specs.declared.judged.TypeFacets.{TypeFacets}
use Rattle.simple_types.specs.declared.judged.JudgedType.{JudgedType}
use Rattle.simple_types.specs.Lookup.{unknown, entry_of, entry_at, looked_up, content_of}
use Rattle.simple_types.specs.Forms.{left_behind, IsStepMade, list_facets, members_behind, known_of_members, IsFormMade, IsContentMade}
use Rattle.simple_types.specs.Judging.{Holds, IsSimpleAt, IsContentAt, AreSimplesJudged, AreContentsJudged}
use Rattle.simple_types.specs.declared.types.SimpleTypes.{SimpleTypes}
use Rattle.simple_types.specs.SimpleTypes.{AreTypesOf, IsWhole}
use Rattle.simple_types.specs.inside.Numbers.{IsMadeAt}

abbrev IsInForce : TypeTree → TypeFacets → Type 0
IsInForce tree of = AreInForce tree of.facets of.known

abbrev own_types : ContentForm → List TypeId
own_types (contents.Simple (Some own) step) = own ∷ []
own_types _ = []

left_facets : (behind : TypeFacets) (made : Option Facets) → (left_behind behind made).facets ≡ unwrap_or made behind.facets
left_facets behind None = refl
left_facets behind (Some facets) = refl

left_known : (behind : TypeFacets) (made : Option Facets) → (left_behind behind made).known ≡ known_behind behind.known made
left_known behind None = refl
left_known behind (Some facets) = refl

step_in_force : (base : TypeTree) (behind : TypeFacets) (step : List FacetItem) (made : JudgedType) → IsInForce base behind → IsStepMade behind step made → IsInForce (restriction base step) made.of
step_in_force base behind step made h is =
    subst (λ (m : JudgedType). IsInForce (restriction base step) m.of) (sym is.2)
    (behind.facets, behind.known, is.0, h, is.1, left_facets behind is.0.facets, left_known behind is.0.facets)

listed : (made : Option Facets) (known : Known) → IsListKnown made known (list_facets made known).facets (list_facets made known).known
listed None known = (refl, refl)
listed (Some facets) known = (refl, refl)

module _ (look : TypeId → TypeFacets) (tree : TypeId → TypeTree) where
  abbrev IsLooked : TypeId → Type 0
  IsLooked of = IsInForce (tree of) (look of)

  members_in_force : (members : List TypeId) (front : Members) (known : Known) → All IsLooked members
      → AreMembers (members_of (map tree members)) front known (members_behind look front members) (known_of_members look known members)
  members_in_force [] front known h = (refl, refl)
  members_in_force (m ∷ ms) front known h = (
    (look m).facets,
    (look m).known,
    All-head IsLooked m ms h,
    members_in_force ms (with_member front (look m).facets) (made_from_both known (look m).known) (All-tail IsLooked m ms h),
  )

  form_in_force : (t : Tables) (at : Place) (form : SimpleForm) (made : JudgedType) → All IsLooked (named_types form) → IsFormMade t look at form made → IsInForce (form_tree tree form) made.of
  form_in_force t at (Restrict base step) made h is =
      subst (λ (m : JudgedType). IsInForce (restriction (tree base) step) m.of) (sym is.2)
      (step_in_force (tree base) (look base) step is.0 (All-head IsLooked base [] h) is.1)
  form_in_force t at (ListOf item) made h is =
      subst (λ (m : JudgedType). IsInForce (list_type (tree item)) m.of) (sym is)
      ((look item).facets, (look item).known, All-head IsLooked item [] h, listed (list_of (look item).facets) (look item).known)
  form_in_force t at (UnionOf members) made h is =
      subst (λ (m : JudgedType). IsInForce (union_type (members_of (map tree members))) m.of) (sym is)
      (members_behind look no_members members, members_in_force members no_members Whole h, refl)

module _ (simple content : TypeId → TypeFacets) (trees : TypeId → TypeTree) (contents_of : TypeId → TypeTree) where
  content_in_force : (by_extension : Bool) (base : TypeId) (form : ContentForm) (made : JudgedType) → All (λ of. IsInForce (trees of) (simple of)) (own_types form) → IsInForce (contents_of base) (content base)
      → IsContentMade simple content by_extension base form made → IsInForce (content_form trees contents_of by_extension base form) made.of
  content_in_force true base (contents.Simple own step) made hs h is = subst (λ (m : JudgedType). IsInForce (contents_of base) m.of) (sym is) h
  content_in_force true base (contents.Complex None mixed) made hs h is = subst (λ (m : JudgedType). IsInForce (contents_of base) m.of) (sym is) h
  content_in_force true base (contents.Complex (Some p) mixed) made hs h is = subst (λ (m : JudgedType). IsInForce not_simple m.of) (sym is) (refl, refl)
  content_in_force false base (contents.Simple None step) made hs h is = step_in_force (contents_of base) (content base) step made h is
  content_in_force false base (contents.Simple (Some own) step) made hs h is =
      step_in_force (trees own) (simple own) step made (All-head (λ of. IsInForce (trees of) (simple of)) own [] hs) is
  content_in_force false base (contents.Complex effective mixed) made hs h is = subst (λ (m : JudgedType). IsInForce not_simple m.of) (sym is) (refl, refl)

-- a premise that nothing known meets
abbrev IsKnownWhole : Known → Type 0
IsKnownWhole Whole = ⊥
IsKnownWhole _ = Unit {0}

module _ (t : Tables) (ranked : IsRanked t) (table : List JudgedType) (are : AreSimplesJudged t table) where
  -- what a table has for a type that is lower
  lower_in_force : (bound : ℕ) → ((n : ℕ) → slice_index t.simples.ranks n < bound → n < length t.simples.parts → IsInForce (simple_tree t (types.Simple n)) (entry_at table n)) → (of : TypeId) → IsLower t (first_height + bound) of → IsInForce (simple_tree t of) (looked_up table of)
  lower_in_force bound rec types.AnyType low = subst (λ tree. IsInForce tree unknown) (sym (simple_tree_is t ranked types.AnyType)) (refl, refl)
  lower_in_force bound rec (types.Builtin kind) low =
      subst (λ tree. IsInForce tree (looked_up table (types.Builtin kind))) (sym (simple_tree_is t ranked (types.Builtin kind))) (refl, refl)
  lower_in_force bound rec (types.Complex id) low = subst (λ tree. IsInForce tree unknown) (sym (simple_tree_is t ranked (types.Complex id))) (refl, refl)
  lower_in_force bound rec (types.Simple id) low = rec id (omega (arith, low.lower)) low.there

  -- the entry of a simple type is what is in force for it
  entry_in_force : (bound n : ℕ) → slice_index t.simples.ranks n < bound → n < length t.simples.parts → IsInForce (simple_tree t (types.Simple n)) (entry_at table n)
  entry_in_force zero n low there = absurd (omega arith)
  entry_in_force (suc bound) n low there = of (slice_get table n) (slice_get t.simples.parts n) refl (are.each n there) (λ of lower. lower_in_force bound (λ n low there. entry_in_force bound n low there) of lower)
    where
      of : (entry : Option JudgedType) (o : Option SimpleType) → slice_get t.simples.parts n ≡ o → Holds (IsSimpleAt t table n) entry
          → ((of : TypeId) → IsLower t (first_height + bound) of → IsInForce (simple_tree t of) (looked_up table of)) → IsInForce (simple_tree t (types.Simple n)) (entry_of entry)
      of None o e h rec = absurd h
      of (Some made) None e h rec = absurd (subst (Holds (λ part. IsFormMade t (looked_up table) part.at part.form made)) e h)
      of (Some made) (Some part) e h rec =
          let is = subst (Holds (λ part. IsFormMade t (looked_up table) part.at part.form made)) e h in
          let low' = All-weaker (IsLower t (first_height + slice_index t.simples.ranks n)) (IsLower t (first_height + bound)) (λ of l. record { there = l.there; lower = omega (arith, l.lower, low) }) (named_types part.form) (ranked.simples n part e) in
          subst (λ tree. IsInForce tree made.of) (sym (simple_tree_is t ranked (types.Simple n) ∙ ap (part_tree (simple_tree t)) e))
          (form_in_force (looked_up table) (simple_tree t) t part.at part.form made
          (All-weaker (IsLower t (first_height + bound)) (λ of. IsInForce (simple_tree t of) (looked_up table of)) rec (named_types part.form) low') is)

  -- any simple type, by a table that is judged
  pub simple_in_force : (of : TypeId) → IsInForce (simple_tree t of) (looked_up table of)
  simple_in_force types.AnyType = subst (λ tree. IsInForce tree unknown) (sym (simple_tree_is t ranked types.AnyType)) (refl, refl)
  simple_in_force (types.Builtin kind) =
      subst (λ tree. IsInForce tree (looked_up table (types.Builtin kind))) (sym (simple_tree_is t ranked (types.Builtin kind))) (refl, refl)
  simple_in_force (types.Complex id) = subst (λ tree. IsInForce tree unknown) (sym (simple_tree_is t ranked (types.Complex id))) (refl, refl)
  simple_in_force (types.Simple id) = elim (cases_lt id (length t.simples.parts)) [
    | inl there ↦ entry_in_force (suc (slice_index t.simples.ranks id)) id (omega arith) there
    | inr past ↦ (let gone : slice_get t.simples.parts id ≡ None = slice_get_past t.simples.parts id past in
        let none : slice_get table id ≡ None = slice_get_past table id (rw are.alike past) in
        subst (λ tree. IsInForce tree (looked_up table (types.Simple id))) (sym (simple_tree_is t ranked (types.Simple id) ∙ ap (part_tree (simple_tree t)) gone))
        (subst (λ entry. IsInForce not_simple (entry_of entry)) (sym none) (refl, refl)))
  ]

  -- what a complex type names in its content
  own_in_force : (form : ContentForm) → All (λ of. IsInForce (simple_tree t of) (looked_up table of)) (own_types form)
  own_in_force (contents.Simple None step) = All-nil (λ of. IsInForce (simple_tree t of) (looked_up table of))
  own_in_force (contents.Simple (Some own) step) =
      All-cons (λ of. IsInForce (simple_tree t of) (looked_up table of)) own [] (simple_in_force own) (All-nil (λ of. IsInForce (simple_tree t of) (looked_up table of)))
  own_in_force (contents.Complex effective mixed) = All-nil (λ of. IsInForce (simple_tree t of) (looked_up table of))

module _ (t : Tables) (ranked : IsRanked t) (simples complexes : List JudgedType) (are : AreSimplesJudged t simples) (contents_are : AreContentsJudged t simples complexes) where
  -- what the tables have for the content of a type that is lower
  content_lower_in_force : (bound : ℕ) → ((n : ℕ) → slice_index t.complexes.ranks n < bound → n < length t.complexes.parts → IsInForce (type_tree t (types.Complex n)) (entry_at complexes n)) → (of : TypeId) → IsLower t (first_height + bound) of → IsInForce (type_tree t of) (content_of simples complexes of)
  content_lower_in_force bound rec types.AnyType low = subst (λ tree. IsInForce tree unknown) (sym (type_tree_is t ranked types.AnyType)) (simple_in_force t ranked simples are types.AnyType)
  content_lower_in_force bound rec (types.Builtin kind) low =
      subst (λ tree. IsInForce tree (looked_up simples (types.Builtin kind))) (sym (type_tree_is t ranked (types.Builtin kind))) (simple_in_force t ranked simples are (types.Builtin kind))
  content_lower_in_force bound rec (types.Simple id) low =
      subst (λ tree. IsInForce tree (looked_up simples (types.Simple id))) (sym (type_tree_is t ranked (types.Simple id))) (simple_in_force t ranked simples are (types.Simple id))
  content_lower_in_force bound rec (types.Complex id) low = rec id (omega (arith, low.lower)) low.there

  -- the entry of a complex type is what is in force for its content
  content_entry_in_force : (bound n : ℕ) → slice_index t.complexes.ranks n < bound → n < length t.complexes.parts → IsInForce (type_tree t (types.Complex n)) (entry_at complexes n)
  content_entry_in_force zero n low there = absurd (omega arith)
  content_entry_in_force (suc bound) n low there =
      of (slice_get complexes n) (slice_get t.complexes.parts n) refl (contents_are.each n there) (λ of lower. content_lower_in_force bound (λ n low there. content_entry_in_force bound n low there) of lower)
    where
      of : (entry : Option JudgedType) (o : Option ComplexType) → slice_get t.complexes.parts n ≡ o → Holds (IsContentAt t simples complexes n) entry
          → ((of : TypeId) → IsLower t (first_height + bound) of → IsInForce (type_tree t of) (content_of simples complexes of)) → IsInForce (type_tree t (types.Complex n)) (entry_of entry)
      of None o e h rec = absurd h
      of (Some made) None e h rec =
          absurd (subst (Holds (λ part. IsContentMade (looked_up simples) (content_of simples complexes) part.by_extension part.base part.content made)) e h)
      of (Some made) (Some part) e h rec =
          let is = subst (Holds (λ part. IsContentMade (looked_up simples) (content_of simples complexes) part.by_extension part.base part.content made)) e h in
          let l = ranked.complexes n part e in
          let base : IsLower t (first_height + bound) part.base = record { there = l.there; lower = omega (arith, l.lower, low) } in
          subst (λ tree. IsInForce tree made.of) (sym (type_tree_is t ranked (types.Complex n) ∙ ap (content_part (simple_tree t) (type_tree t)) e))
          (content_in_force (looked_up simples) (content_of simples complexes) (simple_tree t) (type_tree t) part.by_extension part.base part.content made
          (own_in_force t ranked simples are part.content) (rec part.base base) is)

  -- any type's simple content, by tables that are judged
  pub content-of-in-force : (of : TypeId) → AreInForce (type_tree t of) (content_of simples complexes of).facets (content_of simples complexes of).known
  content-of-in-force types.AnyType = subst (λ tree. IsInForce tree unknown) (sym (type_tree_is t ranked types.AnyType)) (simple_in_force t ranked simples are types.AnyType)
  content-of-in-force (types.Builtin kind) =
      subst (λ tree. IsInForce tree (looked_up simples (types.Builtin kind))) (sym (type_tree_is t ranked (types.Builtin kind))) (simple_in_force t ranked simples are (types.Builtin kind))
  content-of-in-force (types.Simple id) =
      subst (λ tree. IsInForce tree (looked_up simples (types.Simple id))) (sym (type_tree_is t ranked (types.Simple id))) (simple_in_force t ranked simples are (types.Simple id))
  content-of-in-force (types.Complex id) = elim (cases_lt id (length t.complexes.parts)) [
    | inl there ↦ content_entry_in_force (suc (slice_index t.complexes.ranks id)) id (omega arith) there
    | inr past ↦ (let gone : slice_get t.complexes.parts id ≡ None = slice_get_past t.complexes.parts id past in
        let none : slice_get complexes id ≡ None = slice_get_past complexes id (rw contents_are.alike past) in
        subst (λ tree. IsInForce tree (entry_at complexes id)) (sym (type_tree_is t ranked (types.Complex id) ∙ ap (content_part (simple_tree t) (type_tree t)) gone))
        (subst (λ entry. IsInForce not_simple (entry_of entry)) (sym none) (refl, refl)))
  ]

-- any type whose literals are known, by tables that are judged
module _ (t : Tables) (ranked : IsRanked t) (types_of : SimpleTypes) (are : AreTypesOf t types_of) where
  pub type_is_made : (of : TypeId) → IsWhole types_of of → IsMade (type_tree t of) (content_of types_of.simples types_of.complexes of).facets
  type_is_made types.AnyType whole = absurd (subst IsKnownWhole whole tt)
  type_is_made (types.Builtin kind) whole =
      subst (λ tree. IsMade tree (looked_up types_of.simples (types.Builtin kind)).facets) (sym (type_tree_is t ranked (types.Builtin kind) ∙ simple_tree_is t ranked (types.Builtin kind))) (refl, refl)
  type_is_made (types.Simple id) whole =
      subst (AreInForce (type_tree t (types.Simple id)) (looked_up types_of.simples (types.Simple id)).facets) whole
      (subst (λ tree. IsInForce tree (looked_up types_of.simples (types.Simple id))) (sym (type_tree_is t ranked (types.Simple id))) (simple_in_force t ranked types_of.simples are.simples (types.Simple id)))
  type_is_made (types.Complex id) whole = elim (cases_lt id (length t.complexes.parts)) [
    | inl there ↦ subst (AreInForce (type_tree t (types.Complex id)) (entry_at types_of.complexes id).facets) whole
        (content_entry_in_force t ranked types_of.simples types_of.complexes are.simples are.complexes (suc (slice_index t.complexes.ranks id)) id (omega arith) there)
    | inr past ↦ (let none : slice_get types_of.complexes id ≡ None = slice_get_past types_of.complexes id (rw are.complexes.alike past) in
        absurd (subst IsKnownWhole (sym (ap (λ entry. (entry_of entry).known) none) ∙ whole) tt))
  ]

-- the entry of a number, where its literals are known
pub made_at : (tree : TypeTree) (entry : Option JudgedType) → (entry_of entry).known ≡ Whole → IsMade tree (entry_of entry).facets → Holds (λ judged. IsMade tree judged.of.facets) entry
made_at tree None whole h = absurd (subst IsKnownWhole whole tt)
made_at tree (Some judged) whole h = h

module _ (t : Tables) (ranked : IsRanked t) (types_of : SimpleTypes) (are : AreTypesOf t types_of) where
  -- the literals of no type are known by its being any type
  pub any_type_is_not_whole : IsWhole types_of types.AnyType → ⊥
  any_type_is_not_whole whole = subst IsKnownWhole whole tt

  pub simple_is_made : (id : ℕ) → IsWhole types_of (types.Simple id) → IsMadeAt (type_tree t (types.Simple id)) types_of.simples id
  simple_is_made id whole = made_at (type_tree t (types.Simple id)) (slice_get types_of.simples id) whole (type_is_made t ranked types_of are (types.Simple id) whole)

  pub content_is_made : (id : ℕ) → IsWhole types_of (types.Complex id) → IsMadeAt (type_tree t (types.Complex id)) types_of.complexes id
  content_is_made id whole = made_at (type_tree t (types.Complex id)) (slice_get types_of.complexes id) whole (type_is_made t ranked types_of are (types.Complex id) whole)
