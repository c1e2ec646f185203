-- The names and types of the records of a document.
use Rattle.std.proofs.Common.{◌≡◌, inl, inr, ℕ, ◌<◌, List, [], ◌∷◌, ◌++◌, Option, Some, None, length, refl, sym, ap, subst, ◌∙◌, arith}
use Rattle.std.specs.Prelude.{All, IsSome, IfSome, slice_get, unwrap_or}
use Rattle.std.proofs.lemmas.List.Elements.{All-nil, All-cons, All-append, All-head, All-tail, All-weaker}
use Rattle.std.proofs.lemmas.Option.{slice_get_cases}
use Rattle.xs_components.specs.declared.common.TypeId.{TypeId}
use Rattle.xs_components.specs.declared.common.TypeId.TheVariants.{AnyType, Builtin, Simple, Complex}
use Rattle.component_references.specs.Heights.{IsType}
use Rattle.tree_rows.specs.Forest.{Forest, none, text, element}
use Rattle.tree_rows.specs.declared.name.Expanded.{Expanded}
use Rattle.tree_rows.specs.declared.row.Attribute.{Attribute}
use Rattle.xs_names.specs.Names.{NameTable, name_number}
use Rattle.xs_names.specs.Scope.{first_scope}
use Rattle.elem_governing.specs.declared.pairs.Governing.{Governing}
use Rattle.elem_governing.specs.Governing.{govern_root, govern_child}
use Rattle.elem_governing.proofs.There.{root-there, child-there}
use Rattle.xs_names.proofs.GrownLaws.{within-name_number}
use Rattle.assess_records.specs.declared.record.AttrRecord.{AttrRecord}
use Rattle.assess_records.specs.declared.record.ElementRecord.{ElementRecord}
use Rattle.assess_records.specs.declared.shape.NamedText.{NamedText}
use Rattle.assessment_laws.specs.There.{IsThere}
use Rattle.assessment_laws.proofs.There.{attrs-there}
use Rattle.report_text.specs.Named.{IsName, IsTypeNamed, IsNamed, AreNamed}
use Rattle.compiled_schema.specs.Usable.{IsUsable, set_of}
use Rattle.compiled_schema.specs.declared.compiled.Compiled.{Compiled}
use Rattle.plain_tree.specs.Found.{HasName, HasAttributes, HasNames}
use Rattle.assess_records.specs.Numbered.{Scope, Head, head_of, heads, scope_in, space_in, name_in, named_text, named_texts}
use Rattle.assessment.specs.Assessment.{Entry, Assessed, Beside, entries, first_pair, other_pairs, governed, root_pairs, IsEntry, AreAssessed, IsAssessment}
use Rattle.session_model.specs.Reports.{IsEntryNamed}

-- a name of the document is one of the table
name-by : (t : NameTable) (space : ℕ) (local : List ℕ) (o : Option ℕ) → name_number t space local ≡ o → IsSome o → unwrap_or o 0 < length t.names
name-by t space local None e h = cc
name-by t space local (Some n) e h = within-name_number t space local n e

name-within : (t : NameTable) (name : Expanded) → HasName t name → name_in t name < length t.names
name-within t name h = name-by t (space_in t name.namespace) name.local (name_number t (space_in t name.namespace) name.local) refl h.number

there : {X : Type 0} (xs : List X) (i : ℕ) → i < length xs → (x : X) × (slice_get xs i ≡ Some x)
there xs i lt = elim (slice_get_cases xs i).1 [ inl found ↦ (found.0, found.2) | inr past ↦ absurd (omega (arith, lt, past.0)) ]

module _ (c : Compiled) (usable : IsUsable c) (b : Beside) where
  abbrev IsGoverned : Governing → Type 0
  IsGoverned g = IfSome g.of (IsType c.parts)

  type-named : (of : TypeId) → IsType c.parts of → IsTypeNamed c.names c.parts of
  type-named AnyType h = tt
  type-named (Builtin kind) h = tt
  type-named (Simple id) h = let found = there c.parts.simples.parts id h in (found.0, found.1, usable.named.simples id found.0 found.1)
  type-named (Complex id) h = let found = there c.parts.complexes.parts id h in (found.0, found.1, usable.named.complexes id found.0 found.1)

  types-named : (of : Option TypeId) → IfSome of (IsType c.parts) → IfSome of (IsTypeNamed c.names c.parts)
  types-named None h = tt
  types-named (Some of) h = type-named of h

  -- the numbers of the names of attributes
  texts-named : (attributes : List Attribute) → HasAttributes c.names attributes → All (λ (a : NamedText). a.name < length c.names.names) (named_texts c.names attributes)
  texts-named [] has = All-nil (λ (a : NamedText). a.name < length c.names.names)
  texts-named (a ∷ more) has =
      All-cons (λ (b : NamedText). b.name < length c.names.names) (named_text c.names a) (named_texts c.names more) (name-within c.names a.name has.0) (texts-named more has.1)

  attrs-named : (attrs : List AttrRecord) → All (IsThere c.names c.parts) attrs → AreNamed c.names c.parts attrs
  attrs-named attrs there_all =
      All-weaker (IsThere c.names c.parts) (λ (a : AttrRecord). IsNamed c.names c.parts a.name a.of)
      (λ a h. record { name_there = h.named; type_there = types-named a.of h.typed }) attrs there_all

  -- the record of an element with this head, and those of its attributes
  own-named : (g : Governing) (h : Head) (number : ℕ) (attributes : List Attribute) (children : Forest) (inner : List Governing) (below : Assessed) (own : Entry) → IsName c.names h.name →
      HasAttributes c.names attributes → IsGoverned g → IsEntry (set_of c) b g h number attributes children inner below own → IsEntryNamed (set_of c) own
  own-named g h number attributes children inner below own named has governed_there e =
      let is = e.known.known.record_is in
      let attrs = attrs-there c.names c.parts usable.named.attributes usable.attribute_types.ranked usable.attribute_types.simple own.governing.of h.scope (named_texts c.names attributes)
      (texts-named attributes has) e.known.attributes e.known.assessed in
      record {
        element_named = record {
          name_there = subst (IsName c.names) (sym (ap (λ (r : ElementRecord). r.name) is)) named;
          type_there = subst (λ of. IfSome of (IsTypeNamed c.names c.parts)) (sym (ap (λ (r : ElementRecord). r.of) is ∙ ap (λ (p : Governing). p.of) e.governing_is)) (types-named g.of governed_there);
        };
        attrs_named = subst (AreNamed c.names c.parts) (sym e.known.attrs_are) (attrs-named e.known.attributes.records attrs);
      }

  -- the types that govern children, and the root
  inner-there : (parent : Governing) (terms : List (Option ℕ)) (hs : List Head) → All IsGoverned (governed (set_of c) parent terms hs)
  inner-there parent [] hs = All-nil IsGoverned
  inner-there parent (term ∷ terms) [] = All-nil IsGoverned
  inner-there parent (term ∷ terms) (h ∷ hs) =
      All-cons IsGoverned (govern_child c.names c.parts parent.mode term h.name h.xsi h.scope) (governed (set_of c) parent terms hs)
      (child-there c.names c.parts c.declarations c.named usable.view parent.mode term h.name h.xsi h.scope) (inner-there parent terms hs)

  root-pairs-there : (hs : List Head) → All IsGoverned (root_pairs (set_of c) hs)
  root-pairs-there [] = All-nil IsGoverned
  root-pairs-there (h ∷ hs) =
      All-cons IsGoverned (govern_root c.names c.parts h.name h.xsi h.scope) (root_pairs (set_of c) hs)
      (root-there c.names c.parts c.declarations c.named usable.view h.name h.xsi h.scope) (root-pairs-there hs)

  first-there : (pairs : List Governing) → All IsGoverned pairs → IsGoverned (first_pair pairs)
  first-there [] h = tt
  first-there (g ∷ gs) h = All-head IsGoverned g gs h

  others-there : (pairs : List Governing) → All IsGoverned pairs → All IsGoverned (other_pairs pairs)
  others-there [] h = h
  others-there (g ∷ gs) h = All-tail IsGoverned g gs h

  named : (scope : Scope) (pairs : List Governing) (f : Forest) (found : Assessed) → All IsGoverned pairs → HasNames c.names f → AreAssessed (set_of c) b scope pairs f found
      → All (IsEntryNamed (set_of c)) (entries found)
  named scope pairs none found ps has are = subst (λ x. All (IsEntryNamed (set_of c)) (entries x)) (sym are) (All-nil (IsEntryNamed (set_of c)))
  named scope pairs (text number chars next) found ps has are = named scope pairs next found ps has are
  named scope pairs (element number name bindings attributes children next) found ps has are =
      let h = head_of c.names scope name bindings attributes in
      let e = are.5 in
      let inside = scope_in c.names bindings scope in
      let inner = subst (All IsGoverned) (sym e.inner_is) (inner-there (first_pair pairs) e.terms (heads c.names inside children)) in
      subst (λ x. All (IsEntryNamed (set_of c)) (entries x)) (sym are.4)
      (All-cons (IsEntryNamed (set_of c)) are.0 (entries are.2 ++ entries are.3)
      (own-named (first_pair pairs) h number attributes children are.1 are.2 are.0 (name-within c.names name has.0.own) has.0.names (first-there pairs ps) e)
      (All-append (IsEntryNamed (set_of c)) (entries are.2) (entries are.3)
      (named inside are.1 children are.2 inner has.1 are.6)
      (named scope (other_pairs pairs) next are.3 (others-there pairs ps) has.2 are.7)))

pub all-named : (c : Compiled) (b : Beside) (f : Forest) (found : Assessed) → IsUsable c → HasNames c.names f → IsAssessment (set_of c) b f found → All (IsEntryNamed (set_of c)) (entries found)
all-named c b f found usable has is =
    let hs = heads c.names first_scope f in
    named c usable b first_scope (root_pairs (set_of c) hs) f found (root-pairs-there c usable b hs) has is
