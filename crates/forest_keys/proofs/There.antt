-- The names of what is found of a document are those of the table.
use Rattle.std.proofs.Common.{◌≡◌, ℕ, ◌<◌, List, [], ◌∷◌, ◌++◌, Option, Some, None, map, length, refl, sym, ap, subst}
use Rattle.std.specs.Prelude.{All, IsSome, unwrap_or}
use Rattle.std.proofs.lemmas.List.Elements.{All-nil, All-cons, All-append, All-head, All-tail}
use Rattle.tree_rows.specs.Forest.{Forest, none, text, element}
use Rattle.tree_rows.specs.declared.name.Expanded.{Expanded}
use Rattle.tree_rows.specs.declared.row.Attribute.{Attribute}
use Rattle.xs_names.specs.Names.{NameTable, name_number}
use Rattle.xs_names.specs.Scope.{first_scope}
use Rattle.xs_names.proofs.GrownLaws.{within-name_number}
use Rattle.simple_values.specs.declared.value.Value.{Value}
use Rattle.elem_governing.specs.declared.pairs.Governing.{Governing}
use Rattle.assess_records.specs.declared.record.AttrRecord.{AttrRecord}
use Rattle.assess_records.specs.declared.record.ElementRecord.{ElementRecord}
use Rattle.assess_records.specs.declared.shape.NamedText.{NamedText}
use Rattle.assess_records.specs.Numbered.{Scope, Head, head_of, heads, scope_in, space_in, name_in, named_text, named_texts}
use Rattle.assessment_laws.specs.There.{IsThere}
use Rattle.assessment_laws.proofs.There.{attrs-there}
use Rattle.assessment.specs.Assessment.{Entry, Assessed, Beside, entries, first_pair, other_pairs, root_pairs, IsEntry, AreAssessed, IsAssessment}
use Rattle.compiled_schema.specs.Usable.{IsUsable, set_of}
use Rattle.compiled_schema.specs.declared.compiled.Compiled.{Compiled}
use Rattle.plain_tree.specs.Found.{HasName, HasAttributes, HasNames}
use Rattle.identity_constraints.specs.Seen.{KeyAttribute}
use Rattle.what_is_found.specs.Identity.{seen_attributes, seen_element}
use Rattle.path_walk.specs.Sight.{IsNamed}
use Rattle.tree_assess.specs.Entries.{entry_of}
use Rattle.tree_assess.specs.declared.entry.ElementEntry.{ElementEntry}
use Rattle.forest_keys.specs.inside.Coded.{IsEntryNamed}

-- a name of the document is one of the table
name-by : (t : NameTable) (space : ℕ) (local : List ℕ) (o : Option ℕ) → name_number t space local ≡ o → IsSome o → unwrap_or o 0 < length t.names
name-by t space local None e h = cc
name-by t space local (Some n) e h = within-name_number t space local n e

name-within : (t : NameTable) (name : Expanded) → HasName t name → name_in t name < length t.names
name-within t name h = name-by t (space_in t name.namespace) name.local (name_number t (space_in t name.namespace) name.local) refl h.number

module _ (c : Compiled) (usable : IsUsable c) (b : Beside) where
  abbrev IsSeenNamed : Entry → Type 0
  IsSeenNamed own = IsNamed c.names (seen_element own)

  -- the numbers of the names of attributes
  texts-named : (attributes : List Attribute) → HasAttributes c.names attributes → All (λ (a : NamedText). a.name < length c.names.names) (named_texts c.names attributes)
  texts-named [] has = All-nil (λ (a : NamedText). a.name < length c.names.names)
  texts-named (a ∷ more) has =
      All-cons (λ (b : NamedText). b.name < length c.names.names) (named_text c.names a) (named_texts c.names more) (name-within c.names a.name has.0) (texts-named more has.1)

  attrs-seen : (attrs : List AttrRecord) (values : List (Option Value)) → All (IsThere c.names c.parts) attrs → All (λ (a : KeyAttribute). a.name < length c.names.names) (seen_attributes attrs values)
  attrs-seen [] values there = All-nil (λ (a : KeyAttribute). a.name < length c.names.names)
  attrs-seen (attr ∷ attrs) [] there = All-nil (λ (a : KeyAttribute). a.name < length c.names.names)
  attrs-seen (attr ∷ attrs) (value ∷ values) there =
      All-cons (λ (a : KeyAttribute). a.name < length c.names.names) (record { name = attr.name; value = value }) (seen_attributes attrs values)
      ((All-head (IsThere c.names c.parts) attr attrs there).named) (attrs-seen attrs values (All-tail (IsThere c.names c.parts) attr attrs there))

  own-named : (g : Governing) (h : Head) (number : ℕ) (attributes : List Attribute) (children : Forest) (inner : List Governing) (below : Assessed) (own : Entry) → h.name < length c.names.names →
      HasAttributes c.names attributes → IsEntry (set_of c) b g h number attributes children inner below own → IsSeenNamed own
  own-named g h number attributes children inner below own named has e =
      let is = e.known.known.record_is in
      let attrs = attrs-there c.names c.parts usable.named.attributes usable.attribute_types.ranked usable.attribute_types.simple own.governing.of h.scope (named_texts c.names attributes)
      (texts-named attributes has) e.known.attributes e.known.assessed in
      record {
        name = subst (λ n. n < length c.names.names) (sym (ap (λ (r : ElementRecord). r.name) is)) named;
        attributes = attrs-seen own.attrs own.attr_values (subst (All (IsThere c.names c.parts)) (sym e.known.attrs_are) attrs);
      }

  named : (scope : Scope) (pairs : List Governing) (f : Forest) (found : Assessed) → HasNames c.names f → AreAssessed (set_of c) b scope pairs f found → All IsSeenNamed (entries found)
  named scope pairs none found has are = subst (λ x. All IsSeenNamed (entries x)) (sym are) (All-nil IsSeenNamed)
  named scope pairs (text number chars next) found has are = named scope pairs next found has are
  named scope pairs (element number name bindings attributes children next) found has are =
      let h = head_of c.names scope name bindings attributes in
      subst (λ x. All IsSeenNamed (entries x)) (sym are.4)
      (All-cons IsSeenNamed are.0 (entries are.2 ++ entries are.3)
      (own-named (first_pair pairs) h number attributes children are.1 are.2 are.0 (name-within c.names name has.0.own) has.0.names are.5)
      (All-append IsSeenNamed (entries are.2) (entries are.3)
      (named (scope_in c.names bindings scope) are.1 children are.2 has.1 are.6)
      (named scope (other_pairs pairs) next are.3 has.2 are.7)))

  entries-named : (es : List ElementEntry) → All IsSeenNamed (map entry_of es) → All (IsEntryNamed c.names) es
  entries-named [] all = All-nil (IsEntryNamed c.names)
  entries-named (e ∷ es) all =
      All-cons (IsEntryNamed c.names) e es (All-head IsSeenNamed (entry_of e) (map entry_of es) all) (entries-named es (All-tail IsSeenNamed (entry_of e) (map entry_of es) all))

  pub found_named : (f : Forest) (found : Assessed) → HasNames c.names f → IsAssessment (set_of c) b f found → (es : List ElementEntry) → map entry_of es ≡ entries found → All (IsEntryNamed c.names) es
  found_named f found has is es same =
      entries-named es (subst (All IsSeenNamed) (sym same) (named first_scope (root_pairs (set_of c) (heads c.names first_scope f)) f found has is))
