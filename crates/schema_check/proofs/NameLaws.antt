-- An attribute that should have a QName and has none is not there.
use Rattle.std.proofs.Common.{◌≡◌, ℕ, Bool, true, false, not, ◌&&◌, cond, List, [], ◌∷◌, Option, None, Some, find, is_some, is_none, bytes_eq, refl, sym, ap, ◌∙◌, true≢false}
use Rattle.std.specs.List.{list_all}
use Rattle.std.specs.Option.{option_map, option_and_then}
use Rattle.std.proofs.lemmas.Bool.{and_parts}
use Rattle.std.proofs.lemmas.Slice.Eq.{bytes_eq-Decides}
use Rattle.tree_rows.specs.declared.name.Expanded.{Expanded}
use Rattle.tree_rows.specs.declared.row.Attribute.{Attribute}
use Rattle.tree_rows.specs.declared.row.Binding.{Binding}
use Rattle.xs_names.specs.WhiteSpace.{collapsed}
use Rattle.schema_values.specs.GrammarNames.{attribute_text}
use Rattle.schema_values.specs.Table.{rules}
use Rattle.schema_values.specs.declared.grammar_kinds.AttributeName.{AttributeName}
use Rattle.schema_values.specs.declared.grammar_kinds.AttributeName.TheVariants as an
use Rattle.schema_values.specs.declared.grammar_kinds.Kind.{Kind}
use Rattle.schema_values.specs.declared.grammar_kinds.Kind.TheVariants as k
use Rattle.schema_values.specs.declared.grammar_kinds.Rule.{Rule}
use Rattle.schema_values.specs.declared.grammar_kinds.ValueKind.{ValueKind}
use Rattle.schema_values.specs.declared.grammar_kinds.ValueKind.TheVariants as v
use Rattle.schema_values.specs.Attributes.{is_named, attribute_of, has, name_of}
use Rattle.schema_values.specs.Fits.{fits}
use Rattle.schema_values.specs.Names.{qname_of}
use Rattle.schema_faults.specs.ShapeFaults.{rule_of, fits_rule, is_fit, has_wrong_value}
use Rattle.schema_check.proofs.SoundLaws.{some-none}

-- what is found passes the test, and what all pass
found-passes : {X : Type 0} (test other : X → Bool) (xs : List X) (x : X) → find test xs ≡ Some x → list_all other xs ≡ true → (test x ≡ true) × (other x ≡ true)
found-passes test other [] x is all = absurd (some-none x (sym is))
found-passes {X} test other (y ∷ xs) x is all = by (test y) refl (found-passes test other xs x)
  where
    parts : (other y ≡ true) × (list_all other xs ≡ true)
    parts = and_parts (other y) (list_all other xs) all

    by : (b : Bool) → test y ≡ b → (find test xs ≡ Some x → list_all other xs ≡ true → (test x ≡ true) × (other x ≡ true)) → (test x ≡ true) × (other x ≡ true)
    by true e rest =
        let here : Some y ≡ Some x = sym (ap (λ (b : Bool). cond b (Some y) (find test xs)) e) ∙ is in
        let same : y ≡ x = cc in
        (ap test (sym same) ∙ e, ap other (sym same) ∙ parts.0)
    by false e rest = rest (sym (ap (λ (b : Bool). cond b (Some y) (find test xs)) e) ∙ is) parts.1

-- an attribute has one name
other-name : (a : Attribute) (one other : AttributeName) → bytes_eq (attribute_text one) (attribute_text other) ≡ false → is_named one a ≡ true → is_named other a ≡ false
other-name a one other differ is =
    let parts = and_parts (is_none a.name.namespace) (bytes_eq a.name.local (attribute_text one)) is in
    let same = (bytes_eq-Decides a.name.local (attribute_text one)).0 parts.1 in
    ap (λ (b : Bool). b && bytes_eq a.name.local (attribute_text other)) parts.0 ∙ ap (λ (text : List ℕ). bytes_eq text (attribute_text other)) same ∙ differ

-- the attribute's value is to be a QName
abbrev IsQName : Kind → AttributeName → Type 0
IsQName kind name = (a : Attribute) → is_named name a ≡ true → (rule : Rule) × (rule_of (rules kind) a ≡ Some rule) × (rule.kind ≡ v.QName)

abbrev rule-at : AttributeName → ValueKind → Rule
rule-at name kind = record { name = name; kind = kind; required = false }

second-rule : (name : AttributeName) (a : Attribute) → bytes_eq (attribute_text name) (attribute_text an.Id) ≡ false → is_named name a ≡ true
    → rule_of (rule-at an.Id v.NcName ∷ rule-at name v.QName ∷ []) a ≡ Some (rule-at name v.QName)
second-rule name a differ is =
    ap (λ (b : Bool). cond b (Some (rule-at an.Id v.NcName)) (cond (is_named name a) (Some (rule-at name v.QName)) None)) (other-name a name an.Id differ is)
    ∙ ap (λ (b : Bool). cond b (Some (rule-at name v.QName)) None) is

restriction-base : IsQName k.Restriction an.Base
restriction-base a is = (rule-at an.Base v.QName, second-rule an.Base a refl is, refl)

list-item : IsQName k.List an.ItemType
list-item a is = (rule-at an.ItemType v.QName, second-rule an.ItemType a refl is, refl)

right-from : (b : Bool) → not b ≡ false → b ≡ true
right-from true is = refl
right-from false is = absurd (true≢false is)

module _ (kind : Kind) (name : AttributeName) (qname : IsQName kind name) (scope : List Binding) (attributes : List Attribute) where
  -- of the value that stands there no name comes
  abbrev text_name : Option Attribute → Option Expanded
  text_name found = option_and_then (qname_of scope) (option_map (λ (a : Attribute). collapsed a.value) found)

  not-there : has_wrong_value scope kind attributes ≡ false → name_of name scope attributes ≡ None → has name attributes ≡ false
  not-there right missing = by (attribute_of name attributes) refl
    where
      by : (found : Option Attribute) → attribute_of name attributes ≡ found → has name attributes ≡ false
      by None e = ap (λ (o : Option Attribute). is_some o) e
      by (Some a) e =
          let all = right-from (list_all (is_fit scope (rules kind)) attributes) right in
          let passes = found-passes (is_named name) (is_fit scope (rules kind)) attributes a e all in
          let rule = qname a passes.0 in
          let fit : fits scope rule.0.kind a.value ≡ true = sym (ap (λ (o : Option Rule). fits_rule scope a o) rule.1) ∙ passes.1 in
          let word : is_some (qname_of scope (collapsed a.value)) ≡ true = sym (ap (λ (value : ValueKind). fits scope value a.value) rule.2) ∙ fit in
          let none : qname_of scope (collapsed a.value) ≡ None = sym (ap text_name e) ∙ missing in
          absurd (true≢false (sym word ∙ ap (λ (o : Option Expanded). is_some o) none))

pub no-base : (scope : List Binding) (attributes : List Attribute) → has_wrong_value scope k.Restriction attributes ≡ false → name_of an.Base scope attributes ≡ None → has an.Base attributes ≡ false
no-base scope attributes = not-there k.Restriction an.Base restriction-base scope attributes

pub no-item : (scope : List Binding) (attributes : List Attribute) → has_wrong_value scope k.List attributes ≡ false → name_of an.ItemType scope attributes ≡ None → has an.ItemType attributes ≡ false
no-item scope attributes = not-there k.List an.ItemType list-item scope attributes
