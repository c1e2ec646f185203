-- The names that a tag gives its element are those of an element.
use Rattle.std.proofs.Common.{◌≡◌, ℕ, ◌+◌, ◌≤◌, List, [], ◌∷◌, Bool, true, false, ◌==◌, Option, Some, None, length, refl, sym, ap, ◌∙◌, arith, nat_lt, subst}
use Rattle.std.specs.Prelude.{if◌then◌else◌}
use Rattle.std.proofs.lemmas.Bool.{or_parts}
use Rattle.std.proofs.lemmas.Bool.Decides.{nat_tests}
use Rattle.tag_names.specs.Faults.{has_bad_name, uses_reserved, has_unbound, has_double, has_too_many, name_fault}
use Rattle.tag_names.specs.Scopes.{of_prefix, namespace_named, namespace_by, element_space, attribute_space}
use Rattle.tag_names.specs.Tags.{is_binding, bindings_in, attributes_in, named, scope_within, prefix_of, local_of, attribute_name}
use Rattle.tag_names.specs.declared.fault.NameReason.{NameReason}
use Rattle.tag_names.specs.declared.fault.NameReason.TheVariants.{BadName, ReservedName, UnboundPrefix, DoubleAttribute, TooManyAttributes}
use Rattle.tag_names.specs.declared.lines.AttributeLine.{AttributeLine}
use Rattle.tag_names.specs.declared.lines.Tag.{Tag}
use Rattle.tag_names.specs.declared.named.Named.{Named}
use Rattle.tree_rows.specs.Whole.{IsNamespace, AreNamespaces, IsNamed, repeats_prefix, repeats_name}
use Rattle.tree_rows.specs.declared.row.Attribute.{Attribute}
use Rattle.tree_rows.specs.declared.row.Binding.{Binding}

-- a namespace by its name is one
named_if : (name : List ℕ) (t : Bool) → (length name == 0) ≡ t → IsNamespace (if t then None else Some name)
named_if name true e = tt
named_if name false e = grind (arith, nat_tests, e)

space_named : (name : List ℕ) → IsNamespace (namespace_named name)
space_named name = named_if name (length name == 0) refl

space_by : (found : Option (List ℕ)) → IsNamespace (namespace_by found)
space_by None = tt
space_by (Some name) = space_named name

element_has : (scope : List Binding) (prefix : Option (List ℕ)) → IsNamespace (element_space scope prefix)
element_has scope None = space_by (of_prefix scope [])
element_has scope (Some prefix) = space_by (of_prefix scope prefix)

attribute_has : (scope : List Binding) (prefix : Option (List ℕ)) → IsNamespace (attribute_space scope prefix)
attribute_has scope None = tt
attribute_has scope (Some prefix) = space_by (of_prefix scope prefix)

attributes_have : (scope : List Binding) (lines : List AttributeLine) → AreNamespaces (attributes_in scope lines)
attributes_have scope [] = tt
attributes_have scope (line ∷ lines) = by (is_binding line) refl (attributes_have scope lines)
  where
    by : (t : Bool) → is_binding line ≡ t → AreNamespaces (attributes_in scope lines) → AreNamespaces (attributes_in scope (line ∷ lines))
    by true e rest = rw e rest
    by false e rest = rw e (attribute_has scope (prefix_of line.name), rest)

-- a line is a binding or an attribute
lines_split : (scope : List Binding) (lines : List AttributeLine) → length (attributes_in scope lines) + length (bindings_in lines) ≡ length lines
lines_split scope [] = refl
lines_split scope (line ∷ lines) = by (is_binding line) refl (lines_split scope lines)
  where
    by : (t : Bool) → is_binding line ≡ t → length (attributes_in scope lines) + length (bindings_in lines) ≡ length lines
        → length (attributes_in scope (line ∷ lines)) + length (bindings_in (line ∷ lines)) ≡ length (line ∷ lines)
    by true e rest = rw e (omega (arith, rest))
    by false e rest = rw e (omega (arith, rest))

-- a tag that repeats nothing and has not too many lines
pub tag_named : (scope : List Binding) (tag : Tag) → has_double scope tag ≡ false → has_too_many tag ≡ false
    → IsNamed (named scope tag).name (named scope tag).bindings (named scope tag).attributes
tag_named scope tag double many =
    let inside = scope_within scope tag in
    let both = or_parts (repeats_prefix (bindings_in tag.attributes)) (repeats_name (attributes_in inside tag.attributes)) double in
    let few : length tag.attributes ≤ 256 = grind (arith, nat_tests, many) in
    let split = lines_split inside tag.attributes in
    record {
      namespace = element_has inside (prefix_of tag.name);
      namespaces = attributes_have inside tag.attributes;
      prefixes = both.0;
      names = both.1;
      few = omega (arith, split, few);
    }

-- no reason stands
no_reason : (a b c d e : Bool)
    → (if a then Some BadName else (if b then Some ReservedName else (if c then Some UnboundPrefix else (if d then Some DoubleAttribute else (if e then Some TooManyAttributes else None))))) ≡ None
    → (d ≡ false) × (e ≡ false)
no_reason true b c d e none = absurd (cc none)
no_reason false true c d e none = absurd (cc none)
no_reason false false true d e none = absurd (cc none)
no_reason false false false true e none = absurd (cc none)
no_reason false false false false true none = absurd (cc none)
no_reason false false false false false none = (refl, refl)

pub well_named : (scope : List Binding) (tag : Tag) → name_fault scope tag ≡ None
    → IsNamed (named scope tag).name (named scope tag).bindings (named scope tag).attributes
well_named scope tag none =
    let both = no_reason (has_bad_name tag) (uses_reserved tag) (has_unbound scope tag) (has_double scope tag) (has_too_many tag) none in
    tag_named scope tag both.0 both.1
