-- Whether an element is as the grammar of schema documents has it (Structures, appendix A).
use Rattle.std.specs.Prelude.{ℕ, Bool, true, false, not, ◌&&◌, ◌||◌, List, Option, Some, None, is_some}
use Rattle.std.specs.List.{list_all, list_any, find}
use Rattle.std.specs.Str.{bytes_eq}
use Rattle.tree_rows.specs.Forest.{Forest}
use Rattle.tree_rows.specs.declared.row.Attribute.{Attribute}
use Rattle.tree_rows.specs.declared.row.Binding.{Binding}
use Rattle.schema_values.specs.GrammarNames.{schema_namespace}
use Rattle.schema_values.specs.Table.{rules, contents}
use Rattle.schema_values.specs.declared.grammar_kinds.Kind.{Kind}
use Rattle.schema_values.specs.declared.grammar_kinds.Kind.TheVariants as k
use Rattle.schema_values.specs.declared.grammar_kinds.Rule.{Rule}
use Rattle.schema_values.specs.declared.grammar_kinds.Tag.{Tag}
use Rattle.schema_values.specs.Attributes.{is_named, has}
use Rattle.schema_values.specs.Fits.{fits}
use Rattle.schema_faults.specs.Children.{has_characters, follows}

-- x-shape.root (own): the root is not `schema` of the schema namespace
abbrev pub is_no_schema : Kind → Bool
is_no_schema k.NoSchema = true
is_no_schema _ = false

-- x-shape.content (own): the child elements are not those of the table
abbrev pub has_wrong_children : Kind → List Tag → Bool
has_wrong_children kind tags = not (list_any (λ steps. follows steps tags) (contents kind))

-- what is below an annotation is ignored
abbrev pub is_annotation : Kind → Bool
is_annotation k.Annotation = true
is_annotation _ = false

-- x-shape.text (own): there are characters other than white space
abbrev pub has_text : Kind → Forest → Bool
has_text kind children = not (is_annotation kind) && has_characters children

-- the rule of an attribute
abbrev pub rule_of : List Rule → Attribute → Option Rule
rule_of rules a = find (λ rule. is_named rule.name a) rules

-- a namespace other than the absent one and that of schema documents
abbrev pub is_foreign : Option (List ℕ) → Bool
is_foreign None = false
is_foreign (Some space) = not (bytes_eq space schema_namespace)

-- the attribute is of a foreign namespace, or has a rule
abbrev pub is_allowed : List Rule → Attribute → Bool
is_allowed rules a = is_foreign a.name.namespace || is_some (rule_of rules a)

-- the attribute is there where it is required
abbrev pub is_met : List Attribute → Rule → Bool
is_met attributes rule = not rule.required || has rule.name attributes

-- x-shape.attribute (own): there is an attribute that the table lacks, or a required one is not there
abbrev pub has_wrong_attribute : Kind → List Attribute → Bool
has_wrong_attribute kind attributes = not (list_all (is_allowed (rules kind)) attributes && list_all (is_met attributes) (rules kind))

-- the attribute's value is of the kind that its rule says
abbrev pub fits_rule : List Binding → Attribute → Option Rule → Bool
fits_rule scope a None = true
fits_rule scope a (Some rule) = fits scope rule.kind a.value

abbrev pub is_fit : List Binding → List Rule → Attribute → Bool
is_fit scope rules a = fits_rule scope a (rule_of rules a)

-- x-shape.value (own): a value is not of its kind
abbrev pub has_wrong_value : List Binding → Kind → List Attribute → Bool
has_wrong_value scope kind attributes = not (list_all (is_fit scope (rules kind)) attributes)
