-- The names of a start tag resolved in its scope, or the first reason why they are refused; and one QName resolved in a scope.
use Rattle.std.specs.Prelude.{ℕ, List, [], ◌∷◌, ◌++◌, Bool, false, ◌||◌, nat_eq, Option, Some, None, Result, Ok, Err, codes, if◌then◌else◌}
use Rattle.std.specs.List.{list_any, starts_with}
use Rattle.std.specs.Str.{bytes_eq}
use Rattle.tree_rows.specs.declared.name.Expanded.{Expanded}
use Rattle.tree_rows.specs.declared.row.Binding.{Binding}
use Rattle.tag_names.specs.Scopes.{of_prefix, namespace_by, element_space, attribute_space}
use Rattle.tag_names.specs.Tags.{prefix_of, element_name, attribute_name, attributes_in, named}
use Rattle.tag_names.specs.Faults.{is_no_qname, is_xmlns, is_unbound, line_is_unbound, has_bad_name, uses_reserved, has_unbound, has_double, has_too_many, name_fault}
use Rattle.tag_names.specs.declared.fault.NameReason.{NameReason}
use Rattle.tag_names.specs.declared.fault.NameReason.TheVariants.{BadName, ReservedName, UnboundPrefix, DoubleAttribute, TooManyAttributes}
use Rattle.tag_names.specs.declared.fault.TagFaults.{TagFaults}
use Rattle.tag_names.specs.declared.judged.Space.{Space}
use Rattle.tag_names.specs.declared.judged.JudgedName.{JudgedName}
use Rattle.tag_names.specs.declared.lines.AttributeLine.{AttributeLine}
use Rattle.tag_names.specs.declared.lines.Tag.{Tag}
use Rattle.tag_names.specs.declared.named.JudgedLines.{JudgedLines}
use Rattle.tag_names.specs.declared.named.Named.{Named}
use Rattle.tag_names.specs.declared.resolve.JudgedTag.{JudgedTag}

-- what a tag says where nothing stands against its names
abbrev pub resolved_by : Option NameReason → Named → Result Named NameReason
resolved_by None says = Ok says
resolved_by (Some reason) says = Err reason

-- what a tag says of its element, where it stands in this scope, or the first reason why its names are refused
abbrev pub resolved : List Binding → Tag → Result Named NameReason
resolved scope tag = resolved_by (name_fault scope tag) (named scope tag)

-- xmlns, or xmlns: and a prefix: an attribute of this name is a binding (Namespaces in XML 1.0, 3)
abbrev pub binds : List ℕ → Bool
binds name = bytes_eq name (codes "xmlns") || starts_with nat_eq name (codes "xmlns:")

-- the name of an element that is a QName, or the first reason why it is refused
abbrev pub element_resolved : List Binding → List ℕ → Result Expanded NameReason
element_resolved scope name =
    if is_no_qname name then Err BadName
    else (if is_unbound scope (prefix_of name) then Err UnboundPrefix
    else (if is_xmlns (prefix_of name) then Err ReservedName else Ok (element_name scope name)))

-- the name of an attribute that is a QName, or the first reason why it is refused
abbrev pub attribute_resolved : List Binding → List ℕ → Result Expanded NameReason
attribute_resolved scope name =
    if is_no_qname name then Err BadName
    else (if is_unbound scope (prefix_of name) then Err UnboundPrefix
    else (if binds name then Err ReservedName else Ok (attribute_name scope name)))

-- all that stands against the names of a tag in this scope
abbrev pub faults_of : List Binding → Tag → TagFaults
faults_of scope tag = record {
  bad = has_bad_name tag;
  reserved = uses_reserved tag;
  unbound = has_unbound scope tag;
  double = has_double scope tag;
  many = has_too_many tag;
}

abbrev pub first_reason : TagFaults → Option NameReason
first_reason faults =
    if faults.bad then Some BadName
    else (if faults.reserved then Some ReservedName
    else (if faults.unbound then Some UnboundPrefix
    else (if faults.double then Some DoubleAttribute
    else (if faults.many then Some TooManyAttributes else None))))

abbrev pub judged : List Binding → Tag → JudgedTag
judged scope tag = record { named = named scope tag; faults = faults_of scope tag }

-- What the parts of a tag are judged as.

-- what a prefix stands for, and those of an element's and of an attribute's name
abbrev pub prefixed : List Binding → List ℕ → Space
prefixed scope prefix = record { namespace = namespace_by (of_prefix scope prefix); unbound = is_unbound scope (Some prefix) }

abbrev pub element_place : List Binding → Option (List ℕ) → Space
element_place scope prefix = record { namespace = element_space scope prefix; unbound = is_unbound scope prefix }

abbrev pub attribute_place : List Binding → Option (List ℕ) → Space
attribute_place scope prefix = record { namespace = attribute_space scope prefix; unbound = is_unbound scope prefix }

abbrev pub judged_element : List Binding → List ℕ → JudgedName
judged_element scope name = record {
  name = element_name scope name;
  bad = is_no_qname name;
  unbound = is_unbound scope (prefix_of name);
  reserved = is_xmlns (prefix_of name);
}

abbrev pub judged_attribute : List Binding → List ℕ → JudgedName
judged_attribute scope name = record {
  name = attribute_name scope name;
  bad = is_no_qname name;
  unbound = is_unbound scope (prefix_of name);
  reserved = binds name;
}

abbrev pub end_of : JudgedName → Result Expanded NameReason
end_of judged =
    if judged.bad then Err BadName
    else (if judged.unbound then Err UnboundPrefix
    else (if judged.reserved then Err ReservedName else Ok judged.name))

-- with an attribute of this name and value more
abbrev pub with_attribute : JudgedLines → JudgedName → List ℕ → JudgedLines
with_attribute lines judged value = record {
  attributes = lines.attributes ++ record { name = judged.name; value = value } ∷ [];
  bad = lines.bad || judged.bad;
  unbound = lines.unbound || judged.unbound;
}

-- with a binding more, whose name is no QName or is one
abbrev pub with_binding : JudgedLines → Bool → JudgedLines
with_binding lines bad = record lines { bad = lines.bad || bad }

abbrev pub is_bad : AttributeLine → Bool
is_bad line = is_no_qname line.name

-- with these lines more
abbrev pub lines_with : List Binding → JudgedLines → List AttributeLine → JudgedLines
lines_with scope lines more = record {
  attributes = lines.attributes ++ attributes_in scope more;
  bad = lines.bad || list_any is_bad more;
  unbound = lines.unbound || list_any (line_is_unbound scope) more;
}

abbrev pub judged_lines : List Binding → List AttributeLine → JudgedLines
judged_lines scope lines = lines_with scope (record { attributes = []; bad = false; unbound = false }) lines
