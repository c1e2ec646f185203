-- Why the names of a start tag are refused.
use Rattle.std.specs.Prelude.{ℕ, List, Bool, false, ◌==◌, ◌&&◌, ◌||◌, not, nat_lt, length, Option, Some, None, is_none, codes, if◌then◌else◌}
use Rattle.std.specs.List.{list_any}
use Rattle.std.specs.Str.{bytes_eq}
use Rattle.xs_names.specs.Names.{xml_name, xmlns_name}
use Rattle.xs_names.specs.QName.{qname}
pub use Rattle.tree_rows.specs.Whole.{repeats_prefix, repeats_name}
use Rattle.tree_rows.specs.declared.limits.TheConstants.{MAX_ATTRIBUTES}
use Rattle.tree_rows.specs.declared.row.Binding.{Binding}
use Rattle.tag_names.specs.Scopes.{of_prefix}
use Rattle.tag_names.specs.Tags.{is_binding, binding_of, bindings_in, scope_within, prefix_of, attributes_in}
use Rattle.tag_names.specs.declared.lines.AttributeLine.{AttributeLine}
use Rattle.tag_names.specs.declared.lines.Tag.{Tag}
use Rattle.tag_names.specs.declared.fault.NameReason.{NameReason}
use Rattle.tag_names.specs.declared.fault.NameReason.TheVariants.{BadName, ReservedName, UnboundPrefix, DoubleAttribute, TooManyAttributes}

-- a name is no QName (Namespaces in XML 1.0, 4)
abbrev pub is_no_qname : List ℕ → Bool
is_no_qname name = is_none (qname name)

abbrev pub has_bad_name : Tag → Bool
has_bad_name tag = is_no_qname tag.name || list_any (λ line. is_no_qname line.name) tag.attributes

-- the binding declares xmlns; or binds xml to another namespace than its own; or another prefix, or the default namespace, to one of
-- these two; or a prefix to no namespace (Namespaces in XML 1.0, 3 and 5)
abbrev pub is_reserved : Binding → Bool
is_reserved b =
    bytes_eq b.prefix (codes "xmlns")
    || (if bytes_eq b.prefix (codes "xml") then not (bytes_eq b.namespace xml_name)
    else ((bytes_eq b.namespace xml_name || bytes_eq b.namespace xmlns_name) || (length b.namespace == 0 && not (length b.prefix == 0))))

abbrev pub is_xmlns : Option (List ℕ) → Bool
is_xmlns None = false
is_xmlns (Some prefix) = bytes_eq prefix (codes "xmlns")

-- a binding that is reserved
abbrev pub binds_reserved : AttributeLine → Bool
binds_reserved line = is_binding line && is_reserved (binding_of line)

-- a binding is reserved, or the element's name has the prefix xmlns
abbrev pub uses_reserved : Tag → Bool
uses_reserved tag = is_xmlns (prefix_of tag.name) || list_any is_reserved (bindings_in tag.attributes)

-- a prefix other than xmlns is not bound
abbrev pub is_unbound : List Binding → Option (List ℕ) → Bool
is_unbound scope None = false
is_unbound scope (Some prefix) = not (bytes_eq prefix (codes "xmlns")) && is_none (of_prefix scope prefix)

-- the prefix of an attribute that is no binding is not bound
abbrev pub line_is_unbound : List Binding → AttributeLine → Bool
line_is_unbound scope line = not (is_binding line) && is_unbound scope (prefix_of line.name)

-- of the element's name, or of an attribute's that is no binding (Namespaces in XML 1.0, 5)
abbrev pub has_unbound : List Binding → Tag → Bool
has_unbound scope tag =
    is_unbound (scope_within scope tag) (prefix_of tag.name)
    || list_any (line_is_unbound (scope_within scope tag)) tag.attributes

abbrev pub has_double : List Binding → Tag → Bool
has_double scope tag =
    repeats_prefix (bindings_in tag.attributes) || repeats_name (attributes_in (scope_within scope tag) tag.attributes)

-- more than 256 attributes and bindings
abbrev pub has_too_many : Tag → Bool
has_too_many tag = nat_lt MAX_ATTRIBUTES (length tag.attributes)

-- the first reason, in this order, why the names of a tag are refused that stands in this scope
abbrev pub name_fault : List Binding → Tag → Option NameReason
name_fault scope tag =
    if has_bad_name tag then Some BadName
    else (if uses_reserved tag then Some ReservedName
    else (if has_unbound scope tag then Some UnboundPrefix
    else (if has_double scope tag then Some DoubleAttribute
    else (if has_too_many tag then Some TooManyAttributes else None))))
