-- Names that no attribute may have.
use Rattle.std.specs.Prelude.{ℕ, Bool, false, List, Option, None, Some, bytes_eq, codes}
use Rattle.xs_names.specs.Names.{NameTable, space_of, local_of}
use Rattle.representations.specs.declared.parts.Represented.{Represented}
use Rattle.representations.specs.declared.parts.Represented.TheVariants as forms
use Rattle.reference_faults.specs.Imports.{space_name}

-- the namespace of xsi:type, xsi:nil and the two locations (Structures 2.6)
abbrev pub instance_namespace : List ℕ
instance_namespace = codes "http://www.w3.org/2001/XMLSchema-instance"

-- the name of an attribute that is declared, at the top or not
abbrev pub attribute_name : Represented → Option ℕ
attribute_name (forms.Attribute attribute) = attribute.name
attribute_name _ = None

-- no-xmlns (Structures 3.2.6): an attribute has the local name xmlns
abbrev pub is_xmlns : NameTable → Option ℕ → Bool
is_xmlns t None = false
is_xmlns t (Some name) = bytes_eq (local_of t name) (codes "xmlns")

-- no-xsi (Structures 3.2.6): an attribute is in the namespace of schema instances
abbrev pub is_xsi : NameTable → Option ℕ → Bool
is_xsi t None = false
is_xsi t (Some name) = bytes_eq (space_name t (space_of t name)) instance_namespace
