-- The attributes of the namespace of schema instances: xsi:type, xsi:nil and the two locations (Structures 2.6, 3.2.7).
use Rattle.std.specs.Prelude.{ℕ, Bool, true, false, List, [], ◌∷◌, Option, None, Some, slice_index_or, bytes_eq, codes, if◌then◌else◌}
use Rattle.xs_names.specs.Names.{NameTable, space_of, local_of}
use Rattle.assess_records.specs.declared.shape.NamedText.{NamedText}
use Rattle.assess_records.specs.declared.instance_names.InstanceAttribute.{InstanceAttribute}
use Rattle.assess_records.specs.declared.instance_names.InstanceAttribute.TheVariants.{TypeName, Nil, SchemaLocation, NoNamespaceSchemaLocation}

abbrev pub instance_namespace : List ℕ
instance_namespace = codes "http://www.w3.org/2001/XMLSchema-instance"

-- the attribute with a local name of that namespace
abbrev pub attribute_named : List ℕ → Option InstanceAttribute
attribute_named local =
    if bytes_eq local (codes "type") then Some TypeName
    else (if bytes_eq local (codes "nil") then Some Nil
    else (if bytes_eq local (codes "schemaLocation") then Some SchemaLocation
    else (if bytes_eq local (codes "noNamespaceSchemaLocation") then Some NoNamespaceSchemaLocation
    else None)))

-- the attribute of schema instances that has the name of this number
unfoldable pub instance_attribute : NameTable → ℕ → Option InstanceAttribute
instance_attribute t name =
    if bytes_eq (slice_index_or t.spaces (space_of t name) []) instance_namespace then attribute_named (local_of t name) else None

abbrev pub same : InstanceAttribute → InstanceAttribute → Bool
same TypeName TypeName = true
same Nil Nil = true
same SchemaLocation SchemaLocation = true
same NoNamespaceSchemaLocation NoNamespaceSchemaLocation = true
same _ _ = false

abbrev pub is_this : InstanceAttribute → Option InstanceAttribute → Bool
is_this which None = false
is_this which (Some found) = same found which

-- the name of this number is that of this attribute
abbrev pub is_named : NameTable → InstanceAttribute → ℕ → Bool
is_named t which name = is_this which (instance_attribute t name)

-- the text of the attribute, where an element with these attributes has it
abbrev pub instance_text : NameTable → List NamedText → InstanceAttribute → Option (List ℕ)
instance_text t [] which = None
instance_text t (a ∷ attrs) which = if is_named t which a.name then Some a.text else instance_text t attrs which
