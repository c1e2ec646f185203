-- The types of the four attributes that every element may have (Structures 3.2.7).
use Rattle.xs_codes.specs.declared.builtin.Builtin.{Builtin}
use Rattle.xs_codes.specs.declared.builtin.Builtin.TheVariants.{QName, Boolean, AnyUri, AnySimpleType}
use Rattle.assess_records.specs.declared.instance_names.InstanceAttribute.{InstanceAttribute}
use Rattle.assess_records.specs.declared.instance_names.InstanceAttribute.TheVariants.{TypeName, Nil, SchemaLocation, NoNamespaceSchemaLocation}

-- In the standard xsi:schemaLocation is of a list of anyURI without a name; here it is anySimpleType.
abbrev pub instance_type : InstanceAttribute → Builtin
instance_type TypeName = QName
instance_type Nil = Boolean
instance_type SchemaLocation = AnySimpleType
instance_type NoNamespaceSchemaLocation = AnyUri
