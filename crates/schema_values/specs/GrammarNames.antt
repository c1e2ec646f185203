-- The names of schema elements and of their attributes (Structures, appendix A).
use Rattle.std.specs.Prelude.{ℕ, List, [], ◌∷◌, Some, if◌then◌else◌, codes}
use Rattle.std.specs.Str.{bytes_eq}
use Rattle.tree_rows.specs.Naming.{same_space}
use Rattle.tree_rows.specs.declared.name.Expanded.{Expanded}
use Rattle.schema_values.specs.declared.grammar_kinds.AttributeName.{AttributeName}
use Rattle.schema_values.specs.declared.grammar_kinds.AttributeName.TheVariants as an
use Rattle.schema_values.specs.declared.grammar_kinds.Tag.{Tag}
use Rattle.schema_values.specs.declared.grammar_kinds.Tag.TheVariants as tags

-- the namespace of schema documents (Structures 2.6)
abbrev pub schema_namespace : List ℕ
schema_namespace = codes "http://www.w3.org/2001/XMLSchema"

-- what stands beside the name; the other where the name is not there
abbrev pub by_name : {A : Type 0} → A → List (List ℕ × A) → List ℕ → A
by_name other [] name = other
by_name other (entry ∷ entries) name = if bytes_eq name entry.0 then entry.1 else by_name other entries name

-- the schema element of this local name
abbrev pub tag_named : List ℕ → Tag
tag_named local =
    by_name tags.Other
    ((codes "schema", tags.Schema)
    ∷ (codes "include", tags.Include)
    ∷ (codes "import", tags.Import)
    ∷ (codes "redefine", tags.Redefine)
    ∷ (codes "element", tags.Element)
    ∷ (codes "attribute", tags.Attribute)
    ∷ (codes "complexType", tags.ComplexType)
    ∷ (codes "simpleContent", tags.SimpleContent)
    ∷ (codes "complexContent", tags.ComplexContent)
    ∷ (codes "restriction", tags.Restriction)
    ∷ (codes "extension", tags.Extension)
    ∷ (codes "group", tags.Group)
    ∷ (codes "attributeGroup", tags.AttributeGroup)
    ∷ (codes "all", tags.All)
    ∷ (codes "choice", tags.Choice)
    ∷ (codes "sequence", tags.Sequence)
    ∷ (codes "any", tags.Any)
    ∷ (codes "anyAttribute", tags.AnyAttribute)
    ∷ (codes "simpleType", tags.SimpleType)
    ∷ (codes "list", tags.List)
    ∷ (codes "union", tags.Union)
    ∷ (codes "length", tags.Length)
    ∷ (codes "minLength", tags.MinLength)
    ∷ (codes "maxLength", tags.MaxLength)
    ∷ (codes "pattern", tags.Pattern)
    ∷ (codes "enumeration", tags.Enumeration)
    ∷ (codes "whiteSpace", tags.WhiteSpace)
    ∷ (codes "maxInclusive", tags.MaxInclusive)
    ∷ (codes "maxExclusive", tags.MaxExclusive)
    ∷ (codes "minInclusive", tags.MinInclusive)
    ∷ (codes "minExclusive", tags.MinExclusive)
    ∷ (codes "totalDigits", tags.TotalDigits)
    ∷ (codes "fractionDigits", tags.FractionDigits)
    ∷ (codes "unique", tags.Unique)
    ∷ (codes "key", tags.Key)
    ∷ (codes "keyref", tags.Keyref)
    ∷ (codes "selector", tags.Selector)
    ∷ (codes "field", tags.Field)
    ∷ (codes "annotation", tags.Annotation)
    ∷ (codes "notation", tags.Notation) ∷ [])
    local

-- a schema element is known by its expanded name, whatever its prefix
abbrev pub tag_of : Expanded → Tag
tag_of name = if same_space name.namespace (Some schema_namespace) then tag_named name.local else tags.Other

-- the name of an attribute, as it is written
abbrev pub attribute_text : AttributeName → List ℕ
attribute_text an.Id = codes "id"
attribute_text an.TargetNamespace = codes "targetNamespace"
attribute_text an.Version = codes "version"
attribute_text an.FinalDefault = codes "finalDefault"
attribute_text an.BlockDefault = codes "blockDefault"
attribute_text an.ElementFormDefault = codes "elementFormDefault"
attribute_text an.AttributeFormDefault = codes "attributeFormDefault"
attribute_text an.SchemaLocation = codes "schemaLocation"
attribute_text an.Namespace = codes "namespace"
attribute_text an.Name = codes "name"
attribute_text an.Type = codes "type"
attribute_text an.SubstitutionGroup = codes "substitutionGroup"
attribute_text an.Default = codes "default"
attribute_text an.Fixed = codes "fixed"
attribute_text an.Nillable = codes "nillable"
attribute_text an.Abstract = codes "abstract"
attribute_text an.Final = codes "final"
attribute_text an.Block = codes "block"
attribute_text an.Ref = codes "ref"
attribute_text an.Form = codes "form"
attribute_text an.MinOccurs = codes "minOccurs"
attribute_text an.MaxOccurs = codes "maxOccurs"
attribute_text an.Use = codes "use"
attribute_text an.Mixed = codes "mixed"
attribute_text an.Base = codes "base"
attribute_text an.ProcessContents = codes "processContents"
attribute_text an.ItemType = codes "itemType"
attribute_text an.MemberTypes = codes "memberTypes"
attribute_text an.Value = codes "value"
attribute_text an.Refer = codes "refer"
attribute_text an.Xpath = codes "xpath"
