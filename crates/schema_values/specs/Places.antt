-- What an element of a schema document is, by its name and by what it stands in (Structures, appendix A).
use Rattle.schema_values.specs.declared.grammar_kinds.Kind.{Kind}
use Rattle.schema_values.specs.declared.grammar_kinds.Kind.TheVariants as k
use Rattle.schema_values.specs.declared.grammar_kinds.Tag.{Tag}
use Rattle.schema_values.specs.declared.grammar_kinds.Tag.TheVariants as tags

-- a root
abbrev pub root_kind : Tag → Kind
root_kind tags.Schema = k.Schema
root_kind _ = k.NoSchema

-- an element below schema: what is declared there is a top declaration
abbrev pub top_kind : Tag → Kind
top_kind tags.SimpleType = k.TopSimpleType
top_kind tags.ComplexType = k.TopComplexType
top_kind tags.Group = k.TopGroup
top_kind tags.AttributeGroup = k.TopAttributeGroup
top_kind tags.Element = k.TopElement
top_kind tags.Attribute = k.TopAttribute
top_kind tags.Include = k.Include
top_kind tags.Import = k.Import
top_kind tags.Redefine = k.Redefine
top_kind tags.Notation = k.Notation
top_kind tags.Annotation = k.Annotation
top_kind _ = k.Ignored

-- an element below redefine: what is redefined is a top declaration, and no other document is reached from there
abbrev pub below_redefine : Tag → Kind
below_redefine tags.Include = k.Ignored
below_redefine tags.Import = k.Ignored
below_redefine tags.Redefine = k.Ignored
below_redefine tag = top_kind tag

-- an element below another one
abbrev pub inner_kind : Tag → Kind
inner_kind tags.Annotation = k.Annotation
inner_kind tags.Element = k.LocalElement
inner_kind tags.Attribute = k.LocalAttribute
inner_kind tags.ComplexType = k.LocalComplexType
inner_kind tags.SimpleContent = k.SimpleContent
inner_kind tags.ComplexContent = k.ComplexContent
inner_kind tags.Group = k.GroupReference
inner_kind tags.AttributeGroup = k.AttributeGroupReference
inner_kind tags.All = k.All
inner_kind tags.Choice = k.Choice
inner_kind tags.Sequence = k.Sequence
inner_kind tags.Any = k.Any
inner_kind tags.AnyAttribute = k.AnyAttribute
inner_kind tags.SimpleType = k.LocalSimpleType
inner_kind tags.Restriction = k.Restriction
inner_kind tags.List = k.List
inner_kind tags.Union = k.Union
inner_kind tags.Unique = k.Unique
inner_kind tags.Key = k.Key
inner_kind tags.Keyref = k.Keyref
inner_kind tags.Selector = k.Selector
inner_kind tags.Field = k.Field
inner_kind tags.Length = k.Length
inner_kind tags.MinLength = k.MinLength
inner_kind tags.MaxLength = k.MaxLength
inner_kind tags.Pattern = k.Pattern
inner_kind tags.Enumeration = k.Enumeration
inner_kind tags.WhiteSpace = k.WhiteSpace
inner_kind tags.MaxInclusive = k.MaxInclusive
inner_kind tags.MaxExclusive = k.MaxExclusive
inner_kind tags.MinInclusive = k.MinInclusive
inner_kind tags.MinExclusive = k.MinExclusive
inner_kind tags.TotalDigits = k.TotalDigits
inner_kind tags.FractionDigits = k.FractionDigits
inner_kind _ = k.Ignored

-- an element below simpleContent
abbrev pub below_simple_content : Tag → Kind
below_simple_content tags.Restriction = k.SimpleContentRestriction
below_simple_content tags.Extension = k.SimpleContentExtension
below_simple_content tag = inner_kind tag

-- an element below complexContent
abbrev pub below_complex_content : Tag → Kind
below_complex_content tags.Restriction = k.ComplexContentRestriction
below_complex_content tags.Extension = k.ComplexContentExtension
below_complex_content tag = inner_kind tag

-- an element below a named group
abbrev pub below_top_group : Tag → Kind
below_top_group tags.All = k.NamedAll
below_top_group tags.Choice = k.NamedChoice
below_top_group tags.Sequence = k.NamedSequence
below_top_group tag = inner_kind tag

-- what an element of this name is below one of this kind. Where it may not stand, it is of some kind; its parent is refused
abbrev pub kind_below : Kind → Tag → Kind
kind_below k.Annotation tag = k.Ignored
kind_below k.Notation tag = k.Ignored
kind_below k.NoSchema tag = k.Ignored
kind_below k.Ignored tag = k.Ignored
kind_below k.Document tag = root_kind tag
kind_below k.Schema tag = top_kind tag
kind_below k.Redefine tag = below_redefine tag
kind_below k.SimpleContent tag = below_simple_content tag
kind_below k.ComplexContent tag = below_complex_content tag
kind_below k.TopGroup tag = below_top_group tag
kind_below _ tag = inner_kind tag
