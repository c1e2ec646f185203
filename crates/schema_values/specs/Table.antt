-- The grammar of schema documents: the attributes and the children of each kind of element (Structures, appendix A).
use Rattle.std.specs.Prelude.{ℕ, Bool, true, false, ◌==◌, List, [], ◌∷◌}
use Rattle.std.specs.List.{list_any}
use Rattle.schema_values.specs.declared.grammar_kinds.Tag.{Tag}
use Rattle.schema_values.specs.declared.grammar_kinds.Tag.TheVariants as tags
use Rattle.schema_values.specs.declared.grammar_kinds.AttributeName.{AttributeName}
use Rattle.schema_values.specs.declared.grammar_kinds.AttributeName.TheVariants as an
use Rattle.schema_values.specs.declared.grammar_kinds.Class.{Class}
use Rattle.schema_values.specs.declared.grammar_kinds.Class.TheVariants as c
use Rattle.schema_values.specs.declared.grammar_kinds.Kind.{Kind}
use Rattle.schema_values.specs.declared.grammar_kinds.Kind.TheVariants as k
use Rattle.schema_values.specs.declared.grammar_kinds.ValueKind.{ValueKind}
use Rattle.schema_values.specs.declared.grammar_kinds.ValueKind.TheVariants as v
use Rattle.schema_values.specs.declared.grammar_kinds.Rule.{Rule}
use Rattle.schema_values.specs.declared.grammar_kinds.Step.{Step}

-- an attribute that is required, and one that is not
abbrev must : AttributeName → ValueKind → Rule
must name kind = record { name = name; kind = kind; required = true }

abbrev may : AttributeName → ValueKind → Rule
may name kind = record { name = name; kind = kind; required = false }

-- the attributes of an element in no namespace, each with the kind of its values
abbrev pub rules : Kind → List Rule
rules k.Schema = may an.Id v.NcName ∷ may an.TargetNamespace v.Collapsed ∷ may an.Version v.Collapsed ∷ may an.FinalDefault v.AnyFinal ∷ may an.BlockDefault v.Block ∷ may an.ElementFormDefault v.Form ∷ may an.AttributeFormDefault v.Form ∷ []
rules k.Include = must an.SchemaLocation v.Collapsed ∷ may an.Id v.NcName ∷ []
rules k.Import = may an.Id v.NcName ∷ may an.Namespace v.Collapsed ∷ may an.SchemaLocation v.Collapsed ∷ []
rules k.Redefine = must an.SchemaLocation v.Collapsed ∷ may an.Id v.NcName ∷ []
rules k.TopElement = must an.Name v.NcName ∷ may an.Id v.NcName ∷ may an.Type v.QName ∷ may an.SubstitutionGroup v.QName ∷ may an.Default v.Raw ∷ may an.Fixed v.Raw ∷ may an.Nillable v.Boolean ∷ may an.Abstract v.Boolean ∷ may an.Final v.ComplexFinal ∷ may an.Block v.Block ∷ []
rules k.LocalElement = may an.Id v.NcName ∷ may an.Name v.NcName ∷ may an.Ref v.QName ∷ may an.Type v.QName ∷ may an.Default v.Raw ∷ may an.Fixed v.Raw ∷ may an.Nillable v.Boolean ∷ may an.Block v.Block ∷ may an.Form v.Form ∷ may an.MinOccurs v.Digits ∷ may an.MaxOccurs v.Bound ∷ []
rules k.TopAttribute = must an.Name v.NcName ∷ may an.Id v.NcName ∷ may an.Type v.QName ∷ may an.Default v.Raw ∷ may an.Fixed v.Raw ∷ []
rules k.LocalAttribute = may an.Id v.NcName ∷ may an.Name v.NcName ∷ may an.Ref v.QName ∷ may an.Type v.QName ∷ may an.Default v.Raw ∷ may an.Fixed v.Raw ∷ may an.Form v.Form ∷ may an.Use v.Use ∷ []
rules k.TopComplexType = must an.Name v.NcName ∷ may an.Id v.NcName ∷ may an.Abstract v.Boolean ∷ may an.Final v.ComplexFinal ∷ may an.Block v.Block ∷ may an.Mixed v.Boolean ∷ []
rules k.LocalComplexType = may an.Id v.NcName ∷ may an.Mixed v.Boolean ∷ []
rules k.SimpleContent = may an.Id v.NcName ∷ []
rules k.ComplexContent = may an.Id v.NcName ∷ may an.Mixed v.Boolean ∷ []
rules k.SimpleContentRestriction = must an.Base v.QName ∷ may an.Id v.NcName ∷ []
rules k.SimpleContentExtension = must an.Base v.QName ∷ may an.Id v.NcName ∷ []
rules k.ComplexContentRestriction = must an.Base v.QName ∷ may an.Id v.NcName ∷ []
rules k.ComplexContentExtension = must an.Base v.QName ∷ may an.Id v.NcName ∷ []
rules k.TopGroup = must an.Name v.NcName ∷ may an.Id v.NcName ∷ []
rules k.GroupReference = must an.Ref v.QName ∷ may an.Id v.NcName ∷ may an.MinOccurs v.Digits ∷ may an.MaxOccurs v.Bound ∷ []
rules k.NamedAll = may an.Id v.NcName ∷ []
rules k.NamedChoice = may an.Id v.NcName ∷ []
rules k.NamedSequence = may an.Id v.NcName ∷ []
rules k.TopAttributeGroup = must an.Name v.NcName ∷ may an.Id v.NcName ∷ []
rules k.AttributeGroupReference = must an.Ref v.QName ∷ may an.Id v.NcName ∷ []
rules k.All = may an.Id v.NcName ∷ may an.MinOccurs v.Digits ∷ may an.MaxOccurs v.Bound ∷ []
rules k.Choice = may an.Id v.NcName ∷ may an.MinOccurs v.Digits ∷ may an.MaxOccurs v.Bound ∷ []
rules k.Sequence = may an.Id v.NcName ∷ may an.MinOccurs v.Digits ∷ may an.MaxOccurs v.Bound ∷ []
rules k.Any = may an.Id v.NcName ∷ may an.Namespace v.Namespaces ∷ may an.ProcessContents v.Process ∷ may an.MinOccurs v.Digits ∷ may an.MaxOccurs v.Bound ∷ []
rules k.AnyAttribute = may an.Id v.NcName ∷ may an.Namespace v.Namespaces ∷ may an.ProcessContents v.Process ∷ []
rules k.TopSimpleType = must an.Name v.NcName ∷ may an.Id v.NcName ∷ may an.Final v.SimpleFinal ∷ []
rules k.LocalSimpleType = may an.Id v.NcName ∷ []
rules k.Restriction = may an.Id v.NcName ∷ may an.Base v.QName ∷ []
rules k.List = may an.Id v.NcName ∷ may an.ItemType v.QName ∷ []
rules k.Union = may an.Id v.NcName ∷ may an.MemberTypes v.QNames ∷ []
rules k.Length = must an.Value v.FacetDigits ∷ may an.Id v.NcName ∷ may an.Fixed v.Boolean ∷ []
rules k.MinLength = must an.Value v.FacetDigits ∷ may an.Id v.NcName ∷ may an.Fixed v.Boolean ∷ []
rules k.MaxLength = must an.Value v.FacetDigits ∷ may an.Id v.NcName ∷ may an.Fixed v.Boolean ∷ []
rules k.Pattern = must an.Value v.Raw ∷ may an.Id v.NcName ∷ []
rules k.Enumeration = must an.Value v.Raw ∷ may an.Id v.NcName ∷ []
rules k.WhiteSpace = must an.Value v.WhiteSpace ∷ may an.Id v.NcName ∷ may an.Fixed v.Boolean ∷ []
rules k.MaxInclusive = must an.Value v.Raw ∷ may an.Id v.NcName ∷ may an.Fixed v.Boolean ∷ []
rules k.MaxExclusive = must an.Value v.Raw ∷ may an.Id v.NcName ∷ may an.Fixed v.Boolean ∷ []
rules k.MinInclusive = must an.Value v.Raw ∷ may an.Id v.NcName ∷ may an.Fixed v.Boolean ∷ []
rules k.MinExclusive = must an.Value v.Raw ∷ may an.Id v.NcName ∷ may an.Fixed v.Boolean ∷ []
rules k.TotalDigits = must an.Value v.PositiveDigits ∷ may an.Id v.NcName ∷ may an.Fixed v.Boolean ∷ []
rules k.FractionDigits = must an.Value v.FacetDigits ∷ may an.Id v.NcName ∷ may an.Fixed v.Boolean ∷ []
rules k.Unique = must an.Name v.NcName ∷ may an.Id v.NcName ∷ []
rules k.Key = must an.Name v.NcName ∷ may an.Id v.NcName ∷ []
rules k.Keyref = must an.Name v.NcName ∷ must an.Refer v.QName ∷ may an.Id v.NcName ∷ []
rules k.Selector = must an.Xpath v.Collapsed ∷ may an.Id v.NcName ∷ []
rules k.Field = must an.Xpath v.Collapsed ∷ may an.Id v.NcName ∷ []
rules k.Annotation = may an.Id v.NcName ∷ []
rules _ = []

-- one child of a class, one or none, one or more, any number
abbrev once : Class → Step
once class = record { class = class; required = true; repeats = false }

abbrev maybe : Class → Step
maybe class = record { class = class; required = false; repeats = false }

abbrev some : Class → Step
some class = record { class = class; required = true; repeats = true }

abbrev any : Class → Step
any class = record { class = class; required = false; repeats = true }

-- the contents that an element may have: its child elements follow the steps of one of them. Each but an annotation may
-- begin with one annotation; a schema and a redefine have them anywhere, and below an annotation stands anything
abbrev pub contents : Kind → List (List Step)
contents k.Schema = (any c.Head ∷ any c.Top ∷ []) ∷ []
contents k.Include = (maybe c.Annotation ∷ []) ∷ []
contents k.Import = (maybe c.Annotation ∷ []) ∷ []
contents k.Redefine = (any c.Redefined ∷ []) ∷ []
contents k.TopElement = (maybe c.Annotation ∷ maybe c.Type ∷ any c.Identity ∷ []) ∷ []
contents k.LocalElement = (maybe c.Annotation ∷ maybe c.Type ∷ any c.Identity ∷ []) ∷ []
contents k.TopAttribute = (maybe c.Annotation ∷ maybe c.SimpleType ∷ []) ∷ []
contents k.LocalAttribute = (maybe c.Annotation ∷ maybe c.SimpleType ∷ []) ∷ []
contents k.TopComplexType = (maybe c.Annotation ∷ once c.SimpleContent ∷ []) ∷ (maybe c.Annotation ∷ once c.ComplexContent ∷ []) ∷ (maybe c.Annotation ∷ maybe c.ModelGroup ∷ any c.Attributes ∷ maybe c.AnyAttribute ∷ []) ∷ []
contents k.LocalComplexType = (maybe c.Annotation ∷ once c.SimpleContent ∷ []) ∷ (maybe c.Annotation ∷ once c.ComplexContent ∷ []) ∷ (maybe c.Annotation ∷ maybe c.ModelGroup ∷ any c.Attributes ∷ maybe c.AnyAttribute ∷ []) ∷ []
contents k.SimpleContent = (maybe c.Annotation ∷ once c.Derivation ∷ []) ∷ []
contents k.ComplexContent = (maybe c.Annotation ∷ once c.Derivation ∷ []) ∷ []
contents k.SimpleContentRestriction = (maybe c.Annotation ∷ maybe c.SimpleType ∷ any c.Facet ∷ any c.Attributes ∷ maybe c.AnyAttribute ∷ []) ∷ []
contents k.SimpleContentExtension = (maybe c.Annotation ∷ any c.Attributes ∷ maybe c.AnyAttribute ∷ []) ∷ []
contents k.ComplexContentRestriction = (maybe c.Annotation ∷ maybe c.ModelGroup ∷ any c.Attributes ∷ maybe c.AnyAttribute ∷ []) ∷ []
contents k.ComplexContentExtension = (maybe c.Annotation ∷ maybe c.ModelGroup ∷ any c.Attributes ∷ maybe c.AnyAttribute ∷ []) ∷ []
contents k.TopGroup = (maybe c.Annotation ∷ once c.Compositor ∷ []) ∷ []
contents k.GroupReference = (maybe c.Annotation ∷ []) ∷ []
contents k.NamedAll = (maybe c.Annotation ∷ any c.Element ∷ []) ∷ []
contents k.NamedChoice = (maybe c.Annotation ∷ any c.Particle ∷ []) ∷ []
contents k.NamedSequence = (maybe c.Annotation ∷ any c.Particle ∷ []) ∷ []
contents k.TopAttributeGroup = (maybe c.Annotation ∷ any c.Attributes ∷ maybe c.AnyAttribute ∷ []) ∷ []
contents k.AttributeGroupReference = (maybe c.Annotation ∷ []) ∷ []
contents k.All = (maybe c.Annotation ∷ any c.Element ∷ []) ∷ []
contents k.Choice = (maybe c.Annotation ∷ any c.Particle ∷ []) ∷ []
contents k.Sequence = (maybe c.Annotation ∷ any c.Particle ∷ []) ∷ []
contents k.Any = (maybe c.Annotation ∷ []) ∷ []
contents k.AnyAttribute = (maybe c.Annotation ∷ []) ∷ []
contents k.TopSimpleType = (maybe c.Annotation ∷ once c.Variety ∷ []) ∷ []
contents k.LocalSimpleType = (maybe c.Annotation ∷ once c.Variety ∷ []) ∷ []
contents k.Restriction = (maybe c.Annotation ∷ maybe c.SimpleType ∷ any c.Facet ∷ []) ∷ []
contents k.List = (maybe c.Annotation ∷ maybe c.SimpleType ∷ []) ∷ []
contents k.Union = (maybe c.Annotation ∷ any c.SimpleType ∷ []) ∷ []
contents k.Length = (maybe c.Annotation ∷ []) ∷ []
contents k.MinLength = (maybe c.Annotation ∷ []) ∷ []
contents k.MaxLength = (maybe c.Annotation ∷ []) ∷ []
contents k.Pattern = (maybe c.Annotation ∷ []) ∷ []
contents k.Enumeration = (maybe c.Annotation ∷ []) ∷ []
contents k.WhiteSpace = (maybe c.Annotation ∷ []) ∷ []
contents k.MaxInclusive = (maybe c.Annotation ∷ []) ∷ []
contents k.MaxExclusive = (maybe c.Annotation ∷ []) ∷ []
contents k.MinInclusive = (maybe c.Annotation ∷ []) ∷ []
contents k.MinExclusive = (maybe c.Annotation ∷ []) ∷ []
contents k.TotalDigits = (maybe c.Annotation ∷ []) ∷ []
contents k.FractionDigits = (maybe c.Annotation ∷ []) ∷ []
contents k.Unique = (maybe c.Annotation ∷ once c.Selector ∷ some c.Field ∷ []) ∷ []
contents k.Key = (maybe c.Annotation ∷ once c.Selector ∷ some c.Field ∷ []) ∷ []
contents k.Keyref = (maybe c.Annotation ∷ once c.Selector ∷ some c.Field ∷ []) ∷ []
contents k.Selector = (maybe c.Annotation ∷ []) ∷ []
contents k.Field = (maybe c.Annotation ∷ []) ∷ []
contents k.Annotation = (any c.Anything ∷ []) ∷ []
contents _ = (any c.Anything ∷ []) ∷ []

-- the names, numbered
abbrev pub tag_number : Tag → ℕ
tag_number tags.Schema = 0
tag_number tags.Include = 1
tag_number tags.Import = 2
tag_number tags.Redefine = 3
tag_number tags.Element = 4
tag_number tags.Attribute = 5
tag_number tags.ComplexType = 6
tag_number tags.SimpleContent = 7
tag_number tags.ComplexContent = 8
tag_number tags.Restriction = 9
tag_number tags.Extension = 10
tag_number tags.Group = 11
tag_number tags.AttributeGroup = 12
tag_number tags.All = 13
tag_number tags.Choice = 14
tag_number tags.Sequence = 15
tag_number tags.Any = 16
tag_number tags.AnyAttribute = 17
tag_number tags.SimpleType = 18
tag_number tags.List = 19
tag_number tags.Union = 20
tag_number tags.Length = 21
tag_number tags.MinLength = 22
tag_number tags.MaxLength = 23
tag_number tags.Pattern = 24
tag_number tags.Enumeration = 25
tag_number tags.WhiteSpace = 26
tag_number tags.MaxInclusive = 27
tag_number tags.MaxExclusive = 28
tag_number tags.MinInclusive = 29
tag_number tags.MinExclusive = 30
tag_number tags.TotalDigits = 31
tag_number tags.FractionDigits = 32
tag_number tags.Unique = 33
tag_number tags.Key = 34
tag_number tags.Keyref = 35
tag_number tags.Selector = 36
tag_number tags.Field = 37
tag_number tags.Annotation = 38
tag_number tags.Notation = 39
tag_number tags.Other = 40

abbrev pub is_one_of : List Tag → Tag → Bool
is_one_of names tag = list_any (λ other. tag_number other == tag_number tag) names

-- an element of this name is of the class
abbrev pub is_in : Class → Tag → Bool
is_in c.Anything tag = true
is_in c.Annotation tag = is_one_of (tags.Annotation ∷ []) tag
is_in c.Head tag = is_one_of (tags.Include ∷ tags.Import ∷ tags.Redefine ∷ tags.Annotation ∷ []) tag
is_in c.Top tag = is_one_of (tags.SimpleType ∷ tags.ComplexType ∷ tags.Group ∷ tags.AttributeGroup ∷ tags.Element ∷ tags.Attribute ∷ tags.Notation ∷ tags.Annotation ∷ []) tag
is_in c.Redefined tag = is_one_of (tags.SimpleType ∷ tags.ComplexType ∷ tags.Group ∷ tags.AttributeGroup ∷ tags.Annotation ∷ []) tag
is_in c.Type tag = is_one_of (tags.SimpleType ∷ tags.ComplexType ∷ []) tag
is_in c.Identity tag = is_one_of (tags.Unique ∷ tags.Key ∷ tags.Keyref ∷ []) tag
is_in c.SimpleType tag = is_one_of (tags.SimpleType ∷ []) tag
is_in c.SimpleContent tag = is_one_of (tags.SimpleContent ∷ []) tag
is_in c.ComplexContent tag = is_one_of (tags.ComplexContent ∷ []) tag
is_in c.Derivation tag = is_one_of (tags.Restriction ∷ tags.Extension ∷ []) tag
is_in c.ModelGroup tag = is_one_of (tags.Group ∷ tags.All ∷ tags.Choice ∷ tags.Sequence ∷ []) tag
is_in c.Compositor tag = is_one_of (tags.All ∷ tags.Choice ∷ tags.Sequence ∷ []) tag
is_in c.Particle tag = is_one_of (tags.Element ∷ tags.Group ∷ tags.Choice ∷ tags.Sequence ∷ tags.Any ∷ []) tag
is_in c.Element tag = is_one_of (tags.Element ∷ []) tag
is_in c.Attributes tag = is_one_of (tags.Attribute ∷ tags.AttributeGroup ∷ []) tag
is_in c.AnyAttribute tag = is_one_of (tags.AnyAttribute ∷ []) tag
is_in c.Facet tag = is_one_of (tags.Length ∷ tags.MinLength ∷ tags.MaxLength ∷ tags.Pattern ∷ tags.Enumeration ∷ tags.WhiteSpace ∷ tags.MaxInclusive ∷ tags.MaxExclusive ∷ tags.MinInclusive ∷ tags.MinExclusive ∷ tags.TotalDigits ∷ tags.FractionDigits ∷ []) tag
is_in c.Variety tag = is_one_of (tags.Restriction ∷ tags.List ∷ tags.Union ∷ []) tag
is_in c.Selector tag = is_one_of (tags.Selector ∷ []) tag
is_in c.Field tag = is_one_of (tags.Field ∷ []) tag
