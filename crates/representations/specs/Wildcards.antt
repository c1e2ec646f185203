-- Wildcards (Structures 3.10.2).
use Rattle.std.specs.Prelude.{ℕ, Some, map}
use Rattle.xs_names.specs.Names.{NameTable, absent_space}
use Rattle.xs_components.specs.declared.namespace_constraint.NsConstraint.{NsConstraint}
use Rattle.xs_components.specs.declared.namespace_constraint.NsConstraint.TheVariants as constraints
use Rattle.xs_components.specs.declared.common.Wildcard.{Wildcard}
use Rattle.schema_values.specs.declared.spaces.SpaceToken.{SpaceToken}
use Rattle.schema_values.specs.declared.spaces.SpaceToken.TheVariants as tokens
use Rattle.schema_values.specs.declared.spaces.Spaces.{Spaces}
use Rattle.schema_values.specs.declared.spaces.Spaces.TheVariants as spaces
use Rattle.schema_shape.specs.declared.forms.WildcardForm.{WildcardForm}
use Rattle.representations.specs.declared.naming.Naming.{Naming}
use Rattle.representations.specs.Naming.{space_in, IsSpaceNumber}
use Rattle.representations.specs.declared.reading.Reading.{Reading}

-- ##targetNamespace is the target namespace, the absent one where there is none; ##local is the absent one
abbrev pub token_space : NameTable → Naming → SpaceToken → ℕ
token_space t naming tokens.Target = space_in t naming.target
token_space t naming tokens.Local = absent_space
token_space t naming (tokens.Named space) = space_in t (Some space)

-- ##any; ##other is not the target namespace, or not the absent one where there is none; else those that are listed
abbrev pub constraint_of : NameTable → Naming → Spaces → NsConstraint
constraint_of t naming spaces.Any = constraints.Any
constraint_of t naming spaces.Other = constraints.Not (space_in t naming.target)
constraint_of t naming (spaces.These listed) = constraints.In (map (token_space t naming) listed)

abbrev pub wildcard_of : NameTable → Naming → WildcardForm → Wildcard
wildcard_of t naming form = record { namespaces = constraint_of t naming form.spaces; process = form.process }

-- the number that a reading has of its target namespace is that of the table, and of each that has grown from it
abbrev pub KnowsTarget : NameTable → Reading → Type 0
KnowsTarget t reading = IsSpaceNumber t reading.naming.target reading.target
