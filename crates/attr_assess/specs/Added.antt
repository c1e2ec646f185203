-- What is found out about the attributes that an element lacks.
use Rattle.std.specs.Prelude.{◌≡◌, ℕ, ◌<◌, ◌^◌, List, Some, All, map, length}
use Rattle.std.specs.List.Sorted.{IsSortedBy}
use Rattle.std.specs.Option.{IsSomeAnd}
use Rattle.xs_names.specs.Names.{NameTable, local_of}
use Rattle.xs_components.specs.Tables.{Tables}
use Rattle.xs_components.specs.declared.attribute.AttributeDecl.{AttributeDecl}
use Rattle.xs_components.specs.declared.attribute.AttrUse.{AttrUse}
use Rattle.attr_uses.specs.declared.entry.UseAt.{UseAt}
use Rattle.assess_records.specs.declared.shape.NamedText.{NamedText}
use Rattle.attr_uses.specs.Written.{use_at}
use Rattle.attr_uses.specs.Uses.{use_named}
use Rattle.attr_assess.specs.Lacking.{effective_constraint, is_missing, is_added, AreThose}
use Rattle.attr_assess.specs.Order.{space_text, is_before}
use Rattle.attr_assess.specs.declared.added.AddedUse.{AddedUse}
use Rattle.attr_assess.specs.declared.lacking.Lacking.{Lacking}

-- the names of attribute declarations have numbers of the table of names
abbrev pub AreNamed : NameTable → Tables → Type 0
AreNamed names t = All (λ (decl : AttributeDecl). decl.name < length names.names) t.attributes.parts

module _ (names : NameTable) (t : Tables) (uses : List UseAt) where
  -- the use with the name, its declaration, and its effective value constraint
  pub record IsAddedUse (added : AddedUse) : Type 0 where
    pub named : use_named t uses added.name ≡ Some added.at
    pub part : IsSomeAnd (use_at t added.at) (λ part. (part.attribute ≡ added.attribute) × (effective_constraint t part ≡ Some added.constraint.now))
    pub space : added.space.now ≡ space_text names added.name
    pub local : added.local.now ≡ local_of names added.name

  -- Structures 3.4.5: the names of the attributes that are added, in their order
  pub record AreAddedNames (given : List NamedText) (added : List ℕ) : Type 0 where
    pub those : AreThose (is_added t uses given) (2 ^ 32) added
    pub sorted : IsSortedBy (is_before names) added

  -- the attributes that an element with these lacks: those that are required, and those that are added
  pub record AreLacking (given : List NamedText) (lacking : Lacking) : Type 0 where
    pub missing : AreThose (is_missing t uses given) (2 ^ 32) lacking.missing
    pub added : AreAddedNames given (map (λ a. a.name) lacking.added)
    pub uses_are : All IsAddedUse lacking.added
