-- Attribute groups that redefine others as these do not allow (Structures 4.2.2; 3.4.6, Derivation Valid (Restriction, Complex), 2 to 4).
use Rattle.std.specs.Prelude.{◌≡◌, ◌⊎◌, ℕ, false, List, Some, Ok, slice_get}
use Rattle.xs_codes.specs.declared.code.Code.{Code}
use Rattle.xs_codes.specs.declared.code.Code.TheVariants.{SrcRedefine7_2_2}
use Rattle.xs_codes.specs.declared.fault.Fault.{Fault}
use Rattle.xs_names.specs.Names.{NameTable}
use Rattle.xs_components.specs.Tables.{Tables}
use Rattle.xs_components.specs.declared.attr_group.AttrGroupDef.{AttrGroupDef}
use Rattle.attr_uses.specs.Uses.{AttrUses, group_uses}
use Rattle.derive_restriction.specs.Uses.{BreaksUses}
use Rattle.derive_restriction.specs.Wildcards.{BreaksWildcard}
use Rattle.redefine_names.specs.Each.{IsOfSome}
use Rattle.redefine_names.specs.declared.pairs.RedefinedPair.{RedefinedPair}
use Rattle.derive_faults.specs.TypeFaults.{type_fault}

module _ (t : Tables) (names : NameTable) where
  -- The attribute uses and the wildcard of the attribute group of one number against those of another, where both have them: as a
  -- restriction against its base, which is no anyType.
  abbrev pub BreaksTables : ℕ → ℕ → Code → Type 0
  BreaksTables group original code =
      (own base : AttrUses) × (group_uses t group ≡ Ok own) × (group_uses t original ≡ Ok base)
      × (BreaksUses t names own base code ⊎ BreaksWildcard false own.wildcard base.wildcard code)

  -- src-redefine.7.2.2: what redefines another without a reference to itself breaks derivation-ok-restriction.2, .3 or .4 against it.
  abbrev pub BreaksGroup : ℕ → ℕ → Code → Type 0
  BreaksGroup group original code = ((broken : Code) × BreaksTables group original broken) × (code ≡ SrcRedefine7_2_2)

  -- a fault of a pair, of what redefines
  abbrev pub IsPairFault : RedefinedPair → Fault → Type 0
  IsPairFault pair fault =
      (part original : AttrGroupDef) × (code : Code) × (slice_get t.attr_groups.parts pair.own ≡ Some part) × (slice_get t.attr_groups.parts pair.original ≡ Some original)
      × BreaksGroup pair.own pair.original code × (fault ≡ type_fault 7 part.at code)

  -- a fault of some pair of attribute groups in phase 7, of derivation
  abbrev pub IsAttrGroupFault : List RedefinedPair → Fault → Type 0
  IsAttrGroupFault pairs fault = IsOfSome IsPairFault pairs fault
