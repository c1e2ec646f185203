-- Attribute uses of a restriction against those of its base (Structures 3.4.6, Derivation Valid (Restriction, Complex), 2 and 3).
use Rattle.std.specs.Prelude.{◌≡◌, ◌⊎◌, ℕ, ◌-◌, ◌<◌, ◌^◌, ◌&&◌, not, Bool, true, false, List, Option, None, Some, slice_get}
use Rattle.std.specs.Option.{option_map, option_and_then}
use Rattle.xs_codes.specs.declared.code.Code.{Code}
use Rattle.xs_codes.specs.declared.code.Code.TheVariants.{DerivationOkRestriction2_1_1, DerivationOkRestriction2_1_2, DerivationOkRestriction2_1_3, DerivationOkRestriction2_2, DerivationOkRestriction3}
use Rattle.xs_names.specs.Names.{NameTable, space_of}
use Rattle.xs_components.specs.Sets.{admits}
use Rattle.xs_components.specs.Tables.{Tables}
use Rattle.xs_components.specs.declared.attribute.AttributeDecl.{AttributeDecl}
use Rattle.xs_components.specs.declared.attribute.AttrUse.{AttrUse}
use Rattle.xs_components.specs.declared.common.Wildcard.{Wildcard}
use Rattle.attr_uses.specs.declared.entry.UseAt.{UseAt}
use Rattle.attr_uses.specs.Written.{use_at}
use Rattle.attr_uses.specs.Uses.{AttrUses, use_named}
use Rattle.type_derivation.specs.Chains.{Derives}
use Rattle.derive_faults.specs.Finals.{no_methods}
use Rattle.derive_faults.specs.TypeFaults.{when, earlier, IsFirstCode}
use Rattle.derive_restriction.specs.declared.uses.DeclaredUse.{DeclaredUse}
use Rattle.derive_faults.specs.Values.{effective, LosesFixed}

-- an attribute use with its declaration
pub record Declared : Type 0 where
  pub part : AttrUse
  pub decl : AttributeDecl

abbrev pub declared : DeclaredUse → Declared
declared u = record { part = u.part.now; decl = u.decl.now }

abbrev pub with_declaration : Tables → AttrUse → Option Declared
with_declaration t part = option_map (λ decl. record { part = part; decl = decl }) (slice_get t.attributes.parts part.attribute)

abbrev pub declared_at : Tables → Option UseAt → Option Declared
declared_at t None = None
declared_at t (Some u) = option_and_then (with_declaration t) (use_at t u)

-- the attribute use of a name, with its declaration
abbrev pub use_for : Tables → List UseAt → ℕ → Option Declared
use_for t uses name = declared_at t (use_named t uses name)

-- the wildcard is there, and admits the namespace
abbrev pub is_admitted : Option Wildcard → ℕ → Bool
is_admitted None space = false
is_admitted (Some wildcard) space = admits wildcard.namespaces space

module _ (t : Tables) (names : NameTable) where
  -- derivation-ok-restriction.2.1.1: the use of the base is required, and this one is not.
  abbrev pub IsLoosened : Declared → Declared → Code → Type 0
  IsLoosened own base code = ((base.part.required && not own.part.required) ≡ true) × (code ≡ DerivationOkRestriction2_1_1)

  -- derivation-ok-restriction.2.1.2: the type of the attribute does not derive from that of the base's.
  abbrev pub IsOtherType : Declared → Declared → Code → Type 0
  IsOtherType own base code = (Derives t no_methods own.decl.of base.decl.of → ⊥) × (code ≡ DerivationOkRestriction2_1_2)

  -- derivation-ok-restriction.2.1.3: the fixed value of the base's is not kept.
  abbrev pub IsFixedLost : Declared → Declared → Code → Type 0
  IsFixedLost own base code =
      LosesFixed t own.decl.of base.decl.of (effective own.part own.decl) (effective base.part base.decl) × (code ≡ DerivationOkRestriction2_1_3)

  -- derivation-ok-restriction.2.2: the base has no use of the name, and no wildcard that admits its namespace.
  abbrev pub IsNotAdmitted : Option Wildcard → Declared → Code → Type 0
  IsNotAdmitted wildcard own code = (is_admitted wildcard (space_of names own.decl.name) ≡ false) × (code ≡ DerivationOkRestriction2_2)

  -- derivation-ok-restriction.3: the use of the base is required, and there is none of its name.
  abbrev pub IsMissing : Declared → Code → Type 0
  IsMissing base code = (base.part.required ≡ true) × (code ≡ DerivationOkRestriction3)

  -- the uses of one name, of the type and of the base; the wildcard is that of the base
  abbrev pub BreaksName : Option Wildcard → Option Declared → Option Declared → Code → Type 0
  BreaksName wildcard None None code = ⊥
  BreaksName wildcard None (Some base) code = IsMissing base code
  BreaksName wildcard (Some own) None code = IsNotAdmitted wildcard own code
  BreaksName wildcard (Some own) (Some base) code = IsLoosened own base code ⊎ (IsOtherType own base code ⊎ IsFixedLost own base code)

  -- of some name
  abbrev pub BreaksUses : AttrUses → AttrUses → Code → Type 0
  BreaksUses own base code = (name : ℕ) × (name < 2 ^ 32) × BreaksName base.wildcard (use_for t own.uses name) (use_for t base.uses name) code

  -- ---- for proofs

  -- of some name below a number
  abbrev pub BreaksBelow : AttrUses → AttrUses → ℕ → Code → Type 0
  BreaksBelow own base bound code = (name : ℕ) × (name < bound) × BreaksName base.wildcard (use_for t own.uses name) (use_for t base.uses name) code

abbrev pub three_codes : Bool → Bool → Bool → Bool → Option Code
three_codes base_required required derived lost =
    earlier (when (base_required && not required) DerivationOkRestriction2_1_1) (earlier (when (not derived) DerivationOkRestriction2_1_2) (when lost DerivationOkRestriction2_1_3))

-- what is found before the next name that is looked at, if there is one
abbrev pub IsFoundBefore : Tables → NameTable → AttrUses → AttrUses → Option ℕ → Option Code → Type 0
IsFoundBefore t names own base None best = IsFirstCode (BreaksBelow t names own base (2 ^ 32)) best
IsFoundBefore t names own base (Some name) best = (name < 2 ^ 32) × IsFirstCode (BreaksBelow t names own base name) best

-- how many numbers of names are left to be looked at
abbrev pub numbers_left : Option ℕ → ℕ
numbers_left None = 0
numbers_left (Some name) = 2 ^ 32 - name
