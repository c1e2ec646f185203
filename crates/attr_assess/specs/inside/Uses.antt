-- The order of uses by their names, and names that are found in the order of their numbers.
use Rattle.std.specs.Prelude.{◌≡◌, ℕ, ◌≤◌, ◌^◌, ◌++◌, Bool, true, false, List, [], ◌∷◌, Option, Some, All, map, slice_get}
use Rattle.std.specs.Cmp.Lexicographic.{slice_cmp}
use Rattle.std.specs.Ordering.{nat_cmp, ordering_then, is_lt}
use Rattle.std.specs.declared.cmp.Ordering.{Ordering}
use Rattle.std.specs.Option.{option_or}
use Rattle.xs_names.specs.Names.{NameTable, local_of}
use Rattle.xs_components.specs.Tables.{Tables}
use Rattle.xs_components.specs.declared.common.ValueConstraint.{ValueConstraint}
use Rattle.attr_uses.specs.declared.entry.UseAt.{UseAt}
use Rattle.attr_uses.specs.declared.entry.NeededUse.{NeededUse}
use Rattle.assess_records.specs.declared.shape.NamedText.{NamedText}
use Rattle.attr_uses.specs.Tables.{AreNeeded}
use Rattle.attr_uses.specs.Uses.{use_named}
use Rattle.attr_uses.specs.Written.{use_at}
use Rattle.assess_records.specs.declared.outcome.ValueSource.TheVariants.{Schema}
use Rattle.attr_assess.specs.declared.governing.AttrGoverning.TheVariants.{Declared}
use Rattle.attr_assess.specs.declared.judged.JudgedAttr.{JudgedAttr}
use Rattle.attr_assess.specs.Lacking.{is_missing, is_added, AreThose}
use Rattle.attr_assess.specs.Records.{IsAttrJudged}
use Rattle.attr_assess.specs.Order.{space_text}
use Rattle.attr_assess.specs.Added.{IsAddedUse}
use Rattle.attr_assess.specs.declared.added.AddedUse.{AddedUse}
use Rattle.attr_assess.specs.declared.found.FoundUse.{FoundUse}
use Rattle.attr_assess.specs.declared.lacking.Lacking.{Lacking}

abbrev pub use_order : AddedUse → AddedUse → Ordering
use_order a b = ordering_then (slice_cmp nat_cmp a.space.now b.space.now) (slice_cmp nat_cmp a.local.now b.local.now)

abbrev pub is_use_before : AddedUse → AddedUse → Bool
is_use_before a b = is_lt (use_order a b)

abbrev pub name_of : AddedUse → ℕ
name_of a = a.name

-- the effective value constraint of a use that was found
abbrev pub constraint_of : FoundUse → Option ValueConstraint
constraint_of found = option_or found.part.now.value found.decl.now.value

-- the use of the name of a number, as it is written
pub record IsFoundUse (t : Tables) (uses : List UseAt) (number : ℕ) (found : FoundUse) : Type 0 where
  pub name : found.decl.now.name ≡ number
  pub named : use_named t uses number ≡ Some found.at
  pub part : use_at t found.at ≡ Some found.part.now
  pub decl : slice_get t.attributes.parts found.part.now.attribute ≡ Some found.decl.now

-- what is written in a place
pub record IsWritten (t : Tables) (at : UseAt) (found : FoundUse) : Type 0 where
  pub place : found.at ≡ at
  pub part : use_at t at ≡ Some found.part.now
  pub decl : slice_get t.attributes.parts found.part.now.attribute ≡ Some found.decl.now

-- the attribute of a use that was found, with the text of a constraint
abbrev pub IsJudgedWith : Tables → FoundUse → ValueConstraint → JudgedAttr → Type 0
IsJudgedWith t found constraint judged =
    IsAttrJudged t found.decl.now.name Schema constraint.scope constraint.text (Declared found.part.now.attribute (Some found.at)) judged

-- the use that gives its attribute a value
pub record IsAddedOf (names : NameTable) (found : FoundUse) (added : AddedUse) : Type 0 where
  pub name : added.name ≡ found.decl.now.name
  pub at : added.at ≡ found.at
  pub attribute : added.attribute ≡ found.part.now.attribute
  pub constraint : constraint_of found ≡ Some added.constraint.now
  pub space : added.space.now ≡ space_text names added.name
  pub local : added.local.now ≡ local_of names added.name

-- the name, if the test is true of it
abbrev pub picked : Bool → ℕ → List ℕ
picked true name = name ∷ []
picked false name = []

module _ (names : NameTable) (t : Tables) (uses : List UseAt) (given : List NamedText) where
  abbrev pub IsNotedIf : Bool → ℕ → List AddedUse → List AddedUse → Type 0
  IsNotedIf false number old new = new ≡ old
  IsNotedIf true number old new =
      (added : AddedUse) × IsAddedUse names t uses added × (added.name ≡ number) × (new ≡ old ++ added ∷ [])

  -- the use of a name is at the end now, if it is added
  abbrev pub IsNoted : ℕ → List AddedUse → List AddedUse → Type 0
  IsNoted number old new = IsNotedIf (is_added t uses given number) number old new

  -- what an element lacks among the names below a bound
  pub record AreLackingBelow (bound : ℕ) (lacking : Lacking) : Type 0 where
    pub missing : AreThose (is_missing t uses given) bound lacking.missing
    pub added : AreThose (is_added t uses given) bound (map name_of lacking.added)
    pub uses_are : All (IsAddedUse names t uses) lacking.added

  -- and the needed names from that bound on, with their uses, are these
  abbrev pub AreLackingUpTo : List NeededUse → Lacking → Type 0
  AreLackingUpTo needed lacking = (bound : ℕ) × (bound ≤ 2 ^ 32) × AreNeeded t uses bound needed × AreLackingBelow bound lacking
