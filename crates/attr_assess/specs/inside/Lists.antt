-- Records and values that are written one after another.
use Rattle.std.specs.Prelude.{◌≡◌, ℕ, ◌^◌, List, ◌++◌, Some, map}
use Rattle.std.specs.List.{AllZip}
use Rattle.std.specs.Option.{IsSomeAnd}
use Rattle.xs_names.specs.Names.{NameTable}
use Rattle.xs_components.specs.Tables.{Tables}
use Rattle.attr_uses.specs.declared.entry.UseAt.{UseAt}
use Rattle.attr_uses.specs.Written.{use_at, use_name}
use Rattle.assess_records.specs.declared.shape.NamedText.{NamedText}
use Rattle.assess_records.specs.declared.outcome.ValueSource.TheVariants.{Schema}
use Rattle.attr_assess.specs.declared.governing.AttrGoverning.TheVariants.{Declared}
use Rattle.attr_assess.specs.Lacking.{effective_constraint, is_missing, AreThose}
use Rattle.attr_assess.specs.Added.{AreAddedNames}
use Rattle.attr_assess.specs.declared.added.AddedUse.{AddedUse}
use Rattle.attr_assess.specs.Records.{IsAttrJudged}
use Rattle.attr_assess.specs.declared.judged.JudgedAttr.{JudgedAttr}
use Rattle.attr_assess.specs.Assessed.{record_of, value_of, IsAddedJudged}
use Rattle.attr_assess.specs.declared.assessed.AssessedAttrs.{AssessedAttrs}

-- behind what was there before stand the records and the values of these
pub record Holds (old : AssessedAttrs) (judged : List JudgedAttr) (new : AssessedAttrs) : Type 0 where
  pub records : new.records ≡ old.records ++ map record_of judged
  pub values : new.values ≡ old.values ++ map value_of judged
  pub missing : new.missing ≡ old.missing

-- behind what was there before stand the records and the values of what these come to
abbrev pub HoldsEach : {A : Type 0} → (A → JudgedAttr → Type 0) → List A → AssessedAttrs → AssessedAttrs → Type 0
HoldsEach Is items old new = (judged : List JudgedAttr) × AllZip Is items judged × Holds old judged new

-- the use is written in its place, and has its constraint
pub record IsUse (t : Tables) (added : AddedUse) : Type 0 where
  pub name : use_name t added.at ≡ Some added.name
  pub part : IsSomeAnd (use_at t added.at) (λ part. (part.attribute ≡ added.attribute) × (effective_constraint t part ≡ Some added.constraint.now))

-- the attribute of a use, with the text of its constraint
abbrev pub IsUseJudged : Tables → AddedUse → JudgedAttr → Type 0
IsUseJudged t added judged =
    IsAttrJudged t added.name Schema added.constraint.now.scope added.constraint.now.text (Declared added.attribute (Some added.at)) judged

-- behind what was there before stand the records and the values of the attributes that are added; and the names of the required ones
-- that are missing are these
pub record HoldsLacking (names : NameTable) (t : Tables) (uses : List UseAt) (attrs : List NamedText) (old new : AssessedAttrs) : Type 0 where
  pub added : List JudgedAttr
  pub added_names : List ℕ
  pub names_are : AreAddedNames names t uses attrs added_names
  pub added_are : AllZip (IsAddedJudged t uses) added_names added
  pub records : new.records ≡ old.records ++ map record_of added
  pub values : new.values ≡ old.values ++ map value_of added
  pub missing : AreThose (is_missing t uses attrs) (2 ^ 32) new.missing
