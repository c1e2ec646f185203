-- What is known of attribute uses before a document is.
use Rattle.std.specs.Prelude.{◌≡◌, ℕ, Bool, true, false, List, Option, None, Some, IfSome, slice_get}
use Rattle.xs_components.specs.Tables.{Tables}
use Rattle.xs_components.specs.declared.attribute.AttributeDecl.{AttributeDecl}
use Rattle.xs_components.specs.declared.attribute.AttrUse.{AttrUse}
use Rattle.xs_components.specs.declared.common.ValueConstraint.{ValueConstraint}
use Rattle.attr_uses.specs.declared.entry.UseAt.{UseAt}
use Rattle.attr_uses.specs.declared.entry.UseHolder.{UseHolder}
use Rattle.attr_uses.specs.declared.entry.UseHolder.TheVariants.{Complex, AttrGroup}
use Rattle.attr_uses.specs.Written.{use_at}
use Rattle.assess_records.specs.declared.outcome.ValueSource.TheVariants.{Schema}
use Rattle.attr_assess.specs.declared.governing.AttrGoverning.TheVariants.{Declared}
use Rattle.attr_assess.specs.declared.judged.JudgedAttr.{JudgedAttr}
use Rattle.attr_assess.specs.declared.known.KnownUses.{KnownUses}
use Rattle.attr_assess.specs.Lacking.{effective_constraint}
use Rattle.attr_assess.specs.Records.{IsAttrJudged}

abbrev pub joined : Option (Option JudgedAttr) → Option JudgedAttr
joined None = None
joined (Some known) = known

-- what is known of the use in a place of a component, by what is known of all of them
abbrev pub known_in : Option (List (Option JudgedAttr)) → ℕ → Option JudgedAttr
known_in None place = None
known_in (Some uses) place = joined (slice_get uses place)

abbrev pub uses_in : KnownUses → UseHolder → Option (List (Option JudgedAttr))
uses_in k (Complex n) = slice_get k.types n
uses_in k (AttrGroup n) = slice_get k.groups n

abbrev pub known_at : KnownUses → UseAt → Option JudgedAttr
known_at k at = known_in (uses_in k at.holder) at.place

-- the complex type or the attribute group of a number
abbrev pub holder_of : Bool → ℕ → UseHolder
holder_of true n = Complex n
holder_of false n = AttrGroup n

module _ (t : Tables) where
  -- Attribute Default (Structures 3.4.5): what the use in a place adds is an attribute with the text of its effective value constraint,
  -- which is judged by the declaration and the use.
  pub record IsKnownUse (at : UseAt) (judged : JudgedAttr) : Type 0 where
    pub part : AttrUse
    pub decl : AttributeDecl
    pub constraint : ValueConstraint
    pub is_part : use_at t at ≡ Some part
    pub is_decl : slice_get t.attributes.parts part.attribute ≡ Some decl
    pub is_constraint : effective_constraint t part ≡ Some constraint
    pub is_judged : IsAttrJudged t decl.name Schema constraint.scope constraint.text (Declared part.attribute (Some at)) judged

  abbrev pub AreKnownIn : UseHolder → List (Option JudgedAttr) → Type 0
  AreKnownIn holder known = (place : ℕ) → IfSome (slice_get known place) (λ one. IfSome one (IsKnownUse record { holder = holder; place = place }))

  abbrev pub AreKnownOf : Bool → List (List (Option JudgedAttr)) → Type 0
  AreKnownOf in_types known = (n : ℕ) → IfSome (slice_get known n) (AreKnownIn (holder_of in_types n))

  -- what is known of uses is what they add
  pub record AreKnownUses (k : KnownUses) : Type 0 where
    pub types : AreKnownOf true k.types
    pub groups : AreKnownOf false k.groups
