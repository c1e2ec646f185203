-- Groups and attribute groups that redefine others without a reference to themselves (Structures 4.2.2).
use Rattle.std.specs.Prelude.{◌≡◌, ◌↔◌, ℕ, List, Option, None, Some, Contains, slice_get}
use Rattle.std.specs.Option.{option_and_then}
use Rattle.representations.specs.declared.parts.Represented.{Represented}
use Rattle.representations.specs.declared.parts.Represented.TheVariants as forms
use Rattle.representations.specs.declared.parts.Representation.{Representation}
use Rattle.set_representations.specs.Numbers.{number_at}
use Rattle.redefine_names.specs.Components.{declared_at}
use Rattle.redefine_names.specs.Redirections.{version_around}
use Rattle.redefine_names.specs.VersionNames.{original_at}
use Rattle.redefine_names.specs.declared.declared.Declared.{Declared}
use Rattle.redefine_names.specs.declared.declared.VersionKind.{VersionKind}
use Rattle.redefine_names.specs.declared.declared.VersionKind.TheVariants as kinds
use Rattle.redefine_names.specs.declared.pairs.RedefinedPair.{RedefinedPair}

abbrev pub of_name : VersionKind → Option ℕ → Option Declared
of_name kind None = None
of_name kind (Some name) = Some (record { kind = kind; name = name })

-- what a reference to a group or to an attribute group refers to
abbrev pub referred : Represented → Option Declared
referred (forms.GroupReference to) = of_name kinds.Group to
referred (forms.AttributeGroupReference to) = of_name kinds.AttributeGroup to
referred _ = None

-- Of representations, by place, and the original of each: originals have names of their own, which what redefines them refers to.
module _ (reps : List Representation) (originals : List (Option ℕ)) where
  -- what the original of the component at a place declares
  abbrev pub redefined_by : ℕ → Option Declared
  redefined_by version = option_and_then (declared_at reps) (original_at originals version)

  -- The element at a place stands in the redefining component at another, at whatever depth, and is a reference to its original: to the
  -- name that both have in their documents.
  pub record IsSelfReference (version place : ℕ) : Type 0 where
    pub rep : Representation
    pub to : Declared
    pub there : slice_get reps place ≡ Some rep
    pub within : version_around reps originals place ≡ Some version
    pub refers : referred rep.form ≡ Some to
    pub original : redefined_by version ≡ Some to

  abbrev pub HasSelfReference : ℕ → Type 0
  HasSelfReference version = (place : ℕ) × IsSelfReference version place

  -- src-redefine.6.2 and src-redefine.7.2: the component at one place redefines the one at another, and has no reference to itself
  pub record RedefinesWhole (version original : ℕ) : Type 0 where
    pub is : original_at originals version ≡ Some original
    pub alone : HasSelfReference version → ⊥

  -- and these are their numbers, where components of a kind have these numbers by place
  abbrev pub IsPair : List (Option ℕ) → RedefinedPair → Type 0
  IsPair numbers pair = (version original : ℕ) × RedefinesWhole version original × (number_at numbers version ≡ Some pair.own) × (number_at numbers original ≡ Some pair.original)

  -- these are all such components of a kind, with what they redefine
  abbrev pub ArePairs : List (Option ℕ) → List RedefinedPair → Type 0
  ArePairs numbers pairs = (pair : RedefinedPair) → Contains pairs pair ↔ IsPair numbers pair
