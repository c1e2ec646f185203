-- Identity constraints by their representations (Structures 3.11.2).
use Rattle.std.specs.Prelude.{ℕ, ◌+◌, List, [], ◌∷◌, ◌++◌, Option, None, Some, length}
use Rattle.std.specs.List.{flat_map}
use Rattle.std.specs.Option.{option_and_then}
use Rattle.xs_components.specs.declared.constraint.Constraint.{Constraint}
use Rattle.xs_components.specs.declared.constraint.ConstraintKind.{ConstraintKind}
use Rattle.xs_components.specs.declared.constraint.ConstraintKind.TheVariants as kinds
use Rattle.xs_components.specs.declared.constraint.PathText.{PathText}
use Rattle.representations.specs.declared.parts.Represented.{Represented}
use Rattle.representations.specs.declared.parts.Represented.TheVariants as forms
use Rattle.representations.specs.declared.parts.Representation.{Representation}
use Rattle.representations.specs.declared.source.Source.{Source}
use Rattle.set_representations.specs.Numbers.{numbers_of, number_named}
use Rattle.build_components.specs.Paths.{selector, fields}
use Rattle.build_components.specs.declared.constraints.ConstraintNumbers.{ConstraintNumbers}

module _ (source : Source) where
  -- an identity constraint, which has a selector and fields
  abbrev pub selecting : Representation → ℕ → ConstraintKind → Option PathText → List Constraint
  selecting rep name kind None = []
  selecting rep name kind (Some selector) = record { name = name; at = rep.at; kind = kind; selector = selector; fields = fields source rep.members } ∷ []

  abbrev pub constraints_of : Representation → ℕ → ConstraintKind → List Constraint
  constraints_of rep name kind = selecting rep name kind (selector source rep.members)

  -- those that a keyref can refer to
  abbrev pub keys_by : Represented → Representation → List Constraint
  keys_by (forms.Unique name) rep = constraints_of rep name kinds.Unique
  keys_by (forms.Key name) rep = constraints_of rep name kinds.Key
  keys_by _ rep = []

  abbrev pub keys_of : Representation → List Constraint
  keys_of rep = keys_by rep.form rep

  -- all keys and uniques, in the order of their representations
  abbrev pub keys : List Constraint
  keys = flat_map keys_of source.reps.now

-- where keys and uniques have these numbers by place
module _ (source : Source) (numbers : List (Option ℕ)) where
  abbrev pub key_referred : Option ℕ → Option ℕ
  key_referred refer = option_and_then (number_named numbers source.spaces.now.constraints) refer

  abbrev pub referring : Representation → ℕ → Option ℕ → List Constraint
  referring rep name None = []
  referring rep name (Some key) = constraints_of source rep name (kinds.Keyref key)

  abbrev pub keyrefs_by : Represented → Representation → List Constraint
  keyrefs_by (forms.Keyref name refer) rep = referring rep name (key_referred refer)
  keyrefs_by _ rep = []

  abbrev pub keyrefs_of : Representation → List Constraint
  keyrefs_of rep = keyrefs_by rep.form rep

  abbrev pub keyrefs : List Constraint
  keyrefs = flat_map keyrefs_of source.reps.now

-- where so many constraints are there before
module _ (source : Source) (before : ℕ) where
  abbrev pub key_numbers : List (Option ℕ)
  key_numbers = numbers_of (keys_of source) before source.reps.now

  -- all keys and uniques, then the keyrefs
  abbrev pub constraints : List Constraint
  constraints = keys source ++ keyrefs source key_numbers

  abbrev pub constraint_numbers : ConstraintNumbers
  constraint_numbers = record {
    keys = key_numbers;
    keyrefs = numbers_of (keyrefs_of source key_numbers) (before + length (keys source)) source.reps.now;
  }
