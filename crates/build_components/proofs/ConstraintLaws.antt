-- The keys that keyrefs refer to, and the identity constraints of elements, are there.
use Rattle.std.proofs.Common.{◌≡◌, ℕ, ◌+◌, ◌<◌, List, Option, None, Some, length, refl, arith, ◌++◌}
use Rattle.std.specs.Prelude.{All, IfSome}
use Rattle.std.specs.Option.{option_to_list}
use Rattle.std.proofs.lemmas.List.{length-append}
use Rattle.std.proofs.lemmas.List.Elements.{All-nil, All-append}
use Rattle.xs_components.specs.declared.constraint.Constraint.{Constraint}
use Rattle.xs_components.specs.declared.constraint.ConstraintKind.{ConstraintKind}
use Rattle.xs_components.specs.declared.constraint.ConstraintKind.TheVariants as kinds
use Rattle.xs_components.specs.declared.constraint.PathText.{PathText}
use Rattle.representations.specs.declared.parts.Represented.{Represented}
use Rattle.representations.specs.declared.parts.Represented.TheVariants as forms
use Rattle.representations.specs.declared.parts.Representation.{Representation}
use Rattle.representations.specs.declared.source.Source.{Source}
use Rattle.set_representations.specs.Numbers.{number_at}
use Rattle.set_representations.proofs.NumberLaws.{numbers_below}
use Rattle.build_components.specs.Paths.{selector, fields}
use Rattle.build_components.specs.Constraints.{selecting, keys_by, keys_of, keys, key_referred, referring, keyrefs_by, keyrefs_of, keyrefs, key_numbers, constraints, constraint_numbers}
use Rattle.build_components.specs.Elements.{constraint_at, constraints_in}
use Rattle.build_components.specs.There.{referred_key}
use Rattle.build_components.proofs.ListLaws.{all-flat_map, all-option, all-one}
use Rattle.build_components.proofs.ThereLaws.{AreBelow, referred-below, either-below}

module _ (source : Source) (count : ℕ) where
  abbrev pub HasKey : Constraint → Type 0
  HasKey part = IfSome (referred_key part.kind) (λ n. n < count)

  selecting-has : (rep : Representation) (name : ℕ) (kind : ConstraintKind) (path : Option PathText) → IfSome (referred_key kind) (λ n. n < count) → All HasKey (selecting source rep name kind path)
  selecting-has rep name kind None has = All-nil HasKey
  selecting-has rep name kind (Some path) has = all-one HasKey (record { name = name; at = rep.at; kind = kind; selector = path; fields = fields source rep.members }) has

  key-has : (form : Represented) (rep : Representation) → All HasKey (keys_by source form rep)
  key-has (forms.Unique name) rep = selecting-has rep name kinds.Unique (selector source rep.members) tt
  key-has (forms.Key name) rep = selecting-has rep name kinds.Key (selector source rep.members) tt
  key-has _ rep = All-nil HasKey

  module _ (numbers : List (Option ℕ)) (below : AreBelow count numbers) where
    referring-has : (rep : Representation) (name : ℕ) (key : Option ℕ) → ((n : ℕ) → key ≡ Some n → n < count) → All HasKey (referring source numbers rep name key)
    referring-has rep name None low = All-nil HasKey
    referring-has rep name (Some key) low = selecting-has rep name (kinds.Keyref key) (selector source rep.members) (low key refl)

    keyref-has : (form : Represented) (rep : Representation) → All HasKey (keyrefs_by source numbers form rep)
    keyref-has (forms.Keyref name refer) rep =
        referring-has rep name (key_referred source numbers refer) (referred-below count numbers below source.spaces.now.constraints refer)
    keyref-has _ rep = All-nil HasKey

    pub keys-there : All HasKey (keys source ++ keyrefs source numbers)
    keys-there =
        All-append HasKey (keys source) (keyrefs source numbers)
        (all-flat_map HasKey (keys_of source) (λ rep. key-has rep.form rep) source.reps.now)
        (all-flat_map HasKey (keyrefs_of source numbers) (λ rep. keyref-has rep.form rep) source.reps.now)

-- the numbers of keys, and those of keyrefs behind them, are below the count of both
module _ (source : Source) where
  abbrev numbers : List (Option ℕ)
  numbers = key_numbers source 0

  abbrev count : ℕ
  count = length (constraints source 0)

  pub keys-below : AreBelow count numbers
  keys-below place n is = omega (arith, numbers_below (keys_of source) 0 source.reps.now place n is, length-append (keys source) (keyrefs source numbers))

  keyrefs-below : AreBelow count (constraint_numbers source 0).keyrefs
  keyrefs-below place n is = omega (arith, numbers_below (keyrefs_of source numbers) (0 + length (keys source)) source.reps.now place n is, length-append (keys source) (keyrefs source numbers))

  pub constraints-there : (members : List ℕ) → All (λ n. n < count) (constraints_in (constraint_numbers source 0) members)
  constraints-there members =
      all-flat_map (λ n. n < count) (λ (member : ℕ). option_to_list (constraint_at (constraint_numbers source 0) member))
      (λ member. all-option (λ n. n < count) (constraint_at (constraint_numbers source 0) member)
      (either-below count numbers keys-below (number_at numbers member) (number_at (constraint_numbers source 0).keyrefs member) (keys-below member) (keyrefs-below member))) members
