-- What is counted of elements as targets, where it is kept by their numbers: Structures 3.11.4.
use Rattle.std.specs.Prelude.{◌≡◌, ℕ, ◌+◌, ◌≤◌, List, [], ◌∷◌, Option, None, Some, map}
use Rattle.std.specs.declared.alloc.Global.{Global}
use Rattle.std.specs.declared.vec.Vec.{Vec}
use Rattle.xs_names.specs.Names.{NameTable}
use Rattle.xs_components.specs.Tables.{Tables}
use Rattle.xpath_subset.specs.declared.paths.IdentityPaths.{IdentityPaths}
use Rattle.identity_constraints.specs.Seen.{KeyElement, KeyForest, none, element}
use Rattle.identity_constraints.specs.Targets.{Outcome}
use Rattle.key_records.specs.Counted.{Counted, Feature, has, no_targets, one_target, plus}
use Rattle.key_records.specs.Faults.{weight}
use Rattle.kept_slots.specs.Slots.{at, slot_sum}
use Rattle.scope_targets.specs.Found.{targeting_of}
use Rattle.scope_targets.specs.Targetings.{Targeting, targetings_of, uses}
use Rattle.scope_targets.specs.declared.targetings.ElementTargeting.{ElementTargeting}

-- one target of a constraint of a scope
abbrev pub counted_one : Targeting → Counted
counted_one a = one_target a.scope a.constraint a.outcome.tuple a.outcome.misused a.outcome.nillable

abbrev pub counted_in : List Targeting → Counted
counted_in [] = no_targets
counted_in (a ∷ more) = plus (counted_one a) (counted_in more)

-- of some outcomes how many have a feature
abbrev pub count_in : List Outcome → Feature → ℕ
count_in [] x = 0
count_in (o ∷ os) x = weight (has x o.tuple o.misused o.nillable) + count_in os x

-- ---- what is kept by number

abbrev pub TargetSlots : Type 0
TargetSlots = List (Option (Vec ElementTargeting Global))

abbrev pub items_of : Vec ElementTargeting Global → List Targeting
items_of v = map targeting_of v.items

abbrev pub listed : Option (Vec ElementTargeting Global) → List Targeting
listed None = []
listed (Some v) = items_of v

-- what an element is kept as a target of
abbrev pub targets_at : TargetSlots → ℕ → List Targeting
targets_at slots n = listed (at slots n)

-- all of it
abbrev pub counted_all : TargetSlots → Counted
counted_all slots = λ n k x. slot_sum (λ v. counted_in (items_of v) n k x) slots

-- ---- what is kept is right for a forest of elements

module _ (names : NameTable) (t : Tables) (identities : List IdentityPaths) (slots : TargetSlots) where
  -- siblings and all below them, where these elements are above, are kept as the targets that they are
  abbrev pub AreTargetsAlong : List KeyElement → KeyForest → Type 0
  AreTargetsAlong above none = Unit {0}
  AreTargetsAlong above (element own below next) =
      (targets_at slots own.number ≡ targetings_of names t identities above own below) × (AreTargetsAlong (own ∷ above) below × AreTargetsAlong above next)

  -- and so are no others; no two elements have one number
  pub record AreTargetsOf (f : KeyForest) : Type 0 where
    pub all : AreTargetsAlong [] f
    pub only : (n : ℕ) → uses n f ≡ 0 → targets_at slots n ≡ []
    pub differ : (n : ℕ) → uses n f ≤ 1
