-- In which order documents are looked through, as the code has it.
use Rattle.std.specs.Prelude.{◌≡◌, ℕ, ◌+◌, ◌==◌, ◌++◌, if◌then◌else◌, List, [], ◌∷◌, Bool, Option, None, Some, All, length, reverse, slice_get}
use Rattle.std.specs.List.{list_any}
use Rattle.std.specs.Option.{option_or}
use Rattle.std.specs.Global.{Vec}
use Rattle.schema_set.specs.declared.documents.Available.{Available}
use Rattle.schema_set.specs.Order.{IsNumber}
use Rattle.redefine_originals.specs.declared.versions.Redefinable.{Redefinable}
use Rattle.redefine_originals.specs.Versions.{Version, version_at, inclusions, Finds}
use Rattle.redefine_originals.specs.inside.Marks.{AreSeen}

-- there is one for each document, and each holds for the document's number, from 1
pub record IsByNumber {X : Type 0} (Holds : ℕ → X → Type 0) (available : List Available) (xs : List X) : Type 0 where
  pub len : length xs ≡ length available
  pub each : (place : ℕ) (x : X) → slice_get xs place ≡ Some x → Holds (place + 1) x

-- of documents each once, where it stands first, but for those that stand before
abbrev pub firsts : List ℕ → List ℕ → List ℕ
firsts before [] = []
firsts before (document ∷ documents) = (if list_any (λ other. other == document) before then [] else document ∷ []) ++ firsts (before ++ document ∷ []) documents

abbrev pub AreInclusions : List Available → List (Vec ℕ) → Type 0
AreInclusions available = IsByNumber (λ number found. found.items ≡ firsts [] (inclusions available number)) available

-- the first version of a component in documents that are looked through in this order
abbrev pub first_of : List Available → Redefinable → List ℕ → List ℕ → Option Version
first_of available of name [] = None
first_of available of name (document ∷ order) = option_or (version_at available of name document) (first_of available of name order)

-- whatever is looked for from this document on is found in this order
pub record IsOrder (available : List Available) (start : ℕ) (order : List ℕ) : Type 0 where
  pub numbers : All (IsNumber available) order
  pub finds : (of : Redefinable) (name : List ℕ) → Finds available of name (start ∷ []) [] (first_of available of name order)

abbrev pub AreOrders : List Available → List (Vec ℕ) → Type 0
AreOrders available = IsByNumber (λ number order. IsOrder available number order.items) available

-- what is found in this order, or else in what is left, the last first, is what was looked for
pub record IsOrdering (available : List Available) (start : ℕ) (marks : List Bool) (left order : List ℕ) : Type 0 where
  pub seen : List ℕ
  pub len : length marks ≡ length available
  pub numbers : All (IsNumber available) (reverse left)
  pub ordered : All (IsNumber available) order
  pub are : AreSeen available marks seen
  pub leads : (of : Redefinable) (name : List ℕ) (found : Option Version) → Finds available of name (reverse left) seen found
      → Finds available of name (start ∷ []) [] (option_or (first_of available of name order) found)
