-- Records of targets as they are filled and read.
use Rattle.std.specs.Prelude.{◌≡◌, ℕ, ◌+◌, List, Option, None, Some, [], ◌∷◌}
use Rattle.xs_names.specs.Names.{NameTable}
use Rattle.xs_codes.specs.declared.code.Code.{Code}
use Rattle.xs_codes.specs.declared.fault.Found.{Found}
use Rattle.xs_components.specs.Tables.{Tables}
use Rattle.xpath_subset.specs.declared.paths.IdentityPaths.{IdentityPaths}
use Rattle.identity_constraints.specs.Counting.{Links, Numbers, IsLinked, StandFor, firsts}
use Rattle.key_records.specs.Tables.{AreParents}
use Rattle.identity_constraints.specs.Seen.{KeyElement, KeyForest, none, element}
use Rattle.path_walk.specs.inside.Walk.{size}
use Rattle.identity_constraints.specs.Targets.{outcomes}
use Rattle.key_records.specs.Views.{AreCounted}
use Rattle.key_records.specs.Counted.{Counted, Feature, own_tuples, plus}
use Rattle.key_records.specs.Records.{AreRecords}
use Rattle.key_records.specs.declared.records.KeyRecords.{KeyRecords}
use Rattle.key_records.specs.declared.records.KeyTree.{KeyTree}
use Rattle.forest_keys.specs.inside.Found.{count_in}

-- the records are right by some counts
abbrev pub CanGrow : KeyTree → KeyRecords → Type 0
CanGrow tree r = (t : Links) × (c : Counted) × IsLinked t × AreParents t tree.parents.now × AreRecords t tree.references.now c r

-- these targets came to what was counted
abbrev pub AreGrown : KeyTree → Counted → KeyRecords → KeyRecords → Type 0
AreGrown tree more old new =
    (t : Links) (c : Counted) → IsLinked t → AreParents t tree.parents.now → AreRecords t tree.references.now c old → AreRecords t tree.references.now (plus c more) new

-- the code of a constraint, if there is one
abbrev pub found_of : Option Code → List Found
found_of None = []
found_of (Some code) = record { code = code; place = 0 } ∷ []

module _ (names : NameTable) (s : Tables) (identities : List IdentityPaths) where
  -- The records have the targets of an element under its place, and the key-sequences of those below it under theirs.
  pub record AreFilledAt (tree : KeyTree) (r : KeyRecords) (place : ℕ) (own : KeyElement) (below : KeyForest) : Type 0 where
    pub links : Links
    pub c : Counted
    pub under : Numbers
    pub records : AreRecords links tree.references.now c r
    pub children : links.children place ≡ firsts under
    pub stand : StandFor links under
    pub here : (k : ℕ) (x : Feature) → c place k x ≡ count_in (outcomes names s identities k own below) x
    pub there : AreCounted names s identities (own_tuples c) under below

  -- the same of all elements of a forest, from a place on
  abbrev pub AreFilled : KeyTree → KeyRecords → ℕ → KeyForest → Type 0
  AreFilled tree r place none = Unit {0}
  AreFilled tree r place (element own below next) = AreFilledAt tree r place own below × AreFilled tree r (place + 1) below × AreFilled tree r (place + 1 + size below) next
