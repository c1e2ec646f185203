-- The targets of one element more, and of all below it.
use Rattle.std.proofs.Common.{◌≡◌, ◌+◌, ℕ, List, sym, ap, ◌∙◌}
use Rattle.xs_names.specs.Names.{NameTable}
use Rattle.xs_components.specs.Tables.{Tables}
use Rattle.xpath_subset.specs.declared.paths.IdentityPaths.{IdentityPaths}
use Rattle.identity_constraints.specs.Seen.{KeyElement, KeyForest, none, element}
use Rattle.path_walk.specs.Sight.{IsFirst, below_first, behind_first}
use Rattle.path_walk.specs.inside.Walk.{size}
use Rattle.key_records.specs.Counted.{Counted, plus}
use Rattle.key_records.specs.declared.records.KeyRecords.{KeyRecords}
use Rattle.key_records.specs.declared.records.KeyTree.{KeyTree}
use Rattle.forest_keys.specs.inside.Found.{targets_at, targets_along}
use Rattle.forest_keys.specs.inside.Records.{AreGrown}
use Rattle.forest_keys.proofs.Growing.{Reached, one-on, reached-alike}

module _ (names : NameTable) (s : Tables) (identities : List IdentityPaths) where
  first-along : (q : ℕ) (f : KeyForest) (first : KeyElement) → IsFirst f first
      → targets_along names s identities q f
      ≡ plus (targets_at names s identities q first (below_first f)) (plus (targets_along names s identities (q + 1) (below_first f)) (targets_along names s identities (q + 1 + size (below_first f)) (behind_first f)))
  first-along q none first is = absurd is
  first-along q (element own below next) first is =
      ap (λ (x : KeyElement). plus (targets_at names s identities q x below) (plus (targets_along names s identities (q + 1) below) (targets_along names s identities (q + 1 + size below) next))) is

  pub element-in : (tree : KeyTree) (all : Counted) (f : KeyForest) (first : KeyElement) (q next : ℕ) (below behind : KeyForest) (old now middle new : KeyRecords) → IsFirst f first → below ≡ below_first f → behind ≡ behind_first f
      → next ≡ q + 1 + size below → Reached tree all (targets_along names s identities q f) old now → AreGrown tree (targets_at names s identities q first (below_first f)) now middle
      → AreGrown tree (targets_along names s identities (q + 1) below) middle new → Reached tree all (targets_along names s identities next behind) old new
  element-in tree all f first q next below behind old now middle new is under after at so one more =
      let own = targets_at names s identities q first (below_first f) in
      let inner = targets_along names s identities (q + 1) below in
      let rest = targets_along names s identities next behind in
      let parts : targets_along names s identities q f ≡ plus own (plus inner rest) =
      first-along q f first is
      ∙ (λ i. plus own (plus (targets_along names s identities (q + 1) (sym under i)) (targets_along names s identities (q + 1 + size (sym under i)) (sym after i))))
      ∙ ap (λ (n : ℕ). plus own (plus inner (targets_along names s identities n behind))) (sym at) in
      one-on tree all inner rest old middle new (one-on tree all own (plus inner rest) old now middle (reached-alike tree all _ _ old now parts so) one) more
