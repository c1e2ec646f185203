-- Records with the targets of all elements are right at each.
use Rattle.std.proofs.Common.{◌≡◌, ◌+◌, ◌<◌, ◌≤◌, ℕ, List, subst, ◌∙◌, arith}
use Rattle.xs_names.specs.Names.{NameTable}
use Rattle.xs_components.specs.Tables.{Tables}
use Rattle.xpath_subset.specs.declared.paths.IdentityPaths.{IdentityPaths}
use Rattle.identity_constraints.specs.Counting.{Links, StandFor}
use Rattle.identity_constraints.specs.Seen.{KeyElement, KeyForest, none, element}
use Rattle.identity_constraints.specs.Targets.{outcomes}
use Rattle.key_records.specs.Views.{AreCounted}
use Rattle.path_walk.specs.Sight.{IsFirst, below_first, behind_first}
use Rattle.path_walk.specs.inside.Walk.{size}
use Rattle.key_records.specs.Counted.{Counted, Feature, own_tuples, with_keys}
use Rattle.key_records.specs.Records.{AreRecords}
use Rattle.key_records.specs.declared.records.KeyRecords.{KeyRecords}
use Rattle.key_records.specs.declared.records.KeyTree.{KeyTree}
use Rattle.forest_keys.specs.inside.Found.{targets_along}
use Rattle.forest_keys.specs.inside.Places.{placed}
use Rattle.forest_keys.specs.inside.Records.{AreFilledAt, AreFilled}
use Rattle.forest_keys.proofs.Counts.{of-first, of-below, of-next, keys-counted}

module _ (names : NameTable) (s : Tables) (identities : List IdentityPaths) where
  module _ (tree : KeyTree) (r : KeyRecords) (t : Links) (c : Counted) (records : AreRecords t tree.references.now c r) where
    -- what is counted at the places of a part are its targets
    abbrev Alike : ℕ → KeyForest → Type 0
    Alike q g = (n k : ℕ) (x : Feature) → q ≤ n → n < q + size g → c n k x ≡ targets_along names s identities q g n k x

    module _ (q : ℕ) (own : KeyElement) (below next : KeyForest) (same : Alike q (element own below next)) where
      first-alike : (k : ℕ) (x : Feature) → c q k x ≡ targets_along names s identities q (element own below next) q k x
      first-alike k x = same q k x (omega arith) (omega arith)

      below-alike : Alike (q + 1) below
      below-alike = λ n k x h l. same n k x (omega (arith, h)) (omega (arith, l)) ∙ of-below names s identities q own below next n k x h l

      next-alike : Alike (q + 1 + size below) next
      next-alike = λ n k x h l. same n k x (omega (arith, h)) (omega (arith, l)) ∙ of-next names s identities q own below next n k x h

    counted-there : (q : ℕ) (g : KeyForest) → Alike q g → AreCounted names s identities (own_tuples c) (placed q g) g
    counted-there q none same = tt
    counted-there q (element own below next) same = (
      λ k tuple.
          first-alike q own below next same k (with_keys tuple) ∙ of-first names s identities q own below next k (with_keys tuple)
          ∙ keys-counted (outcomes names s identities k own below) tuple,
      counted-there (q + 1) below (below-alike q own below next same),
      counted-there (q + 1 + size below) next (next-alike q own below next same),
    )

    pub filled-there : (q : ℕ) (g : KeyForest) → Alike q g → StandFor t (placed q g) → AreFilled names s identities tree r q g
    filled-there q none same stand = tt
    filled-there q (element own below next) same stand = (
      record {
        links = t;
        c = c;
        under = placed (q + 1) below;
        records = records;
        children = stand.0;
        stand = stand.1;
        here = λ k x. first-alike q own below next same k x ∙ of-first names s identities q own below next k x;
        there = counted-there (q + 1) below (below-alike q own below next same);
      },
      filled-there (q + 1) below (below-alike q own below next same) stand.1,
      filled-there (q + 1 + size below) next (next-alike q own below next same) stand.2,
    )

  -- by the first of some siblings
  module _ (tree : KeyTree) (r : KeyRecords) (q : ℕ) where
    pub filled-first : (f : KeyForest) (first : KeyElement) → IsFirst f first → AreFilled names s identities tree r q f → AreFilledAt names s identities tree r q first (below_first f)
    filled-first none first is filled = absurd is
    filled-first (element own below next) first is filled = subst (λ (x : KeyElement). AreFilledAt names s identities tree r q x below) is filled.0

    pub filled-below : (f : KeyForest) (first : KeyElement) → IsFirst f first → AreFilled names s identities tree r q f → AreFilled names s identities tree r (q + 1) (below_first f)
    filled-below none first is filled = absurd is
    filled-below (element own below next) first is filled = filled.1

    pub filled-next : (f : KeyForest) (first : KeyElement) → IsFirst f first → AreFilled names s identities tree r q f → AreFilled names s identities tree r (q + 1 + size (below_first f)) (behind_first f)
    filled-next none first is filled = absurd is
    filled-next (element own below next) first is filled = filled.2
