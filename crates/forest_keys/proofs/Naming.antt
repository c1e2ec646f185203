-- Names of entries.
use Rattle.std.proofs.Common.{◌≡◌, ℕ, zero, suc, List, [], ◌∷◌, length, take, drop, refl, ap}
use Rattle.std.specs.Prelude.{All, Option}
use Rattle.std.proofs.lemmas.List.Elements.{All-nil, All-cons, All-head, All-tail}
use Rattle.xs_names.specs.Names.{NameTable}
use Rattle.simple_values.specs.declared.value.Value.{Value}
use Rattle.assess_records.specs.declared.record.AttrRecord.{AttrRecord}
use Rattle.what_is_found.specs.Identity.{seen, seen_attributes}
use Rattle.path_walk.specs.Sight.{attributes_of, AreNamed}
use Rattle.tree_assess.specs.declared.entry.ElementEntry.{ElementEntry}
use Rattle.forest_keys.specs.inside.Parsed.{assessed_by, assessed_of}
use Rattle.forest_keys.specs.inside.Coded.{IsEntryNamed}

pub same_attributes : (attrs : List AttrRecord) (values : List (Option Value)) → attributes_of attrs values ≡ seen_attributes attrs values
same_attributes [] values = refl
same_attributes (attr ∷ attrs) [] = refl
same_attributes (attr ∷ attrs) (value ∷ values) = ap (λ more. record { name = attr.name; value = value } ∷ more) (same_attributes attrs values)

module _ (names : NameTable) where
  all-take : (n : ℕ) (es : List ElementEntry) → All (IsEntryNamed names) es → All (IsEntryNamed names) (take n es)
  all-take zero es all = All-nil (IsEntryNamed names)
  all-take (suc n) [] all = All-nil (IsEntryNamed names)
  all-take (suc n) (e ∷ es) all = All-cons (IsEntryNamed names) e (take n es) (All-head (IsEntryNamed names) e es all) (all-take n es (All-tail (IsEntryNamed names) e es all))

  pub all_drop : (n : ℕ) (es : List ElementEntry) → All (IsEntryNamed names) es → All (IsEntryNamed names) (drop n es)
  all_drop zero es all = all
  all_drop (suc n) [] all = all
  all_drop (suc n) (e ∷ es) all = all_drop n es (All-tail (IsEntryNamed names) e es all)

  named-by : (n : ℕ) (es : List ElementEntry) → All (IsEntryNamed names) es → AreNamed names (seen (assessed_by n es))
  named-by zero es all = tt
  named-by (suc n) [] all = tt
  named-by (suc n) (e ∷ es) all =
      let rest = All-tail (IsEntryNamed names) e es all in
      (All-head (IsEntryNamed names) e es all, (named-by n (take e.below es) (all-take e.below es rest), named-by n (drop e.below es) (all_drop e.below es rest)))

  pub all_named : (es : List ElementEntry) → All (IsEntryNamed names) es → AreNamed names (seen (assessed_of es))
  all_named es all = named-by (length es) es all
