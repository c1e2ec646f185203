-- Attributes that are written by the numbers of their names, and by the names.
use Rattle.std.proofs.Common.{◌≡◌, ℕ, zero, suc, ◌<◌, ◌≤◌, List, [], ◌∷◌, length, map, insert, get_or, sym, ap, ◌∙◌, Bool, true, false, ◌==◌, ◌||◌, Option, Some, None, refl, inl, inr, arith, All}
use Rattle.std.specs.Prelude.{if◌then◌else◌}
use Rattle.std.proofs.lemmas.Bool.{or_parts, or_left}
use Rattle.std.proofs.lemmas.List.Elements.{All-head, All-tail}
use Rattle.std.proofs.lemmas.Option.{slice_get_within}
use Rattle.xs_names.specs.Names.{NameTable, IsSound as AreNames}
use Rattle.tree_rows.specs.declared.name.Expanded.{Expanded}
use Rattle.tree_rows.specs.declared.row.Attribute.{Attribute}
use Rattle.tree_rows.specs.declared.row.Binding.{Binding}
use Rattle.tree_edits.specs.Changes.{has_name, set_in}
use Rattle.doc_nodes.proofs.Among.{map-insert}
use Rattle.doc_nodes.specs.declared.content.NameAttribute.{NameAttribute}
use Rattle.doc_changes.specs.Held.{has_number, set_number, unset_number}
use Rattle.doc_changes.specs.Stands.{expanded_of, attribute_of}
use Rattle.doc_changes.proofs.Attributing.{same_names, set_map, unset_map}
use Rattle.tree_edits.specs.Inverses.{written, CanWrite}
use Rattle.tree_edits.specs.Sites.{value_of}
use Rattle.doc_tree.specs.Changes.{number_value, written_number}

module _ (t : NameTable) (sound : AreNames t) (name : ℕ) (l : name < length t.names) where
  pub value_map : (xs : List NameAttribute) → All (λ a. a.name < length t.names) xs → value_of (expanded_of t name) (map (attribute_of t) xs) ≡ number_value name xs
  value_map [] k = refl
  value_map (a ∷ more) k =
      let same = same_names t sound a.name name (All-head (λ a. a.name < length t.names) a more k) l in
      ap (λ b. if b then Some a.value else value_of (expanded_of t name) (map (attribute_of t) more)) same
      ∙ ap (λ v. if a.name == name then Some a.value else v) (value_map more (All-tail (λ a. a.name < length t.names) a more k))

  pub has_map : (xs : List NameAttribute) → All (λ a. a.name < length t.names) xs → has_name (expanded_of t name) (map (attribute_of t) xs) ≡ has_number name xs
  has_map [] k = refl
  has_map (a ∷ more) k =
      let same = same_names t sound a.name name (All-head (λ a. a.name < length t.names) a more k) l in
      ap (λ b. b || has_name (expanded_of t name) (map (attribute_of t) more)) same
      ∙ ap (λ v. a.name == name || v) (has_map more (All-tail (λ a. a.name < length t.names) a more k))

  pub written_map : (place : ℕ) (value : Option (List ℕ)) (xs : List NameAttribute) → All (λ a. a.name < length t.names) xs
      → map (attribute_of t) (written_number name place value xs) ≡ written (expanded_of t name) place value (map (attribute_of t) xs)
  written_map place None xs k = unset_map t sound name l xs k
  written_map place (Some value) xs k = by (has_number name xs) refl
    where
      by : (b : Bool) → has_number name xs ≡ b
          → map (attribute_of t) (if has_number name xs then set_number name value xs else insert xs place (record { name = name; value = value }))
          ≡ (if has_name (expanded_of t name) (map (attribute_of t) xs) then set_in (expanded_of t name) value (map (attribute_of t) xs)
          else insert (map (attribute_of t) xs) place (record { name = expanded_of t name; value = value }))
      by true h =
          ap (λ b. map (attribute_of t) (if b then set_number name value xs else insert xs place (record { name = name; value = value }))) h
          ∙ set_map t sound name l value xs k
          ∙ sym (ap (λ b. if b then set_in (expanded_of t name) value (map (attribute_of t) xs) else insert (map (attribute_of t) xs) place (record { name = expanded_of t name; value = value })) (has_map xs k ∙ h))
      by false h =
          ap (λ b. map (attribute_of t) (if b then set_number name value xs else insert xs place (record { name = name; value = value }))) h
          ∙ map-insert (attribute_of t) xs place (record { name = name; value = value })
          ∙ sym (ap (λ b. if b then set_in (expanded_of t name) value (map (attribute_of t) xs) else insert (map (attribute_of t) xs) place (record { name = expanded_of t name; value = value })) (has_map xs k ∙ h))

-- what is asked of a change bounds its place
pub place_within : (name : Expanded) (place : ℕ) (value : Option (List ℕ)) (xs : List Attribute) (bindings : List Binding) → CanWrite name place value xs bindings → place ≤ length xs
place_within name place None xs bindings can = let l = slice_get_within xs place (record { name = name; value = can.0 }) can.1 in omega (arith, l)
place_within name place (Some value) xs bindings (inl at) = let l = slice_get_within xs place (record { name = name; value = at.0 }) at.1 in omega (arith, l)
place_within name place (Some value) xs bindings (inr room) = room.within

-- the attribute that was found
pub value_is : (name : ℕ) (xs : List NameAttribute) (i : ℕ) (d : NameAttribute) → i < length xs → ((get_or xs i d).name == name) ≡ true
    → ((k : ℕ) → k < i → ((get_or xs k d).name == name) ≡ false) → (number_value name xs ≡ Some (get_or xs i d).value) × (has_number name xs ≡ true)
value_is name [] i d l here before = absurd (omega (arith, l))
value_is name (a ∷ more) zero d l here before = (ap (λ b. if b then Some a.value else number_value name more) here, or_left (a.name == name) (has_number name more) here)
value_is name (a ∷ more) (suc i) d l here before =
    let r = value_is name more i d (omega (arith, l)) here (λ k h. before (suc k) (omega (arith, h))) in
    (ap (λ b. if b then Some a.value else number_value name more) (before 0 (omega arith)) ∙ r.0, ap (λ b. b || has_number name more) (before 0 (omega arith)) ∙ r.1)

pub value_absent : (name : ℕ) (xs : List NameAttribute) → has_number name xs ≡ false → number_value name xs ≡ None
value_absent name [] h = refl
value_absent name (a ∷ more) h =
    let z = or_parts (a.name == name) (has_number name more) h in ap (λ b. if b then Some a.value else number_value name more) z.0 ∙ value_absent name more z.1

pub written_there : (name place : ℕ) (value : List ℕ) (xs : List NameAttribute) → has_number name xs ≡ true → written_number name place (Some value) xs ≡ set_number name value xs
written_there name place value xs h = ap (λ b. if b then set_number name value xs else insert xs place (record { name = name; value = value })) h

pub written_new : (name place : ℕ) (value : List ℕ) (xs : List NameAttribute) → has_number name xs ≡ false → written_number name place (Some value) xs ≡ insert xs place (record { name = name; value = value })
written_new name place value xs h = ap (λ b. if b then set_number name value xs else insert xs place (record { name = name; value = value })) h

pub unset_absent : (name : ℕ) (xs : List NameAttribute) → has_number name xs ≡ false → unset_number name xs ≡ xs
unset_absent name [] h = refl
unset_absent name (a ∷ more) h =
    let z = or_parts (a.name == name) (has_number name more) h in ap (λ b. if b then more else a ∷ unset_number name more) z.0 ∙ ap (λ r. a ∷ r) (unset_absent name more z.1)
