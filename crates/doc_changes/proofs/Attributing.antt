-- Attributes by the numbers of their names, and by the names.
use Rattle.std.proofs.Common.{◌≡◌, ℕ, zero, suc, ◌+◌, ◌<◌, ◌≤◌, List, [], ◌∷◌, ◌++◌, length, map, get_or, sym, ap, ◌∙◌, subst, Bool, true, false, ◌==◌, ◌||◌, if◌then◌else◌, Option, Some, None, refl, arith, All}
use Rattle.std.specs.Prelude.{slice_index_or}
use Rattle.std.specs.List.{position, remove}
use Rattle.std.proofs.Math.ListN.{set}
use Rattle.std.proofs.lemmas.Bool.{or_parts, or_left, eq-eqb, eqb-true, ne_eqb, false≢true, true≢false}
use Rattle.std.proofs.lemmas.Iterator.Adapters.{position_from-zero}
use Rattle.std.proofs.lemmas.List.Elements.{All-head, All-tail}
use Rattle.std.proofs.lemmas.Option.{slice_get-get_or}
use Rattle.xs_names.specs.Names.{NameTable, absent_space, space_of, local_of, IsSound as AreNames}
use Rattle.xs_names.proofs.NumberingLaws.{list_any-absent}
use Rattle.tree_rows.specs.Naming.{same_name}
use Rattle.tree_edits.specs.Changes.{set_in, unset_in}
use Rattle.tree_edits.proofs.Attributing.{same_name_is, same_name_own}
use Rattle.tree_rows.specs.declared.name.Expanded.{Expanded}
use Rattle.tree_rows.specs.declared.row.Attribute.{Attribute}
use Rattle.doc_nodes.specs.declared.content.NameAttribute.{NameAttribute}
use Rattle.doc_changes.specs.Stands.{namespace_of, expanded_of, attribute_of}
use Rattle.doc_changes.specs.Held.{has_number, set_number, unset_number}

-- the place that was found
pub set_is : (name : ℕ) (value : List ℕ) (xs : List NameAttribute) (i : ℕ) (d : NameAttribute) → i < length xs → ((get_or xs i d).name == name) ≡ true
    → ((k : ℕ) → k < i → ((get_or xs k d).name == name) ≡ false) → set xs i (record { name = name; value = value }) ≡ set_number name value xs
set_is name value [] i d l here before = absurd (omega (arith, l))
set_is name value (a ∷ more) zero d l here before = sym (ap (λ b. if b then record { name = name; value = value } ∷ more else a ∷ set_number name value more) here)
set_is name value (a ∷ more) (suc i) d l here before =
    ap (λ r. a ∷ r) (set_is name value more i d (omega (arith, l)) here (λ k h. before (suc k) (omega (arith, h))))
    ∙ sym (ap (λ b. if b then record { name = name; value = value } ∷ more else a ∷ set_number name value more) (before 0 (omega arith)))

pub unset_is : (name : ℕ) (xs : List NameAttribute) (i : ℕ) (d : NameAttribute) → i < length xs → ((get_or xs i d).name == name) ≡ true
    → ((k : ℕ) → k < i → ((get_or xs k d).name == name) ≡ false) → remove xs i ≡ unset_number name xs
unset_is name [] i d l here before = absurd (omega (arith, l))
unset_is name (a ∷ more) zero d l here before = sym (ap (λ b. if b then more else a ∷ unset_number name more) here)
unset_is name (a ∷ more) (suc i) d l here before =
    ap (λ r. a ∷ r) (unset_is name more i d (omega (arith, l)) here (λ k h. before (suc k) (omega (arith, h))))
    ∙ sym (ap (λ b. if b then more else a ∷ unset_number name more) (before 0 (omega arith)))

pub none_of : (name : ℕ) (xs : List NameAttribute) → position (λ a. a.name == name) xs ≡ None → has_number name xs ≡ false
none_of name xs e = list_any-absent (λ a. a.name == name) 0 xs (sym (position_from-zero (λ a. a.name == name) xs) ∙ e)

pub set_behind : (name : ℕ) (value : List ℕ) (xs : List NameAttribute) → has_number name xs ≡ false → set_number name value xs ≡ xs ++ record { name = name; value = value } ∷ []
set_behind name value [] h = refl
set_behind name value (a ∷ more) h =
    let z = or_parts (a.name == name) (has_number name more) h in
    ap (λ b. if b then record { name = name; value = value } ∷ more else a ∷ set_number name value more) z.0 ∙ ap (λ r. a ∷ r) (set_behind name value more z.1)

pub length_set : (name : ℕ) (value : List ℕ) (xs : List NameAttribute) (b : Bool) → has_number name xs ≡ b → length (set_number name value xs) ≡ (if b then length xs else length xs + 1)
length_set name value [] true h = absurd (false≢true h)
length_set name value [] false h = omega arith
length_set name value (a ∷ more) b h = by (a.name == name) refl b h (length_set name value more)
  where
    by : (c : Bool) → (a.name == name) ≡ c → (b : Bool) → (a.name == name || has_number name more) ≡ b
        → ((b : Bool) → has_number name more ≡ b → length (set_number name value more) ≡ (if b then length more else length more + 1))
        → length (if a.name == name then record { name = name; value = value } ∷ more else a ∷ set_number name value more) ≡ (if b then suc (length more) else suc (length more) + 1)
    by true q true k rest = ap (λ c. length (if c then record { name = name; value = value } ∷ more else a ∷ set_number name value more)) q
    by true q false k rest = absurd (true≢false (sym (or_left (a.name == name) (has_number name more) q) ∙ k))
    by false q true k rest =
        let i = rest true (sym (ap (λ c. c || has_number name more) q) ∙ k) in
        ap (λ c. length (if c then record { name = name; value = value } ∷ more else a ∷ set_number name value more)) q ∙ ap suc i
    by false q false k rest =
        let i = rest false (sym (ap (λ c. c || has_number name more) q) ∙ k) in
        ap (λ c. length (if c then record { name = name; value = value } ∷ more else a ∷ set_number name value more)) q ∙ omega (arith, i)

pub length_unset : (name : ℕ) (xs : List NameAttribute) → length (unset_number name xs) ≤ length xs
length_unset name [] = omega arith
length_unset name (a ∷ more) = by (a.name == name) refl (length_unset name more)
  where
    by : (c : Bool) → (a.name == name) ≡ c → length (unset_number name more) ≤ length more → length (if a.name == name then more else a ∷ unset_number name more) ≤ suc (length more)
    by true q i = let e = ap (λ c. length (if c then more else a ∷ unset_number name more)) q in omega (arith, e)
    by false q i = let e = ap (λ c. length (if c then more else a ∷ unset_number name more)) q in omega (arith, e, i)

-- two names of a table are the same where their numbers are
some_namespace : (x y : List ℕ) → ◌≡◌ {A = Option (List ℕ)} (Some x) (Some y) → x ≡ y
some_namespace x y e = cc

module _ (t : NameTable) (sound : AreNames t) where
  one_space : (s r : ℕ) → s < length t.spaces → r < length t.spaces → namespace_of t s ≡ namespace_of t r → s ≡ r
  one_space s r ls lr e = by (s == absent_space) (r == absent_space) refl refl e
    where
      by : (a b : Bool) → (s == absent_space) ≡ a → (r == absent_space) ≡ b
          → (if a then None else Some (slice_index_or t.spaces s [])) ≡ (if b then None else Some (slice_index_or t.spaces r [])) → s ≡ r
      by true true p q k = eqb-true s absent_space p ∙ sym (eqb-true r absent_space q)
      by true false p q k = cc
      by false true p q k = cc
      by false false p q k =
          sound.spaces_once s r (slice_index_or t.spaces s []) (slice_get-get_or t.spaces s [] ls)
          (slice_get-get_or t.spaces r [] lr ∙ ap Some (sym (some_namespace (slice_index_or t.spaces s []) (slice_index_or t.spaces r []) k)))

  space_within : (n : ℕ) → n < length t.names → space_of t n < length t.spaces
  space_within n l = sound.within n (space_of t n) (local_of t n) (slice_get-get_or t.names n (0, []) l)

  pub one_name : (n m : ℕ) → n < length t.names → m < length t.names → expanded_of t n ≡ expanded_of t m → n ≡ m
  one_name n m ln lm e =
      let s = one_space (space_of t n) (space_of t m) (space_within n ln) (space_within m lm) (ap (λ (x : Expanded). x.namespace) e) in
      let local = ap (λ (x : Expanded). x.local) e in
      let pair : (space_of t n, local_of t n) ≡ (space_of t m, local_of t m) = λ i. (s i, local i) in
      sound.names_once n m (space_of t n, local_of t n) (slice_get-get_or t.names n (0, []) ln) (slice_get-get_or t.names m (0, []) lm ∙ ap Some (sym pair))

pub same_names : (t : NameTable) → AreNames t → (n m : ℕ) → n < length t.names → m < length t.names → same_name (expanded_of t n) (expanded_of t m) ≡ (n == m)
same_names t sound n m ln lm = by (same_name (expanded_of t n) (expanded_of t m)) refl
  where
    by : (b : Bool) → same_name (expanded_of t n) (expanded_of t m) ≡ b → b ≡ (n == m)
    by true e = sym (eq-eqb n m (one_name t sound n m ln lm (same_name_is (expanded_of t n) (expanded_of t m) e)))
    by false e = sym (ne_eqb n m (λ q. false≢true (sym e ∙ ap (λ k. same_name (expanded_of t n) (expanded_of t k)) (sym q) ∙ same_name_own (expanded_of t n))))

-- the changes by numbers are those by names
module _ (t : NameTable) (sound : AreNames t) (name : ℕ) (l : name < length t.names) where
  pub set_map : (value : List ℕ) (xs : List NameAttribute) → All (λ a. a.name < length t.names) xs → map (attribute_of t) (set_number name value xs) ≡ set_in (expanded_of t name) value (map (attribute_of t) xs)
  set_map value [] k = refl
  set_map value (a ∷ more) k =
      let same = same_names t sound a.name name (All-head (λ a. a.name < length t.names) a more k) l in
      by (a.name == name) refl (set_map value more (All-tail (λ a. a.name < length t.names) a more k)) same
    where
      by : (b : Bool) → (a.name == name) ≡ b → map (attribute_of t) (set_number name value more) ≡ set_in (expanded_of t name) value (map (attribute_of t) more)
          → same_name (expanded_of t a.name) (expanded_of t name) ≡ (a.name == name)
          → map (attribute_of t) (if a.name == name then record { name = name; value = value } ∷ more else a ∷ set_number name value more)
          ≡ (if same_name (expanded_of t a.name) (expanded_of t name) then record { name = expanded_of t name; value = value } ∷ map (attribute_of t) more
          else attribute_of t a ∷ set_in (expanded_of t name) value (map (attribute_of t) more))
      by true q rest same =
          ap (λ c. map (attribute_of t) (if c then record { name = name; value = value } ∷ more else a ∷ set_number name value more)) q
          ∙ sym (ap (λ c. if c then record { name = expanded_of t name; value = value } ∷ map (attribute_of t) more else attribute_of t a ∷ set_in (expanded_of t name) value (map (attribute_of t) more)) (same ∙ q))
      by false q rest same =
          ap (λ c. map (attribute_of t) (if c then record { name = name; value = value } ∷ more else a ∷ set_number name value more)) q
          ∙ ap (λ r. attribute_of t a ∷ r) rest
          ∙ sym (ap (λ c. if c then record { name = expanded_of t name; value = value } ∷ map (attribute_of t) more else attribute_of t a ∷ set_in (expanded_of t name) value (map (attribute_of t) more)) (same ∙ q))

  pub unset_map : (xs : List NameAttribute) → All (λ a. a.name < length t.names) xs → map (attribute_of t) (unset_number name xs) ≡ unset_in (expanded_of t name) (map (attribute_of t) xs)
  unset_map [] k = refl
  unset_map (a ∷ more) k =
      let same = same_names t sound a.name name (All-head (λ a. a.name < length t.names) a more k) l in
      by (a.name == name) refl (unset_map more (All-tail (λ a. a.name < length t.names) a more k)) same
    where
      by : (b : Bool) → (a.name == name) ≡ b → map (attribute_of t) (unset_number name more) ≡ unset_in (expanded_of t name) (map (attribute_of t) more)
          → same_name (expanded_of t a.name) (expanded_of t name) ≡ (a.name == name)
          → map (attribute_of t) (if a.name == name then more else a ∷ unset_number name more)
          ≡ (if same_name (expanded_of t a.name) (expanded_of t name) then map (attribute_of t) more else attribute_of t a ∷ unset_in (expanded_of t name) (map (attribute_of t) more))
      by true q rest same =
          ap (λ c. map (attribute_of t) (if c then more else a ∷ unset_number name more)) q
          ∙ sym (ap (λ c. if c then map (attribute_of t) more else attribute_of t a ∷ unset_in (expanded_of t name) (map (attribute_of t) more)) (same ∙ q))
      by false q rest same =
          ap (λ c. map (attribute_of t) (if c then more else a ∷ unset_number name more)) q
          ∙ ap (λ r. attribute_of t a ∷ r) rest
          ∙ sym (ap (λ c. if c then map (attribute_of t) more else attribute_of t a ∷ unset_in (expanded_of t name) (map (attribute_of t) more)) (same ∙ q))

-- what is known of each attribute stays known
pub set_all : (P : ℕ → Type 0) (name : ℕ) (value : List ℕ) → P name → (xs : List NameAttribute) → ((i : ℕ) (d : NameAttribute) → i < length xs → P (get_or xs i d).name)
    → (i : ℕ) (d : NameAttribute) → i < length (set_number name value xs) → P (get_or (set_number name value xs) i d).name
set_all P name value p [] k = alone
  where
    alone : (i : ℕ) (d : NameAttribute) → i < length (set_number name value []) → P (get_or (set_number name value []) i d).name
    alone zero d l = p
    alone (suc i) d l = absurd (omega (arith, l))
set_all P name value p (a ∷ more) k = by (set_all P name value p more (λ i d l. k (suc i) d (omega (arith, l)))) (a.name == name) refl
  where
    there : (i : ℕ) (d : NameAttribute) → i < length (record { name = name; value = value } ∷ more) → P (get_or (record { name = name; value = value } ∷ more) i d).name
    there zero d l = p
    there (suc i) d l = k (suc i) d l

    other : ((i : ℕ) (d : NameAttribute) → i < length (set_number name value more) → P (get_or (set_number name value more) i d).name)
        → (i : ℕ) (d : NameAttribute) → i < length (a ∷ set_number name value more) → P (get_or (a ∷ set_number name value more) i d).name
    other later zero d l = k 0 d (omega arith)
    other later (suc i) d l = later i d (omega (arith, l))

    by : ((i : ℕ) (d : NameAttribute) → i < length (set_number name value more) → P (get_or (set_number name value more) i d).name) → (b : Bool) → (a.name == name) ≡ b → (i : ℕ) (d : NameAttribute) → i < length (if a.name == name then record { name = name; value = value } ∷ more else a ∷ set_number name value more)
        → P (get_or (if a.name == name then record { name = name; value = value } ∷ more else a ∷ set_number name value more) i d).name
    by later true q = subst (λ c. (i : ℕ) (d : NameAttribute) → i < length (if c then record { name = name; value = value } ∷ more else a ∷ set_number name value more)
        → P (get_or (if c then record { name = name; value = value } ∷ more else a ∷ set_number name value more) i d).name) (sym q) there
    by later false q = subst (λ c. (i : ℕ) (d : NameAttribute) → i < length (if c then record { name = name; value = value } ∷ more else a ∷ set_number name value more)
        → P (get_or (if c then record { name = name; value = value } ∷ more else a ∷ set_number name value more) i d).name) (sym q) (other later)

pub unset_all : (P : ℕ → Type 0) (name : ℕ) (xs : List NameAttribute) → ((i : ℕ) (d : NameAttribute) → i < length xs → P (get_or xs i d).name)
    → (i : ℕ) (d : NameAttribute) → i < length (unset_number name xs) → P (get_or (unset_number name xs) i d).name
unset_all P name [] k = k
unset_all P name (a ∷ more) k = by (unset_all P name more (λ i d l. k (suc i) d (omega (arith, l)))) (a.name == name) refl
  where
    other : ((i : ℕ) (d : NameAttribute) → i < length (unset_number name more) → P (get_or (unset_number name more) i d).name)
        → (i : ℕ) (d : NameAttribute) → i < length (a ∷ unset_number name more) → P (get_or (a ∷ unset_number name more) i d).name
    other later zero d l = k 0 d (omega arith)
    other later (suc i) d l = later i d (omega (arith, l))

    by : ((i : ℕ) (d : NameAttribute) → i < length (unset_number name more) → P (get_or (unset_number name more) i d).name) → (b : Bool) → (a.name == name) ≡ b → (i : ℕ) (d : NameAttribute) → i < length (if a.name == name then more else a ∷ unset_number name more)
        → P (get_or (if a.name == name then more else a ∷ unset_number name more) i d).name
    by later true q = subst (λ c. (i : ℕ) (d : NameAttribute) → i < length (if c then more else a ∷ unset_number name more)
        → P (get_or (if c then more else a ∷ unset_number name more) i d).name) (sym q) (λ i d l. k (suc i) d (omega (arith, l)))
    by later false q = subst (λ c. (i : ℕ) (d : NameAttribute) → i < length (if c then more else a ∷ unset_number name more)
        → P (get_or (if c then more else a ∷ unset_number name more) i d).name) (sym q) (other later)
