-- The attributes of an element with one more, with another value, or with one less.
use Rattle.std.proofs.Common.{◌≡◌, ℕ, zero, suc, ◌+◌, ◌<◌, ◌≤◌, List, [], ◌∷◌, ◌++◌, length, get_or, take, drop, append-nil, sym, ap, ◌∙◌, subst, Bool, true, false, ◌||◌, ◌&&◌, if◌then◌else◌, Option, Some, None, refl, arith, nat_le}
use Rattle.std.specs.Prelude.{bytes_eq, not}
use Rattle.std.specs.List.{list_any, position, remove}
use Rattle.std.proofs.Math.ListN.{set}
use Rattle.std.proofs.Math.Seq.{take-length, drop-length}
use Rattle.std.proofs.lemmas.List.{length-set}
use Rattle.std.proofs.lemmas.Bool.{and_parts, or_parts, or_from, or_left, false≢true, true≢false}
use Rattle.std.proofs.lemmas.Bool.Decides.{nat_tests}
use Rattle.std.proofs.lemmas.Iterator.Adapters.{position_from-zero}
use Rattle.std.proofs.lemmas.Slice.Eq.{bytes_eq-Decides}
use Rattle.xs_names.proofs.NumberingLaws.{list_any-absent}
use Rattle.tree_rows.specs.Naming.{same_space, same_name}
use Rattle.tree_rows.specs.Whole.{repeats_name, IsNamespace, AreNamespaces, IsNamed}
use Rattle.tree_rows.specs.declared.name.Expanded.{Expanded}
use Rattle.tree_rows.specs.declared.row.Attribute.{Attribute}
use Rattle.tree_rows.specs.declared.row.Binding.{Binding}
use Rattle.tree_edits.specs.Changes.{has_name, set_in, unset_in, has_no_room}

-- the place that was found
pub set_is : (name : Expanded) (value : List ℕ) (xs : List Attribute) (i : ℕ) (d : Attribute) → i < length xs → same_name (get_or xs i d).name name ≡ true
    → ((k : ℕ) → k < i → same_name (get_or xs k d).name name ≡ false) → set xs i (record { name = name; value = value }) ≡ set_in name value xs
set_is name value [] i d l here before = absurd (omega (arith, l))
set_is name value (a ∷ more) zero d l here before = sym (ap (λ b. if b then record { name = name; value = value } ∷ more else a ∷ set_in name value more) here)
set_is name value (a ∷ more) (suc i) d l here before =
    ap (λ r. a ∷ r) (set_is name value more i d (omega (arith, l)) here (λ k h. before (suc k) (omega (arith, h))))
    ∙ sym (ap (λ b. if b then record { name = name; value = value } ∷ more else a ∷ set_in name value more) (before 0 (omega arith)))

pub unset_is : (name : Expanded) (xs : List Attribute) (i : ℕ) (d : Attribute) → i < length xs → same_name (get_or xs i d).name name ≡ true
    → ((k : ℕ) → k < i → same_name (get_or xs k d).name name ≡ false) → remove xs i ≡ unset_in name xs
unset_is name [] i d l here before = absurd (omega (arith, l))
unset_is name (a ∷ more) zero d l here before = sym (ap (λ b. if b then more else a ∷ unset_in name more) here)
unset_is name (a ∷ more) (suc i) d l here before =
    ap (λ r. a ∷ r) (unset_is name more i d (omega (arith, l)) here (λ k h. before (suc k) (omega (arith, h))))
    ∙ sym (ap (λ b. if b then more else a ∷ unset_in name more) (before 0 (omega arith)))

-- an attribute was found, or none
pub has_at : (name : Expanded) (xs : List Attribute) (i : ℕ) (d : Attribute) → i < length xs → same_name (get_or xs i d).name name ≡ true → has_name name xs ≡ true
has_at name [] i d l here = absurd (omega (arith, l))
has_at name (a ∷ more) zero d l here = ap (λ b. b || has_name name more) here
has_at name (a ∷ more) (suc i) d l here = by (same_name a.name name) (has_at name more i d (omega (arith, l)) here)
  where
    by : (b : Bool) → has_name name more ≡ true → (b || has_name name more) ≡ true
    by true e = refl
    by false e = e

pub none_of : (name : Expanded) (xs : List Attribute) → position (λ a. same_name a.name name) xs ≡ None → has_name name xs ≡ false
none_of name xs e = list_any-absent (λ a. same_name a.name name) 0 xs (sym (position_from-zero (λ a. same_name a.name name) xs) ∙ e)

pub set_behind : (name : Expanded) (value : List ℕ) (xs : List Attribute) → has_name name xs ≡ false → set_in name value xs ≡ xs ++ record { name = name; value = value } ∷ []
set_behind name value [] h = refl
set_behind name value (a ∷ more) h =
    let z = or_parts (same_name a.name name) (has_name name more) h in
    ap (λ b. if b then record { name = name; value = value } ∷ more else a ∷ set_in name value more) z.0 ∙ ap (λ r. a ∷ r) (set_behind name value more z.1)

length_set : (name : Expanded) (value : List ℕ) (xs : List Attribute) (b : Bool) → has_name name xs ≡ b → length (set_in name value xs) ≡ (if b then length xs else length xs + 1)
length_set name value [] true h = absurd (false≢true h)
length_set name value [] false h = omega arith
length_set name value (a ∷ more) b h = by (same_name a.name name) refl b h (length_set name value more)
  where
    by : (c : Bool) → same_name a.name name ≡ c → (b : Bool) → (same_name a.name name || has_name name more) ≡ b
        → ((b : Bool) → has_name name more ≡ b → length (set_in name value more) ≡ (if b then length more else length more + 1))
        → length (if same_name a.name name then record { name = name; value = value } ∷ more else a ∷ set_in name value more) ≡ (if b then suc (length more) else suc (length more) + 1)
    by true q true k rest = ap (λ c. length (if c then record { name = name; value = value } ∷ more else a ∷ set_in name value more)) q
    by true q false k rest = absurd (true≢false (sym (or_left (same_name a.name name) (has_name name more) q) ∙ k))
    by false q true k rest =
        let i = rest true (sym (ap (λ c. c || has_name name more) q) ∙ k) in
        ap (λ c. length (if c then record { name = name; value = value } ∷ more else a ∷ set_in name value more)) q ∙ ap suc i
    by false q false k rest =
        let i = rest false (sym (ap (λ c. c || has_name name more) q) ∙ k) in
        ap (λ c. length (if c then record { name = name; value = value } ∷ more else a ∷ set_in name value more)) q ∙ omega (arith, i)

length_unset : (name : Expanded) (xs : List Attribute) → length (unset_in name xs) ≤ length xs
length_unset name [] = omega arith
length_unset name (a ∷ more) = by (same_name a.name name) refl (length_unset name more)
  where
    by : (c : Bool) → same_name a.name name ≡ c → length (unset_in name more) ≤ length more → length (if same_name a.name name then more else a ∷ unset_in name more) ≤ suc (length more)
    by true q i = let e = ap (λ c. length (if c then more else a ∷ unset_in name more)) q in omega (arith, e)
    by false q i = let e = ap (λ c. length (if c then more else a ∷ unset_in name more)) q in omega (arith, e, i)

-- the test of two names
same_space_is : (x y : Option (List ℕ)) → same_space x y ≡ true → x ≡ y
same_space_is None None h = refl
same_space_is None (Some y) h = absurd (false≢true h)
same_space_is (Some x) None h = absurd (false≢true h)
same_space_is (Some x) (Some y) h = ap Some ((bytes_eq-Decides x y).0 h)

same_space_own : (x : Option (List ℕ)) → same_space x x ≡ true
same_space_own None = refl
same_space_own (Some x) = (bytes_eq-Decides x x).1 refl

pub same_name_is : (x y : Expanded) → same_name x y ≡ true → x ≡ y
same_name_is x y h =
    let z = and_parts (same_space x.namespace y.namespace) (bytes_eq x.local y.local) h in
    let s = same_space_is x.namespace y.namespace z.0 in let l = (bytes_eq-Decides x.local y.local).0 z.1 in
    λ i. record { namespace = s i; local = l i }

pub same_name_own : (x : Expanded) → same_name x x ≡ true
same_name_own x = ap (λ b. b && bytes_eq x.local x.local) (same_space_own x.namespace) ∙ (bytes_eq-Decides x.local x.local).1 refl

-- no name comes twice
any_set : (key name : Expanded) (value : List ℕ) (xs : List Attribute) → same_name key name ≡ false → list_any (λ a. same_name key a.name) xs ≡ false → list_any (λ a. same_name key a.name) (set_in name value xs) ≡ false
any_set key name value [] n h = or_from (same_name key name) false n refl
any_set key name value (a ∷ more) n h = by (any_set key name value more n) (same_name a.name name)
  where
    z : (same_name key a.name ≡ false) × (list_any (λ a. same_name key a.name) more ≡ false)
    z = or_parts (same_name key a.name) (list_any (λ a. same_name key a.name) more) h

    by : (list_any (λ a. same_name key a.name) more ≡ false → list_any (λ a. same_name key a.name) (set_in name value more) ≡ false) → (b : Bool) → list_any (λ a. same_name key a.name) (if b then record { name = name; value = value } ∷ more else a ∷ set_in name value more) ≡ false
    by rest true = or_from (same_name key name) (list_any (λ a. same_name key a.name) more) n z.1
    by rest false = or_from (same_name key a.name) (list_any (λ a. same_name key a.name) (set_in name value more)) z.0 (rest z.1)

pub names_set : (name : Expanded) (value : List ℕ) (xs : List Attribute) → repeats_name xs ≡ false → repeats_name (set_in name value xs) ≡ false
names_set name value [] h = refl
names_set name value (a ∷ more) h = by (names_set name value more) (same_name a.name name) refl
  where
    z : (list_any (λ other. same_name a.name other.name) more ≡ false) × (repeats_name more ≡ false)
    z = or_parts (list_any (λ other. same_name a.name other.name) more) (repeats_name more) h

    by : (repeats_name more ≡ false → repeats_name (set_in name value more) ≡ false) → (b : Bool) → same_name a.name name ≡ b → repeats_name (if b then record { name = name; value = value } ∷ more else a ∷ set_in name value more) ≡ false
    by rest true q =
        let other = subst (λ n. list_any (λ other. same_name n other.name) more ≡ false) (same_name_is a.name name q) z.0 in
        or_from (list_any (λ other. same_name name other.name) more) (repeats_name more) other z.1
    by rest false q = or_from (list_any (λ other. same_name a.name other.name) (set_in name value more)) (repeats_name (set_in name value more)) (any_set a.name name value more q z.0) (rest z.1)

any_unset : (key name : Expanded) (xs : List Attribute) → list_any (λ a. same_name key a.name) xs ≡ false → list_any (λ a. same_name key a.name) (unset_in name xs) ≡ false
any_unset key name [] h = refl
any_unset key name (a ∷ more) h = by (any_unset key name more) (same_name a.name name)
  where
    z : (same_name key a.name ≡ false) × (list_any (λ a. same_name key a.name) more ≡ false)
    z = or_parts (same_name key a.name) (list_any (λ a. same_name key a.name) more) h

    by : (list_any (λ a. same_name key a.name) more ≡ false → list_any (λ a. same_name key a.name) (unset_in name more) ≡ false) → (b : Bool) → list_any (λ a. same_name key a.name) (if b then more else a ∷ unset_in name more) ≡ false
    by rest true = z.1
    by rest false = or_from (same_name key a.name) (list_any (λ a. same_name key a.name) (unset_in name more)) z.0 (rest z.1)

pub names_unset : (name : Expanded) (xs : List Attribute) → repeats_name xs ≡ false → repeats_name (unset_in name xs) ≡ false
names_unset name [] h = refl
names_unset name (a ∷ more) h = by (names_unset name more) (same_name a.name name)
  where
    z : (list_any (λ other. same_name a.name other.name) more ≡ false) × (repeats_name more ≡ false)
    z = or_parts (list_any (λ other. same_name a.name other.name) more) (repeats_name more) h

    by : (repeats_name more ≡ false → repeats_name (unset_in name more) ≡ false) → (b : Bool) → repeats_name (if b then more else a ∷ unset_in name more) ≡ false
    by rest true = z.1
    by rest false = or_from (list_any (λ other. same_name a.name other.name) (unset_in name more)) (repeats_name (unset_in name more)) (any_unset a.name name more z.0) (rest z.1)

-- each name has its namespace
pub namespaces_set : (name : Expanded) (value : List ℕ) (xs : List Attribute) → IsNamespace name.namespace → AreNamespaces xs → AreNamespaces (set_in name value xs)
namespaces_set name value [] n h = (n, tt)
namespaces_set name value (a ∷ more) n h = by (namespaces_set name value more n h.1) (same_name a.name name)
  where
    by : AreNamespaces (set_in name value more) → (b : Bool) → AreNamespaces (if b then record { name = name; value = value } ∷ more else a ∷ set_in name value more)
    by rest true = (n, h.1)
    by rest false = (h.0, rest)

pub namespaces_unset : (name : Expanded) (xs : List Attribute) → AreNamespaces xs → AreNamespaces (unset_in name xs)
namespaces_unset name [] h = h
namespaces_unset name (a ∷ more) h = by (namespaces_unset name more h.1) (same_name a.name name)
  where
    by : AreNamespaces (unset_in name more) → (b : Bool) → AreNamespaces (if b then more else a ∷ unset_in name more)
    by rest true = h.1
    by rest false = (h.0, rest)

-- there are no more than there may be
few_set : (name : Expanded) (value : List ℕ) (xs : List Attribute) (more : ℕ) → length xs + more ≤ 256 → (b : Bool) → has_name name xs ≡ b
    → (not b && nat_le 256 (length xs + more)) ≡ false → length (set_in name value xs) + more ≤ 256
few_set name value xs more l true h room = let e = length_set name value xs true h in omega (arith, e, l)
few_set name value xs more l false h room =
    let e = length_set name value xs false h in let below : length xs + more < 256 = grind (arith, nat_tests, room) in omega (arith, e, below)

-- the names of an element stay in order
pub set_named : (own name : Expanded) (value : List ℕ) (bindings : List Binding) (xs : List Attribute) → IsNamespace name.namespace → has_no_room name bindings xs ≡ false
    → IsNamed own bindings xs → IsNamed own bindings (set_in name value xs)
set_named own name value bindings xs space room n = record {
  namespace = n.namespace;
  namespaces = namespaces_set name value xs space n.namespaces;
  prefixes = n.prefixes;
  names = names_set name value xs n.names;
  few = few_set name value xs (length bindings) n.few (has_name name xs) refl room;
}

pub unset_named : (own name : Expanded) (bindings : List Binding) (xs : List Attribute) → IsNamed own bindings xs → IsNamed own bindings (unset_in name xs)
unset_named own name bindings xs n = record {
  namespace = n.namespace;
  namespaces = namespaces_unset name xs n.namespaces;
  prefixes = n.prefixes;
  names = names_unset name xs n.names;
  few = let l = length_unset name xs in omega (arith, l, n.few);
}

-- an element with fewer attributes and bindings has room for one more, and one that has the name for its value
pub room_left : (has : Bool) (n : ℕ) → n < 256 → (not has && nat_le 256 n) ≡ false
room_left true n l = refl
room_left false n l = grind (arith, nat_tests, l)

pub room_own : (name : Expanded) (bindings : List Binding) (xs : List Attribute) → has_name name xs ≡ true → has_no_room name bindings xs ≡ false
room_own name bindings xs h = ap (λ b. not b && nat_le 256 (length xs + length bindings)) h

pub no_room : (name : Expanded) (bindings : List Binding) (xs : List Attribute) → has_name name xs ≡ false → 256 ≤ length xs + length bindings → has_no_room name bindings xs ≡ true
no_room name bindings xs h l = ap (λ b. not b && nat_le 256 (length xs + length bindings)) h ∙ grind (arith, nat_tests, l)

-- a list that was written through a slice of all of it
pub written : (xs ys : List Attribute) (i : ℕ) (y : Attribute) → ys ≡ xs → take (length xs) (set ys i y ++ drop (length (set ys i y)) xs) ≡ set xs i y
written xs ys i y e =
    ap (λ l. take (length xs) (set l i y ++ drop (length (set l i y)) xs)) e
    ∙ ap (λ n. take (length xs) (set xs i y ++ drop n xs)) (length-set xs i y)
    ∙ ap (λ l. take (length xs) (set xs i y ++ l)) (drop-length xs)
    ∙ ap (take (length xs)) (append-nil (set xs i y))
    ∙ ap (λ n. take n (set xs i y)) (sym (length-set xs i y)) ∙ take-length (set xs i y)
