-- An item that comes twice in a list: told by a set of what was seen.
use Rattle.std.proofs.Common.{◌≡◌, ℕ, ◌+◌, ◌<◌, not, length, drop, get_or, List, [], ◌∷◌, ◌++◌, map, Bool, true, false, ◌||◌, ◌&&◌, bytes_eq, string_bytes, Option, Some, None, refl, sym, ap, ◌∙◌, true≢false, if◌then◌else◌}
use Rattle.std.specs.Bool.{Decides}
use Rattle.std.specs.List.{list_any}
use Rattle.std.specs.Prelude.{String}
use Rattle.std.specs.Option.{option_eq}
use Rattle.std.specs.String.{string_eq}
use Rattle.std.proofs.lemmas.List.{map_push, drop_more}
use Rattle.std.proofs.lemmas.Slice.Eq.{bytes_eq-Decides}
use Rattle.indexmap.specs.IndexSet.{insert_key}
use Rattle.xs_names.proofs.NumberingLaws.{list_any-map}
use Rattle.tree_rows.specs.Naming.{same_space, same_name}
use Rattle.tree_rows.specs.declared.name.Expanded.{Expanded}
use Rattle.tree_rows.specs.declared.row.Attribute.{Attribute}
use Rattle.tree_rows.specs.declared.row.Binding.{Binding}
use Rattle.tag_names.specs.Faults.{repeats_prefix, repeats_name}
use Rattle.tag_names.specs.Keys.{space_of, name_of}
use Rattle.tag_names.specs.declared.doubles.NameKey.{NameKey}

pub or-assoc : (a b c : Bool) → (a || b) || c ≡ a || (b || c)
or-assoc true b c = refl
or-assoc false b c = refl

or-swap : (a b c d : Bool) → (a || b) || (c || d) ≡ (a || c) || (b || d)
or-swap true b c d = refl
or-swap false true true d = refl
or-swap false true false d = refl
or-swap false false c d = refl

pub or-false : (b : Bool) → b || false ≡ b
or-false true = refl
or-false false = refl

pub not_false : (b : Bool) → not b ≡ false → b ≡ true
not_false true e = refl
not_false false e = cc

pub not_true : (b : Bool) → not b ≡ true → b ≡ false
not_true false e = refl
not_true true e = cc

pub and_twice : (a b : Bool) → b && (a && b) ≡ a && b
and_twice true true = refl
and_twice true false = refl
and_twice false true = refl
and_twice false false = refl

module _ {X : Type 0} (same : X → X → Bool) where
  -- an item comes twice
  abbrev pub repeats : List X → Bool
  repeats [] = false
  repeats (x ∷ xs) = list_any (same x) xs || repeats xs

  -- an item was seen before, or comes twice
  abbrev pub repeats_behind : List X → List X → Bool
  repeats_behind seen [] = false
  repeats_behind seen (x ∷ xs) = list_any (same x) seen || repeats_behind (seen ++ x ∷ []) xs

  -- an item is among those seen
  abbrev among : List X → List X → Bool
  among seen [] = false
  among seen (x ∷ xs) = list_any (same x) seen || among seen xs

  among-none : (xs : List X) → among [] xs ≡ false
  among-none [] = refl
  among-none (x ∷ xs) = among-none xs

  list_any-push : (test : X → Bool) (xs : List X) (x : X) → list_any test (xs ++ x ∷ []) ≡ list_any test xs || test x
  list_any-push test [] x = or-false (test x)
  list_any-push test (y ∷ xs) x = ap (λ r. test y || r) (list_any-push test xs x) ∙ sym (or-assoc (test y) (list_any test xs) (test x))

  module _ (turned : (x y : X) → same x y ≡ same y x) where
    among-push : (seen xs : List X) (y : X) → among (seen ++ y ∷ []) xs ≡ among seen xs || list_any (same y) xs
    among-push seen [] y = refl
    among-push seen (x ∷ xs) y =
        ap (λ r. r || among (seen ++ y ∷ []) xs) (list_any-push (same x) seen y ∙ ap (λ r. list_any (same x) seen || r) (turned x y))
        ∙ ap (λ r. (list_any (same x) seen || same y x) || r) (among-push seen xs y)
        ∙ or-swap (list_any (same x) seen) (same y x) (among seen xs) (list_any (same y) xs)

    behind-among : (seen xs : List X) → repeats_behind seen xs ≡ among seen xs || repeats xs
    behind-among seen [] = refl
    behind-among seen (x ∷ xs) =
        ap (λ r. list_any (same x) seen || r) (behind-among (seen ++ x ∷ []) xs ∙ ap (λ r. r || repeats xs) (among-push seen xs x) ∙ or-assoc (among seen xs) (list_any (same x) xs) (repeats xs))
        ∙ sym (or-assoc (list_any (same x) seen) (among seen xs) (repeats (x ∷ xs)))

    -- with nothing seen it is whether an item comes twice
    pub repeats_behind-none : (xs : List X) → repeats_behind [] xs ≡ repeats xs
    repeats_behind-none xs = behind-among [] xs ∙ ap (λ r. r || repeats xs) (among-none xs)

  -- what a set of keys says, where its equality is `same` on what the keys stand for
  module _ {K : Type 0} (eq : K → K → Bool) (view : K → X) (agrees : (a b : K) → eq a b ≡ same (view a) (view b)) where
    list_any-view : (key : K) (keys : List K) → list_any (eq key) keys ≡ list_any (same (view key)) (map view keys)
    list_any-view key [] = refl
    list_any-view key (k ∷ keys) = ap (λ r. r || list_any (eq key) keys) (agrees key k) ∙ ap (λ r. same (view key) (view k) || r) (list_any-view key keys)

    pub repeats-seen : (keys : List K) (key : K) (x : X) (xs : List X) → view key ≡ x → list_any (eq key) keys ≡ true → repeats_behind (map view keys) (x ∷ xs) ≡ true
    repeats-seen keys key x xs is seen =
        let there : list_any (same x) (map view keys) ≡ true = ap (λ y. list_any (same y) (map view keys)) (sym is) ∙ sym (list_any-view key keys) ∙ seen in
        ap (λ r. r || repeats_behind (map view keys ++ x ∷ []) xs) there

    pub repeats-added : (keys : List K) (key : K) (x : X) (xs : List X) → view key ≡ x → list_any (eq key) keys ≡ false
        → repeats_behind (map view (insert_key eq keys key)) xs ≡ repeats_behind (map view keys) (x ∷ xs)
    repeats-added keys key x xs is unseen =
        let there : list_any (same x) (map view keys) ≡ false = ap (λ y. list_any (same y) (map view keys)) (sym is) ∙ sym (list_any-view key keys) ∙ unseen in
        let grown : map view (insert_key eq keys key) ≡ map view keys ++ x ∷ [] = ap (λ b. map view (if b then keys else keys ++ key ∷ [])) unseen ∙ map_push view keys key ∙ ap (λ y. map view keys ++ y ∷ []) is in
        ap (λ l. repeats_behind l xs) grown ∙ sym (ap (λ r. r || repeats_behind (map view keys ++ x ∷ []) xs) there)

-- an equality that decides is the same both ways
turned_by : {X : Type 0} (same : X → X → Bool) → ((x y : X) → Decides (same x y) (x ≡ y)) → (x y : X) → same x y ≡ same y x
turned_by same decides x y = by (same x y) refl (same y x) refl
  where
    by : (a : Bool) → same x y ≡ a → (b : Bool) → same y x ≡ b → same x y ≡ same y x
    by true e true f = e ∙ sym f
    by false e false f = e ∙ sym f
    by true e false f = absurd (true≢false (sym ((decides y x).1 (sym ((decides x y).0 e))) ∙ f))
    by false e true f = absurd (true≢false (sym ((decides x y).1 (sym ((decides y x).0 f))) ∙ e))

pub bytes_eq-turned : (x y : List ℕ) → bytes_eq x y ≡ bytes_eq y x
bytes_eq-turned = turned_by bytes_eq bytes_eq-Decides

same_space-turned : (x y : Option (List ℕ)) → same_space x y ≡ same_space y x
same_space-turned None None = refl
same_space-turned None (Some y) = refl
same_space-turned (Some x) None = refl
same_space-turned (Some x) (Some y) = bytes_eq-turned x y

pub same_name-turned : (x y : Expanded) → same_name x y ≡ same_name y x
same_name-turned x y = ap (λ r. r && bytes_eq x.local y.local) (same_space-turned x.namespace y.namespace) ∙ ap (λ r. same_space y.namespace x.namespace && r) (bytes_eq-turned x.local y.local)

-- the prefixes of bindings, and the names of attributes
pub repeats-prefixes : (bindings : List Binding) → repeats bytes_eq (map (λ b. b.prefix) bindings) ≡ repeats_prefix bindings
repeats-prefixes [] = refl
repeats-prefixes (b ∷ bindings) = ap (λ r. r || repeats bytes_eq (map (λ b. b.prefix) bindings)) (sym (list_any-map (λ b. b.prefix) (bytes_eq b.prefix) bindings)) ∙ ap (λ r. list_any (λ other. bytes_eq b.prefix other.prefix) bindings || r) (repeats-prefixes bindings)

pub repeats-names : (attributes : List Attribute) → repeats same_name (map (λ a. a.name) attributes) ≡ repeats_name attributes
repeats-names [] = refl
repeats-names (a ∷ attributes) = ap (λ r. r || repeats same_name (map (λ a. a.name) attributes)) (sym (list_any-map (λ a. a.name) (same_name a.name) attributes)) ∙ ap (λ r. list_any (λ other. same_name a.name other.name) attributes || r) (repeats-names attributes)

-- a turn of a loop over a list, with the keys of the items before
module _ {X K Y : Type 0} (same : X → X → Bool) (eq : K → K → Bool) (view : K → X) (agrees : (a b : K) → eq a b ≡ same (view a) (view b)) (f : Y → X)
    (keys : List K) (key : K) (ys : List Y) (i : ℕ) (y : Y) (within : i < length ys) (at_i : y ≡ get_or ys i y) (is : view key ≡ f y)
    (all : Bool) (so_far : repeats_behind same (map view keys) (map f (drop i ys)) ≡ all) (added : Bool) (says : added ≡ not (list_any (eq key) keys)) where
  left : drop i ys ≡ y ∷ drop (i + 1) ys
  left = drop_more ys i y within ∙ ap (λ x. x ∷ drop (i + 1) ys) (sym at_i)

  pub turn-seen : added ≡ false → true ≡ all
  turn-seen known =
      let seen : list_any (eq key) keys ≡ true = not_false (list_any (eq key) keys) (sym says ∙ known) in
      sym (repeats-seen same eq view agrees keys key (f y) (map f (drop (i + 1) ys)) is seen) ∙ ap (λ l. repeats_behind same (map view keys) (map f l)) (sym left) ∙ so_far

  pub turn-added : added ≡ true → (grown : List K) → grown ≡ insert_key eq keys key → repeats_behind same (map view grown) (map f (drop (i + 1) ys)) ≡ all
  turn-added fresh grown g =
      let unseen : list_any (eq key) keys ≡ false = not_true (list_any (eq key) keys) (sym says ∙ fresh) in
      ap (λ l. repeats_behind same (map view l) (map f (drop (i + 1) ys))) g ∙ repeats-added same eq view agrees keys key (f y) (map f (drop (i + 1) ys)) is unseen
      ∙ ap (λ l. repeats_behind same (map view keys) (map f l)) (sym left) ∙ so_far

-- the keys of names are equal where the names are the same
spaces_agree : {Z : Type 0} (a b : Option (String Z)) → option_eq string_eq a b ≡ same_space (space_of a) (space_of b)
spaces_agree None None = refl
spaces_agree None (Some b) = refl
spaces_agree (Some a) None = refl
spaces_agree (Some a) (Some b) = refl

pub names_agree : (a b : NameKey) → option_eq string_eq a.namespace b.namespace && string_eq a.local b.local ≡ same_name (name_of a) (name_of b)
names_agree a b = ap (λ r. r && string_eq a.local b.local) (spaces_agree a.namespace b.namespace)

-- with nothing seen
pub start-prefixes : {Z : Type 0} (keys : List (String Z)) (bindings : List Binding) → keys ≡ [] → repeats_behind bytes_eq (map string_bytes keys) (map (λ b. b.prefix) bindings) ≡ repeats_prefix bindings
start-prefixes keys bindings e = ap (λ l. repeats_behind bytes_eq (map string_bytes l) (map (λ b. b.prefix) bindings)) e ∙ repeats_behind-none bytes_eq bytes_eq-turned (map (λ b. b.prefix) bindings) ∙ repeats-prefixes bindings

pub start-names : (keys : List NameKey) (attributes : List Attribute) → keys ≡ [] → repeats_behind same_name (map name_of keys) (map (λ a. a.name) attributes) ≡ repeats_name attributes
start-names keys attributes e = ap (λ l. repeats_behind same_name (map name_of l) (map (λ a. a.name) attributes)) e ∙ repeats_behind-none same_name same_name-turned (map (λ a. a.name) attributes) ∙ repeats-names attributes
