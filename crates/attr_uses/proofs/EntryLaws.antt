-- The entry of a name among the uses of two lists.
use Rattle.std.proofs.Common.{◌≡◌, ℕ, ◌+◌, suc, Bool, true, false, ◌&&◌, ◌||◌, not, nat_eq, List, [], ◌∷◌, ◌++◌, Option, None, Some, filter, length, take, get_or, ◌<◌, refl, sym, ap, ◌∙◌, arith}
use Rattle.std.specs.Prelude.{if◌then◌else◌}
use Rattle.std.specs.List.{list_any}
use Rattle.std.specs.Option.{is_some, option_map}
use Rattle.std.proofs.lemmas.Option.{same_Some, none-some}
use Rattle.std.proofs.lemmas.Bool.{or_parts, or_from, true≢false, eqb-true}
use Rattle.std.proofs.lemmas.Bool.Decides.{nat_tests}
use Rattle.std.proofs.lemmas.List.{append-nil, take_more, length-take-le}
use Rattle.std.proofs.lemmas.List.Elements.{filter-append}
use Rattle.std.proofs.lemmas.List.Folds.{list_any-append}
use Rattle.std.proofs.lemmas.Map.Views.{any-filter_same}
use Rattle.xs_components.specs.Tables.{Tables}
use Rattle.xs_components.specs.declared.attribute.AttrUse.{AttrUse}
use Rattle.attr_uses.specs.Entries.{same_use, joined}
use Rattle.attr_uses.specs.declared.entry.Entry.{Entry}
use Rattle.attr_uses.specs.declared.entry.UseAt.{UseAt}
use Rattle.attr_uses.specs.declared.entry.UseHolder.{UseHolder}
use Rattle.attr_uses.specs.declared.join.Join.TheVariants.{Union, Override, Without}
use Rattle.attr_uses.proofs.MapLaws.{same_use-itself}
use Rattle.attr_uses.specs.Written.{use_name, is_name, has_name, places, united_uses}
use Rattle.attr_uses.specs.Uses.{AttrUses, name_among, is_listed, is_left, restricted_uses}
use Rattle.attr_uses.specs.Tables.{is_needed, is_id, entry_of, entry_for}
use Rattle.attr_uses.specs.inside.Kept.{entry_alone, named_entry}
use Rattle.attr_uses.proofs.UseLaws.{same_use-is, filters-swap, filter-all, filters-const}

abbrev differs : UseAt → UseAt → Bool
differs u v = not (same_use u v)

doubles : (a b b' n : Bool) → (n ≡ false → b' ≡ b) → (a || (n || b')) ≡ ((a || b) || n)
doubles true b b' n h = refl
doubles false b b' true h = sym (or_true b)
  where
    or_true : (b : Bool) → (b || true) ≡ true
    or_true true = refl
    or_true false = refl
doubles false b b' false h = h refl ∙ sym (or_false b)
  where
    or_false : (b : Bool) → (b || false) ≡ b
    or_false true = refl
    or_false false = refl

not-false' : (b : Bool) → not b ≡ false → b ≡ true
not-false' true e = refl
not-false' false e = absurd (true≢false e)

module _ (t : Tables) (ids : List Bool) where
  abbrev with_double : UseAt → Bool → Option Entry
  with_double u double = Some record { first = u; double = double; needed = is_needed t u; id = is_id t ids u }

  pub entry-append : (xs ys : List UseAt) → entry_of t ids (xs ++ ys) ≡ joined Union (entry_of t ids xs) (entry_of t ids ys)
  entry-append [] ys = refl
  entry-append (x ∷ xs) [] = ap (entry_of t ids) (append-nil (x ∷ xs))
  entry-append (x ∷ xs) (y ∷ ys) =
      ap (with_double x) (list_any-append (differs x) xs (y ∷ ys) ∙
      doubles (list_any (differs x) xs) (list_any (differs y) ys) (list_any (differs x) ys) (differs x y) (λ e. ap (λ u. list_any (differs u) ys) (same_use-is x y (not-false' (same_use x y) e))))

  -- uses of which none is another than one are that one
  none-among : (x y : UseAt) (xs : List UseAt) → list_any (differs x) xs ≡ false → same_use y x ≡ false → list_any (same_use y) xs ≡ false
  none-among x y [] a e = refl
  none-among x y (z ∷ zs) a e =
      let parts = or_parts (differs x z) (list_any (differs x) zs) a in
      let same = same_use-is x z (not-false' (same_use x z) parts.0) in
      or_from (same_use y z) (list_any (same_use y) zs) (ap (same_use y) (sym same) ∙ e) (none-among x y zs parts.1 e)

  -- what is left of other uses differs as they do
  module _ (x : UseAt) (xs : List UseAt) (alike : list_any (differs x) xs ≡ false) where
    abbrev is_new : UseAt → Bool
    is_new u = not (list_any (same_use u) (x ∷ xs))

    left-differs : (ys : List UseAt) → list_any (differs x) (filter is_new ys) ≡ list_any (differs x) ys
    left-differs [] = refl
    left-differs (y ∷ ys) = of (left-differs ys) (same_use y x) refl (is_new y) refl
      where
        of : list_any (differs x) (filter is_new ys) ≡ list_any (differs x) ys → (s : Bool) → same_use y x ≡ s → (n : Bool) → is_new y ≡ n → list_any (differs x) (if n then y ∷ filter is_new ys else filter is_new ys) ≡ (differs x y || list_any (differs x) ys)
        of rest true s true n = ap (λ b. differs x y || b) rest
        of rest true s false n =
            let same = same_use-is y x s in
            let not-other : differs x y ≡ false = ap (λ u. not (same_use x u)) same ∙ ap not (same_use-itself x) in
            rest ∙ sym (ap (λ b. b || list_any (differs x) ys) not-other)
        of rest false s true n = ap (λ b. differs x y || b) rest
        of rest false s false n = absurd (true≢false (sym (ap not (or_from (same_use y x) (list_any (same_use y) xs) s (none-among x y xs alike s))) ∙ n))

  -- the uses of one name, and those of others that are new
  pub entry-new : (xs ys : List UseAt) → entry_of t ids (xs ++ filter (λ u. not (list_any (same_use u) xs)) ys) ≡ joined Union (entry_of t ids xs) (entry_of t ids ys)
  entry-new [] ys = ap (entry_of t ids) (filter-all (λ u. true) (λ u. refl) ys)
  entry-new (x ∷ xs) ys =
      ap (with_double x) (list_any-append (differs x) xs (filter (λ u. not (list_any (same_use u) (x ∷ xs))) ys) ∙
      (of (list_any (differs x) xs) refl ∙ sym (list_any-append (differs x) xs ys))) ∙
      entry-append (x ∷ xs) ys
    where
      of : (b : Bool) → list_any (differs x) xs ≡ b → (list_any (differs x) xs || list_any (differs x) (filter (λ u. not (list_any (same_use u) (x ∷ xs))) ys)) ≡ (list_any (differs x) xs || list_any (differs x) ys)
      of true e = rw e refl
      of false e = ap (λ d. list_any (differs x) xs || d) (left-differs x xs e ys)

  -- one use more, and uses of another list
  pub entry-united : (a b : List UseAt) (name : ℕ) → entry_for t ids (united_uses a b) name ≡ joined Union (entry_for t ids a name) (entry_for t ids b name)
  entry-united a b name =
      let h = has_name t name in
      ap (entry_of t ids) (filter-append h a (filter (λ u. not (list_any (same_use u) a)) b) ∙
      ap (λ us. filter h a ++ us) (filters-swap h (λ u. not (list_any (same_use u) a)) (λ u. not (list_any (same_use u) (filter h a))) (λ u e. ap not (among u e)) b)) ∙
      entry-new (filter h a) (filter h b)
    where
      among : (u : UseAt) → has_name t name u ≡ true → list_any (same_use u) a ≡ list_any (same_use u) (filter (has_name t name) a)
      among u e = sym (any-filter_same (same_use u) (has_name t name) true (λ v s. ap (has_name t name) (sym (same_use-is u v s)) ∙ e) a)

  named-some : (o : Option ℕ) (name : ℕ) → is_name o name ≡ true → o ≡ Some name
  named-some None name e = absurd (true≢false (sym e))
  named-some (Some own) name e = ap Some (eqb-true own name e)

  any-some : (h : UseAt → Bool) (us : List UseAt) → list_any h us ≡ is_some (entry_of t ids (filter h us))
  any-some h [] = refl
  any-some h (u ∷ us) = of (any-some h us) (h u)
    where
      of : list_any h us ≡ is_some (entry_of t ids (filter h us)) → (b : Bool) → (b || list_any h us) ≡ is_some (entry_of t ids (if b then u ∷ filter h us else filter h us))
      of rest true = refl
      of rest false = rest

  overridden : (xs ys : List UseAt) (p : Option Entry) (k l : Bool) → k ≡ is_some (entry_of t ids xs) → l ≡ is_some p →
      entry_of t ids (xs ++ (if not k && not l then ys else [])) ≡ joined Override (entry_of t ids xs) (joined Without p (entry_of t ids ys))
  overridden [] ys None k l e f = rw (e, f) refl
  overridden [] ys (Some m) k l e f = rw (e, f) (gone (entry_of t ids ys))
    where
      gone : (o : Option Entry) → None ≡ joined Without (Some m) o
      gone None = refl
      gone (Some x) = refl
  overridden (x ∷ xs) ys p k l e f = rw e (ap (entry_of t ids) (append-nil (x ∷ xs)) ∙ first (joined Without p (entry_of t ids ys)))
    where
      first : (o : Option Entry) → entry_of t ids (x ∷ xs) ≡ joined Override (entry_of t ids (x ∷ xs)) o
      first None = refl
      first (Some m) = refl

  -- by restriction
  pub entry-restricted : (own base : AttrUses) (name : ℕ) (p : Option Entry) → is_some p ≡ is_listed own.prohibited (Some name) →
      entry_for t ids (restricted_uses t own base).uses name ≡ joined Override (entry_for t ids own.uses name) (joined Without p (entry_for t ids base.uses name))
  entry-restricted own base name p e =
      let h = has_name t name in
      let k = list_any h own.uses in
      let l = is_listed own.prohibited (Some name) in
      ap (entry_of t ids) (filter-append h own.uses (filter (is_left t own) base.uses) ∙
      ap (λ us. filter h own.uses ++ us) (filters-const h (is_left t own) (not k && not l) left base.uses)) ∙
      overridden (filter h own.uses) (filter h base.uses) p k l (any-some h own.uses) (sym e)
    where
      left : (u : UseAt) → has_name t name u ≡ true → is_left t own u ≡ (not (list_any (has_name t name) own.uses) && not (is_listed own.prohibited (Some name)))
      left u e = ap (λ o. not (name_among t own.uses o) && not (is_listed own.prohibited o)) (named-some (use_name t u) name e)

  alone-of : (u : UseAt) → entry_of t ids (u ∷ []) ≡ Some (entry_alone t ids u)
  alone-of u = refl

  -- one use more
  pub entry-more : (us : List UseAt) (u : UseAt) (name : ℕ) → use_name t u ≡ Some name → (key : ℕ) →
      (if nat_eq key name then joined Union (entry_for t ids us key) (Some (entry_alone t ids u)) else entry_for t ids us key) ≡ entry_for t ids (us ++ u ∷ []) key
  entry-more us u name is key = sym (ap (entry_of t ids) (filter-append (has_name t key) us (u ∷ [])) ∙ of (nat_eq key name) (has_name t key u) (ap (λ o. is_name o key) is ∙ turned name key))
    where
      turned : (a b : ℕ) → nat_eq a b ≡ nat_eq b a
      turned a b = grind (arith, nat_tests)

      of : (b c : Bool) → c ≡ b → entry_of t ids (filter (has_name t key) us ++ (if c then u ∷ [] else [])) ≡ (if b then joined Union (entry_for t ids us key) (Some (entry_alone t ids u)) else entry_for t ids us key)
      of true true e = entry-append (filter (has_name t key) us) (u ∷ [])
      of true false e = absurd (true≢false (sym e))
      of false true e = absurd (true≢false e)
      of false false e = ap (entry_of t ids) (append-nil (filter (has_name t key) us))

  -- a use without a name
  pub entry-unnamed : (us : List UseAt) (u : UseAt) → use_name t u ≡ None → (key : ℕ) → entry_for t ids us key ≡ entry_for t ids (us ++ u ∷ []) key
  entry-unnamed us u is key =
      sym (ap (entry_of t ids) (filter-append (has_name t key) us (u ∷ []) ∙ (rw (ap (λ o. is_name o key) is) (append-nil (filter (has_name t key) us)))))

pub places-push : (holder : UseHolder) (i : ℕ) (us : List AttrUse) (u : AttrUse) → places holder i (us ++ u ∷ []) ≡ places holder i us ++ record { holder = holder; place = i + length us } ∷ []
places-push holder i [] u = let z : i ≡ i + 0 = omega arith in ap (λ (k : ℕ). record { holder = holder; place = k } ∷ []) z
places-push holder i (first ∷ us) u =
    let z : suc i + length us ≡ i + suc (length us) = omega arith in
    ap (λ xs. record { holder = holder; place = i } ∷ xs) (places-push holder (suc i) us u ∙ ap (λ (k : ℕ). places holder (suc i) us ++ record { holder = holder; place = k } ∷ []) z)

-- the entry of a use, and its name
module _ (t : Tables) (ids : List Bool) (u : UseAt) where
  pub entry-named : (name : ℕ) (e : Entry) → named_entry t ids u ≡ Some (name, e) → (use_name t u ≡ Some name) × (e ≡ entry_alone t ids u)
  entry-named name e is = of (use_name t u) is
    where
      of : (o : Option ℕ) → option_map {U = ℕ × Entry} (λ (n : ℕ). (n, entry_alone t ids u)) o ≡ Some (name, e) → (o ≡ Some name) × (e ≡ entry_alone t ids u)
      of None is = absurd (none-some (name, e) is)
      of (Some n) is = let same = same_Some (n, entry_alone t ids u) (name, e) is in (ap (λ p. Some p.0) same, sym (ap (λ p. p.1) same))

  pub entry-nameless : named_entry t ids u ≡ None → use_name t u ≡ None
  entry-nameless is = of (use_name t u) is
    where
      of : (o : Option ℕ) → option_map {U = ℕ × Entry} (λ (n : ℕ). (n, entry_alone t ids u)) o ≡ None → o ≡ None
      of None is = refl
      of (Some n) is = absurd (none-some (n, entry_alone t ids u) (sym is))

pub places-more : (holder : UseHolder) (xs : List AttrUse) (i : ℕ) (d : AttrUse) → i < length xs → places holder 0 (take i xs) ++ record { holder = holder; place = i } ∷ [] ≡ places holder 0 (take (i + 1) xs)
places-more holder xs i d within =
    let long : length (take i xs) ≡ i = length-take-le i xs (omega (arith, within)) in
    let many : i ≡ 0 + length (take i xs) = omega (arith, long) in
    ap (λ (k : ℕ). places holder 0 (take i xs) ++ record { holder = holder; place = k } ∷ []) many ∙
    sym (ap (places holder 0) (take_more xs i d within) ∙ places-push holder 0 (take i xs) (get_or xs i d))
