-- The attributes of an element that are written twice.
use Rattle.std.proofs.Common.{◌≡◌, inl, inr, ℕ, zero, suc, ◌+◌, ◌≤◌, List, [], ◌∷◌, length, insert, Bool, true, false, ◌||◌, Option, Some, None, refl, sym, ap, ◌∙◌, arith, subst}
use Rattle.std.specs.Prelude.{slice_get, if◌then◌else◌}
use Rattle.std.specs.List.{list_any}
use Rattle.std.proofs.lemmas.Bool.{or_parts, or_left, or_right, or_from, false≢true, true≢false}
use Rattle.std.proofs.lemmas.Option.{same_Some, none-some}
use Rattle.tree_rows.specs.Naming.{same_name}
use Rattle.tree_rows.specs.Whole.{repeats_name, IsNamespace, AreNamespaces, IsNamed}
use Rattle.tree_rows.specs.declared.name.Expanded.{Expanded}
use Rattle.tree_rows.specs.declared.row.Attribute.{Attribute}
use Rattle.tree_rows.specs.declared.row.Binding.{Binding}
use Rattle.tree_edits.specs.Changes.{has_name, set_in, unset_in}
use Rattle.tree_edits.proofs.Attributing.{same_name_is, same_name_own, set_named, unset_named, room_own}
use Rattle.tree_edits.specs.Sites.{value_of}
use Rattle.tree_edits.specs.Inverses.{written, IsAt, CanWrite}

abbrev attribute : Expanded → List ℕ → Attribute
attribute name value = record { name = name; value = value }

-- the value of a name
value_first : (name : Expanded) (a : Attribute) (more : List Attribute) → same_name a.name name ≡ true → value_of name (a ∷ more) ≡ Some a.value
value_first name a more e = ap (λ b. if b then Some a.value else value_of name more) e

value_later : (name : Expanded) (a : Attribute) (more : List Attribute) → same_name a.name name ≡ false → value_of name (a ∷ more) ≡ value_of name more
value_later name a more e = ap (λ b. if b then Some a.value else value_of name more) e

set_first : (name : Expanded) (value : List ℕ) (a : Attribute) (more : List Attribute) → same_name a.name name ≡ true → set_in name value (a ∷ more) ≡ attribute name value ∷ more
set_first name value a more e = ap (λ b. if b then attribute name value ∷ more else a ∷ set_in name value more) e

set_later : (name : Expanded) (value : List ℕ) (a : Attribute) (more : List Attribute) → same_name a.name name ≡ false → set_in name value (a ∷ more) ≡ a ∷ set_in name value more
set_later name value a more e = ap (λ b. if b then attribute name value ∷ more else a ∷ set_in name value more) e

unset_first : (name : Expanded) (a : Attribute) (more : List Attribute) → same_name a.name name ≡ true → unset_in name (a ∷ more) ≡ more
unset_first name a more e = ap (λ b. if b then more else a ∷ unset_in name more) e

unset_later : (name : Expanded) (a : Attribute) (more : List Attribute) → same_name a.name name ≡ false → unset_in name (a ∷ more) ≡ a ∷ unset_in name more
unset_later name a more e = ap (λ b. if b then more else a ∷ unset_in name more) e

pub value_none : (name : Expanded) (xs : List Attribute) → has_name name xs ≡ false → value_of name xs ≡ None
value_none name [] h = refl
value_none name (a ∷ more) h = let z = or_parts (same_name a.name name) (has_name name more) h in value_later name a more z.0 ∙ value_none name more z.1

-- an attribute at a place
pub at_has : (name : Expanded) (place : ℕ) (xs : List Attribute) → IsAt name place xs → has_name name xs ≡ true
at_has name place [] at = absurd (none-some (attribute name at.0) at.1)
at_has name zero (a ∷ more) at = or_left (same_name a.name name) (has_name name more) (ap (λ (b : Attribute). same_name b.name name) (same_Some a (attribute name at.0) at.1) ∙ same_name_own name)
at_has name (suc place) (a ∷ more) at = or_right (same_name a.name name) (has_name name more) (at_has name place more at)

has_same : (name : Expanded) (xs : List Attribute) → (list_any (λ (other : Attribute). same_name name other.name) xs ≡ false) → has_name name xs ≡ false
has_same name [] h = refl
has_same name (a ∷ more) h =
    let z = or_parts (same_name name a.name) (list_any (λ (other : Attribute). same_name name other.name) more) h in
    or_from (same_name a.name name) (has_name name more) (by (same_name a.name name) refl z.0) (has_same name more z.1)
  where
    by : (b : Bool) → same_name a.name name ≡ b → same_name name a.name ≡ false → same_name a.name name ≡ false
    by true e k = absurd (true≢false (sym (ap (λ n. same_name name n) (same_name_is a.name name e) ∙ same_name_own name) ∙ k))
    by false e k = e

-- where names differ, the attribute of a name is the one at its place
pub record AtPlace (name : Expanded) (place : ℕ) (xs : List Attribute) : Type 0 where
  pub value : List ℕ
  pub value_is : value_of name xs ≡ Some value
  pub again : insert (unset_in name xs) place (attribute name value) ≡ xs
  pub lacks : has_name name (unset_in name xs) ≡ false
  pub size : length xs ≡ length (unset_in name xs) + 1
  pub within : place ≤ length (unset_in name xs)

pub at_place : (name : Expanded) (place : ℕ) (xs : List Attribute) → repeats_name xs ≡ false → IsAt name place xs → AtPlace name place xs
at_place name place [] r at = absurd (none-some (attribute name at.0) at.1)
at_place name zero (a ∷ more) r at =
    let is = same_Some a (attribute name at.0) at.1 in
    let own : same_name a.name name ≡ true = ap (λ (b : Attribute). same_name b.name name) is ∙ same_name_own name in
    let z = or_parts (list_any (λ (other : Attribute). same_name a.name other.name) more) (repeats_name more) r in
    let u = unset_first name a more own in
    record {
      value = at.0;
      value_is = value_first name a more own ∙ ap (λ (b : Attribute). Some b.value) is;
      again = ap (λ l. insert l 0 (attribute name at.0)) u ∙ ap (λ b. b ∷ more) (sym is);
      lacks = ap (has_name name) u ∙ has_same name more (subst (λ n. list_any (λ (other : Attribute). same_name n other.name) more ≡ false) (ap (λ (b : Attribute). b.name) is) z.0);
      size = (let e = ap length u in omega (arith, e));
      within = omega arith;
    }
at_place name (suc place) (a ∷ more) r at =
    let z = or_parts (list_any (λ (other : Attribute). same_name a.name other.name) more) (repeats_name more) r in
    let i = at_place name place more z.1 at in
    let far : same_name a.name name ≡ false = by (same_name a.name name) refl z.0 in
    let u = unset_later name a more far in
    record {
      value = i.value;
      value_is = value_later name a more far ∙ i.value_is;
      again = ap (λ l. insert l (suc place) (attribute name i.value)) u ∙ ap (λ l. a ∷ l) i.again;
      lacks = ap (has_name name) u ∙ or_from (same_name a.name name) (has_name name (unset_in name more)) far i.lacks;
      size = (let e = ap length u in let s = i.size in omega (arith, e, s));
      within = (let e = ap length u in let s = i.within in omega (arith, e, s));
    }
  where
    flipped : (xs : List Attribute) → (key : Expanded) → list_any (λ (other : Attribute). same_name key other.name) xs ≡ false → key ≡ name → has_name name xs ≡ false
    flipped xs key h e = has_same name xs (subst (λ n. list_any (λ (other : Attribute). same_name n other.name) xs ≡ false) e h)

    by : (b : Bool) → same_name a.name name ≡ b → list_any (λ (other : Attribute). same_name a.name other.name) more ≡ false → same_name a.name name ≡ false
    by true e k = absurd (true≢false (sym (at_has name place more at) ∙ flipped more a.name k (same_name_is a.name name e)))
    by false e k = e

-- a value that is set twice
pub record SetTwice (name : Expanded) (value : List ℕ) (xs : List Attribute) : Type 0 where
  pub old : List ℕ
  pub value_is : value_of name xs ≡ Some old
  pub again : set_in name old (set_in name value xs) ≡ xs
  pub has : has_name name (set_in name value xs) ≡ true
  pub size : length (set_in name value xs) ≡ length xs

pub set_twice : (name : Expanded) (value : List ℕ) (xs : List Attribute) → has_name name xs ≡ true → SetTwice name value xs
set_twice name value [] h = absurd (false≢true h)
set_twice name value (a ∷ more) h = by (set_twice name value more) (same_name a.name name) refl h
  where
    by : (has_name name more ≡ true → SetTwice name value more) → (b : Bool) → same_name a.name name ≡ b → (same_name a.name name || has_name name more) ≡ true → SetTwice name value (a ∷ more)
    by rest true e k =
        let s = set_first name value a more e in
        let own = same_name_own name in
        record {
          old = a.value;
          value_is = value_first name a more e;
          again = ap (set_in name a.value) s ∙ set_first name a.value (attribute name value) more own ∙ ap (λ n. attribute n a.value ∷ more) (sym (same_name_is a.name name e));
          has = ap (has_name name) s ∙ or_left (same_name name name) (has_name name more) own;
          size = ap length s;
        }
    by rest false e k =
        let s = set_later name value a more e in
        let i = rest (sym (ap (λ b. b || has_name name more) e) ∙ k) in
        record {
          old = i.old;
          value_is = value_later name a more e ∙ i.value_is;
          again = ap (set_in name i.old) s ∙ set_later name i.old a (set_in name value more) e ∙ ap (λ l. a ∷ l) i.again;
          has = ap (has_name name) s ∙ or_right (same_name a.name name) (has_name name (set_in name value more)) i.has;
          size = ap length s ∙ ap suc i.size;
        }

-- the place stays
pub set_at : (name : Expanded) (value : List ℕ) (place : ℕ) (xs : List Attribute) → repeats_name xs ≡ false → IsAt name place xs → IsAt name place (set_in name value xs)
set_at name value place [] r at = absurd (none-some (attribute name at.0) at.1)
set_at name value zero (a ∷ more) r at =
    let own : same_name a.name name ≡ true = ap (λ (b : Attribute). same_name b.name name) (same_Some a (attribute name at.0) at.1) ∙ same_name_own name in
    (value, ap (λ l. slice_get l 0) (set_first name value a more own))
set_at name value (suc place) (a ∷ more) r at =
    by (set_at name value place more (or_parts (list_any (λ (other : Attribute). same_name a.name other.name) more) (repeats_name more) r).1 at) (same_name a.name name) refl
  where
    by : IsAt name place (set_in name value more) → (b : Bool) → same_name a.name name ≡ b → IsAt name (suc place) (set_in name value (a ∷ more))
    by i true e = (at.0, ap (λ l. slice_get l (suc place)) (set_first name value a more e) ∙ at.1)
    by i false e = (i.0, ap (λ l. slice_get l (suc place)) (set_later name value a more e) ∙ i.1)

-- one more, at a place
pub put_unset : (name : Expanded) (value : List ℕ) (place : ℕ) (xs : List Attribute) → has_name name xs ≡ false → unset_in name (insert xs place (attribute name value)) ≡ xs
put_unset name value zero [] h = unset_first name (attribute name value) [] (same_name_own name)
put_unset name value (suc place) [] h = unset_first name (attribute name value) [] (same_name_own name)
put_unset name value zero (a ∷ more) h = unset_first name (attribute name value) (a ∷ more) (same_name_own name)
put_unset name value (suc place) (a ∷ more) h =
    let z = or_parts (same_name a.name name) (has_name name more) h in
    unset_later name a (insert more place (attribute name value)) z.0 ∙ ap (λ l. a ∷ l) (put_unset name value place more z.1)

pub put_at : (name : Expanded) (value : List ℕ) (place : ℕ) (xs : List Attribute) → place ≤ length xs → slice_get (insert xs place (attribute name value)) place ≡ Some (attribute name value)
put_at name value zero [] l = refl
put_at name value (suc place) [] l = absurd (omega (arith, l))
put_at name value zero (a ∷ more) l = refl
put_at name value (suc place) (a ∷ more) l = put_at name value place more (omega (arith, l))

pub put_length : (name : Expanded) (value : List ℕ) (place : ℕ) (xs : List Attribute) → length (insert xs place (attribute name value)) ≡ length xs + 1
put_length name value zero [] = omega arith
put_length name value (suc place) [] = omega arith
put_length name value zero (a ∷ more) = omega arith
put_length name value (suc place) (a ∷ more) = let i = put_length name value place more in omega (arith, i)

any_put : (key name : Expanded) (value : List ℕ) (place : ℕ) (xs : List Attribute) → same_name key name ≡ false → list_any (λ (a : Attribute). same_name key a.name) xs ≡ false
    → list_any (λ (a : Attribute). same_name key a.name) (insert xs place (attribute name value)) ≡ false
any_put key name value zero [] n h = or_from (same_name key name) false n refl
any_put key name value (suc place) [] n h = or_from (same_name key name) false n refl
any_put key name value zero (a ∷ more) n h = or_from (same_name key name) (same_name key a.name || list_any (λ (b : Attribute). same_name key b.name) more) n h
any_put key name value (suc place) (a ∷ more) n h =
    let z = or_parts (same_name key a.name) (list_any (λ (b : Attribute). same_name key b.name) more) h in
    or_from (same_name key a.name) (list_any (λ (b : Attribute). same_name key b.name) (insert more place (attribute name value))) z.0 (any_put key name value place more n z.1)

lacks_any : (name : Expanded) (xs : List Attribute) → has_name name xs ≡ false → list_any (λ (a : Attribute). same_name name a.name) xs ≡ false
lacks_any name [] h = refl
lacks_any name (a ∷ more) h =
    let z = or_parts (same_name a.name name) (has_name name more) h in
    or_from (same_name name a.name) (list_any (λ (b : Attribute). same_name name b.name) more) (by (same_name name a.name) refl z.0) (lacks_any name more z.1)
  where
    by : (b : Bool) → same_name name a.name ≡ b → same_name a.name name ≡ false → same_name name a.name ≡ false
    by true e k = absurd (true≢false (sym (ap (λ n. same_name a.name n) (same_name_is name a.name e) ∙ same_name_own a.name) ∙ k))
    by false e k = e

names_put : (name : Expanded) (value : List ℕ) (place : ℕ) (xs : List Attribute) → has_name name xs ≡ false → repeats_name xs ≡ false → repeats_name (insert xs place (attribute name value)) ≡ false
names_put name value zero [] h r = refl
names_put name value (suc place) [] h r = refl
names_put name value zero (a ∷ more) h r = or_from (list_any (λ (other : Attribute). same_name name other.name) (a ∷ more)) (repeats_name (a ∷ more)) (lacks_any name (a ∷ more) h) r
names_put name value (suc place) (a ∷ more) h r =
    let z = or_parts (same_name a.name name) (has_name name more) h in
    let y = or_parts (list_any (λ (other : Attribute). same_name a.name other.name) more) (repeats_name more) r in
    or_from (list_any (λ (other : Attribute). same_name a.name other.name) (insert more place (attribute name value))) (repeats_name (insert more place (attribute name value)))
    (any_put a.name name value place more z.0 y.0) (names_put name value place more z.1 y.1)

namespaces_put : (name : Expanded) (value : List ℕ) (place : ℕ) (xs : List Attribute) → IsNamespace name.namespace → AreNamespaces xs → AreNamespaces (insert xs place (attribute name value))
namespaces_put name value zero [] n h = (n, tt)
namespaces_put name value (suc place) [] n h = (n, tt)
namespaces_put name value zero (a ∷ more) n h = (n, h)
namespaces_put name value (suc place) (a ∷ more) n h = (h.0, namespaces_put name value place more n h.1)

-- what is written twice is as it was
pub written_has : (name : Expanded) (place : ℕ) (value : List ℕ) (xs : List Attribute) → has_name name xs ≡ true → written name place (Some value) xs ≡ set_in name value xs
written_has name place value xs h = ap (λ b. if b then set_in name value xs else insert xs place (attribute name value)) h

pub written_lacks : (name : Expanded) (place : ℕ) (value : List ℕ) (xs : List Attribute) → has_name name xs ≡ false → written name place (Some value) xs ≡ insert xs place (attribute name value)
written_lacks name place value xs h = ap (λ b. if b then set_in name value xs else insert xs place (attribute name value)) h

pub written_back : (name : Expanded) (place : ℕ) (value : Option (List ℕ)) (xs : List Attribute) (bindings : List Binding) → repeats_name xs ≡ false → CanWrite name place value xs bindings
    → written name place (value_of name xs) (written name place value xs) ≡ xs
written_back name place None xs bindings r can =
    let a = at_place name place xs r can in
    ap (λ v. written name place v (unset_in name xs)) a.value_is ∙ written_lacks name place a.value (unset_in name xs) a.lacks ∙ a.again
written_back name place (Some value) xs bindings r (inl at) =
    let h = at_has name place xs at in
    let s = set_twice name value xs h in
    ap (written name place (value_of name xs)) (written_has name place value xs h)
    ∙ ap (λ v. written name place v (set_in name value xs)) s.value_is ∙ written_has name place s.old (set_in name value xs) s.has ∙ s.again
written_back name place (Some value) xs bindings r (inr room) =
    ap (written name place (value_of name xs)) (written_lacks name place value xs room.lacks)
    ∙ ap (λ v. written name place v (insert xs place (attribute name value))) (value_none name xs room.lacks)
    ∙ put_unset name value place xs room.lacks

-- the inverse can be written
pub can_write_back : (own name : Expanded) (place : ℕ) (value : Option (List ℕ)) (xs : List Attribute) (bindings : List Binding) → IsNamed own bindings xs → CanWrite name place value xs bindings
    → CanWrite name place (value_of name xs) (written name place value xs) bindings
can_write_back own name place None xs bindings n can =
    let a = at_place name place xs n.names can in
    subst (λ v. CanWrite name place v (unset_in name xs) bindings) (sym a.value_is)
    (inr (record { lacks = a.lacks; within = a.within; few = (let s = a.size in let f = n.few in omega (arith, s, f)) }))
can_write_back own name place (Some value) xs bindings n (inl at) =
    let h = at_has name place xs at in
    let s = set_twice name value xs h in
    subst (λ l. CanWrite name place (value_of name xs) l bindings) (sym (written_has name place value xs h))
    (subst (λ v. CanWrite name place v (set_in name value xs) bindings) (sym s.value_is) (inl (set_at name value place xs n.names at)))
can_write_back own name place (Some value) xs bindings n (inr room) =
    subst (λ l. CanWrite name place (value_of name xs) l bindings) (sym (written_lacks name place value xs room.lacks))
    (subst (λ v. CanWrite name place v (insert xs place (attribute name value)) bindings) (sym (value_none name xs room.lacks)) (value, put_at name value place xs room.within))

-- the names of the element stay in order
pub named_written : (own name : Expanded) (place : ℕ) (value : Option (List ℕ)) (xs : List Attribute) (bindings : List Binding) → IsNamespace name.namespace → IsNamed own bindings xs
    → CanWrite name place value xs bindings → IsNamed own bindings (written name place value xs)
named_written own name place None xs bindings space n can = unset_named own name bindings xs n
named_written own name place (Some value) xs bindings space n (inl at) =
    let h = at_has name place xs at in
    subst (IsNamed own bindings) (sym (written_has name place value xs h)) (set_named own name value bindings xs space (room_own name bindings xs h) n)
named_written own name place (Some value) xs bindings space n (inr room) =
    subst (IsNamed own bindings) (sym (written_lacks name place value xs room.lacks)) (record {
      namespace = n.namespace;
      namespaces = namespaces_put name value place xs space n.namespaces;
      prefixes = n.prefixes;
      names = names_put name value place xs room.lacks n.names;
      few = (let e = put_length name value place xs in let f = room.few in omega (arith, e, f));
    })
