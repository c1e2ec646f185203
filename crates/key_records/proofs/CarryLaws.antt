-- One change of a tuple, carried upwards.
use Rattle.std.proofs.Common.{◌≡◌, ◌≢◌, ℕ, ◌+◌, ◌*◌, ◌≤◌, ◌&&◌, Bool, true, false, nat_eq, if◌then◌else◌, List, Option, None, Some, Result, Ok, Err, refl, sym, ap, ◌∙◌, subst}
use Rattle.std.specs.Prelude.{OnOk}
use Rattle.simple_values.specs.declared.key.Key.{Key}
use Rattle.identity_tables.specs.KeyTables.{Tables, own_count, IsOneMoreTuple}
use Rattle.identity_constraints.specs.Counting.{Links, IsLinked, IsPending, IsTouched}
use Rattle.identity_constraints.proofs.Touching.{touched, told_same, told_root, told_up, one_bearer_more, one_bearer_less, can_fall, pending, settled}
use Rattle.key_records.specs.Tables.{same_key_tuple, for_key, own, said, AreParents, AreSettled, ArePending, HasSameOwn, IsOneMoreOwn, is_in_table}
use Rattle.key_records.specs.declared.carrying.Waiting.{Waiting}
use Rattle.key_records.proofs.CarriedEntryLaws.{decides, own_kept, own_more, said_more, said_others, said_kept, own_others}

module _ (t : Links) (i : IsLinked t) (old new : Tables) (at k : ℕ) (tuple : List Key) where
  abbrev Waits : Bool → Type 0
  Waits grows = IsPending same_key_tuple t (own old) (said old) (Some (record { at = at; what = for_key k tuple; grows = grows }))

  pub counted-more : (grows : Bool) → grows ≡ true → IsOneMoreTuple old new at (2 * k + 1) tuple → Waits grows →
      IsTouched same_key_tuple t (own new) (said new) at (for_key k tuple) (is_in_table old at (for_key k tuple))
  counted-more grows is grown waits =
      let c = one_bearer_more same_key_tuple decides t (own old) (said old) (said new) at (for_key k tuple) (said_more old new at k tuple grown) (said_others old new at k tuple grown) in
      touched same_key_tuple decides t i (own old) (said old) (own new) (said new) at (for_key k tuple) (Some (record { at = at; what = for_key k tuple; grows = true }))
      (record { own_others = λ m y off. own_kept old new at k tuple grown m y; said_others = c.said_others; here = c.here; quiet = c.quiet })
      (subst Waits is waits)

  pub counted-less : (grows : Bool) → grows ≡ false → IsOneMoreTuple new old at (2 * k + 1) tuple → Waits grows →
      IsTouched same_key_tuple t (own new) (said new) at (for_key k tuple) (is_in_table old at (for_key k tuple))
  counted-less grows is grown waits =
      let c = one_bearer_less same_key_tuple decides t (own old) (said old) (said new) at (for_key k tuple) (said_more new old at k tuple grown) (λ m y off. sym (said_others new old at k tuple grown m y off)) in
      touched same_key_tuple decides t i (own old) (said old) (own new) (said new) at (for_key k tuple) (Some (record { at = at; what = for_key k tuple; grows = false }))
      (record { own_others = λ m y off. sym (own_kept new old at k tuple grown m y); said_others = c.said_others; here = c.here; quiet = c.quiet })
      (subst Waits is waits)

  -- another own tuple of an element
  pub own-more : IsOneMoreTuple old new at (2 * k) tuple → AreSettled t old → IsTouched same_key_tuple t (own new) (said new) at (for_key k tuple) (is_in_table old at (for_key k tuple))
  own-more grown s =
      touched same_key_tuple decides t i (own old) (said old) (own new) (said new) at (for_key k tuple) None
      (record { own_others = own_others old new at k tuple grown; said_others = λ m y off. said_kept old new at k tuple grown m y; here = ap (λ n. n + 0) (said_kept old new at k tuple grown at (for_key k tuple)); quiet = λ m y off. (refl, refl) })
      (pending same_key_tuple decides t (own old) (said old) s)

  pub own-less : IsOneMoreTuple new old at (2 * k) tuple → AreSettled t old → IsTouched same_key_tuple t (own new) (said new) at (for_key k tuple) (is_in_table old at (for_key k tuple))
  own-less grown s =
      touched same_key_tuple decides t i (own old) (said old) (own new) (said new) at (for_key k tuple) None
      (record { own_others = λ m y off. sym (own_others new old at k tuple grown m y off); said_others = λ m y off. sym (said_kept new old at k tuple grown m y); here = ap (λ n. n + 0) (sym (said_kept new old at k tuple grown at (for_key k tuple))); quiet = λ m y off. (refl, refl) })
      (pending same_key_tuple decides t (own old) (said old) s)

-- a child element that is to be counted no more is counted
pub falls-there : (t : Links) (old : Tables) (at k : ℕ) (tuple : List Key) (grows : Bool) → grows ≡ false →
    IsPending same_key_tuple t (own old) (said old) (Some (record { at = at; what = for_key k tuple; grows = grows })) → 1 ≤ own_count old at (2 * k + 1) tuple
falls-there t old at k tuple grows is waits =
    can_fall same_key_tuple decides t (own old) (said old) at (for_key k tuple)
    (subst (λ g. IsPending same_key_tuple t (own old) (said old) (Some (record { at = at; what = for_key k tuple; grows = g }))) is waits)

module _ (t : Links) (tables : Tables) (n k : ℕ) (tuple : List Key) (was : Bool) (h : IsTouched same_key_tuple t (own tables) (said tables) n (for_key k tuple) was) where
  pub noted-same : is_in_table tables n (for_key k tuple) ≡ was → ArePending t k tuple tables None
  noted-same e = pending same_key_tuple decides t (own tables) (said tables) (told_same same_key_tuple decides t (own tables) (said tables) n (for_key k tuple) was h e)

  pub noted-root : t.parent n ≡ None → ArePending t k tuple tables None
  noted-root root = pending same_key_tuple decides t (own tables) (said tables) (told_root same_key_tuple decides t (own tables) (said tables) n (for_key k tuple) was h root)

  pub noted-up : (p : ℕ) (now : Bool) → t.parent n ≡ Some p → now ≡ is_in_table tables n (for_key k tuple) → now ≢ was → ArePending t k tuple tables (Some (record { at = p; grows = now }))
  noted-up p now up is off =
      subst (λ g. IsPending same_key_tuple t (own tables) (said tables) (Some (record { at = p; what = for_key k tuple; grows = g }))) (sym is)
      (told_up same_key_tuple decides t (own tables) (said tables) n (for_key k tuple) was h p up (λ e. off (is ∙ e)))

-- ---- what a call says where it does not fail

-- one child element more is counted
pub counted-more-ok : {X E : Type 0} (result : Result X E) (old new : Tables) (k : ℕ) (tuple made : List Key) (waiting : Waiting) → waiting.grows ≡ true → made ≡ tuple →
    OnOk result (IsOneMoreTuple old new waiting.at (2 * k + 1) made) →
    OnOk result ((t : Links) → IsLinked t → ArePending t k tuple old (Some waiting) → IsTouched same_key_tuple t (own new) (said new) waiting.at (for_key k tuple) (is_in_table old waiting.at (for_key k tuple)))
counted-more-ok (Ok x) old new k tuple made waiting grows cloned grown =
    λ t i waits. counted-more t i old new waiting.at k tuple waiting.grows grows (subst (IsOneMoreTuple old new waiting.at (2 * k + 1)) cloned grown) waits
counted-more-ok (Err e) old new k tuple made waiting grows cloned grown = tt

-- an own tuple more, and one less
module _ (t : Links) (i : IsLinked t) (old new : Tables) (at k : ℕ) (tuple : List Key) (was : Bool) (is : was ≡ is_in_table old at (for_key k tuple)) (s : AreSettled t old) where
  pub added : (made : List Key) → made ≡ tuple → IsOneMoreTuple old new at (2 * k) made → IsTouched same_key_tuple t (own new) (said new) at (for_key k tuple) was
  added made cloned grown =
      subst (IsTouched same_key_tuple t (own new) (said new) at (for_key k tuple)) (sym is) (own-more t i old new at k tuple (subst (IsOneMoreTuple old new at (2 * k)) cloned grown) s)

  pub dropped : IsOneMoreTuple new old at (2 * k) tuple → IsTouched same_key_tuple t (own new) (said new) at (for_key k tuple) was
  dropped grown = subst (IsTouched same_key_tuple t (own new) (said new) at (for_key k tuple)) (sym is) (own-less t i old new at k tuple grown s)

pub settled-ok : {X E : Type 0} (result : Result X E) (parents : List (Option ℕ)) (old middle new : Tables) (k : ℕ) (tuple : List Key) (waits : Option Waiting) →
    ((t : Links) → IsLinked t → AreParents t parents → AreSettled t old → ArePending t k tuple middle waits) →
    OnOk result ((t : Links) → IsLinked t → AreParents t parents → ArePending t k tuple middle waits → AreSettled t new) →
    OnOk result ((t : Links) → IsLinked t → AreParents t parents → AreSettled t old → AreSettled t new)
settled-ok (Ok x) parents old middle new k tuple waits first later = λ t i p s. later t i p (first t i p s)
settled-ok (Err e) parents old middle new k tuple waits first later = tt

pub own-more-ok : {X E : Type 0} (result : Result X E) (old middle new : Tables) (at k : ℕ) (tuple made : List Key) → made ≡ tuple → IsOneMoreTuple old middle at (2 * k) made →
    OnOk result (HasSameOwn middle new) → OnOk result (IsOneMoreOwn old new at k tuple)
own-more-ok (Ok x) old middle new at k tuple made cloned grown same = λ n y. same n y ∙ own_more old middle at k tuple (subst (IsOneMoreTuple old middle at (2 * k)) cloned grown) n y
own-more-ok (Err e) old middle new at k tuple made cloned grown same = tt

pub own-less-ok : {X E : Type 0} (result : Result X E) (old middle new : Tables) (at k : ℕ) (tuple : List Key) → IsOneMoreTuple middle old at (2 * k) tuple →
    OnOk result (HasSameOwn middle new) → OnOk result (IsOneMoreOwn new old at k tuple)
own-less-ok (Ok x) old middle new at k tuple grown same =
    λ n y. own_more middle old at k tuple grown n y ∙ ap (λ (m : ℕ). m + (if nat_eq at n && same_key_tuple (for_key k tuple) y then 1 else 0)) (sym (same n y))
own-less-ok (Err e) old middle new at k tuple grown same = tt

-- nothing waits
pub all-settled : (t : Links) (tables : Tables) (k : ℕ) (tuple : List Key) (waits : Option Waiting) → waits ≡ None → ArePending t k tuple tables waits → AreSettled t tables
all-settled t tables k tuple waits none p =
    settled same_key_tuple decides t (own tables) (said tables) (subst (λ (w : Option Waiting). ArePending t k tuple tables w) none p)
