-- The table of a scope, after a binding and before it.
use Rattle.std.proofs.Common.{◌≡◌, ℕ, ◌+◌, ◌-◌, ◌<◌, ◌≤◌, List, [], ◌∷◌, ◌++◌, length, drop, reverse, get_or, bytes_eq, string_bytes, Bool, true, false, cond, Option, Some, None, is_some, refl, sym, ap, subst, ◌∙◌, append_assoc, arith}
use Rattle.std.specs.Prelude.{String, slice_get, IsSome}
use Rattle.std.specs.Map.{update}
use Rattle.std.specs.String.{string_eq}
use Rattle.std.proofs.lemmas.List.{length-append, length-reverse, length-drop, reverse-append, reverse-reverse, get_or_push, drop-drop}
use Rattle.std.proofs.lemmas.Map.Text.{hash_map_updates_text}
use Rattle.std.proofs.lemmas.Option.{slice_get_read, slice_get_within, get_or_from_slice_get}
use Rattle.std.proofs.lemmas.Slice.Eq.{bytes_eq-Decides}
use Rattle.std.specs.HashMap.{HashMap, get_by_text, UpdatesBy}
use Rattle.xs_names.proofs.NumberingLaws.{slice_get-Begins}
use Rattle.tree_rows.specs.declared.row.Binding.{Binding}
use Rattle.tag_names.specs.Scopes.{of_prefix}
use Rattle.tag_names.specs.Tables.{bindings_of, place_of, IsTable}
use Rattle.tag_names.specs.declared.prefixes.Entry.{Entry}

reverse-push : {X : Type 0} (xs : List X) (x : X) → reverse (xs ++ x ∷ []) ≡ x ∷ reverse xs
reverse-push xs x = reverse-append xs (x ∷ [])

reversed-last : (items kept : List Entry) (e : Entry) → items ≡ kept ++ e ∷ [] → reverse items ≡ e ∷ reverse kept
reversed-last items kept e g = ap reverse g ∙ reverse-push kept e

-- the entry at the place of a prefix is its latest binding
at_place : (entries : List Entry) (prefix : List ℕ) (i : ℕ) → place_of entries prefix ≡ Some i
    → (e : Entry) × (slice_get (reverse entries) i ≡ Some e) × (of_prefix (bindings_of entries) prefix ≡ Some e.binding.namespace)
at_place [] prefix i p = cc
at_place (e ∷ older) prefix i p = by (bytes_eq e.binding.prefix prefix) refl (at_place older prefix i)
  where
    Found : List Entry → Type 0
    Found es = (x : Entry) × (slice_get (reverse es) i ≡ Some x) × (of_prefix (bindings_of es) prefix ≡ Some x.binding.namespace)

    behind : reverse (e ∷ older) ≡ reverse older ++ e ∷ []
    behind = reverse-append (e ∷ []) older

    by : (r : Bool) → bytes_eq e.binding.prefix prefix ≡ r
        → (place_of older prefix ≡ Some i → (x : Entry) × (slice_get (reverse older) i ≡ Some x) × (of_prefix (bindings_of older) prefix ≡ Some x.binding.namespace))
        → (x : Entry) × (slice_get (reverse (e ∷ older)) i ≡ Some x) × (of_prefix (bindings_of (e ∷ older)) prefix ≡ Some x.binding.namespace)
    by true t rest =
        let here : Some (length older) ≡ Some i = rw t at p in
        let is_last : i ≡ length older = cc in
        let long : length (reverse older) ≡ i = length-reverse older ∙ sym is_last in
        let all : length (reverse older ++ e ∷ []) ≡ length (reverse older) + 1 = length-append (reverse older) (e ∷ []) in
        (e, ap (λ l. slice_get l i) behind ∙ slice_get_read (reverse older ++ e ∷ []) (length (reverse older) + 1) i e (sym all) (omega (arith, long)) (sym (get_or_push (reverse older) e e i long)), rw t refl)
    by false t rest =
        let f = rest (rw t at p) in
        (f.0, slice_get-Begins (reverse older) (reverse (e ∷ older)) (e ∷ [], behind) i f.0 f.1, rw t f.2)

of_prefix-no_place : (entries : List Entry) (prefix : List ℕ) → place_of entries prefix ≡ None → of_prefix (bindings_of entries) prefix ≡ None
of_prefix-no_place [] prefix p = refl
of_prefix-no_place (e ∷ older) prefix p = by (bytes_eq e.binding.prefix prefix) refl (of_prefix-no_place older prefix)
  where
    by : (r : Bool) → bytes_eq e.binding.prefix prefix ≡ r → (place_of older prefix ≡ None → of_prefix (bindings_of older) prefix ≡ None) → of_prefix (bindings_of (e ∷ older)) prefix ≡ None
    by true t rest = let here : Some (length older) ≡ None = rw t at p in cc
    by false t rest = rw t (rest (rw t at p))

module _ {Z S : Type 0} where
  -- a look-up
  pub within-place : (items : List Entry) (latest : HashMap (String Z) ℕ S) (prefix : List ℕ) (i : ℕ) → IsTable (reverse items) latest → Some i ≡ get_by_text latest prefix → i < length items
  within-place items latest prefix i t e =
      let f = at_place (reverse items) prefix i (sym (e ∙ t.places prefix)) in
      slice_get_within items i f.0 (ap (λ l. slice_get l i) (sym (reverse-reverse items)) ∙ f.1)

  pub of_prefix-place : (items : List Entry) (latest : HashMap (String Z) ℕ S) (prefix : List ℕ) (i : ℕ) (x : Entry) → IsTable (reverse items) latest → Some i ≡ get_by_text latest prefix
      → x ≡ get_or items i x → Some x.binding.namespace ≡ of_prefix (bindings_of (reverse items)) prefix
  of_prefix-place items latest prefix i x t e at_i =
      let f = at_place (reverse items) prefix i (sym (e ∙ t.places prefix)) in
      let same : x ≡ f.0 = at_i ∙ get_or_from_slice_get items i f.0 x (ap (λ l. slice_get l i) (sym (reverse-reverse items)) ∙ f.1) in
      ap (λ y. Some y.binding.namespace) same ∙ sym f.2

  pub of_prefix-unbound : (items : List Entry) (latest : HashMap (String Z) ℕ S) (prefix : List ℕ) → IsTable (reverse items) latest → None ≡ get_by_text latest prefix
      → None ≡ of_prefix (bindings_of (reverse items)) prefix
  of_prefix-unbound items latest prefix t e = sym (of_prefix-no_place (reverse items) prefix (sym (e ∙ t.places prefix)))

  -- one more binding
  pushed : (entries : List Entry) (old new : HashMap (String Z) ℕ S) (e : Entry) → IsTable entries old → e.hidden ≡ get_by_text old e.binding.prefix
      → ((p : List ℕ) → get_by_text new p ≡ update bytes_eq (get_by_text old) e.binding.prefix (Some (length entries)) p) → IsTable (e ∷ entries) new
  pushed entries old new e t hidden updates = record {
    places = λ p. updates p ∙ ap (λ r. cond (bytes_eq e.binding.prefix p) (Some (length entries)) r) (t.places p);
    hides = (hidden ∙ t.places e.binding.prefix, t.hides);
  }

  pub IsTable-bound : (items grown : List Entry) (e : Entry) (old new : HashMap (String Z) ℕ S) (prefix : List ℕ) (place : ℕ) → IsTable (reverse items) old → grown ≡ items ++ e ∷ []
      → e.hidden ≡ get_by_text old e.binding.prefix → prefix ≡ e.binding.prefix → place ≡ length items
      → UpdatesBy string_eq (λ k. bytes_eq prefix (string_bytes k)) old new (Some place) → IsTable (reverse grown) new
  IsTable-bound items grown e old new prefix place t g hidden is_prefix is_place h =
      let updates : (p : List ℕ) → get_by_text new p ≡ update bytes_eq (get_by_text old) prefix (Some place) p = hash_map_updates_text prefix old new (Some place) h in
      let wanted : (p : List ℕ) → get_by_text new p ≡ update bytes_eq (get_by_text old) e.binding.prefix (Some (length (reverse items))) p =
      λ p. updates p ∙ ap (λ q. update bytes_eq (get_by_text old) q (Some place) p) is_prefix ∙ ap (λ n. update bytes_eq (get_by_text old) e.binding.prefix (Some n) p) (is_place ∙ sym (length-reverse items)) in
      subst (λ l. IsTable l new) (sym (ap reverse g ∙ reverse-push items e)) (pushed (reverse items) old new e t hidden wanted)

  -- one binding fewer
  popped : (entries : List Entry) (old new : HashMap (String Z) ℕ S) (e : Entry) → IsTable (e ∷ entries) old
      → ((p : List ℕ) → get_by_text new p ≡ update bytes_eq (get_by_text old) e.binding.prefix e.hidden p) → IsTable entries new
  popped entries old new e t updates = record { places = λ p. updates p ∙ by p (bytes_eq e.binding.prefix p) refl (t.places p); hides = t.hides.1 }
    where
      by : (p : List ℕ) (r : Bool) → bytes_eq e.binding.prefix p ≡ r → get_by_text old p ≡ place_of (e ∷ entries) p → update bytes_eq (get_by_text old) e.binding.prefix e.hidden p ≡ place_of entries p
      by p true s f = let same : e.binding.prefix ≡ p = (bytes_eq-Decides e.binding.prefix p).0 s in rw s (t.hides.0 ∙ ap (place_of entries) same)
      by p false s f = rw s (rw s at f)

  pub IsTable-unbound : (items kept : List Entry) (e : Entry) (old new : HashMap (String Z) ℕ S) (prefix : List ℕ) → IsTable (reverse items) old → items ≡ kept ++ e ∷ [] → prefix ≡ e.binding.prefix
      → ((p : List ℕ) → get_by_text new p ≡ update bytes_eq (get_by_text old) prefix e.hidden p) → IsTable (reverse kept) new
  IsTable-unbound items kept e old new prefix t g is_prefix updates =
      popped (reverse kept) old new e (subst (λ l. IsTable l old) (reversed-last items kept e g) t)
      (λ p. updates p ∙ ap (λ q. update bytes_eq (get_by_text old) q e.hidden p) is_prefix)

  -- the prefix of the latest binding has a place
  pub latest-known : (items kept : List Entry) (e : Entry) (old : HashMap (String Z) ℕ S) (prefix : List ℕ) → IsTable (reverse items) old → items ≡ kept ++ e ∷ [] → prefix ≡ e.binding.prefix
      → IsSome (get_by_text old prefix)
  latest-known items kept e old prefix t g is_prefix =
      let same : bytes_eq e.binding.prefix prefix ≡ true = (bytes_eq-Decides e.binding.prefix prefix).1 (sym is_prefix) in
      let here : place_of (e ∷ reverse kept) prefix ≡ Some (length (reverse kept)) = rw same refl in
      ap is_some (t.places prefix ∙ ap (λ l. place_of l prefix) (reversed-last items kept e g) ∙ here)

-- copies bound from the last to the first
pub bound-more : (left before : List Binding) (last copy : Binding) (now new all : List Binding) → left ≡ before ++ last ∷ [] → copy ≡ last → new ≡ copy ∷ now → left ++ now ≡ all → before ++ new ≡ all
bound-more left before last copy now new all split copied bound so_far =
    ap (λ l. before ++ l) (bound ∙ ap (λ b. b ∷ now) copied) ∙ sym (append_assoc before (last ∷ []) now) ∙ ap (λ l. l ++ now) (sym split) ∙ so_far

-- one binding more is taken away
pub truncate-more : (now new old : List Binding) (len gone n : ℕ) → gone ≤ length old - len → now ≡ drop gone old → len < n → n ≡ length now → new ≡ drop 1 now
    → (gone + 1 ≤ length old - len) × (new ≡ drop (gone + 1) old)
truncate-more now new old len gone n le e lt long one =
    (omega (arith, length-drop gone old, ap length e), one ∙ ap (drop 1) e ∙ drop-drop 1 gone old)

-- the table after the latest binding of the prefix was taken out or written over
pub restored : {Z S : Type 0} (old new : HashMap (String Z) ℕ S) (prefix : List ℕ) (hidden given : Option ℕ) → given ≡ hidden → UpdatesBy string_eq (λ k. bytes_eq prefix (string_bytes k)) old new hidden
    → (other : List ℕ) → get_by_text new other ≡ update bytes_eq (get_by_text old) prefix given other
restored old new prefix hidden given e h other = hash_map_updates_text prefix old new hidden h other ∙ ap (λ w. update bytes_eq (get_by_text old) prefix w other) (sym e)
