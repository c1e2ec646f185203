-- Which elements a turn of a document leaves free.
use Rattle.std.proofs.Common.{◌≡◌, ◌≢◌, ◌⊎◌, ◌≤◌, ℕ, zero, suc, List, [], ◌∷◌, Option, None, Some, inl, inr, refl, sym, ap, ◌∙◌, subst, true, arith}
use Rattle.std.specs.Option.{option_and_then}
use Rattle.std.proofs.lemmas.Bool.{cases_eq}
use Rattle.std.proofs.lemmas.Option.{none-some, same_Some}
use Rattle.simple_types.proofs.Valid.{one-outcome}
use Rattle.elem_governing.specs.declared.pairs.Governing.{Governing}
use Rattle.identity_constraints.specs.Counting.{Has as KeyHas}
use Rattle.what_is_found.specs.Identity.{seen_element}
use Rattle.scope_targets.specs.Kin.{IsSameScope, Leaves}
use Rattle.compiled_schema.specs.Usable.{set_of}
use Rattle.compiled_schema.specs.declared.compiled.Compiled.{Compiled}
use Rattle.doc_nodes.specs.Nodes.{Nodes, IsSound, Has, node, depth_by, is_element_at, element_children}
use Rattle.doc_changes.specs.Held.{parent_at}
use Rattle.doc_changes.specs.Readers.{name_at}
use Rattle.child_lists.specs.from_kept_forgetting.Below.{IsWithin, upwards}
use Rattle.child_lists.specs.from_kept_records.Fit.{models_of}
use Rattle.child_lists.specs.from_kept_records.Slots.{entry_at, pair_at}
use Rattle.child_lists.specs.from_kept_state.KeptState.{KeptState}
use Rattle.child_lists.proofs.from_kept_forgetting.Walks.{below-within, child-below, self-within}
use Rattle.kept_targets.specs.Kept.{kin_of, sign_at}
use Rattle.kept_targets.specs.Moved.{IsLookedAt, IsMarked, constraints_by, IsLookedAt as looked}
use Rattle.kept_targets.specs.Turned.{Stays, Turns, own_of, list_of, lowest_of}
use Rattle.kept_targets.specs.Whole.{IsWhole}
use Rattle.kept_targets.specs.declared.keys.ElementSign.{ElementSign}
use Rattle.kept_targets.specs.declared.turn.Turn.{Turn}
use Rattle.kept_targets.specs.declared.turn.Turn.TheVariants as turns
use Rattle.kept_targets.proofs.Among.{has-or-not}
use Rattle.kept_targets.proofs.Links.{child-up, parent-lower}
use Rattle.kept_targets.proofs.Looking.{IsAsBefore, all-looked, as-before, child-stays, children-stay, fit-of, head-stays, made-of, names-stay, record-name, sign-is, sound, texts-stay, within-stays}
use Rattle.kept_targets.proofs.Staying.{turned-seen}

-- the own one of a turn is the lowest
own-lowest : (turn : Turn) (n : ℕ) → own_of turn ≡ Some n → lowest_of turn ≡ n
own-lowest (turns.Own m) n e = same_Some m n e
own-lowest (turns.Listed m) n e = same_Some m n e
own-lowest (turns.Gone p numbers) n e = absurd (none-some n e)

-- so many levels upwards and one more
up-more : (ns : Nodes) (n p m : ℕ) → parent_at ns n ≡ Some p → IsWithin ns m p → IsWithin ns m n
up-more ns n p m up within = (suc within.0, ap (option_and_then (upwards ns within.0)) up ∙ within.1)

-- the one whose child elements are others is at or above the lowest
list-above : (ns : Nodes) (turn : Turn) (n : ℕ) → list_of ns turn ≡ Some n → IsWithin ns n (lowest_of turn)
list-above ns (turns.Own m) n e = absurd (none-some n e)
list-above ns (turns.Listed m) n e = up-more ns m n n e (self-within ns n)
list-above ns (turns.Gone p numbers) n e = subst (IsWithin ns n) (sym (same_Some p n e)) (self-within ns n)

-- a number is another or above it, or is not
within-or-not : (ns : Nodes) → IsSound ns → (n levels m : ℕ) → depth_by (node ns m) ≤ levels → IsWithin ns n m ⊎ (¬ IsWithin ns n m)
within-or-not ns sound n zero m few = elim (cases_eq m n) [ inl e ↦ inl (0, ap Some e) | inr off ↦ by (parent_at ns m) refl off ]
  where
    alone : parent_at ns m ≡ None → m ≢ n → (up : ℕ) → upwards ns up m ≡ Some n → ⊥
    alone none off zero e = off (same_Some m n e)
    alone none off (suc more) e = none-some n (sym (ap (option_and_then (upwards ns more)) none) ∙ e)

    by : (o : Option ℕ) → parent_at ns m ≡ o → m ≢ n → IsWithin ns n m ⊎ (¬ IsWithin ns n m)
    by None none off = inr (λ w. alone none off w.0 w.1)
    by (Some p) up off = let deeper = parent-lower ns sound m p up in absurd (omega (arith, deeper, few))
within-or-not ns sound n (suc levels) m few =
    elim (cases_eq m n) [
      | inl e ↦ inl (0, ap Some e)
      | inr off ↦ by (parent_at ns m) refl off (λ p up. within-or-not ns sound n levels p (let deeper = parent-lower ns sound m p up in omega (arith, deeper, few)))
    ]
  where
    below : (p : ℕ) → parent_at ns m ≡ Some p → m ≢ n → ¬ IsWithin ns n p → (up : ℕ) → upwards ns up m ≡ Some n → ⊥
    below p up off none zero e = off (same_Some m n e)
    below p up off none (suc more) e = none (more, sym (ap (option_and_then (upwards ns more)) up) ∙ e)

    alone : parent_at ns m ≡ None → m ≢ n → (up : ℕ) → upwards ns up m ≡ Some n → ⊥
    alone none off zero e = off (same_Some m n e)
    alone none off (suc more) e = none-some n (sym (ap (option_and_then (upwards ns more)) none) ∙ e)

    by : (o : Option ℕ) → parent_at ns m ≡ o → m ≢ n → ((p : ℕ) → parent_at ns m ≡ Some p → IsWithin ns n p ⊎ (¬ IsWithin ns n p)) → IsWithin ns n m ⊎ (¬ IsWithin ns n m)
    by None none off on = inr (λ w. alone none off w.0 w.1)
    by (Some p) up off on = elim (on p up) [ inl w ↦ inl (up-more ns m p n up w) | inr none ↦ inr (λ w. below p up off none w.0 w.1) ]

module _ (c : Compiled) (ns ms : Nodes) (k l : KeptState) (turn : Turn) (old : IsWhole c ns k) (new : IsWhole c ms l) (turned : Turns ns ms turn)
    (was : ℕ → Option ElementSign) (signs : (n : ℕ) → was n ≡ sign_at k.records.slots n) (moved : List ℕ)
    (own : (n : ℕ) → own_of turn ≡ Some n → is_element_at ms n ≡ true → IsLookedAt c.parts ms l.records.slots was moved n)
    (marked : (p n : ℕ) → list_of ms turn ≡ Some p → own_of turn ≢ Some n → IsMarked c ms l p n → IsLookedAt c.parts ms l.records.slots was moved n)
    (only : (m : ℕ) → Has m moved → (is_element_at ms m ≡ true) × ((own_of turn ≡ Some m) ⊎ (((p : ℕ) × (list_of ms turn ≡ Some p) × Has m (element_children ms p)) ⊎ ((p : ℕ) × (parent_at ms m ≡ Some p) × Has p moved)))) where
  -- an element that stays, is not among the moved, and is neither the lowest of the turn nor above it
  pub record IsFree (n : ℕ) : Type 0 where
    pub stays : Stays ns ms n
    pub unmoved : ¬ Has n moved
    pub apart : ¬ IsWithin ms n (lowest_of turn)

  -- one that is as before as a scope and on ways
  pub record IsSame (n : ℕ) : Type 0 where
    pub stays : Stays ns ms n
    pub name : name_at ms n ≡ name_at ns n
    pub constraints : constraints_by c.parts (pair_at l.records.slots n).declaration ≡ constraints_by c.parts (pair_at k.records.slots n).declaration

  -- and all above it as well
  abbrev pub IsSteadyUp : ℕ → Type 0
  IsSteadyUp n = (m : ℕ) → IsWithin ms m n → IsSame m

  looks : (n : ℕ) → is_element_at ms n ≡ true → IsLookedAt c.parts ms l.records.slots was moved n
  looks = all-looked c ns ms k l turn old new turned was signs moved own marked

  free-before : (n : ℕ) → IsFree n → IsAsBefore c ns ms k l turn old new turned n
  free-before n free = by n free.unmoved free.stays.after (looks n free.stays.after)
    where
      by : (m : ℕ) → ¬ Has m moved → is_element_at ms m ≡ true → IsLookedAt c.parts ms l.records.slots was moved m → IsAsBefore c ns ms k l turn old new turned m
      by m out is (looked.same x e) = as-before c ns ms k l turn old new turned m is (sym (signs m) ∙ e)
      by m out is (looked.steady x a b has before after steady below) = absurd (out has)
      by m out is (looked.whole x all) = absurd (out (all m is (self-within ms m)))

  not-own : (n : ℕ) → IsFree n → own_of turn ≢ Some n
  not-own n free e = free.apart (subst (IsWithin ms n) (sym (own-lowest turn n e)) (self-within ms n))

  not-list : (n : ℕ) → IsFree n → list_of ms turn ≢ Some n
  not-list n free e = free.apart (list-above ms turn n e)

  free-own : (n : ℕ) → IsFree n → seen_element (entry_at l.records.slots n) ≡ seen_element (entry_at k.records.slots n)
  free-own n free =
      let same = free-before n free in
      let off = not-own n free in
      (turned-seen (set_of c) (one-outcome c.parts) old.beside.over.1.stands.table old.beside.over.1.usable.named.attributes (models_of c) ns ms k.records.slots l.records.slots k.lists l.lists k.root_ids l.root_ids n same.pair
      (fit-of c ns k old n (made-of c ns k old n free.stays.before)) (fit-of c ms l new n (made-of c ms l new n free.stays.after)) (head-stays c ns ms k l turn old new turned n free.stays off)
      (texts-stay c ns ms k l turn old new turned n free.stays off) (turned.texts n free.stays off) (children-stay c ns ms k l turn old new turned n free.stays (not-list n free))
      (names-stay c ns ms k l turn old new turned n free.stays (not-list n free))).sight

  free-child : (n x : ℕ) → IsFree n → Has x (element_children ns n) → IsFree x
  free-child n x free has =
      let there = subst (Has x) (sym (children-stay c ns ms k l turn old new turned n free.stays (not-list n free))) has in
      let up = child-up ms (sound c ms l new) n x there in
      let off : own_of turn ≢ Some x = λ e. free.apart (subst (IsWithin ms n) (sym (own-lowest turn x e)) (below-within ms n x (child-below ms x n x up.0 (self-within ms x)))) in
      record {
        stays = child-stays c ns ms k l turn old new turned n x free.stays up.0 up.1 off;
        unmoved = λ h. elim (only x h).1 [
          | inl e ↦ off e
          | inr rest ↦ elim rest [
            | inl listed ↦ not-list n free (listed.1 ∙ ap Some (same_Some listed.0 n (sym (child-up ms (sound c ms l new) listed.0 x listed.2).0 ∙ up.0)))
            | inr above ↦ free.unmoved (subst (λ (p : ℕ). Has p moved) (same_Some above.0 n (sym above.1 ∙ up.0)) above.2)
          ]
        ];
        apart = λ within. free.apart (up-through x n (lowest_of turn) up.0 within);
      }
    where
      -- what is at or below a child element is below its parent
      up-through : (x n m : ℕ) → parent_at ms x ≡ Some n → IsWithin ms x m → IsWithin ms n m
      up-through x n m up within = below-within ms n m (child-below ms x n m up within)

  -- at and above an element that is not among the moved all are the same scopes
  pub unmoved-steady : (n : ℕ) → Stays ns ms n → ¬ Has n moved → IsSteadyUp n
  unmoved-steady n here out m within = let stays = within-stays c ns ms k l turn old new turned within.0 n m here within.1 in by m stays within (looks m stays.after)
    where
      by : (m : ℕ) → Stays ns ms m → IsWithin ms m n → IsLookedAt c.parts ms l.records.slots was moved m → IsSame m
      by m stays above (looked.same x e) =
          let same = as-before c ns ms k l turn old new turned m stays.after (sym (signs m) ∙ e) in
          record { stays = stays; name = same.name; constraints = ap (λ (g : Governing). constraints_by c.parts g.declaration) same.pair }
      by m stays above (looked.steady x a b has before after steady below) =
          let then = same_Some (record { name = name_at ns m; pair = pair_at k.records.slots m }) a (sym (sign-is c ns k old m (made-of c ns k old m stays.before)) ∙ sym (signs m) ∙ before) in
          let now = same_Some (record { name = name_at ms m; pair = pair_at l.records.slots m }) b (sym (sign-is c ms l new m (made-of c ms l new m stays.after)) ∙ after) in
          record {
            stays = stays;
            name = ap (λ (x : ElementSign). x.name) now ∙ steady.name ∙ sym (ap (λ (x : ElementSign). x.name) then);
            constraints = ap (λ (x : ElementSign). constraints_by c.parts x.pair.declaration) now ∙ steady.constraints ∙ sym (ap (λ (x : ElementSign). constraints_by c.parts x.pair.declaration) then);
          }
      by m stays above (looked.whole x all) = absurd (out (all n here.after above))

  free-above : (n p : ℕ) → IsFree n → parent_at ns n ≡ Some p → IsSteadyUp p
  free-above n p free up m within = unmoved-steady n free.stays free.unmoved m (up-more ms n p m (turned.parents n free.stays ∙ up) within)

  -- ---- which elements there are

  -- one that is not among the moved was there
  pub unmoved-stays : (n : ℕ) → is_element_at ms n ≡ true → ¬ Has n moved → Stays ns ms n
  unmoved-stays n is out = by n is out (looks n is)
    where
      by : (m : ℕ) → is_element_at ms m ≡ true → ¬ Has m moved → IsLookedAt c.parts ms l.records.slots was moved m → Stays ns ms m
      by m is out (looked.same x e) = (as-before c ns ms k l turn old new turned m is (sym (signs m) ∙ e)).stays
      by m is out (looked.steady x a b has before after steady below) = absurd (out has)
      by m is out (looked.whole x all) = absurd (out (all m is (self-within ms m)))

  -- an element is among the moved, or it is the lowest of the turn or above it, or it is free
  pub one-of : (n : ℕ) → is_element_at ms n ≡ true → Has n moved ⊎ (((¬ Has n moved) × IsWithin ms n (lowest_of turn)) ⊎ IsFree n)
  one-of n is = elim (has-or-not n moved) [
    | inl has ↦ inl has
    | inr out ↦ inr (elim (within-or-not ms (sound c ms l new) n (depth_by (node ms (lowest_of turn))) (lowest_of turn) (omega arith)) [
      | inl within ↦ inl (out, within)
      | inr apart ↦ inr (record { stays = unmoved-stays n is out; unmoved = out; apart = apart })
    ])
  ]

  same-scope : (n : ℕ) → IsSteadyUp n → IsSameScope c.parts (seen_element (entry_at l.records.slots n)) (seen_element (entry_at k.records.slots n))
  same-scope n steady =
      let here = steady n (self-within ms n) in
      let before = fit-of c ns k old n (made-of c ns k old n here.stays.before) in
      let after = fit-of c ms l new n (made-of c ms l new n here.stays.after) in
      record {
        number = after.gathered.number_is ∙ sym before.gathered.number_is;
        name = record-name c ms l new n (made-of c ms l new n here.stays.after) ∙ here.name ∙ sym (record-name c ns k old n (made-of c ns k old n here.stays.before));
        constraints = here.constraints;
      }

  pub leaves : Leaves c.parts (kin_of ns k.records.slots) (kin_of ms l.records.slots) IsFree IsSteadyUp
  leaves = record {
    own = free-own;
    children = λ n free. children-stay c ns ms k l turn old new turned n free.stays (not-list n free);
    below = λ n x free has. free-child n x free (as-has x (element_children ns n) has);
    parent = λ n free. turned.parents n free.stays;
    above = free-above;
    same = same-scope;
    steady_parent = λ n steady. turned.parents n (steady n (self-within ms n)).stays;
    steady_above = λ n p steady up m within. steady m (up-more ms n p m (turned.parents n (steady n (self-within ms n)).stays ∙ up) within);
  }
    where
      as-has : (x : ℕ) (xs : List ℕ) → KeyHas x xs → Has x xs
      as-has x [] h = absurd h
      as-has x (y ∷ ys) h = elim h [ inl e ↦ inl e | inr later ↦ inr (as-has x ys later) ]
