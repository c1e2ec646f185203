-- Steps against the siblings that are left.
use Rattle.std.proofs.Common.{◌≡◌, ℕ, ◌+◌, ◌*◌, ◌≤◌, List, [], ◌∷◌, length, Bool, true, false, Option, None, Some, refl, sym, ap, ◌∙◌, subst, inl, inr, arith}
use Rattle.std.specs.Prelude.{slice_get, if◌then◌else◌}
use Rattle.std.proofs.lemmas.Bool.{false≢true}
use Rattle.xs_names.specs.Names.{NameTable}
use Rattle.tree_rows.specs.Forest.{Forest, none, text, element}
use Rattle.tree_rows.specs.declared.name.Expanded.{Expanded}
use Rattle.tree_rows.specs.declared.row.Attribute.{Attribute}
use Rattle.tree_rows.specs.declared.row.Binding.{Binding}
use Rattle.xs_components.specs.declared.common.TypeId.{TypeId}
use Rattle.elem_governing.specs.declared.pairs.Governing.{Governing}
use Rattle.elem_governing.proofs.SameLaws.{same-is}
use Rattle.edit_budgets.specs.Budget.{same_governing}
use Rattle.assessment.specs.Local.{HasElement}
use Rattle.compiled_schema.specs.declared.compiled.Compiled.{Compiled}
use Rattle.doc_nodes.specs.Nodes.{Nodes, Has, Distinct, IsSound, element_children}
use Rattle.doc_nodes.proofs.Among.{lacks-has}
use Rattle.doc_changes.specs.Held.{parent_at}
use Rattle.doc_changes.specs.Stands.{StandFor, firsts}
use Rattle.doc_changes.specs.Readers.{element_numbers}
use Rattle.doc_changes.proofs.Reading.{are_read}
use Rattle.kept_slots.specs.Slots.{at}
use Rattle.child_listing.specs.from_kept_records.KeptElement.{KeptElement}
use Rattle.child_listing.specs.from_kept_records.Slots.{KeptSlots}
use Rattle.child_listing.specs.from_kept_judging.Judged.{pair_by}
use Rattle.kept_forgetting.specs.Below.{IsWithin}
use Rattle.kept_below.specs.Moved.{is_typed, moved, AreGivenDown}
use Rattle.kept_forgetting.proofs.Walks.{parent-of, self-within, below-within, child-below, siblings-apart}

-- ---- elements of a forest

number-first : (f : Forest) (c : ℕ) → Has c (element_numbers f) → Has c (firsts f)
number-first none c h = absurd h
number-first (text number chars next) c h = inr (number-first next c h)
number-first (element number name bindings attributes children next) c (inl e) = inl e
number-first (element number name bindings attributes children next) c (inr k) = inr (number-first next c k)

-- an element of a forest is within one of its siblings
pub record IsUnderOne (ns : Nodes) (f : Forest) (m : ℕ) : Type 0 where
  pub one : ℕ
  pub has : Has one (element_numbers f)
  pub within : IsWithin ns one m

module _ (t : NameTable) (ns : Nodes) (sound : IsSound ns) where
  pub under-one : (f : Forest) → StandFor t ns f → (m : ℕ) → HasElement m f → IsUnderOne ns f m
  under-one none s m h = absurd h
  under-one (text number chars next) s m h = let r = under-one next s.1 m h in record { one = r.one; has = r.has; within = r.within }
  under-one (element number name bindings attributes children next) s m (inl e) =
      record { one = number; has = inl refl; within = subst (IsWithin ns number) e (self-within ns number) }
  under-one (element number name bindings attributes children next) s m (inr (inl below)) =
      let r = under-one children s.1 m below in
      let up = parent-of ns sound number r.one s.0.it s.0.is (subst (Has r.one) (sym s.0.children_are) (number-first children r.one r.has)) in
      record { one = number; has = inl refl; within = below-within ns number m (child-below ns r.one number m up r.within) }
  under-one (element number name bindings attributes children next) s m (inr (inr later)) =
      let r = under-one next s.2 m later in record { one = r.one; has = inr r.has; within = r.within }

-- what is kept of all elements of a forest stays
pub moved-alike : (ks new : KeptSlots) (governs : ℕ → Governing) (f : Forest) → ((m : ℕ) → HasElement m f → at new m ≡ at ks m) → moved new governs f ≡ moved ks governs f
moved-alike ks new governs none h = refl
moved-alike ks new governs (text number chars next) h = moved-alike ks new governs next h
moved-alike ks new governs (element number name bindings attributes children next) h =
    let own = h number (inl refl) in
    let deep = moved-alike ks new governs children (λ m k. h m (inr (inl k))) in
    let later = moved-alike ks new governs next (λ m k. h m (inr (inr k))) in
    λ i. (if is_typed (own i) (governs number).of then 0 else length (element_numbers children)) + (deep i + later i)

-- ---- the next sibling element, and those after it

pub record HasNext (t : NameTable) (ns : Nodes) (x : ℕ) (xs : List ℕ) (f : Forest) : Type 0 where
  pub name : Expanded
  pub bindings : List Binding
  pub attributes : List Attribute
  pub below : Forest
  pub more : Forest
  pub here : StandFor t ns (element x name bindings attributes below none)
  pub stands : StandFor t ns more
  pub are : element_numbers more ≡ xs
  pub counts : (ks : KeptSlots) (governs : ℕ → Governing) → moved ks governs f ≡ moved ks governs (element x name bindings attributes below none) + moved ks governs more
  pub own : (m : ℕ) → HasElement m (element x name bindings attributes below none) → HasElement m f
  pub later : (m : ℕ) → HasElement m more → HasElement m f

alone-or-below : (x m : ℕ) (name : Expanded) (bindings : List Binding) (attributes : List Attribute) (below more : Forest) → HasElement m (element x name bindings attributes below none) →
    HasElement m (element x name bindings attributes below more)
alone-or-below x m name bindings attributes below more (inl e) = inl e
alone-or-below x m name bindings attributes below more (inr (inl k)) = inr (inl k)
alone-or-below x m name bindings attributes below more (inr (inr never)) = absurd never

pub next-of : (t : NameTable) (ns : Nodes) (f : Forest) (x : ℕ) (xs : List ℕ) → StandFor t ns f → element_numbers f ≡ x ∷ xs → HasNext t ns x xs f
next-of t ns none x xs s e = let bad : [] ≡ x ∷ xs = e in absurd (cc)
next-of t ns (text number chars next) x xs s e =
    let r = next-of t ns next x xs s.1 e in
    record { name = r.name; bindings = r.bindings; attributes = r.attributes; below = r.below; more = r.more; here = r.here; stands = r.stands; are = r.are; counts = r.counts; own = r.own; later = r.later }
next-of t ns (element number name bindings attributes children next) x xs s e =
    let same : number ≡ x = cc in
    let rest : element_numbers next ≡ xs = cc in
    let whole : element number name bindings attributes children next ≡ element x name bindings attributes children next = ap (λ y. element y name bindings attributes children next) same in
    record {
      name = name;
      bindings = bindings;
      attributes = attributes;
      below = children;
      more = next;
      here = subst (λ y. StandFor t ns (element y name bindings attributes children none)) same (s.0, s.1, tt);
      stands = s.2;
      are = rest;
      counts = λ ks governs. ap (moved ks governs) whole ∙ omega arith;
      own = λ m h. subst (HasElement m) (sym whole) (alone-or-below x m name bindings attributes children next h);
      later = λ m h. inr (inr h);
    }

-- ---- what is left to be settled

-- a part of a forest
pub given-part : (c : Compiled) (ns : Nodes) (governs : ℕ → Governing) (f g : Forest) (down : AreGivenDown c ns governs f) → StandFor down.names ns g → ((m : ℕ) → HasElement m g → HasElement m f) →
    AreGivenDown c ns governs g
given-part c ns governs f g down stand part = record { names = down.names; stand = stand; given = λ n place child h e. down.given n place child (part n h) e }

-- the steps so far leave room for the siblings that are left
pub record HasRoom (c : Compiled) (ns : Nodes) (ks : KeptSlots) (governs : ℕ → Governing) (left : List ℕ) (steps most : ℕ) : Type 0 where
  pub rest : Forest
  pub down : AreGivenDown c ns governs rest
  pub are : element_numbers rest ≡ left
  pub room : steps + 3 * moved ks governs rest ≤ most

module _ (c : Compiled) (ns : Nodes) (governs : ℕ → Governing) where
  pub room-first : (ks : KeptSlots) (f : Forest) (left : List ℕ) (steps : ℕ) → AreGivenDown c ns governs f → element_numbers f ≡ left → HasRoom c ns ks governs left steps (steps + 3 * moved ks governs f)
  room-first ks f left steps down are = record { rest = f; down = down; are = are; room = omega arith }

  pub room-ended : (ks : KeptSlots) (left : List ℕ) (steps most : ℕ) → HasRoom c ns ks governs left steps most → steps ≤ most
  room-ended ks left steps most r = let b = r.room in omega (arith, b)

  -- one more sibling is settled
  module _ (sound : IsSound ns) (ks new : KeptSlots) (x : ℕ) (xs : List ℕ) (steps now most : ℕ) (r : HasRoom c ns ks governs (x ∷ xs) steps most)
      (own : (f : Forest) → AreGivenDown c ns governs f → element_numbers f ≡ x ∷ [] → now ≤ steps + 3 * moved ks governs f) where
    abbrev next : HasNext r.down.names ns x xs r.rest
    next = next-of r.down.names ns r.rest x xs r.down.stand r.are

    alone : now ≤ steps + 3 * moved ks governs (element x next.name next.bindings next.attributes next.below none)
    alone =
        own (element x next.name next.bindings next.attributes next.below none)
        (given-part c ns governs r.rest (element x next.name next.bindings next.attributes next.below none) r.down next.here next.own) refl

    -- where the rest is given up
    pub room-stopped : now ≤ most
    room-stopped = let a = alone in let b = r.room in let d = next.counts ks governs in omega (arith, a, b, d)

    pub room-next : (n : ℕ) → ((d : ℕ) → Has d (x ∷ xs) → parent_at ns d ≡ Some n) → Distinct (x ∷ xs) → ((m : ℕ) → ¬ IsWithin ns x m → at new m ≡ at ks m) → HasRoom c ns new governs xs now most
    room-next n up distinct frame =
        let outside : (m : ℕ) → HasElement m next.more → ¬ IsWithin ns x m = λ m h w.
        (let o = under-one r.down.names ns sound next.more next.stands m h in
        let among = subst (Has o.one) next.are o.has in
        siblings-apart ns sound n x o.one m (up x (inl refl)) (up o.one (inr among)) (λ e. lacks-has x o.one xs distinct.0 among (sym e)) w o.within) in
        let a = alone in
        let b = r.room in
        let d = next.counts ks governs in
        let same : moved new governs next.more ≡ moved ks governs next.more = moved-alike ks new governs next.more (λ m h. frame m (outside m h)) in
        record {
          rest = next.more;
          down = given-part c ns governs r.rest next.more r.down next.stands next.later;
          are = next.are;
          room = omega (arith, a, b, d, same);
        }

-- ---- one element

governing-is : (a b : Option TypeId) → same_governing a b ≡ true → a ≡ b
governing-is None None e = refl
governing-is None (Some b) e = absurd (false≢true e)
governing-is (Some a) None e = absurd (false≢true e)
governing-is (Some a) (Some b) e = ap Some (same-is a b e)

-- it has not the type
pub not-typed : (o : Option KeptElement) (of : Option TypeId) → ((k : KeptElement) → o ≡ Some k → k.found.governing.of ≡ of → ⊥) → is_typed o of ≡ false
not-typed None of other = refl
not-typed (Some k) of other = by (is_typed (Some k) of) refl
  where
    by : (b : Bool) → is_typed (Some k) of ≡ b → is_typed (Some k) of ≡ false
    by true e = absurd (other k refl (governing-is k.found.governing.of of e))
    by false e = e

-- an element that is not of the type by which it is to be governed counts its child elements, and these what they count
pub record CountsOwn (c : Compiled) (ns : Nodes) (ks : KeptSlots) (governs : ℕ → Governing) (n : ℕ) (f : Forest) : Type 0 where
  pub below : Forest
  pub down : AreGivenDown c ns governs below
  pub are : element_numbers below ≡ element_children ns n
  pub given : (place child : ℕ) → slice_get (element_children ns n) place ≡ Some child → governs child ≡ pair_by c ns (governs n) n place child
  pub fewer : length (element_numbers below) + moved ks governs below ≤ moved ks governs f

pub counts-own : (c : Compiled) (ns : Nodes) (ks : KeptSlots) (governs : ℕ → Governing) (n : ℕ) (f : Forest) → AreGivenDown c ns governs f → element_numbers f ≡ n ∷ [] →
    is_typed (at ks n) (governs n).of ≡ false → CountsOwn c ns ks governs n f
counts-own c ns ks governs n f down are other =
    let next = next-of down.names ns f n [] down.stand are in
    let d = next.counts ks governs in
    let own : moved ks governs (element n next.name next.bindings next.attributes next.below none) ≡ length (element_numbers next.below) + moved ks governs next.below =
    (λ i. (if other i then 0 else length (element_numbers next.below)) + (moved ks governs next.below + 0)) ∙ omega arith in
    record {
      below = next.below;
      down = given-part c ns governs f next.below down next.here.1 (λ m h. next.own m (inr (inl h)));
      are = sym (are_read down.names ns (element n next.name next.bindings next.attributes next.below none) next.here).0.children_are;
      given = λ place child e. down.given n place child (next.own n (inl refl)) e;
      fewer = omega (arith, d, own);
    }
