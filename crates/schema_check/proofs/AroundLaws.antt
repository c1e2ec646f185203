-- What stands in a redefining component, by the places of representations and by the elements of its document.
use Rattle.std.proofs.Common.{◌≡◌, ℕ, zero, suc, ◌+◌, ◌-◌, ◌<◌, ◌==◌, Bool, true, false, List, Option, None, Some, if◌then◌else◌, drop, get_or, slice_get, refl, sym, ap, subst, ◌∙◌, true≢false, eq-eqb, arith}
use Rattle.std.specs.Prelude.{Contains}
use Rattle.std.proofs.lemmas.Bool.{eqb-true}
use Rattle.std.proofs.lemmas.Bool.Decides.{nat_tests}
use Rattle.std.proofs.lemmas.List.Folds.{list_any_at}
use Rattle.std.proofs.lemmas.Option.{none-some, same_Some, slice_get_within, slice_get-get_or, get_or_from_slice_get}
use Rattle.xs_names.specs.Names.{NameTable}
use Rattle.schema_shape.specs.declared.forms.Shape.{Shape}
use Rattle.schema_set.specs.declared.documents.SetDocument.{SetDocument}
use Rattle.redefine_originals.specs.Versions.{inside}
use Rattle.redefine_originals.proofs.InsideLaws.{inside-has, inside-from, any-from}
use Rattle.redefine_faults.specs.Redefinitions.{IsBelow, child, deeper}
use Rattle.representations.specs.declared.parts.Representation.{Representation}
use Rattle.set_representations.specs.Documents.{representations, shapes_of}
use Rattle.set_representations.specs.Members.{place_from, places_of}
use Rattle.redefine_names.specs.VersionNames.{original_at}
use Rattle.redefine_names.specs.Redirections.{is_in, version_or, version_above}
use Rattle.schema_check.proofs.ListLaws.{not-both, dropped, position-is, position-at, holds, looked, looks}
use Rattle.schema_check.proofs.TreeLaws.{is_item, has_member, AreElements, one-item, one-parent}
use Rattle.schema_check.proofs.PlaceLaws.{Slot, slots, slot_of, begin, stands, placed, Represents, represented-at, slot-of}

pub contains-at : {X : Type 0} (xs : List X) (x : X) → Contains xs x → (n : ℕ) × (slice_get xs n ≡ Some x)
contains-at xs x has = (has.0, slice_get-get_or xs has.0 x has.1 ∙ ap (λ y. Some y) has.2)

pub at-contains : {X : Type 0} (xs : List X) (n : ℕ) (x : X) → slice_get xs n ≡ Some x → Contains xs x
at-contains xs n x at = (n, slice_get_within xs n x at, get_or_from_slice_get xs n x x at)

-- what stands in an element of a document
pub inside-at : (list : List Shape) (parent x : Shape) → Contains (inside list parent) x → (n : ℕ) × (slice_get list n ≡ Some x) × (has_member x.item parent ≡ true)
inside-at list parent x has =
    let from = inside-from list parent x has in
    let at = contains-at list x from.0 in
    (at.0, at.1, list_any_at (λ item. item == x.item) parent.members from.1.0 x.item from.1.1 (eq-eqb (get_or parent.members from.1.0 x.item) x.item from.1.2))

pub at-inside : (list : List Shape) (parent x : Shape) (n : ℕ) → slice_get list n ≡ Some x → has_member x.item parent ≡ true → Contains (inside list parent) x
at-inside list parent x n at held = inside-has list parent x (at-contains list n x at) (any-from x.item parent.members held)

-- two elements of one document of a set
pub record Together (set : List SetDocument) (outer inner : ℕ) : Type 0 where
  pub one : Slot
  pub other : Slot
  pub at : slice_get (slots 0 set) outer ≡ Some one
  pub there : slice_get (slots 0 set) inner ≡ Some other
  pub start : other.start ≡ one.start
  pub document : other.document ≡ one.document

-- an element stands in another
pub record IsParent (set : List SetDocument) (outer inner : ℕ) : Type 0 where
  pub both : Together set outer inner
  pub held : has_member both.other.shape.item both.one.shape ≡ true

-- an element is below another of its document
pub record Encloses (set : List SetDocument) (outer inner : ℕ) : Type 0 where
  pub both : Together set outer inner
  pub below : IsBelow (shapes_of both.one.document) both.one.shape both.other.shape

-- where an element is found among those behind another
place-of : (list : List Shape) → AreElements list → (m n : ℕ) (x : Shape) (behind : List Shape) → behind ≡ drop (suc m) list → m < n → slice_get list n ≡ Some x
    → (place : ℕ) → (q : ℕ) × (q + suc m ≡ place + n) × (place_from place behind x.item ≡ Some q)
place-of list are m n x behind same after in_list place =
    let k : ℕ = n - suc m in
    let on : suc m + k ≡ n = omega (arith, after) in
    let at : slice_get behind k ≡ Some x = ap (λ (xs : List Shape). slice_get xs k) same ∙ (dropped (suc m) list k ∙ (ap (λ (i : ℕ). slice_get list i) on ∙ in_list)) in
    let found = position-at (is_item x.item) place behind k x at (eq-eqb x.item x.item refl) in
    let found_in : slice_get list (suc m + found.0) ≡ Some found.1 =
    sym (dropped (suc m) list found.0) ∙ (ap (λ (xs : List Shape). slice_get xs found.0) (sym same) ∙ found.3) in
    let one : suc m + found.0 ≡ n = one-item list are (suc m + found.0) n found.1 x found_in in_list (eqb-true found.1.item x.item found.4) in
    (place + found.0, omega (arith, one), found.2)

-- what is found there is a member
in-members : (q place : ℕ) (behind : List Shape) (items : List ℕ) (item : ℕ) (rep : Representation) (at : Option Representation) → at ≡ Some rep → rep.members ≡ places_of (0 + place + 1) behind items → holds item items ≡ true
    → place_from (0 + place + 1) behind item ≡ Some q → is_in q at ≡ true
in-members q place behind items item rep at is members held found =
    ap (λ (o : Option Representation). is_in q o) is ∙ (ap (holds q) members ∙ looks (place_from (0 + place + 1) behind) q items item held found)

module _ (t : NameTable) (set : List SetDocument) where
  abbrev pub reps : List Representation
  reps = representations t set

  in-rep : (n q : ℕ) (rep : Representation) (slot : Slot) → slice_get (slots 0 set) n ≡ Some slot → Represents t slot (0 + n) rep → holds q rep.members ≡ true → IsParent set n q
  in-rep n q rep slot at represents held =
      let found = looked (place_from (0 + n + 1) slot.behind) q slot.shape.members (ap (holds q) (sym represents.members) ∙ held) in
      let is = position-is (is_item found.0) (0 + n + 1) q slot.behind found.2 in
      let own = stands 0 set n slot at in
      let in_list : slice_get (shapes_of slot.document) (suc own.m + is.0) ≡ Some is.1 =
      sym (dropped (suc own.m) (shapes_of slot.document) is.0) ∙ (ap (λ (xs : List Shape). slice_get xs is.0) (sym own.behind) ∙ is.3) in
      let where_it_is = placed 0 set own.i (suc own.m + is.0) slot.document is.1 own.document in_list in
      let same : where_it_is.0 ≡ q = omega (arith, where_it_is.1, is.2, own.place, own.begins) in
      let item : is.1.item ≡ found.0 = eqb-true is.1.item found.0 is.4 in
      record {
        both = record {
          one = slot;
          other = slot_of (begin 0 own.i set) slot.document is.1 (drop (suc (suc own.m + is.0)) (shapes_of slot.document));
          at = at;
          there = ap (λ (p : ℕ). slice_get (slots 0 set) p) (sym same) ∙ where_it_is.2;
          start = sym own.begins;
          document = refl;
        };
        held = ap (λ (key : ℕ). has_member key slot.shape) item ∙ found.1;
      }

  pub parent-of : (n q : ℕ) → is_in q (slice_get reps n) ≡ true → IsParent set n q
  parent-of n q is = by (slice_get reps n) refl is
    where
      by : (o : Option Representation) → slice_get reps n ≡ o → is_in q o ≡ true → IsParent set n q
      by None e is = absurd (true≢false (sym is))
      by (Some rep) e is =
          let slot = slot-of t 0 1 set n rep e in
          let made = represented-at t 0 1 set n slot.0 slot.1 in
          let same : made.0 ≡ rep = same_Some made.0 rep (sym made.1 ∙ e) in
          in-rep n q rep slot.0 slot.1 (subst (Represents t slot.0 (0 + n)) same made.2) is

  module _ (elements : (i : ℕ) (d : SetDocument) → slice_get set i ≡ Some d → AreElements (shapes_of d)) where
    -- an element that stands in another is a member of its representation
    pub in-parent : (outer inner : ℕ) → IsParent set outer inner → is_in inner (slice_get reps outer) ≡ true
    in-parent outer inner is =
        let one = is.both.one in
        let other = is.both.other in
        let own = stands 0 set outer one is.both.at in
        let list = shapes_of one.document in
        let are = elements own.i one.document own.document in
        let its = stands 0 set inner other is.both.there in
        let in_list : slice_get list its.m ≡ Some other.shape = ap (λ (d : SetDocument). slice_get (shapes_of d) its.m) (sym is.both.document) ∙ its.shape in
        let after = (are.nested own.m its.m one.shape other.shape own.shape in_list is.held).0 in
        let found = place-of list are own.m its.m other.shape one.behind own.behind after in_list (0 + outer + 1) in
        let place : found.0 ≡ inner = omega (arith, found.1, own.place, its.place, is.both.start) in
        let made = represented-at t 0 1 set outer one is.both.at in
        in-members inner outer one.behind one.shape.members other.shape.item made.0 (slice_get reps outer) made.1 made.2.members is.held (found.2 ∙ ap (λ (n : ℕ). Some n) place)

    -- an element stands in one other
    pub parent-one : (m n q : ℕ) → IsParent set m q → IsParent set n q → m ≡ n
    parent-one m n q a b =
        let inner : a.both.other ≡ b.both.other = same_Some a.both.other b.both.other (sym a.both.there ∙ b.both.there) in
        let document : a.both.one.document ≡ b.both.one.document = sym a.both.document ∙ (ap (λ (s : Slot). s.document) inner ∙ b.both.document) in
        let start : a.both.one.start ≡ b.both.one.start = sym a.both.start ∙ (ap (λ (s : Slot). s.start) inner ∙ b.both.start) in
        let one = stands 0 set m a.both.one a.both.at in
        let other = stands 0 set n b.both.one b.both.at in
        let list = shapes_of b.both.one.document in
        let in_list : slice_get list one.m ≡ Some a.both.one.shape = ap (λ (d : SetDocument). slice_get (shapes_of d) one.m) (sym document) ∙ one.shape in
        let held : has_member b.both.other.shape.item a.both.one.shape ≡ true = ap (λ (s : Slot). has_member s.shape.item a.both.one.shape) (sym inner) ∙ a.held in
        let same : one.m ≡ other.m =
        one-parent list (elements other.i b.both.one.document other.document) b.both.other.shape.item one.m other.m a.both.one.shape b.both.one.shape in_list other.shape held b.held in
        omega (arith, same, start, one.place, other.place)

    -- ---- the redefining component above an element
    module _ (originals : List (Option ℕ)) where
      pub above-of : (m q : ℕ) → IsParent set m q → (n : ℕ) → m < n → version_above reps originals n q ≡ version_or m (original_at originals m) (version_above reps originals m m)
      above-of m q is zero before = absurd (omega (arith, before))
      above-of m q is (suc n) before = by (is_in q (slice_get reps n)) refl (above-of m q is n)
        where
          found : ℕ → Option ℕ
          found p = version_or p (original_at originals p) (version_above reps originals p p)

          by : (b : Bool) → is_in q (slice_get reps n) ≡ b → (m < n → version_above reps originals n q ≡ found m) → version_above reps originals (suc n) q ≡ found m
          by true e rest =
              let same : m ≡ n = parent-one m n q is (parent-of n q e) in
              ap (λ (b : Bool). if b then found n else version_above reps originals n q) e ∙ ap found (sym same)
          by false e rest =
              let other : (m ≡ n → ⊥) = λ same. not-both (ap (λ (p : ℕ). is_in q (slice_get reps p)) (sym same) ∙ in-parent m q is) e in
              let less : m < n = grind (arith, nat_tests) in
              ap (λ (b : Bool). if b then found n else version_above reps originals n q) e ∙ rest less

  parent-encloses : (outer inner : ℕ) → IsParent set outer inner → Encloses set outer inner
  parent-encloses outer inner is =
      let its = stands 0 set inner is.both.other is.both.there in
      let in_list : slice_get (shapes_of is.both.one.document) its.m ≡ Some is.both.other.shape = ap (λ (d : SetDocument). slice_get (shapes_of d) its.m) (sym is.both.document) ∙ its.shape in
      record { both = is.both; below = child is.both.other.shape (at-inside (shapes_of is.both.one.document) is.both.one.shape is.both.other.shape its.m in_list is.held) }

  further-encloses : (outer between inner : ℕ) → Encloses set outer between → IsParent set between inner → Encloses set outer inner
  further-encloses outer between inner is on =
      let same : is.both.other ≡ on.both.one = same_Some is.both.other on.both.one (sym is.both.there ∙ on.both.at) in
      let document : on.both.one.document ≡ is.both.one.document = ap (λ (s : Slot). s.document) (sym same) ∙ is.both.document in
      let list = shapes_of is.both.one.document in
      let its = stands 0 set inner on.both.other on.both.there in
      let in_list : slice_get list its.m ≡ Some on.both.other.shape = ap (λ (d : SetDocument). slice_get (shapes_of d) its.m) (sym (on.both.document ∙ document)) ∙ its.shape in
      let held : has_member on.both.other.shape.item is.both.other.shape ≡ true = ap (λ (s : Slot). has_member on.both.other.shape.item s.shape) same ∙ on.held in
      record {
        both = record {
          one = is.both.one;
          other = on.both.other;
          at = is.both.at;
          there = on.both.there;
          start = on.both.start ∙ (ap (λ (s : Slot). s.start) (sym same) ∙ is.both.start);
          document = on.both.document ∙ document;
        };
        below = deeper is.both.other.shape on.both.other.shape is.below (at-inside list is.both.other.shape on.both.other.shape its.m in_list held);
      }

  pub above-encloses : (originals : List (Option ℕ)) (n q version : ℕ) → version_above reps originals n q ≡ Some version → Encloses set version q
  above-encloses originals zero q version is = absurd (none-some version is)
  above-encloses originals (suc n) q version is = by (is_in q (slice_get reps n)) refl is (λ e. above-encloses originals n n version e) (λ e. above-encloses originals n q version e)
    where
      own : (o : Option ℕ) → IsParent set n q → version_or n o (version_above reps originals n n) ≡ Some version → (version_above reps originals n n ≡ Some version → Encloses set version n) → Encloses set version q
      own None parent is above = further-encloses version n q (above is) parent
      own (Some original) parent is above = subst (λ (p : ℕ). Encloses set p q) (same_Some n version is) (parent-encloses n q parent)

      by : (b : Bool) → is_in q (slice_get reps n) ≡ b → (if b then version_or n (original_at originals n) (version_above reps originals n n) else version_above reps originals n q) ≡ Some version
          → (version_above reps originals n n ≡ Some version → Encloses set version n) → (version_above reps originals n q ≡ Some version → Encloses set version q) → Encloses set version q
      by true e is above before = own (original_at originals n) (parent-of n q e) is above
      by false e is above before = before is
