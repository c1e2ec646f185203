-- What is below a redefining component in its document stands in it by places.
use Rattle.std.proofs.Common.{◌≡◌, ℕ, suc, ◌<◌, true, List, Option, None, Some, drop, slice_get, refl, sym, ap, subst, ◌∙◌, arith}
use Rattle.xs_names.specs.Names.{NameTable}
use Rattle.schema_shape.specs.declared.forms.Shape.{Shape}
use Rattle.schema_set.specs.declared.documents.Available.{Available}
use Rattle.schema_set.specs.declared.documents.SetDocument.{SetDocument}
use Rattle.redefine_originals.specs.Originals.{AreOriginals}
use Rattle.redefine_faults.specs.Redefinitions.{IsBelow, child, deeper}
use Rattle.set_representations.specs.Documents.{shapes_of}
use Rattle.redefine_names.specs.VersionNames.{original_at}
use Rattle.redefine_names.specs.Redirections.{version_or, version_above}
use Rattle.schema_check.proofs.RedefineKindLaws.{is_plain}
use Rattle.schema_check.proofs.TreeLaws.{has_member, AreElements}
use Rattle.schema_check.proofs.PlaceLaws.{Slot, slots, slot_of, begin, stands, placed}
use Rattle.schema_check.proofs.AroundLaws.{inside-at, IsParent, reps, above-of}
use Rattle.schema_check.proofs.OriginalLaws.{inner-none}

-- what is below an element is one of the document
pub below-in : (list : List Shape) (version s : Shape) → IsBelow list version s → (n : ℕ) × (slice_get list n ≡ Some s)
below-in list version _ (child s c) = let at = inside-at list version s c in (at.0, at.1)
below-in list version _ (deeper between s b c) = let at = inside-at list between s c in (at.0, at.1)

module _ (t : NameTable) (available : List Available) (set : List SetDocument) (originals : List (Option ℕ)) (are : AreOriginals available set originals)
    (all : (i : ℕ) (d : SetDocument) → slice_get set i ≡ Some d → AreElements (shapes_of d))
  where
    -- an element stands before what stands in it, which is no redefine if it is none
    pub record IsBefore (outer inner : ℕ) (x : Shape) : Type 0 where
      pub before : outer < inner
      pub plain : is_plain x.form ≡ true

    parent-before : (outer inner : ℕ) (is : IsParent set outer inner) → is_plain is.both.one.shape.form ≡ true → IsBefore outer inner is.both.other.shape
    parent-before outer inner is plain =
        let one = is.both.one in
        let other = is.both.other in
        let own = stands 0 set outer one is.both.at in
        let its = stands 0 set inner other is.both.there in
        let list = shapes_of one.document in
        let in_list : slice_get list its.m ≡ Some other.shape = ap (λ (d : SetDocument). slice_get (shapes_of d) its.m) (sym is.both.document) ∙ its.shape in
        let nested = (all own.i one.document own.document).nested own.m its.m one.shape other.shape own.shape in_list is.held in
        record { before = omega (arith, nested.0, own.place, its.place, is.both.start); plain = nested.1 plain }

    pub record IsWithin (outer inner : ℕ) (x : Shape) : Type 0 where
      pub above : version_above (reps t set) originals inner inner ≡ Some outer
      pub plain : is_plain x.form ≡ true
      pub none : original_at originals inner ≡ None

    pub below-above : (outer original : ℕ) (one : Slot) → slice_get (slots 0 set) outer ≡ Some one → original_at originals outer ≡ Some original → is_plain one.shape.form ≡ true
        → (x : Shape) → IsBelow (shapes_of one.document) one.shape x → (inner : ℕ) (other : Slot) → slice_get (slots 0 set) inner ≡ Some other → other.start ≡ one.start → other.document ≡ one.document → other.shape ≡ x
        → IsWithin outer inner x
    below-above outer original one at has plain _ (child x c) inner other there start document same =
        let found = inside-at (shapes_of one.document) one.shape x c in
        let is : IsParent set outer inner = record {
          both = record { one = one; other = other; at = at; there = there; start = start; document = document };
          held = ap (λ (s : Shape). has_member s.item one.shape) same ∙ found.2;
        } in
        let before = parent-before outer inner is plain in
        record {
          above = above-of t set all originals outer inner is inner before.before
              ∙ ap (λ (o : Option ℕ). version_or outer o (version_above (reps t set) originals outer outer)) has;
          plain = subst (λ (s : Shape). is_plain s.form ≡ true) same before.plain;
          none = inner-none available set originals are all outer inner is plain;
        }
    below-above outer original one at has plain _ (deeper between x b c) inner other there start document same =
        let own = stands 0 set outer one at in
        let list = shapes_of one.document in
        let on_it = below-in list one.shape between b in
        let here = placed 0 set own.i on_it.0 one.document between own.document on_it.1 in
        let middle = slot_of (begin 0 own.i set) one.document between (drop (suc on_it.0) list) in
        let first = below-above outer original one at has plain between b here.0 middle here.2 (sym own.begins) refl refl in
        let found = inside-at list between x c in
        let is : IsParent set here.0 inner = record {
          both = record { one = middle; other = other; at = here.2; there = there; start = start ∙ own.begins; document = document };
          held = ap (λ (s : Shape). has_member s.item between) same ∙ found.2;
        } in
        let before = parent-before here.0 inner is first.plain in
        record {
          above = above-of t set all originals here.0 inner is inner before.before
              ∙ (ap (λ (o : Option ℕ). version_or here.0 o (version_above (reps t set) originals here.0 here.0)) first.none ∙ first.above);
          plain = subst (λ (s : Shape). is_plain s.form ≡ true) same before.plain;
          none = inner-none available set originals are all here.0 inner is first.plain;
        }
