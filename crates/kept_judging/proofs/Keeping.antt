-- What is kept of an element that is judged, and beside it.
use Rattle.std.proofs.Common.{◌≡◌, ℕ, List, Option, Some, sym, ap, ◌∙◌, subst}
use Rattle.std.specs.Prelude.{Result, Ok, Err, OnOk}
use Rattle.xs_codes.specs.declared.fault.Found.{Found}
use Rattle.assess_records.specs.Numbered.{shape_of}
use Rattle.assess_records.specs.declared.counts.ChildCounts.{ChildCounts}
use Rattle.assess_records.specs.declared.shape.ElementShape.{ElementShape}
use Rattle.assess_records.specs.declared.shape.NamedText.{NamedText}
use Rattle.elem_governing.specs.declared.pairs.Governing.{Governing}
use Rattle.assessment.specs.Attribution.{SchemaSet}
use Rattle.assessment.specs.Assessment.{AreJudged, judged_of}
use Rattle.compiled_schema.specs.Usable.{set_of}
use Rattle.compiled_schema.specs.declared.compiled.Compiled.{Compiled}
use Rattle.tree_assess.specs.Entries.{entry_of}
use Rattle.tree_assess.specs.declared.entry.ElementEntry.{ElementEntry}
use Rattle.doc_nodes.specs.Nodes.{Nodes}
use Rattle.doc_changes.specs.Readers.{name_at, own_chars, scope_at}
use Rattle.doc_readers.specs.Heads.{texts_named}
use Rattle.kept_state.specs.from_kept_records.KeptElement.{KeptElement}
use Rattle.kept_state.specs.from_kept_records.Books.{IsBooked}
use Rattle.kept_state.specs.from_kept_records.Slots.{IsKept, kept_at, entry_at, pair_at}
use Rattle.kept_state.specs.from_kept_records.Fit.{root_codes, head_at, bearer_at}
use Rattle.kept_state.specs.Kept.{CanGovern, HaveSameFlags, IsBeside, IsFreeFor, Rewrites, children_of, children_at}
use Rattle.kept_state.specs.declared.children.KeptChildren.{KeptChildren}
use Rattle.kept_state.specs.declared.state.KeptState.{KeptState}
use Rattle.kept_state.proofs.Beside.{kept-there, rewrites-same, own-free, beside-written}
use Rattle.kept_judging.specs.Judged.{shape_with, IsJudgedBy, IsJudgedAnew}
use Rattle.kept_judging.proofs.Flags.{local-same}

-- two facts of an Ok
pub both-ok : {T E P Q R : Type 0} (r : Result T E) → (P → Q → R) → OnOk r P → OnOk r Q → OnOk r R
both-ok (Ok x) f p q = f p q
both-ok (Err e) f p q = tt

-- what an element has to show, part by part
pub shape-read : (s : SchemaSet) (ns : Nodes) (k : KeptState) (n : ℕ) (children : KeptChildren) (name : ℕ) (attrs : List NamedText) (text : List ℕ) (scope : List (List ℕ × ℕ)) (identity ids : List Found) →
    name ≡ name_at ns n → attrs ≡ texts_named ns n → text ≡ own_chars ns n → scope ≡ scope_at ns n → identity ≡ (kept_at k.records.slots n).identity → ids ≡ root_codes k.root_ids n →
    record { name = name; attrs = attrs; text = text; scope = scope; stuck = children.stuck; identity = identity; ids = ids; counts = children.counts } ≡ shape_with s ns k n children
shape-read s ns k n children name attrs text scope identity ids a b c d e f = λ i. record {
  name = a i;
  attrs = b i;
  text = c i;
  scope = d i;
  stuck = children.stuck;
  identity = e i;
  ids = f i;
  counts = children.counts;
}

-- ---- an element is judged, and kept

module _ (c : Compiled) (ns : Nodes) (old new : KeptState) (n : ℕ) (pair : Governing) (children : KeptChildren) (x : KeptElement) (rewrites : Rewrites old new n (Some x))
    (pair_is : x.found.governing ≡ pair) (children_are : children_of x ≡ children) (identity_is : x.identity ≡ (kept_at old.records.slots n).identity) where
  now : kept_at new.records.slots n ≡ x
  now = kept-there new.records.slots n x rewrites.slots.here

  shape-now : shape_with (set_of c) ns old n children ≡ shape_with (set_of c) ns new n children
  shape-now =
      let identity : (kept_at old.records.slots n).identity ≡ (kept_at new.records.slots n).identity = sym identity_is ∙ ap (λ (k : KeptElement). k.identity) (sym now) in
      let ids = sym rewrites.ids in
      let s = set_of c in
      λ i. shape_of (head_at s ns n) (texts_named ns n) (own_chars ns n) children.stuck children.counts (identity i) (root_codes (ids i) n)

  pub kept-anew : x.found.number ≡ n → x.found.bearer ≡ bearer_at ns n → x.text ≡ own_chars ns n → (shape : ElementShape) → shape ≡ shape_with (set_of c) ns old n children →
      AreJudged (set_of c) shape (entry_of x.found) → IsJudgedAnew c ns old new n pair children
  kept-anew number bearer text shape shape_is judged = record {
    kept = x;
    rewrites = rewrites;
    pair_is = pair_is;
    children_are = children_are;
    identity_is = identity_is;
    judged = record {
      number_is = ap (λ (k : KeptElement). k.found.number) now ∙ number;
      bearer_is = ap (λ (k : KeptElement). k.found.bearer) now ∙ bearer;
      text_is = ap (λ (k : KeptElement). k.text) now ∙ text;
      known =
          subst (λ (k : KeptElement). AreJudged (set_of c) (shape_with (set_of c) ns new n children) (entry_of k.found)) (sym now)
          (subst (λ (sh : ElementShape). AreJudged (set_of c) sh (entry_of x.found)) (shape_is ∙ shape-now) judged);
    };
  }

module _ (c : Compiled) (ns : Nodes) (old new : KeptState) (n : ℕ) (k : KeptElement) (is : IsKept old.records.slots n k) (found : ElementEntry) (rewrites : Rewrites old new n (Some (record k { found = found }))) where
  was : kept_at old.records.slots n ≡ k
  was = kept-there old.records.slots n k is

  -- it is kept otherwise by what is found out about it
  pub found-anew : (pair : Governing) → found.governing ≡ pair → found.number ≡ n → found.bearer ≡ bearer_at ns n → (kept_at old.records.slots n).text ≡ own_chars ns n →
      (shape : ElementShape) → shape ≡ shape_with (set_of c) ns old n (children_at old.records.slots n) → AreJudged (set_of c) shape (entry_of found) →
      IsJudgedAnew c ns old new n pair (children_at old.records.slots n)
  found-anew pair pair_is number bearer text shape shape_is judged =
      kept-anew c ns old new n pair (children_at old.records.slots n) (record k { found = found }) rewrites pair_is (ap children_of (sym was)) (ap (λ (x : KeptElement). x.identity) (sym was))
      number bearer (ap (λ (x : KeptElement). x.text) (sym was) ∙ text) shape shape_is judged

  pub found-beside : (pair : Governing) → found.governing ≡ pair → CanGovern c.parts pair → IsBeside c ns old → IsBooked new.records → IsBeside c ns new
  found-beside pair pair_is can beside booked =
      beside-written c ns old new n (record k { found = found }) rewrites beside (beside.over.1.only n (k, is)) (subst (CanGovern c.parts) (sym pair_is) can)
      (λ none. ap (λ (x : KeptElement). x.identity) (sym was) ∙ beside.plain none n)
      (subst (λ (x : KeptElement). IsFreeFor old.lists old.records.slots n x.list) was (own-free old.lists old.records.slots beside.own n)) booked

-- ---- an element was judged by others that its record does not tell apart

other-flags : (a b : ChildCounts) → HaveSameFlags a b → HaveSameFlags b a
other-flags a b f = record { valid = sym f.valid; invalid = sym f.invalid; not_known = sym f.not_known; full = sym f.full; partial = sym f.partial; untried = sym f.untried }

pub known-alike : (s : SchemaSet) (ns : Nodes) (k : KeptState) (n : ℕ) (before list : KeptChildren) → list.stuck ≡ before.stuck → HaveSameFlags list.counts before.counts →
    AreJudged s (shape_with s ns k n before) (entry_at k.records.slots n) → AreJudged s (shape_with s ns k n list) (entry_at k.records.slots n)
known-alike s ns k n before list same flags known =
    let g = pair_at k.records.slots n in
    let shape = shape_with s ns k n before in
    let own = judged_of (entry_at k.records.slots n) in
    subst (λ (place : Option ℕ). AreJudged s (record shape { stuck = place; counts = list.counts }) (entry_at k.records.slots n)) (sym same)
    (local-same s.names s.parts g shape list.counts (other-flags list.counts before.counts flags) own known)

pub alike-anew : (c : Compiled) (ns : Nodes) (old : KeptState) (n : ℕ) (k : KeptElement) → IsKept old.records.slots n k → (before : KeptChildren) → IsJudgedBy (set_of c) ns old n before →
    (children_at old.records.slots n).stuck ≡ before.stuck → HaveSameFlags (children_at old.records.slots n).counts before.counts → IsJudgedAnew c ns old old n (pair_at old.records.slots n) (children_at old.records.slots n)
alike-anew c ns old n k is before judged stuck flags =
    let was = kept-there old.records.slots n k is in
    record {
      kept = k;
      rewrites = rewrites-same old n k is;
      pair_is = ap (λ (x : KeptElement). x.found.governing) (sym was);
      children_are = ap children_of (sym was);
      identity_is = ap (λ (x : KeptElement). x.identity) (sym was);
      judged = record {
        number_is = judged.number_is;
        bearer_is = judged.bearer_is;
        text_is = judged.text_is;
        known = known-alike (set_of c) ns old n before (children_at old.records.slots n) stuck flags judged.known;
      };
    }
