-- What a session holds is what contracts see of it.
use Rattle.std.proofs.Common.{◌≡◌, ℕ, List, [], ◌∷◌, Option, None, Some, sym, ap, ◌∙◌, subst}
use Rattle.std.specs.Prelude.{All, false, if◌then◌else◌, ◌==◌, Bool, true}
use Rattle.std.specs.Option.{option_map}
use Rattle.std.proofs.lemmas.List.Elements.{All-head, All-tail}
use Rattle.std.proofs.lemmas.Option.{none-some, same_Some}
use Rattle.xs_names.specs.Names.{NameTable}
use Rattle.tree_rows.specs.Forest.{Forest, none, text, element, Document}
use Rattle.tree_rows.specs.Kinds.{kind_of}
use Rattle.tree_rows.specs.Whole.{HasRoot}
use Rattle.tree_rows.specs.declared.row.NodeKind.{NodeKind}
use Rattle.assessment.specs.Assessment.{Entry, Assessed, Beside, entries, IsAssessment}
use Rattle.assessment.specs.Local.{HasElement}
use Rattle.assessment.specs.Attribution.{SchemaSet}
use Rattle.compiled_schema.specs.Usable.{IsUsable, set_of}
use Rattle.plain_tree.specs.Found.{HasNames}
use Rattle.what_is_found.specs.Identity.{beside_of}
use Rattle.doc_changes.proofs.Named.{has_names}
use Rattle.compiled_schema.specs.declared.compiled.Compiled.{Compiled}
use Rattle.tree_assess.specs.Entries.{entry_of}
use Rattle.what_is_found.specs.IsFound.{IsFound}
use Rattle.session_model.specs.Asking as asking
use Rattle.session_model.specs.Asking.{code_total, number_after}
use Rattle.session_model.specs.Reports.{IsEntryNamed}
use Rattle.session_model.specs.State.{State}
use Rattle.doc_nodes.specs.Nodes.{Nodes}
use Rattle.doc_changes.specs.Stands.{StandsFor}
use Rattle.doc_tree.specs.Following.{next_of}
use Rattle.doc_tree.specs.Readers.{parent_of}
use Rattle.kept_slots.specs.Slots.{at}
use Rattle.kept_inverses.specs.from_kept_records.KeptElement.{KeptElement}
use Rattle.kept_inverses.specs.from_kept_records.Slots.{KeptSlots, IsMade, kept_at}
use Rattle.kept_inverses.specs.from_kept_records.Found.{read_as, found_in}
use Rattle.kept_inverses.specs.from_kept_state.KeptState.{KeptState}
use Rattle.kept_inverses.proofs.from_kept_records.Kept.{entry-is, total-is}
use Rattle.kept_inverses.proofs.from_kept_records.Made.{fit-at, made-elements, elements-made}
use Rattle.kept_inverses.proofs.from_kept_records.Sums.{kept-is}
use Rattle.edit_session.specs.Held.{document_in, found_by, IsPresent, state_of, IsHeld}
use Rattle.edit_session.specs.declared.session.EditSession.TheInside.{Inside}
use Rattle.edit_session.proofs.Following.{numbers-elements, none-after, after-element}
use Rattle.edit_session.proofs.Standing.{stands-now, over-now, settled, found-now}

-- the first entry is the root's
root-first : (ns : Nodes) (ks : KeptSlots) (f : Forest) → HasRoot f → (k : KeptElement) → at ks 1 ≡ Some k → k.found.element.validity ≡ asking.root_validity (entries (found_in ns ks f))
root-first ns ks none h k is = absurd h
root-first ns ks (text number chars next) h k is = absurd h
root-first ns ks (element number name bindings attributes children next) h k is =
    ap (λ (x : KeptElement). x.found.element.validity) (sym (kept-is ks 1 k is)) ∙ ap (λ (n : ℕ). (kept_at ks n).found.element.validity) (sym h.0)

module _ (c : Compiled) (ns : Nodes) (k : KeptState) (present : IsPresent c ns k) where
  abbrev d : Document
  d = document_in c ns

  numbered : (m : ℕ) → HasElement m d.forest → (kept_at k.records.slots m).found.number ≡ m
  numbered m h =
      let a = settled c ns k present.whole in
      (fit-at c ns k.records.slots k.lists k.root_ids d a m (made-elements c ns k.records.slots k.lists k.root_ids d a m h)).gathered.number_is

  entry-now : (n : ℕ) → option_map (λ (x : KeptElement). entry_of x.found) (at k.records.slots n) ≡ asking.entry_at n (found_by c ns k)
  entry-now n = sym (entry-is c ns k.records.slots k.lists k.root_ids d (settled c ns k present.whole) n)

  total-now : k.records.total ≡ code_total (found_by c ns k)
  total-now = total-is c ns k.records k.lists k.root_ids d (settled c ns k present.whole) present.whole.beside.booked

  root-now : (x : KeptElement) → at k.records.slots 1 ≡ Some x → x.found.element.validity ≡ asking.root_validity (found_by c ns k)
  root-now x is = root-first ns k.records.slots d.forest (settled c ns k present.whole).over.stands.tree.root x is

  root-made : IsMade k.records.slots 1
  root-made = present.whole.top.made

  after-made : (n : ℕ) → IsMade k.records.slots n → next_of n d.forest ≡ number_after n (found_by c ns k)
  after-made n made =
      let a = settled c ns k present.whole in
      sym (after-element (read_as ns k.records.slots) n d.forest numbered (a.over.stands.tree.differ n) (elements-made c ns k.records.slots k.lists k.root_ids d a n made))

  after-none : (n : ℕ) → at k.records.slots n ≡ None → None ≡ number_after n (found_by c ns k)
  after-none n gone =
      let a = settled c ns k present.whole in
      sym (none-after n (found_by c ns k) (λ h.
      let made = made-elements c ns k.records.slots k.lists k.root_ids d a n (numbers-elements (read_as ns k.records.slots) n d.forest numbered h) in
      none-some made.0 (sym gone ∙ made.1)))

-- what holds of all entries holds of the one that is found
module _ (P : Entry → Type 0) (node : ℕ) (e : Entry) where
  first-or : (x : Entry) (xs : List Entry) (found : Bool) → P x → (asking.entry_at node xs ≡ Some e → P e) → (if found then Some x else asking.entry_at node xs) ≡ Some e → P e
  first-or x xs true p later is = subst P (same_Some x e is) p
  first-or x xs false p later is = later is

  holds-at : (es : List Entry) → All P es → asking.entry_at node es ≡ Some e → P e
  holds-at [] h is = cc
  holds-at (x ∷ xs) h is = first-or x xs (x.number == node) (All-head P x xs h) (holds-at xs (All-tail P x xs h)) is

-- ---- of a session

module _ (s : Inside) (v : State) (is : state_of s ≡ v) (held : IsHeld s) where
  pub live-now : (node : ℕ) (kind : Option NodeKind) → ((d : Document) → StandsFor s.set.value.names s.doc d → kind ≡ kind_of node d.forest) → kind ≡ kind_of node v.document.forest
  live-now node kind tree = tree (document_in s.set.value s.doc) (stands-now s.set.value s.doc held.stands) ∙ ap (λ (x : State). kind_of node x.document.forest) is

  pub parent-now : (node : ℕ) (above : Option ℕ) → ((d : Document) → StandsFor s.set.value.names s.doc d → above ≡ parent_of node d.forest) → above ≡ parent_of node v.document.forest
  parent-now node above tree =
      tree (document_in s.set.value s.doc) (stands-now s.set.value s.doc held.stands) ∙ ap (λ (x : State). parent_of node x.document.forest) is

  pub live-next : (node : ℕ) (next : Option ℕ) → ((t : NameTable) (d : Document) → StandsFor t s.doc d → next ≡ next_of node d.forest) → next ≡ next_of node v.document.forest
  live-next node next tree =
      tree s.set.value.names (document_in s.set.value s.doc) (stands-now s.set.value s.doc held.stands) ∙ ap (λ (x : State). next_of node x.document.forest) is

  pub set-now : (set : Compiled) → set ≡ s.set.value → set_of set ≡ v.set
  set-now set same = ap set_of same ∙ ap (λ (x : State). x.set) is

  -- while it is open
  module _ (open_now : v.closed ≡ false) where
    pub present-now : IsPresent s.set.value s.doc s.kept
    present-now = held.present (ap (λ (x : State). x.closed) is ∙ open_now)

    pub found-is : IsFound v.set v.document v.found
    found-is = subst (λ (x : State). IsFound x.set x.document x.found) is (found-now s.set.value s.doc s.kept present-now)

    pub entry-at : (n : ℕ) → option_map (λ (x : KeptElement). entry_of x.found) (at s.kept.records.slots n) ≡ asking.entry_at n v.found
    entry-at n = entry-now s.set.value s.doc s.kept present-now n ∙ ap (λ (x : State). asking.entry_at n x.found) is

    pub total-held : s.kept.records.total ≡ code_total v.found
    total-held = total-now s.set.value s.doc s.kept present-now ∙ ap (λ (x : State). code_total x.found) is

    pub root-held : (x : KeptElement) → at s.kept.records.slots 1 ≡ Some x → x.found.element.validity ≡ asking.root_validity v.found
    root-held x there = root-now s.set.value s.doc s.kept present-now x there ∙ ap (λ (y : State). asking.root_validity y.found) is

    pub root-there-held : at s.kept.records.slots 1 ≡ None → ⊥
    root-there-held gone = let made = root-made s.set.value s.doc s.kept present-now in none-some made.0 (sym gone ∙ made.1)

    pub after-held : (n : ℕ) → IsMade s.kept.records.slots n → next_of n v.document.forest ≡ number_after n v.found
    after-held n made = subst (λ (x : State). next_of n x.document.forest ≡ number_after n x.found) is (after-made s.set.value s.doc s.kept present-now n made)

    pub none-held : (n : ℕ) → at s.kept.records.slots n ≡ None → None ≡ number_after n v.found
    none-held n gone = after-none s.set.value s.doc s.kept present-now n gone ∙ ap (λ (x : State). number_after n x.found) is

    -- what is read of the entry of a number
    module _ (n : ℕ) where
      pub read-none : {X : Type 0} (read : Entry → X) → None ≡ at s.kept.records.slots n → None ≡ option_map read (asking.entry_at n v.found)
      read-none read gone = ap (λ (o : Option KeptElement). option_map read (option_map (λ (x : KeptElement). entry_of x.found) o)) gone ∙ ap (option_map read) (entry-at n)

      pub read-some : {X : Type 0} (read : Entry → X) (x : KeptElement) → Some x ≡ at s.kept.records.slots n → Some (read (entry_of x.found)) ≡ option_map read (asking.entry_at n v.found)
      read-some read x there = ap (λ (o : Option KeptElement). option_map read (option_map (λ (y : KeptElement). entry_of y.found) o)) there ∙ ap (option_map read) (entry-at n)

      -- its names and types are those of the set
      pub named-held : ((c : Compiled) (b : Beside) (f : Forest) (found : Assessed) → IsUsable c → HasNames c.names f → IsAssessment (set_of c) b f found → All (IsEntryNamed (set_of c)) (entries found)) →
          (x : KeptElement) → Some x ≡ at s.kept.records.slots n → IsEntryNamed v.set (entry_of x.found)
      named-held law x there =
          let c = s.set.value in
          let over = over-now c s.doc s.kept present-now.whole in
          let is_found = found-now c s.doc s.kept present-now in
          let all = law c (beside_of (set_of c) is_found.identities (document_in c s.doc).forest is_found.found) (document_in c s.doc).forest is_found.found over.usable
          (has_names c.names over.stands.table s.doc (document_in c s.doc).forest over.stands.nodes) is_found.assessed in
          let mine = subst (All (IsEntryNamed (set_of c))) (sym is_found.entries_are) all in
          let own = ap (option_map (λ (y : KeptElement). entry_of y.found)) there ∙ entry-now c s.doc s.kept present-now n in
          subst (λ (set : SchemaSet). IsEntryNamed set (entry_of x.found)) (ap (λ (y : State). y.set) is)
          (holds-at (IsEntryNamed (set_of c)) n (entry_of x.found) (found_by c s.doc s.kept) mine (sym own))
