-- The facts in the middle of a change of child elements stay, where a list is edited, and where what is kept of the parent is written.
use Rattle.std.proofs.Common.{◌≡◌, ◌≢◌, ℕ, List, map, Option, Some, refl, sym, ap, ◌∙◌, subst, inl, inr}
use Rattle.std.specs.Prelude.{slice_get, unwrap_or}
use Rattle.std.proofs.lemmas.Bool.{cases_eq}
use Rattle.std.proofs.lemmas.Option.{same_Some}
use Rattle.xs_codes.specs.declared.fault.Found.{Found}
use Rattle.assess_records.specs.Counts.{counts_of}
use Rattle.assess_records.specs.declared.counts.ChildCounts.{ChildCounts}
use Rattle.elem_governing.specs.declared.pairs.Governing.{Governing}
use Rattle.compiled_schema.specs.Usable.{set_of}
use Rattle.compiled_schema.specs.declared.compiled.Compiled.{Compiled}
use Rattle.model_terms.specs.Terms.{stuck_in}
use Rattle.model_lists.specs.Lists.{ListsView, IsLive, KeepLists}
use Rattle.model_lists.specs.declared.handle.ModelList.{ModelList}
use Rattle.doc_nodes.specs.Nodes.{Nodes, element_children}
use Rattle.doc_nodes.proofs.Among.{lacks-has}
use Rattle.kept_slots.specs.Slots.{at}
use Rattle.child_listing.specs.from_kept_records.KeptElement.{KeptElement}
use Rattle.child_listing.specs.from_kept_records.Slots.{IsKept, IsMade, blank, kept_at, pair_at, record_at, entry_at}
use Rattle.child_listing.specs.from_kept_records.Fit.{models_of, model_at, symbols_at, IsListed, IsGathered, IsFit, head_at, root_codes}
use Rattle.child_listing.specs.from_kept_records.Books.{IsBooked, HaveOwnLists}
use Rattle.child_listing.proofs.from_kept_records.Frames.{map-same, SeesChild, fit-same, gathered-same, fit-lists}
use Rattle.child_listing.proofs.from_kept_records.Lists.{listed-kept}
use Rattle.child_listing.specs.from_kept_state.Kept.{IsBeside, Rewrites}
use Rattle.child_listing.specs.from_kept_state.KeptChildren.{KeptChildren}
use Rattle.child_listing.specs.from_kept_state.KeptState.{KeptState}
use Rattle.child_listing.proofs.from_kept_state.Beside.{kept-there, beside-same}
use Rattle.child_listing.specs.from_kept_judging.Judged.{symbols_by, pair_by, IsJudgedBy, shape_with}
use Rattle.child_lists.specs.Family.{AreCounted, IsListedBy, IsAttributed, AreGivenBut, IsMidway, model_of, symbols_of}
use Rattle.assess_records.specs.Numbered.{shape_of}
use Rattle.assess_records.specs.declared.shape.ElementShape.{ElementShape}
use Rattle.assessment.specs.Attribution.{SchemaSet}
use Rattle.assessment.specs.Assessment.{AreJudged}
use Rattle.doc_changes.specs.Readers.{own_chars}
use Rattle.doc_readers.specs.Heads.{texts_named}
use Rattle.tree_assess.specs.Entries.{entry_of}
use Rattle.tree_assess.specs.declared.entry.ElementEntry.{ElementEntry}

-- ---- what an element is judged by

abbrev shape-by : SchemaSet → Nodes → ℕ → KeptChildren → List Found → List Found → ElementShape
shape-by s ns n children identity ids = shape_of (head_at s ns n) (texts_named ns n) (own_chars ns n) children.stuck children.counts identity (root_codes ids n)

pub judged-kept : (s : SchemaSet) (ns : Nodes) (old new : KeptState) (n : ℕ) (children : KeptChildren) → (kept_at new.records.slots n).found ≡ (kept_at old.records.slots n).found →
    (kept_at new.records.slots n).text ≡ (kept_at old.records.slots n).text → (kept_at new.records.slots n).identity ≡ (kept_at old.records.slots n).identity → new.root_ids ≡ old.root_ids →
    IsJudgedBy s ns old n children → IsJudgedBy s ns new n children
judged-kept s ns old new n children found text identity ids j = record {
  number_is = ap (λ (e : ElementEntry). e.number) found ∙ j.number_is;
  bearer_is = ap (λ (e : ElementEntry). e.bearer) found ∙ j.bearer_is;
  text_is = text ∙ j.text_is;
  known = subst (λ (e : ElementEntry). AreJudged s (shape_with s ns new n children) (entry_of e)) (sym found)
      (subst (λ (codes : List Found). AreJudged s (shape-by s ns n children codes new.root_ids) (entry_at old.records.slots n)) (sym identity)
      (subst (λ (codes : List Found). AreJudged s (shape-by s ns n children (kept_at old.records.slots n).identity codes) (entry_at old.records.slots n)) (sym ids) j.known));
}

-- ---- the list of the parent is edited

module _ (c : Compiled) (ns : Nodes) (k : KeptState) (w : ListsView) (p : ℕ) (h : ModelList) (own : (kept_at k.records.slots p).list ≡ Some h) (keeps : KeepLists k.lists w (λ g. g ≡ h)) (live : IsLive w h) where
  abbrev edited : KeptState
  edited = record k { lists = w }

  other-list : HaveOwnLists k.lists k.records.slots → (m : ℕ) → m ≢ p → (g : ModelList) → (kept_at k.records.slots m).list ≡ Some g → g ≢ h
  other-list lists m other g e same = other (lists.apart m p h (e ∙ ap Some same) own)

  pub beside-edited : IsBeside c ns k → IsBeside c ns edited
  beside-edited b = record {
    over = (b.over.0, record { usable = b.over.1.usable; stands = b.over.1.stands; only = b.over.1.only });
    governed = b.governed;
    plain = b.plain;
    booked = b.booked;
    own = record {
      apart = b.own.apart;
      live = λ m g e. elim (cases_eq m p) [
        | inl q ↦ subst (IsLive w) (same_Some h g (sym own ∙ subst (λ (n : ℕ). (kept_at k.records.slots n).list ≡ Some g) q e)) live
        | inr other ↦ let was = b.own.live m g e in (was.0, was.1, keeps g was.0 was.1 (other-list b.own m other g e) was.2)
      ];
    };
  }

  gathered-edited : HaveOwnLists k.lists k.records.slots → (m : ℕ) → m ≢ p → IsGathered (set_of c) (models_of c) ns k.records.slots k.lists m → IsGathered (set_of c) (models_of c) ns k.records.slots w m
  gathered-edited lists m other g = record {
    number_is = g.number_is;
    bearer_is = g.bearer_is;
    text_is = g.text_is;
    given = g.given;
    list_is = listed-kept k.lists w (λ x. x ≡ h) keeps (model_at (set_of c) (models_of c) ns k.records.slots m) (kept_at k.records.slots m).list (symbols_at (set_of c) (models_of c) ns k.records.slots m)
        (other-list lists m other) g.list_is;
    stuck_is = g.stuck_is;
    counts_are = g.counts_are;
  }

  pub midway-edited : (was : KeptChildren) (waiting : List ℕ) → IsMidway c ns k p was waiting → IsMidway c ns edited p was waiting
  midway-edited was waiting m = record {
    made = m.made;
    beside = beside-edited m.beside;
    top = m.top;
    fit = λ n made lacks.
        fit-lists (set_of c) (models_of c) ns k.records.slots k.lists w k.root_ids (λ x. x ≡ h) keeps n (other-list m.beside.own n (λ e. lacks.0 (sym e))) (m.fit n made lacks);
    apart = m.apart;
    gathered = λ n has. gathered-edited m.beside.own n (lacks-has p n waiting m.apart has) (m.gathered n has);
    judged = judged-kept (set_of c) ns k edited p was refl refl refl refl m.judged;
  }

-- ---- what is kept of the parent is written, but what is found out about it, its text, its list and its codes stay

module _ (c : Compiled) (ns : Nodes) (old new : KeptState) (p : ℕ) (k : KeptElement) (is : IsKept old.records.slots p k) (stuck : Option ℕ) (counts : ChildCounts)
    (rewrites : Rewrites old new p (Some (record k { stuck = stuck; counts = counts }))) where
  abbrev again : KeptElement
  again = record k { stuck = stuck; counts = counts }

  pub kept-was : kept_at old.records.slots p ≡ k
  kept-was = kept-there old.records.slots p k is

  pub kept-now : kept_at new.records.slots p ≡ again
  kept-now = kept-there new.records.slots p again rewrites.slots.here

  other-kept : (m : ℕ) → m ≢ p → kept_at new.records.slots m ≡ kept_at old.records.slots m
  other-kept m other = ap (λ o. unwrap_or o blank) (rewrites.slots.others m other)

  pub record-stays : (m : ℕ) → record_at new.records.slots m ≡ record_at old.records.slots m
  record-stays m = elim (cases_eq m p) [
    | inl e ↦ ap (record_at new.records.slots) e ∙ ap (λ (x : KeptElement). x.found.element) kept-now ∙ sym (ap (λ (x : KeptElement). x.found.element) kept-was) ∙ ap (record_at old.records.slots) (sym e)
    | inr other ↦ ap (λ (x : KeptElement). x.found.element) (other-kept m other)
  ]

  pub pair-stays : (m : ℕ) → pair_at new.records.slots m ≡ pair_at old.records.slots m
  pair-stays m = elim (cases_eq m p) [
    | inl e ↦ ap (pair_at new.records.slots) e ∙ ap (λ (x : KeptElement). x.found.governing) kept-now ∙ sym (ap (λ (x : KeptElement). x.found.governing) kept-was) ∙ ap (pair_at old.records.slots) (sym e)
    | inr other ↦ ap (λ (x : KeptElement). x.found.governing) (other-kept m other)
  ]

  pub identity-stays : (m : ℕ) → (kept_at new.records.slots m).identity ≡ (kept_at old.records.slots m).identity
  identity-stays m = elim (cases_eq m p) [
    | inl e ↦
        ap (λ k. (kept_at new.records.slots k).identity) e ∙ ap (λ (x : KeptElement). x.identity) kept-now ∙ sym (ap (λ (x : KeptElement). x.identity) kept-was)
        ∙ ap (λ k. (kept_at old.records.slots k).identity) (sym e)
    | inr other ↦ ap (λ (x : KeptElement). x.identity) (other-kept m other)
  ]

  pub made-stays : (m : ℕ) → IsMade old.records.slots m → IsMade new.records.slots m
  made-stays m made = elim (cases_eq m p) [
    | inl e ↦ (again, ap (at new.records.slots) e ∙ rewrites.slots.here)
    | inr other ↦ (made.0, rewrites.slots.others m other ∙ made.1)
  ]

  sees-stays : (m : ℕ) → SeesChild old.records.slots new.records.slots m
  sees-stays m = record { made = made-stays m; pair_stays = pair-stays m }

  counts-stay : (xs : List ℕ) → counts_of (map (record_at new.records.slots) xs) ≡ counts_of (map (record_at old.records.slots) xs)
  counts-stay xs = ap counts_of (map-same (record_at new.records.slots) (record_at old.records.slots) xs (λ i x e. record-stays x))

  was-made : (m : ℕ) → m ≢ p → IsMade new.records.slots m → IsMade old.records.slots m
  was-made m other made = (made.0, sym (rewrites.slots.others m other) ∙ made.1)

  -- with the lists and the codes as they are now
  gathered-now : (m : ℕ) → m ≢ p → IsGathered (set_of c) (models_of c) ns old.records.slots old.lists m → IsGathered (set_of c) (models_of c) ns new.records.slots new.lists m
  gathered-now m other g =
      gathered-same (set_of c) (models_of c) ns old.records.slots new.records.slots new.lists new.root_ids m (rewrites.slots.others m other) (λ i x e. sees-stays x) (counts-stay (element_children ns m))
      (subst (λ (v : ListsView). IsGathered (set_of c) (models_of c) ns old.records.slots v m) (sym rewrites.lists) g)

  fit-now : (m : ℕ) → m ≢ p → IsFit (set_of c) (models_of c) ns old.records.slots old.lists old.root_ids m → IsFit (set_of c) (models_of c) ns new.records.slots new.lists new.root_ids m
  fit-now m other f =
      fit-same (set_of c) (models_of c) ns old.records.slots new.records.slots new.lists new.root_ids m (rewrites.slots.others m other) (λ i x e. sees-stays x) (counts-stay (element_children ns m))
      (subst (λ (codes : List Found). IsFit (set_of c) (models_of c) ns old.records.slots new.lists codes m) (sym rewrites.ids)
      (subst (λ (v : ListsView). IsFit (set_of c) (models_of c) ns old.records.slots v old.root_ids m) (sym rewrites.lists) f))

  pub midway-written : IsBooked new.records → (was : KeptChildren) (waiting : List ℕ) → IsMidway c ns old p was waiting → IsMidway c ns new p was waiting
  midway-written booked was waiting m = record {
    made = (again, rewrites.slots.here);
    beside = beside-same c ns old new p again rewrites m.beside k is refl refl refl booked;
    top = record { made = made-stays 1 m.top.made; pair_is = pair-stays 1 ∙ m.top.pair_is };
    fit = λ n made lacks. let other : n ≢ p = λ e. lacks.0 (sym e) in fit-now n other (m.fit n (was-made n other made) lacks);
    apart = m.apart;
    gathered = λ n has. gathered-now n (lacks-has p n waiting m.apart has) (m.gathered n has);
    judged = judged-kept (set_of c) ns old new p was (ap (λ (x : KeptElement). x.found) kept-now ∙ sym (ap (λ (x : KeptElement). x.found) kept-was))
        (ap (λ (x : KeptElement). x.text) kept-now ∙ sym (ap (λ (x : KeptElement). x.text) kept-was))
        (ap (λ (x : KeptElement). x.identity) kept-now ∙ sym (ap (λ (x : KeptElement). x.identity) kept-was)) rewrites.ids m.judged;
  }

  list-stays : (kept_at new.records.slots p).list ≡ (kept_at old.records.slots p).list
  list-stays = ap (λ (x : KeptElement). x.list) kept-now ∙ sym (ap (λ (x : KeptElement). x.list) kept-was)

  pub listed-written : (symbols : List ℕ) → IsListedBy c old p symbols → IsListedBy c new p symbols
  listed-written symbols l =
      subst (λ (v : ListsView). IsListed v (model_of c new p) (kept_at new.records.slots p).list symbols) (sym rewrites.lists)
      (subst (λ (list : Option ModelList). IsListed old.lists (model_of c new p) list symbols) (sym list-stays)
      (subst (λ (g : Governing). IsListed old.lists (models_of c g.of) (kept_at old.records.slots p).list symbols) (sym (pair-stays p)) l))

  pub symbols-stay : symbols_of c ns new p ≡ symbols_of c ns old p
  symbols-stay = ap (λ (g : Governing). symbols_by c ns g.of p) (pair-stays p)

  pub model-stays : model_of c new p ≡ model_of c old p
  model-stays = ap (λ (g : Governing). models_of c g.of) (pair-stays p)

  listed-own : IsListedBy c old p (symbols_of c ns old p) → IsListedBy c new p (symbols_of c ns new p)
  listed-own l = subst (IsListedBy c new p) (sym symbols-stay) (listed-written (symbols_of c ns old p) l)

  -- the place where they get stuck is written
  pub stuck-written : IsListedBy c old p (symbols_of c ns old p) → stuck ≡ stuck_in (model_of c old p) (symbols_of c ns old p) → IsAttributed c ns new p
  stuck-written l e = record {
    listed = listed-own l;
    stuck_is = ap (λ (x : KeptElement). x.stuck) kept-now ∙ e ∙ ap (λ (g : Governing). stuck_in (models_of c g.of) (symbols_by c ns g.of p)) (sym (pair-stays p));
  }

  -- or it stays
  pub attributed-written : stuck ≡ k.stuck → IsAttributed c ns old p → IsAttributed c ns new p
  attributed-written e a = stuck-written a.listed (e ∙ ap (λ (x : KeptElement). x.stuck) (sym kept-was) ∙ a.stuck_is)

  pub given-written : (places : List ℕ) → AreGivenBut c ns old p places → AreGivenBut c ns new p places
  given-written places given place child e lacks = record {
    made = made-stays child (given place child e lacks).made;
    pair_is = pair-stays child ∙ (given place child e lacks).pair_is ∙ ap (λ (g : Governing). pair_by c ns g p place child) (sym (pair-stays p));
  }

  -- what is counted is written
  pub counts-written : (children : List ℕ) → ((place child : ℕ) → slice_get children place ≡ Some child → IsMade old.records.slots child) → counts ≡ counts_of (map (record_at old.records.slots) children) →
      AreCounted new p children
  counts-written children made e = record {
    made = λ place child f. made-stays child (made place child f);
    counts_are = ap (λ (x : KeptElement). x.counts) kept-now ∙ e ∙ sym (counts-stay children);
  }

  pub counted-written : counts ≡ k.counts → (children : List ℕ) → AreCounted old p children → AreCounted new p children
  counted-written e children a = counts-written children a.made (e ∙ ap (λ (x : KeptElement). x.counts) (sym kept-was) ∙ a.counts_are)
