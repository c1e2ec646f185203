-- Codes alone are others: the element that has them waits, and what is kept of its child elements is right.
use Rattle.std.proofs.Common.{◌≡◌, ◌≢◌, ℕ, Bool, if◌then◌else◌, List, [], ◌∷◌, map, Option, Some, refl, sym, ap, ◌∙◌, subst, inl, inr}
use Rattle.std.specs.Prelude.{unwrap_or}
use Rattle.std.proofs.lemmas.Bool.{cases_eq, ne_eqb}
use Rattle.xs_codes.specs.declared.fault.Found.{Found}
use Rattle.assess_records.specs.Counts.{counts_of}
use Rattle.assess_records.specs.Numbered.{shape_of}
use Rattle.elem_governing.specs.declared.pairs.Governing.{Governing}
use Rattle.assessment.specs.Assessment.{AreJudged}
use Rattle.tree_assess.specs.declared.entry.ElementEntry.{ElementEntry}
use Rattle.compiled_schema.specs.Usable.{set_of}
use Rattle.compiled_schema.specs.declared.compiled.Compiled.{Compiled}
use Rattle.model_terms.specs.Symbols.{child_symbols}
use Rattle.model_terms.specs.Terms.{stuck_in}
use Rattle.model_lists.specs.Lists.{ListsView}
use Rattle.doc_nodes.specs.Nodes.{Nodes, element_children}
use Rattle.doc_changes.specs.Readers.{name_at, own_chars}
use Rattle.doc_readers.specs.Heads.{texts_named}
use Rattle.kept_slots.specs.Slots.{at}
use Rattle.kept_above.specs.from_kept_records.KeptElement.{KeptElement}
use Rattle.kept_above.specs.from_kept_records.Slots.{IsKept, IsMade, blank, kept_at, entry_at, pair_at, record_at}
use Rattle.kept_above.specs.from_kept_records.Fit.{models_of, root_codes, head_at, IsListed, IsGathered, IsFit}
use Rattle.kept_above.specs.from_kept_records.Books.{IsBooked}
use Rattle.kept_above.proofs.from_kept_records.Frames.{SeesChild, map-same, fit-same}
use Rattle.kept_above.specs.from_kept_state.Kept.{CanGovern, FitBut, IsBeside, IsFreeFor, Rewrites}
use Rattle.kept_above.specs.from_kept_state.KeptState.{KeptState}
use Rattle.kept_above.proofs.from_kept_state.Beside.{kept-there, own-free, beside-written}
use Rattle.kept_above.specs.from_kept_judging.Judged.{pair_by}
use Rattle.kept_keys.specs.Keys.{IsWhole, IsCoded, KeepsCodes, KeepsElements}
use Rattle.kept_keys.proofs.Whole.{elements-again, elements-same}

-- ---- the codes of the identity constraints of one element

module _ (c : Compiled) (ns : Nodes) (old mid : KeptState) (whole : IsWhole c ns old) (n : ℕ) (k : KeptElement) (is : IsKept old.records.slots n k) (codes : List Found)
    (rewrites : Rewrites old mid n (Some (record k { identity = codes }))) where
  kept-old : kept_at old.records.slots n ≡ k
  kept-old = kept-there old.records.slots n k is

  kept-mid : kept_at mid.records.slots n ≡ record (kept_at old.records.slots n) { identity = codes }
  kept-mid = kept-there mid.records.slots n (record k { identity = codes }) rewrites.slots.here ∙ ap (λ (x : KeptElement). record x { identity = codes }) (sym kept-old)

  pub identity-here : (kept_at mid.records.slots n).identity ≡ codes
  identity-here = ap (λ (x : KeptElement). x.identity) kept-mid

  pub identity-others : (m : ℕ) → m ≢ n → (kept_at mid.records.slots m).identity ≡ (kept_at old.records.slots m).identity
  identity-others m other = ap (λ (o : Option KeptElement). (unwrap_or o blank).identity) (rewrites.slots.others m other)

  found-stays : (m : ℕ) → (kept_at mid.records.slots m).found ≡ (kept_at old.records.slots m).found
  found-stays m = elim (cases_eq m n) [
    | inl e ↦ subst (λ (q : ℕ). (kept_at mid.records.slots q).found ≡ (kept_at old.records.slots q).found) (sym e) (ap (λ (x : KeptElement). x.found) kept-mid)
    | inr other ↦ ap (λ (o : Option KeptElement). (unwrap_or o blank).found) (rewrites.slots.others m other)
  ]

  made-mid : (m : ℕ) → IsMade old.records.slots m → IsMade mid.records.slots m
  made-mid m was = elim (cases_eq m n) [
    | inl e ↦ (record k { identity = codes }, ap (at mid.records.slots) e ∙ rewrites.slots.here)
    | inr other ↦ (was.0, rewrites.slots.others m other ∙ was.1)
  ]

  made-old : (m : ℕ) → IsMade mid.records.slots m → IsMade old.records.slots m
  made-old m now = elim (cases_eq m n) [
    | inl e ↦ (k, ap (at old.records.slots) e ∙ is)
    | inr other ↦ (now.0, sym (rewrites.slots.others m other) ∙ now.1)
  ]

  pair-stays : (m : ℕ) → pair_at mid.records.slots m ≡ pair_at old.records.slots m
  pair-stays m = ap (λ (e : ElementEntry). e.governing) (found-stays m)

  pub elements-written : KeepsElements old mid
  elements-written = record { made = λ m. (made-mid m, made-old m); pairs = pair-stays }

  pub beside-coded : c.identities.items ≢ [] → IsBooked mid.records → IsBeside c ns mid
  beside-coded some booked =
      let before = whole.beside in
      beside-written c ns old mid n (record k { identity = codes }) rewrites before (before.over.1.only n (k, is))
      (subst (CanGovern c.parts) (ap (λ (x : KeptElement). x.found.governing) kept-old) (before.governed n (k, is)))
      (λ none. absurd (some none))
      (subst (λ (x : KeptElement). IsFreeFor old.lists old.records.slots n x.list) kept-old (own-free old.lists old.records.slots before.own n)) booked

  sees : (m : ℕ) → SeesChild old.records.slots mid.records.slots m
  sees m = record { made = made-mid m; pair_stays = pair-stays m }

  records-stay : (xs : List ℕ) → counts_of (map (record_at mid.records.slots) xs) ≡ counts_of (map (record_at old.records.slots) xs)
  records-stay xs = ap counts_of (map-same (record_at mid.records.slots) (record_at old.records.slots) xs (λ i m e. ap (λ (found : ElementEntry). found.element) (found-stays m)))

  -- the others fit as before
  pub fit-coded : FitBut c ns mid (n ∷ [])
  fit-coded m now lacks =
      let other : m ≢ n = λ e. lacks.0 (sym e) in
      let fit = whole.fit m (made-old m now) tt in
      subst (λ (ids : List Found). IsFit (set_of c) (models_of c) ns mid.records.slots mid.lists ids m) (sym rewrites.ids)
      (subst (λ (v : ListsView). IsFit (set_of c) (models_of c) ns mid.records.slots v old.root_ids m) (sym rewrites.lists)
      (fit-same (set_of c) (models_of c) ns old.records.slots mid.records.slots old.lists old.root_ids m (rewrites.slots.others m other) (λ place child e. sees child)
      (records-stay (element_children ns m)) fit))

  pub gathered-coded : IsGathered (set_of c) (models_of c) ns mid.records.slots mid.lists n
  gathered-coded =
      let s = set_of c in
      let g = (whole.fit n (k, is) tt).gathered in
      let same = sym kept-mid in
      let names = map (name_at ns) (element_children ns n) in
      subst (λ (v : ListsView). IsGathered s (models_of c) ns mid.records.slots v n) (sym rewrites.lists) (record {
        number_is = ap (λ (x : KeptElement). x.found.number) kept-mid ∙ g.number_is;
        bearer_is = ap (λ (x : KeptElement). x.found.bearer) kept-mid ∙ g.bearer_is;
        text_is = ap (λ (x : KeptElement). x.text) kept-mid ∙ g.text_is;
        given = λ place child e. record {
          made = made-mid child (g.given place child e).made;
          pair_is =
              pair-stays child ∙ (g.given place child e).pair_is
              ∙ ap (λ (pair : Governing). pair_by c ns pair n place child) (sym (pair-stays n));
        };
        list_is = subst (λ (x : KeptElement). IsListed old.lists (models_of c x.found.governing.of) x.list (child_symbols c.names (models_of c x.found.governing.of) names)) same g.list_is;
        stuck_is = subst (λ (x : KeptElement). x.stuck ≡ stuck_in (models_of c x.found.governing.of) (child_symbols c.names (models_of c x.found.governing.of) names)) same g.stuck_is;
        counts_are = ap (λ (x : KeptElement). x.counts) kept-mid ∙ g.counts_are ∙ sym (records-stay (element_children ns n));
      })

  pub coded-then : (new : KeptState) → KeepsCodes mid new → IsCoded old new n codes
  coded-then new keeps = record {
    elements = elements-again old mid new elements-written keeps.elements;
    here = keeps.identity n ∙ identity-here;
    others = λ m other. keeps.identity m ∙ identity-others m other;
    ids = keeps.ids ∙ rewrites.ids;
  }

-- the element has them
pub coded-same : (k : KeptState) (n : ℕ) (codes : List Found) → (kept_at k.records.slots n).identity ≡ codes → IsCoded k k n codes
coded-same k n codes e = record { elements = elements-same k; here = e; others = λ m other. refl; ids = refl }

-- ---- the codes of IDs, which stand at the root

module _ (c : Compiled) (ns : Nodes) (old : KeptState) (whole : IsWhole c ns old) (codes : List Found) where
  abbrev with-ids : KeptState
  with-ids = record old { root_ids = codes }

  pub beside-ids : IsBeside c ns with-ids
  beside-ids =
      let before = whole.beside in
      record { over = before.over; governed = before.governed; plain = before.plain; booked = before.booked; own = before.own }

  ids-elsewhere : (m : ℕ) → m ≢ 1 → root_codes old.root_ids m ≡ root_codes codes m
  ids-elsewhere m other =
      ap (λ (b : Bool). if b then old.root_ids else []) (ne_eqb m 1 other) ∙ sym (ap (λ (b : Bool). if b then codes else []) (ne_eqb m 1 other))

  -- the others fit as before
  pub fit-ids : FitBut c ns with-ids (1 ∷ [])
  fit-ids m made lacks =
      let fit = whole.fit m made tt in
      let own = kept_at old.records.slots m in
      record {
        gathered = fit.gathered;
        known = subst (λ (ids : List Found). AreJudged (set_of c) (shape_of (head_at (set_of c) ns m) (texts_named ns m) (own_chars ns m) own.stuck own.counts own.identity ids) (entry_at old.records.slots m))
            (ids-elsewhere m (λ e. lacks.0 (sym e))) fit.known;
      }
