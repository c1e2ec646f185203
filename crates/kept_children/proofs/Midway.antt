-- The facts in the middle of a change of child elements stay, where a child element is governed anew.
use Rattle.std.proofs.Common.{◌≡◌, ◌≢◌, ℕ, zero, suc, List, [], ◌∷◌, Option, None, Some, refl, sym, ap, ◌∙◌, subst, inl, inr, arith}
use Rattle.std.specs.Prelude.{slice_get, unwrap_or}
use Rattle.std.specs.Option.{option_and_then}
use Rattle.std.proofs.lemmas.Bool.{cases_eq}
use Rattle.std.proofs.lemmas.Option.{none-some, same_Some}
use Rattle.content_models.specs.declared.automaton.ContentAutomaton.{ContentAutomaton}
use Rattle.compiled_schema.specs.Usable.{set_of}
use Rattle.compiled_schema.specs.declared.compiled.Compiled.{Compiled}
use Rattle.model_terms.specs.Terms.{stuck_in}
use Rattle.model_lists.specs.declared.handle.ModelList.{ModelList}
use Rattle.doc_nodes.specs.Nodes.{Node, Nodes, node, IsSound, element_children}
use Rattle.doc_changes.specs.Held.{parent_at}
use Rattle.kept_slots.specs.Slots.{at}
use Rattle.child_lists.specs.from_kept_records.KeptElement.{KeptElement}
use Rattle.child_lists.specs.from_kept_records.Slots.{IsMade, blank, kept_at, pair_at}
use Rattle.child_lists.specs.from_kept_records.Fit.{models_of, IsListed}
use Rattle.child_lists.proofs.from_kept_records.Nodes.{by-node, child-parent, root-there, there as there-node}
use Rattle.child_lists.specs.from_kept_state.Kept.{FitBut, IsBeside}
use Rattle.child_lists.specs.from_kept_state.KeptChildren.{KeptChildren}
use Rattle.child_lists.specs.from_kept_state.Governed.{Governed}
use Rattle.child_lists.specs.from_kept_state.KeptState.{KeptState}
use Rattle.child_lists.specs.from_kept_judging.Judged.{symbols_by, pair_by}
use Rattle.kept_above.proofs.Climbing.{judged-kept}
use Rattle.child_lists.proofs.from_kept_forgetting.Placed.{children-differ, one-place}
use Rattle.child_lists.specs.from_kept_forgetting.Below.{upwards, IsWithin}
use Rattle.child_lists.proofs.from_kept_forgetting.Walks.{self-within, parent-outside, siblings-apart}
use Rattle.kept_below.specs.Below.{IsSettled}
use Rattle.child_lists.specs.Places.{IsPlaceOf}
use Rattle.child_lists.specs.Family.{IsAttributed, AreGivenBut, IsMidway, model_of, symbols_of}
use Rattle.child_lists.specs.declared.place.ChildPlace.{ChildPlace}

-- ---- a child element is governed anew

module _ (c : Compiled) (ns : Nodes) (old new : KeptState) (spot : ChildPlace) (place : IsPlaceOf ns spot) (element : Governed) (node_is : element.node ≡ spot.node)
    (settled : IsSettled ns old new element) (before : IsBeside c ns old) (after : IsBeside c ns new) (there : IsMade old.records.slots spot.parent) where
  abbrev p : ℕ
  p = spot.parent

  sound : IsSound ns
  sound = before.over.1.stands.links

  up : parent_at ns element.node ≡ Some p
  up = ap (parent_at ns) node_is ∙ place.parent_is

  not-parent : ¬ IsWithin ns element.node p
  not-parent = parent-outside ns sound p element.node p up (omega arith)

  pub parent-stays : at new.records.slots p ≡ at old.records.slots p
  parent-stays = settled.rest.slots p not-parent

  parent-kept : kept_at new.records.slots p ≡ kept_at old.records.slots p
  parent-kept = ap (λ o. unwrap_or o blank) parent-stays

  -- another child element of the parent
  pub sibling-stays : (i m : ℕ) → slice_get (element_children ns p) i ≡ Some m → m ≢ spot.node → at new.records.slots m ≡ at old.records.slots m
  sibling-stays i m e other =
      settled.rest.slots m (λ w.
      let own = by-node ns p (node ns p) refl (before.over.1.only p there) in
      siblings-apart ns sound p m element.node m (child-parent ns sound p own.0 own.1 i m e) up (λ q. other (q ∙ node_is)) (self-within ns m) w)

  -- the list of the parent
  listed-stays : (a : Option ContentAutomaton) (list : Option ModelList) → (kept_at old.records.slots p).list ≡ list → (symbols : List ℕ) → IsListed old.lists a list symbols → IsListed new.lists a list symbols
  listed-stays None None own symbols l = tt
  listed-stays None (Some h) own symbols l = l
  listed-stays (Some a) None own symbols l = l
  listed-stays (Some a) (Some h) own symbols l =
      (settled.rest.lists h a symbols (λ m within e. not-parent (subst (IsWithin ns element.node) (before.own.apart m p h e own) within)) l).0

  pub attributed-settled : IsAttributed c ns old p → IsAttributed c ns new p
  attributed-settled a = record {
    listed = subst (λ (x : KeptElement). IsListed new.lists (models_of c x.found.governing.of) x.list (symbols_by c ns x.found.governing.of p)) (sym parent-kept)
        (listed-stays (model_of c old p) (kept_at old.records.slots p).list refl (symbols_of c ns old p) a.listed);
    stuck_is = subst (λ (x : KeptElement). x.stuck ≡ stuck_in (models_of c x.found.governing.of) (symbols_by c ns x.found.governing.of p)) (sym parent-kept) a.stuck_is;
  }

  -- it is given now, and the others as before
  pub given-settled : element.pair ≡ pair_by c ns (pair_at old.records.slots p) p spot.place spot.node → (places : List ℕ) → AreGivenBut c ns old p (spot.place ∷ places) → AreGivenBut c ns new p places
  given-settled pair places given i m e lacks = elim (cases_eq m spot.node) [
    | inl own ↦
        let same : i ≡ spot.place = one-place (element_children ns p) i spot.place spot.node (children-differ ns sound p) (e ∙ ap Some own) place.node_is in
        record {
          made = subst (IsMade new.records.slots) (node_is ∙ sym own) settled.made;
          pair_is = ap (pair_at new.records.slots) (own ∙ sym node_is) ∙ settled.pair_is ∙ pair ∙ ap (λ (x : KeptElement). pair_by c ns x.found.governing p spot.place spot.node) (sym parent-kept)
              ∙ (λ j. pair_by c ns (pair_at new.records.slots p) p (sym same j) (sym own j));
        }
    | inr other ↦
        let g = given i m e ((λ q. other (same_Some m spot.node (sym e ∙ ap (slice_get (element_children ns p)) (sym q) ∙ place.node_is))), lacks) in
        let stays = sibling-stays i m e other in
        record {
          made = (g.made.0, stays ∙ g.made.1);
          pair_is = ap (λ o. (unwrap_or o blank).found.governing) stays ∙ g.pair_is ∙ ap (λ (x : KeptElement). pair_by c ns x.found.governing p i m) (sym parent-kept);
        }
  ]

  root-parent : parent_at ns 1 ≡ None
  root-parent =
      let d = before.over.0 in
      let stands = before.over.1.stands in
      let own = there-node c.names ns d.forest stands.nodes 1 (root-there d.forest stands.tree.root) in
      ap (option_and_then (λ (x : Node). x.parent)) own.1 ∙ (stands.root own.0 own.1).0

  rootless : 1 ≡ element.node → ⊥
  rootless q = none-some p (sym root-parent ∙ subst (λ n. parent_at ns n ≡ Some p) (sym (q ∙ node_is)) place.parent_is)

  root-apart : ¬ IsWithin ns element.node 1
  root-apart (zero, e) = rootless (same_Some 1 element.node e)
  root-apart (suc levels, e) = none-some element.node (ap (option_and_then (upwards ns levels)) (sym root-parent) ∙ e)

  pub midway-settled : (was : KeptChildren) (waiting : List ℕ) → IsMidway c ns old p was waiting → FitBut c ns new (p ∷ []) → IsMidway c ns new p was []
  midway-settled was waiting m fit = record {
    made = (m.made.0, parent-stays ∙ m.made.1);
    beside = after;
    top = (let same = settled.rest.slots 1 root-apart in record {
      made = (m.top.made.0, same ∙ m.top.made.1);
      pair_is = ap (λ o. (unwrap_or o blank).found.governing) same ∙ m.top.pair_is;
    });
    fit = fit;
    apart = tt;
    gathered = λ n has. absurd has;
    judged = judged-kept (set_of c) ns old new p was (ap (λ (x : KeptElement). x.found) parent-kept) (ap (λ (x : KeptElement). x.text) parent-kept) (ap (λ (x : KeptElement). x.identity) parent-kept) settled.rest.ids m.judged;
  }
