-- An element whose child elements are kept as they should be is judged anew, and those above it wait for what it comes to.
use Rattle.std.proofs.Common.{◌≡◌, ◌≢◌, ℕ, List, [], ◌∷◌, map, true, All, Some, refl, sym, ap, ◌∙◌, subst, inl, inr}
use Rattle.std.specs.Prelude.{remove, slice_get, unwrap_or}
use Rattle.std.proofs.lemmas.Bool.{cases_eq}
use Rattle.std.proofs.lemmas.List.Elements.{All-nil, All-cons}
use Rattle.std.proofs.lemmas.Option.{none-some, same_Some}
use Rattle.assess_records.specs.Counts.{counts_of}
use Rattle.assess_records.specs.declared.counts.ChildCounts.{ChildCounts}
use Rattle.compiled_schema.specs.Usable.{set_of}
use Rattle.compiled_schema.specs.declared.compiled.Compiled.{Compiled}
use Rattle.model_lists.specs.Lists.{ListsView}
use Rattle.doc_changes.proofs.Reading.{are_read}
use Rattle.doc_readers.proofs.Reading.{readers_are}
use Rattle.doc_nodes.specs.Nodes.{Nodes, node, Has, IsSound, is_element_at, element_children}
use Rattle.doc_changes.specs.Held.{parent_at}
use Rattle.kept_slots.specs.Slots.{at}
use Rattle.child_lists.specs.from_kept_records.KeptElement.{KeptElement}
use Rattle.child_lists.specs.from_kept_records.Slots.{IsMade, blank, kept_at, pair_at, record_at}
use Rattle.child_lists.specs.from_kept_records.Fit.{models_of, IsListed, IsFit, IsTop}
use Rattle.child_lists.proofs.from_kept_records.Counting.{counts-at}
use Rattle.child_lists.proofs.from_kept_records.Frames.{map-same}
use Rattle.child_lists.proofs.from_kept_records.Made.{made-in}
use Rattle.child_lists.proofs.from_kept_records.Nodes.{by-node, has-element, root-numbers}
use Rattle.child_lists.specs.from_kept_state.Kept.{FitBut, IsBeside, children_of, children_at, outcome_at}
use Rattle.child_lists.specs.from_kept_state.KeptChildren.{KeptChildren}
use Rattle.child_lists.specs.from_kept_state.KeptState.{KeptState}
use Rattle.child_lists.specs.from_kept_judging.Judged.{symbols_by, AreChildren, IsJudgedBy, IsJudgedAnew}
use Rattle.child_lists.proofs.from_kept_judging.Anew.{not-own-parent, fit-judged, anew-pair, anew-all-fit}
use Rattle.kept_above.specs.Climbing.{with_outcome, IsNearly, IsClimbing, KeepsRest}
use Rattle.kept_above.proofs.Climbing.{judged-kept}
use Rattle.child_lists.proofs.from_kept_forgetting.Placed.{others-differ, children-differ, child-place, parent-element}
use Rattle.child_lists.specs.Family.{AreCounted, IsAttributed, AreGivenBut, IsMidway}

-- its child elements are given, listed, attributed and counted
pub children-right : (c : Compiled) (ns : Nodes) (k : KeptState) (n : ℕ) → IsAttributed c ns k n → AreCounted k n (element_children ns n) → AreGivenBut c ns k n [] →
    AreChildren c ns k n (pair_at k.records.slots n) (children_at k.records.slots n)
children-right c ns k n attributed counted given = record {
  given = λ place child e. given place child e tt;
  list_is = attributed.listed;
  stuck_is = attributed.stuck_is;
  counts_are = counted.counts_are;
}

module _ (c : Compiled) (ns : Nodes) (old : KeptState) (n : ℕ) (was : KeptChildren) (midway : IsMidway c ns old n was []) (below : AreChildren c ns old n (pair_at old.records.slots n) (children_at old.records.slots n)) where
  sound : IsSound ns
  sound = midway.beside.over.1.stands.links

  element : is_element_at ns n ≡ true
  element = midway.beside.over.1.only n midway.made

  given-made : (m : ℕ) → IsMade old.records.slots m → (place child : ℕ) → slice_get (element_children ns m) place ≡ Some child → IsMade old.records.slots child
  given-made m made place child e = elim (cases_eq m n) [
    | inl q ↦ (below.given place child (ap (λ x. slice_get (element_children ns x) place) (sym q) ∙ e)).made
    | inr other ↦ ((midway.fit m made ((λ q. other (sym q)), tt)).gathered.given place child e).made
  ]

  -- something is kept of each element
  all : (m : ℕ) → is_element_at ns m ≡ true → IsMade old.records.slots m
  all m is =
      let d = midway.beside.over.0 in
      let stands = midway.beside.over.1.stands in
      let roots = subst (All (IsMade old.records.slots)) (sym (root-numbers d.forest stands.tree.root)) (All-cons (IsMade old.records.slots) 1 [] midway.top.made (All-nil (IsMade old.records.slots))) in
      made-in c.names ns old.records.slots given-made d.forest (readers_are c.names ns d.forest (are_read c.names ns d.forest stands.nodes)) roots m (has-element c.names ns d stands m is)

  module _ (new : KeptState) (after : IsBeside c ns new) (anew : IsJudgedAnew c ns old new n (pair_at old.records.slots n) (children_at old.records.slots n)) where
    all-fit : (waiting : List ℕ) → ((q : ℕ) → parent_at ns n ≡ Some q → waiting ≡ q ∷ []) → FitBut c ns new waiting
    all-fit waiting above =
        anew-all-fit c ns old new n (pair_at old.records.slots n) (children_at old.records.slots n) anew midway.beside after below waiting
        (λ m made lacks. midway.fit m made (lacks.0, tt)) (λ q e. subst (Has q) (sym (above q e)) (inl refl))

    pub other-same : (m : ℕ) → m ≢ n → kept_at new.records.slots m ≡ kept_at old.records.slots m
    other-same m other = ap (λ o. unwrap_or o blank) (anew.rewrites.slots.others m other)

    pub pair-kept : (m : ℕ) → pair_at new.records.slots m ≡ pair_at old.records.slots m
    pair-kept m = elim (cases_eq m n) [
      | inl e ↦ ap (pair_at new.records.slots) e ∙ anew-pair c ns old new n (pair_at old.records.slots n) (children_at old.records.slots n) anew ∙ ap (pair_at old.records.slots) (sym e)
      | inr other ↦ ap (λ (x : KeptElement). x.found.governing) (other-same m other)
    ]

    pub made-kept : (m : ℕ) → IsMade old.records.slots m → IsMade new.records.slots m
    made-kept m made = elim (cases_eq m n) [
      | inl e ↦ (anew.kept, ap (at new.records.slots) e ∙ anew.rewrites.slots.here)
      | inr other ↦ (made.0, anew.rewrites.slots.others m other ∙ made.1)
    ]

    -- the parent counts it as what it came to before
    module _ (q : ℕ) (above : parent_at ns n ≡ Some q) where
      off : q ≢ n
      off e = let own = by-node ns n (node ns n) refl element in not-own-parent ns sound n own.0 own.1 (above ∙ ap Some e)

      fit-above : IsFit (set_of c) (models_of c) ns old.records.slots old.lists old.root_ids q
      fit-above = midway.fit q (all q (parent-element c.names ns midway.beside.over.0 midway.beside.over.1.stands n q above)) ((λ e. off (sym e)), tt)

      abbrev inner : List ℕ
      inner = element_children ns q

      place : (i : ℕ) × (slice_get inner i ≡ Some n)
      place = child-place ns sound n q above element

      abbrev rest : KeptState → ChildCounts
      rest k = counts_of (map (record_at k.records.slots) (remove inner place.0))

      rest-now : rest old ≡ rest new
      rest-now =
          ap counts_of (map-same (record_at old.records.slots) (record_at new.records.slots) (remove inner place.0)
          (λ j y e. ap (λ (x : KeptElement). x.found.element) (sym (other-same y (others-differ inner place.0 n place.1 (children-differ ns sound q) j y e)))))

      abbrev nearly : KeptElement → KeptChildren
      nearly x = record (children_of x) { counts = with_outcome (outcome_at new.records.slots n) (rest old) }

      children-above : AreChildren c ns new q (pair_at old.records.slots q) (nearly (kept_at old.records.slots q))
      children-above = record {
        given = λ i x e. record { made = made-kept x (fit-above.gathered.given i x e).made; pair_is = pair-kept x ∙ (fit-above.gathered.given i x e).pair_is };
        list_is = subst (λ (v : ListsView). IsListed v (models_of c (pair_at old.records.slots q).of) (kept_at old.records.slots q).list (symbols_by c ns (pair_at old.records.slots q).of q))
            (sym anew.rewrites.lists) fit-above.gathered.list_is;
        stuck_is = fit-above.gathered.stuck_is;
        counts_are = ap (with_outcome (outcome_at new.records.slots n)) rest-now ∙ sym (counts-at (record_at new.records.slots) inner place.0 n place.1);
      }

      near-above : IsNearly c ns new q n (outcome_at old.records.slots n)
      near-above = record {
        others = rest old;
        counted = ap (λ (x : KeptElement). x.counts) (other-same q off) ∙ fit-above.gathered.counts_are ∙ counts-at (record_at old.records.slots) inner place.0 n place.1;
        children = subst (λ (x : KeptElement). AreChildren c ns new q x.found.governing (nearly x)) (sym (other-same q off)) children-above;
        judged = subst (λ (x : KeptElement). IsJudgedBy (set_of c) ns new q (children_of x)) (sym (other-same q off))
            (judged-kept (set_of c) ns old new q (children_at old.records.slots q) (ap (λ (x : KeptElement). x.found) (other-same q off)) (ap (λ (x : KeptElement). x.text) (other-same q off))
            (ap (λ (x : KeptElement). x.identity) (other-same q off)) anew.rewrites.ids (fit-judged c ns old q fit-above));
      }

    pub climbing : IsClimbing c ns new n (outcome_at old.records.slots n)
    climbing = record {
      element = element;
      all = λ m is. made-kept m (all m is);
      root = λ e. all-fit [] (λ q above. absurd (none-some q (sym e ∙ above)));
      parent = λ q above. (all-fit (q ∷ []) (λ r higher. ap (λ x. x ∷ []) (same_Some q r (sym above ∙ higher))), near-above q above);
    }

    -- the root is governed as before
    pub top-kept : (last : KeptState) → KeepsRest new last → IsTop (set_of c) ns last.records.slots
    top-kept last rest = record {
      made = (rest.made 1).0 (made-kept 1 midway.top.made);
      pair_is = rest.pairs 1 ∙ pair-kept 1 ∙ midway.top.pair_is;
    }
