-- Where all is governed as it should be, nothing is governed anew.
use Rattle.std.proofs.Common.{◌≡◌, ◌≢◌, ℕ, suc, ◌+◌, List, [], ◌∷◌, length, Bool, true, Option, Some, refl, sym, ap, ◌∙◌, inl, inr}
use Rattle.std.specs.Prelude.{slice_get, if◌then◌else◌}
use Rattle.xs_names.specs.Names.{NameTable}
use Rattle.tree_rows.specs.Forest.{Forest, none, text, element}
use Rattle.xs_components.specs.declared.common.TypeId.{TypeId}
use Rattle.elem_governing.specs.declared.pairs.Governing.{Governing}
use Rattle.assessment.specs.Local.{HasElement}
use Rattle.compiled_schema.specs.declared.compiled.Compiled.{Compiled}
use Rattle.edit_budgets.specs.Budget.{same_governing}
use Rattle.doc_nodes.specs.Nodes.{Nodes, Has, element_children}
use Rattle.doc_changes.specs.Stands.{StandFor}
use Rattle.doc_changes.specs.Readers.{element_numbers, AreRead}
use Rattle.kept_slots.specs.Slots.{at}
use Rattle.child_lists.specs.from_kept_records.KeptElement.{KeptElement}
use Rattle.child_lists.specs.from_kept_records.Slots.{KeptSlots, IsMade, pair_at}
use Rattle.child_lists.specs.from_kept_state.Kept.{FitBut}
use Rattle.child_lists.specs.from_kept_state.KeptState.{KeptState}
use Rattle.child_lists.proofs.from_kept_state.Beside.{kept-there}
use Rattle.child_lists.specs.from_kept_judging.Judged.{pair_by}
use Rattle.kept_below.specs.Moved.{is_typed, moved}

pub has-place : (xs : List ℕ) (x : ℕ) → Has x xs → (i : ℕ) × (slice_get xs i ≡ Some x)
has-place [] x h = absurd h
has-place (y ∷ ys) x (inl e) = (0, ap Some e)
has-place (y ∷ ys) x (inr h) = let r = has-place ys x h in (suc r.0, r.1)

-- an element has the type by which it is governed
typed-so : (same : (of : Option TypeId) → same_governing of of ≡ true) (ks : KeptSlots) (n : ℕ) (g : Governing) → IsMade ks n → pair_at ks n ≡ g → is_typed (at ks n) g.of ≡ true
typed-so same ks n g made e =
    ap (λ o. is_typed o g.of) made.1
    ∙ ap (λ (x : KeptElement). same_governing x.found.governing.of g.of) (sym (kept-there ks n made.0 made.1))
    ∙ ap (λ (x : Governing). same_governing x.of g.of) e
    ∙ same g.of

module _ (same : (of : Option TypeId) → same_governing of of ≡ true) (c : Compiled) (ns : Nodes) (k : KeptState) (p : ℕ) (fit : FitBut c ns k (p ∷ [])) (governs : ℕ → Governing) where
  -- so it is with these siblings and all below them, none of which is the one that waits
  pub nothing-moves : (t : NameTable) (f : Forest) → StandFor t ns f → AreRead t ns f → ((m : ℕ) → HasElement m f → m ≢ p) →
      ((n place child : ℕ) → HasElement n f → slice_get (element_children ns n) place ≡ Some child → governs child ≡ pair_by c ns (governs n) n place child) →
      ((m : ℕ) → Has m (element_numbers f) → IsMade k.records.slots m × (pair_at k.records.slots m ≡ governs m)) → moved k.records.slots governs f ≡ 0
  nothing-moves t none s r apart given so = refl
  nothing-moves t (text number chars next) s r apart given so = nothing-moves t next s.1 r apart given so
  nothing-moves t (element number name bindings attributes children next) s r apart given so =
      let own = so number (inl refl) in
      let inner = r.0.children_are in
      let here = typed-so same k.records.slots number (governs number) own.0 own.1 in
      let below = nothing-moves t children s.1 r.1 (λ m h. apart m (inr (inl h))) (λ n place child h. given n place child (inr (inl h))) (λ m h.
      let at-place = has-place (element_numbers children) m h in
      let e : slice_get (element_children ns number) at-place.0 ≡ Some m = ap (λ xs. slice_get xs at-place.0) inner ∙ at-place.1 in
      let g = (fit number own.0 ((λ q. apart number (inl refl) (sym q)), tt)).gathered.given at-place.0 m e in
      (g.made, g.pair_is ∙ ap (λ (x : Governing). pair_by c ns x number at-place.0 m) own.1 ∙ sym (given number at-place.0 m (inl refl) e))) in
      let later = nothing-moves t next s.2 r.2 (λ m h. apart m (inr (inr h))) (λ n place child h. given n place child (inr (inr h))) (λ m h. so m (inr h)) in
      ap (λ (b : Bool). (if b then 0 else length (element_numbers children)) + (moved k.records.slots governs children + moved k.records.slots governs next)) here
      ∙ ap (λ x. 0 + (x + moved k.records.slots governs next)) below ∙ ap (λ x. 0 + (0 + x)) later
