-- What is kept beside a document, as one element is kept otherwise.
use Rattle.std.proofs.Common.{◌≡◌, ℕ, [], true, Option, Some, refl, sym, ap, ◌∙◌, subst, inl, inr}
use Rattle.std.specs.Prelude.{unwrap_or}
use Rattle.std.proofs.lemmas.Bool.{cases_eq}
use Rattle.compiled_schema.specs.declared.compiled.Compiled.{Compiled}
use Rattle.model_lists.specs.Lists.{ListsView}
use Rattle.doc_nodes.specs.Nodes.{Nodes, is_element_at}
use Rattle.kept_records.specs.declared.element.KeptElement.{KeptElement}
use Rattle.kept_records.specs.Slots.{KeptSlots, IsKept, blank, kept_at, pair_at}
use Rattle.kept_records.specs.Books.{IsBooked, HaveOwnLists}
use Rattle.kept_records.proofs.Lists.{own-lists-written}
use Rattle.kept_state.specs.Kept.{CanGovern, IsBeside, IsFreeFor, Rewrites}
use Rattle.kept_state.specs.declared.state.KeptState.{KeptState}

-- what is kept of an element, where something is
pub kept-there : (ks : KeptSlots) (n : ℕ) (k : KeptElement) → IsKept ks n k → kept_at ks n ≡ k
kept-there ks n k e = ap (λ o. unwrap_or o blank) e

-- ---- one element is kept otherwise

pub rewrites-again : (old mid new : KeptState) (n : ℕ) (x y : Option KeptElement) → Rewrites old mid n x → Rewrites mid new n y → Rewrites old new n y
rewrites-again old mid new n x y first second = record {
  slots = record { here = second.slots.here; others = λ m other. second.slots.others m other ∙ first.slots.others m other };
  lists = second.lists ∙ first.lists;
  ids = second.ids ∙ first.ids;
}

-- it is kept as it was
pub rewrites-same : (k : KeptState) (n : ℕ) (x : KeptElement) → IsKept k.records.slots n x → Rewrites k k n (Some x)
rewrites-same k n x e = record { slots = record { here = e; others = λ m other. refl }; lists = refl; ids = refl }

-- the list of an element is its own
pub own-free : (v : ListsView) (ks : KeptSlots) → HaveOwnLists v ks → (n : ℕ) → IsFreeFor v ks n (kept_at ks n).list
own-free v ks own n h e = (own.live n h e, λ m other f. other (own.apart m n h f e))

module _ (c : Compiled) (ns : Nodes) (old new : KeptState) (n : ℕ) (k : KeptElement) (rewrites : Rewrites old new n (Some k)) (beside : IsBeside c ns old) where
  -- with a list of its own, governed as it may be, with no codes without constraints, and the sums kept
  pub beside-written : is_element_at ns n ≡ true → CanGovern c.parts k.found.governing → (c.identities.items ≡ [] → k.identity ≡ []) → IsFreeFor old.lists old.records.slots n k.list → IsBooked new.records → IsBeside c ns new
  beside-written element governed plain free booked = record {
    over = (
      beside.over.0,
      record {
        usable = beside.over.1.usable;
        stands = beside.over.1.stands;
        only = λ m made. elim (cases_eq m n) [
          | inl e ↦ subst (λ (q : ℕ). is_element_at ns q ≡ true) (sym e) element
          | inr other ↦ beside.over.1.only m (made.0, sym (rewrites.slots.others m other) ∙ made.1)
        ];
      },
    );
    governed = λ m made. elim (cases_eq m n) [
      | inl e ↦ subst (CanGovern c.parts) (sym (ap (pair_at new.records.slots) e ∙ ap (λ (x : KeptElement). x.found.governing) (kept-there new.records.slots n k rewrites.slots.here))) governed
      | inr other ↦
          subst (CanGovern c.parts) (sym (ap (λ o. (unwrap_or o blank).found.governing) (rewrites.slots.others m other)))
          (beside.governed m (made.0, sym (rewrites.slots.others m other) ∙ made.1))
    ];
    plain = λ none m. elim (cases_eq m n) [
      | inl e ↦ ap (λ (q : ℕ). (kept_at new.records.slots q).identity) e ∙ ap (λ (x : KeptElement). x.identity) (kept-there new.records.slots n k rewrites.slots.here) ∙ plain none
      | inr other ↦ ap (λ o. (unwrap_or o blank).identity) (rewrites.slots.others m other) ∙ beside.plain none m
    ];
    booked = booked;
    own = subst (λ (v : ListsView). HaveOwnLists v new.records.slots) (sym rewrites.lists) (own-lists-written old.lists old.records.slots new.records.slots n (Some k) rewrites.slots beside.own free);
  }

  -- with the same list and codes, governed as before, and the sums kept
  pub beside-same : (was : KeptElement) → IsKept old.records.slots n was → k.found.governing ≡ was.found.governing → k.list ≡ was.list → k.identity ≡ was.identity → IsBooked new.records → IsBeside c ns new
  beside-same was is pair list codes booked =
      let before = kept-there old.records.slots n was is in
      let same : (kept_at old.records.slots n).list ≡ k.list = ap (λ (x : KeptElement). x.list) before ∙ sym list in
      let governing : pair_at old.records.slots n ≡ k.found.governing = ap (λ (x : KeptElement). x.found.governing) before ∙ sym pair in
      beside-written (beside.over.1.only n (was, is)) (subst (CanGovern c.parts) governing (beside.governed n (was, is)))
      (λ none. codes ∙ ap (λ (x : KeptElement). x.identity) (sym before) ∙ beside.plain none n)
      (subst (IsFreeFor old.lists old.records.slots n) same (own-free old.lists old.records.slots beside.own n)) booked
