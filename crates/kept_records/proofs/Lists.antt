-- Lists of child elements of their own, as elements come and go and as lists change.
use Rattle.std.proofs.Common.{◌≡◌, ◌≢◌, ◌⊎◌, ℕ, List, Option, None, Some, refl, sym, ap, ◌∙◌, subst, inl, inr}
use Rattle.std.specs.Prelude.{unwrap_or}
use Rattle.std.proofs.lemmas.Bool.{cases_eq}
use Rattle.std.proofs.lemmas.Option.{none-some}
use Rattle.content_models.specs.declared.automaton.ContentAutomaton.{ContentAutomaton}
use Rattle.model_lists.specs.Lists.{ListsView, IsListOf, IsLive, KeepLists}
use Rattle.model_lists.specs.declared.handle.ModelList.{ModelList}
use Rattle.kept_slots.specs.Slots.{at, Writes}
use Rattle.kept_records.specs.declared.element.KeptElement.{KeptElement}
use Rattle.kept_records.specs.Slots.{KeptSlots, blank, kept_at}
use Rattle.kept_records.specs.Fit.{IsListed}
use Rattle.kept_records.specs.Books.{HaveOwnLists}

abbrev list-at : KeptSlots → ℕ → Option ModelList
list-at ks n = (kept_at ks n).list

-- ---- as elements come and go

module _ (v : ListsView) (ks new : KeptSlots) (n : ℕ) (x : Option KeptElement) (writes : Writes ks new n x) where
  other-list : (m : ℕ) → m ≢ n → list-at new m ≡ list-at ks m
  other-list m other = ap (λ o. (unwrap_or o blank).list) (writes.others m other)

  own-list : list-at new n ≡ (unwrap_or x blank).list
  own-list = ap (λ o. (unwrap_or o blank).list) writes.here

  -- the list of the element that is written is live, and no other's
  pub own-lists-written : HaveOwnLists v ks → ((h : ModelList) → (unwrap_or x blank).list ≡ Some h → IsLive v h × ((m : ℕ) → m ≢ n → list-at ks m ≢ Some h)) → HaveOwnLists v new
  own-lists-written own fresh = record {
    apart = λ m p h a b. elim (cases_eq m n) [
      | inl e ↦ elim (cases_eq p n) [
        | inl f ↦ e ∙ sym f
        | inr g ↦ absurd ((fresh h (sym own-list ∙ subst (λ (q : ℕ). list-at new q ≡ Some h) e a)).1 p g (sym (other-list p g) ∙ b))
      ]
      | inr d ↦ elim (cases_eq p n) [
        | inl f ↦ absurd ((fresh h (sym own-list ∙ subst (λ (q : ℕ). list-at new q ≡ Some h) f b)).1 m d (sym (other-list m d) ∙ a))
        | inr g ↦ own.apart m p h (sym (other-list m d) ∙ a) (sym (other-list p g) ∙ b)
      ]
    ];
    live = λ m h a. elim (cases_eq m n) [
      | inl e ↦ (fresh h (sym own-list ∙ subst (λ (q : ℕ). list-at new q ≡ Some h) e a)).0
      | inr d ↦ own.live m h (sym (other-list m d) ∙ a)
    ];
  }

-- an element is taken out
pub own-lists-taken : (v : ListsView) (ks new : KeptSlots) (n : ℕ) → Writes ks new n None → HaveOwnLists v ks → HaveOwnLists v new
own-lists-taken v ks new n writes own = own-lists-written v ks new n None writes own (λ h e. absurd (none-some h e))

-- ---- as lists change

live-kept : (v w : ListsView) (but : ModelList → Type 0) → KeepLists v w but → (h : ModelList) → ¬ but h → IsLive v h → IsLive w h
live-kept v w but keeps h not_it live = (live.0, live.1, keeps h live.0 live.1 not_it live.2)

pub own-lists-kept : (v w : ListsView) (but : ModelList → Type 0) (ks : KeptSlots) → KeepLists v w but → ((n : ℕ) (h : ModelList) → list-at ks n ≡ Some h → ¬ but h) → HaveOwnLists v ks → HaveOwnLists w ks
own-lists-kept v w but ks keeps not_those own = record { apart = own.apart; live = λ n h e. live-kept v w but keeps h (not_those n h e) (own.live n h e) }

-- a new list is no element's
pub new-list-free : (v : ListsView) (ks : KeptSlots) (h : ModelList) → ¬ IsLive v h → HaveOwnLists v ks → (m : ℕ) → list-at ks m ≢ Some h
new-list-free v ks h free own m e = free (own.live m h e)

-- the list of an element stays
pub listed-kept : (v w : ListsView) (but : ModelList → Type 0) → KeepLists v w but → (a : Option ContentAutomaton) (l : Option ModelList) (symbols : List ℕ) → ((h : ModelList) → l ≡ Some h → ¬ but h) →
    IsListed v a l symbols → IsListed w a l symbols
listed-kept v w but keeps None None symbols not_it is = tt
listed-kept v w but keeps None (Some h) symbols not_it is = is
listed-kept v w but keeps (Some a) None symbols not_it is = is
listed-kept v w but keeps (Some a) (Some h) symbols not_it is = keeps h a symbols (not_it h refl) is
