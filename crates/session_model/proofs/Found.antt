-- The entry of a number.
use Rattle.std.proofs.Common.{◌≡◌, ◌==◌, ℕ, Bool, true, false, List, [], ◌∷◌, Some, subst}
use Rattle.std.specs.Prelude.{All, if◌then◌else◌}
use Rattle.std.proofs.lemmas.List.Elements.{All-head, All-tail}
use Rattle.std.proofs.lemmas.Option.{same_Some}
use Rattle.assessment.specs.Assessment.{Entry}
use Rattle.session_model.specs.Asking.{entry_at}

-- what holds of all entries holds of the one that is found
module _ (P : Entry → Type 0) (node : ℕ) (e : Entry) where
  first-or : (x : Entry) (xs : List Entry) (found : Bool) → P x → (entry_at node xs ≡ Some e → P e) → (if found then Some x else entry_at node xs) ≡ Some e → P e
  first-or x xs true p later is = subst P (same_Some x e is) p
  first-or x xs false p later is = later is

  pub found-is : (es : List Entry) → All P es → entry_at node es ≡ Some e → P e
  found-is [] h is = cc
  found-is (x ∷ xs) h is = first-or x xs (x.number == node) (All-head P x xs h) (found-is xs (All-tail P x xs h)) is
