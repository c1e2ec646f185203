-- What is kept under numbers before and after a write, where it is read off what stands in the table.
use Rattle.std.proofs.Common.{◌≡◌, ℕ, ◌<◌, ◌≤◌, List, length, map, set, get_or, sym, ap, ◌∙◌, Option, None, refl, get_or-set_same, get_or-set_other}
use Rattle.std.specs.Option.{option_map}
use Rattle.std.proofs.Math.ListN.{get_or-map, get_or-eq_default}
use Rattle.kept_slots.specs.Slots.{at, Writes, Keeps}

module _ {A B : Type 0} (f : A → B) where
  pub seen-at : (xs : List (Option A)) (n : ℕ) → at (map (option_map f) xs) n ≡ option_map f (get_or xs n None)
  seen-at xs n = get_or-map (option_map f) xs n None

  pub seen-set : (xs : List (Option A)) (n : ℕ) (x : Option A) → n < length xs → Writes (map (option_map f) xs) (map (option_map f) (set xs n x)) n (option_map f x)
  seen-set xs n x within = record {
    here = seen-at (set xs n x) n ∙ ap (option_map f) (get_or-set_same xs n x None within);
    others = λ m other. seen-at (set xs n x) m ∙ ap (option_map f) (get_or-set_other xs n m x None other) ∙ sym (seen-at xs m);
  }

  pub seen-same : (xs ys : List (Option A)) → ((m : ℕ) → get_or ys m None ≡ get_or xs m None) → Keeps (map (option_map f) xs) (map (option_map f) ys)
  seen-same xs ys same m = seen-at ys m ∙ ap (option_map f) (same m) ∙ sym (seen-at xs m)

pub past-end : {B : Type 0} (slots : List (Option B)) (n : ℕ) → length slots ≤ n → Writes slots slots n None
past-end slots n past = record { here = get_or-eq_default slots None past; others = λ m other. refl }
