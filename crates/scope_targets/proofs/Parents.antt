-- Parents by number.
use Rattle.std.proofs.Common.{◌≡◌, ◌≢◌, ◌<◌, ℕ, zero, suc, List, [], ◌∷◌, ◌++◌, length, set, get_or, Option, None, refl, sym, ◌∙◌, get_or-set_same, get_or-set_other}
use Rattle.key_records.specs.Tables.{parent_in}

pub none-in : (n : ℕ) → parent_in [] n ≡ None
none-in zero = refl
none-in (suc n) = refl

pub one-more : (ps : List (Option ℕ)) (m : ℕ) → parent_in (ps ++ None ∷ []) m ≡ parent_in ps m
one-more [] zero = refl
one-more [] (suc m) = refl
one-more (p ∷ ps) zero = refl
one-more (p ∷ ps) (suc m) = one-more ps m

by-place : (ps : List (Option ℕ)) (m : ℕ) → parent_in ps m ≡ get_or ps m None
by-place [] m = refl
by-place (p ∷ ps) zero = refl
by-place (p ∷ ps) (suc m) = by-place ps m

pub set-here : (ps : List (Option ℕ)) (n : ℕ) (p : Option ℕ) → n < length ps → parent_in (set ps n p) n ≡ p
set-here ps n p within = by-place (set ps n p) n ∙ get_or-set_same ps n p None within

pub set-others : (ps : List (Option ℕ)) (n : ℕ) (p : Option ℕ) (m : ℕ) → m ≢ n → parent_in (set ps n p) m ≡ parent_in ps m
set-others ps n p m off = by-place (set ps n p) m ∙ get_or-set_other ps n m p None off ∙ sym (by-place ps m)
