-- A name by its first character.
use Rattle.std.proofs.Common.{◌≡◌, ℕ, List, [], ◌∷◌, Some, true, refl, ◌∙◌, ap}
use Rattle.std.specs.List.{slice_get, list_all}
use Rattle.xs_names.specs.Characters.{is_name, is_name_start, is_name_char}

-- a text that begins as a name does is a name where all its characters are characters of names
is_name_cons : (c : ℕ) (cs : List ℕ) → is_name_start c ≡ true → is_name (c ∷ cs) ≡ list_all is_name_char (c ∷ cs)
is_name_cons c cs e = rw e refl

pub is_name-first : (cs : List ℕ) (c : ℕ) → Some c ≡ slice_get cs 0 → is_name_start c ≡ true → is_name cs ≡ list_all is_name_char cs
is_name-first [] c e s = cc
is_name-first (x ∷ cs) c e s =
    let same : x ≡ c = cc in
    let start : is_name_start x ≡ true = ap is_name_start same ∙ s in
    is_name_cons x cs start
