-- No NCName has a space.
use Rattle.std.proofs.Common.{◌≡◌, ℕ, zero, suc, Bool, true, false, ◌&&◌, not, List, [], ◌∷◌, ◌++◌, refl, ap, ◌∙◌, lit<}
use Rattle.std.specs.Prelude.{codes, decimal}
use Rattle.std.specs.List.{list_all, list_any}
use Rattle.std.specs.Str.{IsUtf8, IsAscii, chars}
use Rattle.std.proofs.lemmas.Str.{chars-append, chars-IsAscii, IsUtf8-from_ascii}
use Rattle.xs_names.specs.Characters.{is_colon, is_name_start, is_name_char, is_name, is_ncname}
use Rattle.redefine_names.specs.VersionNames.{version_local}

and-false : (a b : Bool) → b ≡ false → (a && b) ≡ false
and-false true b e = e
and-false false b e = refl

spaced-chars : (front back : List ℕ) → list_all is_name_char (front ++ 32 ∷ back) ≡ false
spaced-chars [] back = refl
spaced-chars (c ∷ front) back = and-false (is_name_char c) (list_all is_name_char (front ++ 32 ∷ back)) (spaced-chars front back)

spaced-name : (front back : List ℕ) → is_name (front ++ 32 ∷ back) ≡ false
spaced-name [] back = refl
spaced-name (c ∷ front) back = and-false (is_name_start c) (list_all is_name_char (front ++ 32 ∷ back)) (spaced-chars front back)

pub spaced : (front back : List ℕ) → is_ncname (front ++ 32 ∷ back) ≡ false
spaced front back = ap (λ b. b && not (list_any is_colon (front ++ 32 ∷ back))) (spaced-name front back)

space-ascii : IsAscii (codes " ")
space-ascii zero = lit< tt
space-ascii (suc i) = lit< tt

space-first : (back : List ℕ) → chars (codes " " ++ back) ≡ 32 ∷ chars back
space-first back = chars-append (codes " ") back (IsUtf8-from_ascii (codes " ") space-ascii) ∙ ap (λ (front : List ℕ). front ++ chars back) (chars-IsAscii (codes " ") space-ascii)

grouped : (xs ys zs : List ℕ) → (xs ++ ys) ++ zs ≡ xs ++ (ys ++ zs)
grouped [] ys zs = refl
grouped (x ∷ xs) ys zs = ap (λ (rest : List ℕ). x ∷ rest) (grouped xs ys zs)

pub original-spaced : (local : List ℕ) (place : ℕ) → IsUtf8 local → is_ncname (chars (version_local local place)) ≡ false
original-spaced local place text =
    ap (λ (whole : List ℕ). is_ncname (chars whole)) (grouped local (codes " ") (decimal place)) ∙
    (ap is_ncname (chars-append local (codes " " ++ decimal place) text ∙ ap (λ (back : List ℕ). chars local ++ back) (space-first (decimal place)))
    ∙ spaced (chars local) (chars (decimal place)))
