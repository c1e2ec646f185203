-- A text without a byte that has an escape stands as it is.
use Rattle.std.proofs.Common.{◌≡◌, ℕ, List, [], ◌∷◌, ◌++◌, Bool, true, false, not, ◌&&◌, ◌==◌, refl, ap, ◌∙◌, arith}
use Rattle.std.specs.List.{list_all}
use Rattle.xsv_io.specs.Escaping.{escape, escaped, is_plain}

escape-at : (p q r s : Bool) (b : ℕ) → (b == 92) ≡ p → (b == 10) ≡ q → (b == 9) ≡ r → (b == 13) ≡ s → ((not p && not q) && (not r && not s)) ≡ true → escape b ≡ b ∷ []
escape-at false false false false b ep eq er es h = rw (ep, eq, er, es) refl
escape-at true q r s b ep eq er es h = grind arith
escape-at false true r s b ep eq er es h = grind arith
escape-at false false true s b ep eq er es h = grind arith
escape-at false false false true b ep eq er es h = grind arith

plain-byte : (b : ℕ) → is_plain b ≡ true → escape b ≡ b ∷ []
plain-byte b e = escape-at (b == 92) (b == 10) (b == 9) (b == 13) b refl refl refl refl e

plain-more : (p q : Bool) (b : ℕ) (bs : List ℕ) → is_plain b ≡ p → list_all is_plain bs ≡ q → (p && q) ≡ true → (list_all is_plain bs ≡ true → escaped bs ≡ bs) → escaped (b ∷ bs) ≡ b ∷ bs
plain-more true true b bs e f h more = ap (λ front. front ++ escaped bs) (plain-byte b e) ∙ ap (λ rest. b ∷ rest) (more f)
plain-more false q b bs e f h more = grind arith
plain-more true false b bs e f h more = grind arith

pub plain_text : (bs : List ℕ) → list_all is_plain bs ≡ true → escaped bs ≡ bs
plain_text [] e = refl
plain_text (b ∷ bs) e = plain-more (is_plain b) (list_all is_plain bs) b bs refl refl e (plain_text bs)
