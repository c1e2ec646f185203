-- Texts without white space at their ends.
use Rattle.std.proofs.Common.{◌≡◌, ℕ, Bool, true, false, if◌then◌else◌, List, [], ◌∷◌, ◌++◌, refl, sym, ◌∙◌, ap, subst, append_assoc, length, length-append, arith}
use Rattle.std.proofs.lemmas.List.{append-nil}
use Rattle.xpath_subset.specs.inside.Gives.{IsAfter}
use Rattle.xpath_subset.specs.inside.Trims.{is_white_byte, trim_front, put_before, trim_end, trim_white, IsTrimmed, IsTight}
use Rattle.xpath_subset.proofs.Trims.{front_white, front_other, put_other, front_cut, trim_white-tight}
use Rattle.xpath_subset.proofs.Pieces.{end_of}

-- what has been cut is not cut again
end_again : (text : List ℕ) → trim_end (trim_end text) ≡ trim_end text
end_again [] = refl
end_again (b ∷ text) = by (trim_end text) (end_again text) (is_white_byte b) refl
  where
    by : (cut : List ℕ) → trim_end cut ≡ cut → (test : Bool) → is_white_byte b ≡ test → trim_end (put_before b cut) ≡ put_before b cut
    by [] e true t = ap (λ x. trim_end (if x then [] else b ∷ [])) t ∙ ap (λ x. if x then [] else b ∷ []) (sym t)
    by [] e false t = ap trim_end (put_other b t)
    by (c ∷ cut) e test t = ap (put_before b) e

front_again : (text : List ℕ) → trim_front (trim_front text) ≡ trim_front text
front_again [] = refl
front_again (b ∷ text) = by (is_white_byte b) refl (front_again text)
  where
    by : (test : Bool) → is_white_byte b ≡ test → trim_front (trim_front text) ≡ trim_front text → trim_front (trim_front (b ∷ text)) ≡ trim_front (b ∷ text)
    by true t again = ap trim_front (front_white b text t) ∙ again ∙ sym (front_white b text t)
    by false t again = ap trim_front (front_other b text t)

shorter : (b : ℕ) (text : List ℕ) → trim_front text ≡ b ∷ text → ⊥
shorter b text e = let cut = front_cut text in let all = ap length cut.2 ∙ length-append cut.0 (trim_front text) in let more = ap length e in omega (arith, all, more)

-- a text that begins with no white space still does, once its end is cut
front_of_end : (text : List ℕ) → trim_front text ≡ text → trim_front (trim_end text) ≡ trim_end text
front_of_end [] e = refl
front_of_end (b ∷ text) e = by (trim_end text) (is_white_byte b) refl
  where
    by : (cut : List ℕ) (test : Bool) → is_white_byte b ≡ test → trim_front (put_before b cut) ≡ put_before b cut
    by [] true t = ap (λ x. trim_front (if x then [] else b ∷ [])) t ∙ ap (λ x. if x then [] else b ∷ []) (sym t)
    by [] false t = ap trim_front (put_other b t) ∙ front_other b [] t ∙ sym (put_other b t)
    by (c ∷ cut) true t = absurd (shorter b text (sym (front_white b text t) ∙ e))
    by (c ∷ cut) false t = front_other b (c ∷ cut) t

pub trimmed_is : (text : List ℕ) → IsTrimmed (trim_white text)
trimmed_is text = record { front = front_of_end (trim_front text) (front_again text); end = end_again (trim_front text) }

pub trimmed_from : (text : List ℕ) → trim_white text ≡ text → IsTrimmed text
trimmed_from text e = subst IsTrimmed e (trimmed_is text)

pub trimmed_tight : (text : List ℕ) → IsTight text → trim_white text ≡ text
trimmed_tight text tight = ap trim_white (sym (append-nil text)) ∙ trim_white-tight [] text [] refl refl tight

-- what follows a token
pub trimmed_after : (token text rest : List ℕ) → IsAfter token text rest → IsTrimmed text → IsTrimmed rest
trimmed_after token text rest after trimmed =
    let cut = front_cut after.0 in
    let whole : text ≡ (token ++ cut.0) ++ rest = after.1 ∙ ap (λ more. token ++ more) (cut.2 ∙ ap (λ end. cut.0 ++ end) (sym after.2)) ∙ sym (append_assoc token cut.0 rest) in
    record {
      front = ap trim_front after.2 ∙ front_again after.0 ∙ sym after.2;
      end = end_of (token ++ cut.0) rest (subst (λ t. trim_end t ≡ t) whole trimmed.end);
    }
