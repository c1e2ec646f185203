-- Parts put in the places of all, from the last to the first.
use Rattle.std.proofs.Common.{◌≡◌, ℕ, suc, ◌+◌, ◌-◌, ◌<◌, ◌≤◌, List, [], ◌∷◌, ◌++◌, length, take, drop, set, get_or, refl, sym, ap, ◌∙◌, arith}
use Rattle.std.proofs.lemmas.List.{append_assoc, append-nil, take_more, length-take-le, set_at, drop_at, take_all, drop_all}

module _ {T : Type 0} where
  -- the list of parts, with the last of those that are left put
  pub put-step : (old rest : List T) (x : T) (k : ℕ) → k < length old → set (take (k + 1) old ++ rest) k x ≡ take k old ++ x ∷ rest
  put-step old rest x k l =
      let first = ap (λ (front : List T). set (front ++ rest) k x) (take_more old k x l) in
      let apart = ap (λ (all : List T). set all k x) (append_assoc (take k old) (get_or old k x ∷ []) rest) in
      first ∙ apart ∙ set_at (take k old) (get_or old k x) rest x k (length-take-le k old (omega arith))

  -- what is behind the ones that are left then
  pub rest-step : (all left rest : List T) (x : T) (k : ℕ) → k ≡ length left → (left ++ x ∷ []) ++ rest ≡ all → drop k all ≡ x ∷ rest
  rest-step all left rest x k n e = ap (drop k) (sym (sym (append_assoc left (x ∷ []) rest) ∙ e)) ∙ drop_at left (x ∷ rest) k (sym n)

  pub whole-step : (left rest : List T) (x : T) → left ++ (x ∷ rest) ≡ (left ++ x ∷ []) ++ rest
  whole-step left rest x = sym (append_assoc left (x ∷ []) rest)
