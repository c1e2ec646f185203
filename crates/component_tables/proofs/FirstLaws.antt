-- The first place of a name with one place more.
use Rattle.std.proofs.Common.{◌≡◌, ℕ, suc, ◌+◌, ◌==◌, List, [], ◌∷◌, ◌++◌, Option, None, Some, length, refl, sym, ap, ◌∙◌, arith}
use Rattle.std.specs.Prelude.{slice_index_or, if◌then◌else◌}
use Rattle.std.specs.Option.{option_or}
use Rattle.component_tables.specs.Symbols.{if_named, first_from, first_place, AreKept}

option_or-none : {T : Type 0} (a : Option T) → option_or a None ≡ a
option_or-none None = refl
option_or-none (Some x) = refl

option_or-assoc : {T : Type 0} (a b c : Option T) → option_or a (option_or b c) ≡ option_or (option_or a b) c
option_or-assoc None b c = refl
option_or-assoc (Some x) b c = refl

first-push : (names : List (Option ℕ)) (own : Option ℕ) (i name : ℕ) → first_from (names ++ own ∷ []) i name ≡ option_or (first_from names i name) (if_named own (i + length names) name)
first-push [] own i name =
    let z : i ≡ i + 0 = omega arith in
    option_or-none (if_named own i name) ∙ ap (λ k. if_named own k name) z
first-push (first ∷ names) own i name =
    let z : suc i + length names ≡ i + suc (length names) = omega arith in
    ap (option_or (if_named first i name)) (first-push names own (suc i) name ∙ ap (λ k. option_or (first_from names (suc i) name) (if_named own k name)) z) ∙
    option_or-assoc (if_named first i name) (first_from names (suc i) name) (if_named own (i + suc (length names)) name)

-- a place without a name
pub kept-none : (names firsts : List (Option ℕ)) → AreKept names firsts → AreKept (names ++ None ∷ []) firsts
kept-none names firsts kept = record {
  exact = λ name. kept.exact name ∙ sym (first-push names None 0 name ∙ option_or-none (first_place names name));
}

-- a place with a name
pub kept-some : (names old new : List (Option ℕ)) (own place : ℕ) → place ≡ length names → AreKept names old →
    ((n : ℕ) → slice_index_or new n None ≡ option_or (slice_index_or old n None) (if own == n then Some place else None)) →
    AreKept (names ++ Some own ∷ []) new
kept-some names old new own place is kept added = record {
  exact = λ name.
      let many : 0 + length names ≡ place = omega arith in
      added name ∙ ap (λ o. option_or o (if own == name then Some place else None)) (kept.exact name) ∙
      sym (first-push names (Some own) 0 name ∙ ap (λ k. option_or (first_from names 0 name) (if_named (Some own) k name)) many);
}

-- the same names by a longer list
pub kept-same : (names old new : List (Option ℕ)) → AreKept names old → ((n : ℕ) → slice_index_or new n None ≡ slice_index_or old n None) → AreKept names new
kept-same names old new kept same = record { exact = λ name. same name ∙ kept.exact name }
