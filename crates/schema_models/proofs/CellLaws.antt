-- The cells of types, and their sums.
use Rattle.std.proofs.Common.{◌≡◌, ◌≢◌, ℕ, suc, ◌+◌, ◌<◌, ◌≤◌, inl, inr, List, [], ◌∷◌, Option, None, Some, map, length, get_or, refl, sym, ap, subst, ◌∙◌, arith}
use Rattle.std.specs.Prelude.{MatchOption, slice_set}
use Rattle.std.specs.List.{sum_by}
use Rattle.std.specs.declared.cmp.Ordering.{Ordering}
use Rattle.std.specs.declared.cmp.Ordering.TheVariants.{Less, Equal, Greater}
use Rattle.std.proofs.lemmas.Bool.{cases_eq}
use Rattle.std.proofs.lemmas.List.{length-map, length-set, get_or-map, get_or-set_same, get_or-set_other}
use Rattle.std.proofs.lemmas.List.Sums.{sum_by-cons, sum_by-set}
use Rattle.xs_names.specs.Names.{NameTable}
use Rattle.xs_components.specs.Tables.{Tables}
use Rattle.content_automaton.specs.Symbols.{AreSymbolsOf}
use Rattle.content_models.specs.Terms.{model_terms}
use Rattle.content_models.specs.Built.{IsBuilt, symbols_of, states_of, cells_of}
use Rattle.content_models.specs.declared.automaton.ContentAutomaton.{ContentAutomaton}
use Rattle.content_models.specs.declared.automaton.ContentAutomaton.TheVariants.{States, All}
use Rattle.schema_models.specs.SetModels.{by_place, content_of, most_cells, IsTableSize, IsCellCount, AreCellsUpTo, IsPastCells}
use Rattle.schema_models.specs.inside.Steps.{model_at, taken, IsMade}
use Rattle.schema_models.proofs.OrderLaws.{less-greater, equal-greater, not-greater-itself}
use Rattle.schema_models.proofs.UniqueLaws.{sizes-same}

abbrev sum : List ℕ → ℕ
sum xs = sum_by (λ n. n) xs

sum-taken : (models : List (Option ContentAutomaton)) → sum (map taken models) ≡ sum_by taken models
sum-taken [] = refl
sum-taken (m ∷ models) =
    let a : sum (taken m ∷ map taken models) ≡ taken m + sum (map taken models) = sum_by-cons (λ n. n) (taken m) (map taken models) in
    let b : sum_by taken (m ∷ models) ≡ taken m + sum_by taken models = sum_by-cons taken m models in
    let c = sum-taken models in
    omega (arith, a, b, c)

sum-le : (xs ys : List ℕ) → length xs ≡ length ys → ((k : ℕ) → k < length xs → get_or xs k 0 ≤ get_or ys k 0) → sum xs ≤ sum ys
sum-le [] [] e le = omega arith
sum-le [] (y ∷ ys) e le = absurd (omega (arith, e))
sum-le (x ∷ xs) [] e le = absurd (omega (arith, e))
sum-le (x ∷ xs) (y ∷ ys) e le =
    let head : x ≤ y = le 0 (omega arith) in
    let rest : sum xs ≤ sum ys = sum-le xs ys (omega (arith, e)) (λ k l. le (suc k) (omega (arith, l))) in
    let a : sum (x ∷ xs) ≡ x + sum xs = sum_by-cons (λ n. n) x xs in
    let b : sum (y ∷ ys) ≡ y + sum ys = sum_by-cons (λ n. n) y ys in
    omega (arith, head, rest, a, b)

module _ (names : NameTable) (t : Tables) (members : List (List ℕ)) (classes : List ℕ) where
  symbols-are : (p : ℕ) (a : ContentAutomaton) → IsBuilt names t members classes p a → AreSymbolsOf (model_terms members t classes p) (symbols_of a)
  symbols-are p (States s) is = is.2
  symbols-are p (All s) is = is.1

  counts-same : (content : Option ℕ) (a b : ℕ) → MatchOption content (a ≡ 0) (λ p. IsTableSize names t members classes p a) → MatchOption content (b ≡ 0) (λ p. IsTableSize names t members classes p b) → a ≡ b
  counts-same None a b x y = x ∙ sym y
  counts-same (Some p) a b x y = sizes-same names t members p classes a b x y

  -- with a content model of so many cells
  pub count-some : (type p cells : ℕ) → content_of t type ≡ Some p → IsTableSize names t members classes p cells → IsCellCount names t members classes type cells
  count-some type p cells is size = subst (λ o. MatchOption o (cells ≡ 0) (λ q. IsTableSize names t members classes q cells)) (sym is) size

  -- without one
  count-zero : (type cells : ℕ) → content_of t type ≡ None → cells ≡ 0 → IsCellCount names t members classes type cells
  count-zero type cells is e = subst (λ o. MatchOption o (cells ≡ 0) (λ q. IsTableSize names t members classes q cells)) (sym is) e

  pub count-none : (type : ℕ) → content_of t type ≡ None → IsCellCount names t members classes type 0
  count-none type is = count-zero type 0 is refl

  pub count-made : (type : ℕ) (a : ContentAutomaton) → IsMade names t members classes type a → IsCellCount names t members classes type (cells_of a)
  count-made type a m = count-some type m.p (cells_of a) m.content (states_of a, symbols_of a, m.states, symbols-are m.p a m.built, refl)

  module _ (models : List (Option ContentAutomaton)) (each : length models ≡ length t.complexes.parts) where
    abbrev cells_at : ℕ → ℕ
    cells_at k = taken (model_at models k)

    cells-are : (k : ℕ) → k < length models → get_or (map taken models) k 0 ≡ cells_at k
    cells-are k l = get_or-map taken models k None 0 l

    -- where these are the cells of all types up to one, no others are more
    pub cells-bounded : (last : ℕ) (cells : List ℕ) → ((k : ℕ) → k < length t.complexes.parts → by_place t k last ≢ Greater → IsCellCount names t members classes k (cells_at k)) → AreCellsUpTo names t members classes last cells → sum cells ≤ sum_by taken models
    cells-bounded last cells counts are =
        subst (λ n. sum cells ≤ n) (sum-taken models)
        (sum-le cells (map taken models) (are.each ∙ (sym each ∙ sym (length-map models taken))) (λ k l. below k l (by_place t k last) refl))
      where
        below : (k : ℕ) → k < length cells → (o : Ordering) → by_place t k last ≡ o → get_or cells k 0 ≤ get_or (map taken models) k 0
        below k l Greater e = let z : get_or cells k 0 ≡ 0 = are.after k l e in omega (arith, z)
        below k l Less e =
            let n : k < length t.complexes.parts = subst (λ m. k < m) are.each l in
            let up : by_place t k last ≢ Greater = λ g. less-greater (sym e ∙ g) in
            let a : get_or cells k 0 ≡ cells_at k = counts-same (content_of t k) (get_or cells k 0) (cells_at k) (are.before k l up) (counts k n up) in
            let b : get_or (map taken models) k 0 ≡ cells_at k = cells-are k (subst (λ m. k < m) (sym each) n) in
            omega (arith, a, b)
        below k l Equal e =
            let n : k < length t.complexes.parts = subst (λ m. k < m) are.each l in
            let up : by_place t k last ≢ Greater = λ g. equal-greater (sym e ∙ g) in
            let a : get_or cells k 0 ≡ cells_at k = counts-same (content_of t k) (get_or cells k 0) (cells_at k) (are.before k l up) (counts k n up) in
            let b : get_or (map taken models) k 0 ≡ cells_at k = cells-are k (subst (λ m. k < m) (sym each) n) in
            omega (arith, a, b)

    module _ (last size : ℕ) (there : last < length t.complexes.parts) (not-yet : model_at models last ≡ None) where
      abbrev cells_with : List ℕ
      cells_with = slice_set (map taken models) last size

      inside : last < length (map taken models)
      inside = let a : length (map taken models) ≡ length models = length-map models taken in omega (arith, a, each, there)

      sum-with : sum cells_with ≡ sum_by taken models + size
      sum-with =
          let a : sum cells_with + get_or (map taken models) last 0 ≡ sum (map taken models) + size = sum_by-set (λ n. n) (map taken models) last size 0 inside in
          let b : get_or (map taken models) last 0 ≡ 0 = cells-are last (subst (λ m. last < m) (sym each) there) ∙ ap taken not-yet in
          let c : sum (map taken models) ≡ sum_by taken models = sum-taken models in
          omega (arith, a, b, c)

      -- with the cells of a type more than there may be
      pub past-cells :
          ((k : ℕ) → k < length t.complexes.parts → k ≢ last → by_place t k last ≢ Greater → IsCellCount names t members classes k (cells_at k)) →
          ((k : ℕ) → by_place t k last ≡ Greater → model_at models k ≡ None) → IsCellCount names t members classes last size → most_cells < sum_by taken models + size → IsPastCells names t members classes last
      past-cells counts later own many = (cells_with, record { each = long; before = up; after = none }, subst (λ n. most_cells < n) (sym sum-with) many)
        where
          long : length cells_with ≡ length t.complexes.parts
          long = length-set (map taken models) last size ∙ (length-map models taken ∙ each)

          other : (k : ℕ) → k < length cells_with → k ≢ last → get_or cells_with k 0 ≡ cells_at k
          other k l differ = get_or-set_other (map taken models) last k size 0 differ ∙ cells-are k (subst (λ m. k < m) (long ∙ sym each) l)

          up : (k : ℕ) → k < length cells_with → by_place t k last ≢ Greater → IsCellCount names t members classes k (get_or cells_with k 0)
          up k l not-after = elim (cases_eq k last) [
            | inl same ↦ subst (λ j. IsCellCount names t members classes j (get_or cells_with j 0)) (sym same)
                (subst (IsCellCount names t members classes last) (sym (get_or-set_same (map taken models) last size 0 inside)) own)
            | inr differ ↦ subst (IsCellCount names t members classes k) (sym (other k l differ)) (counts k (subst (λ m. k < m) long l) differ not-after)
          ]

          none : (k : ℕ) → k < length cells_with → by_place t k last ≡ Greater → get_or cells_with k 0 ≡ 0
          none k l after = elim (cases_eq k last) [
            | inl same ↦ absurd (not-greater-itself t last (subst (λ j. by_place t j last ≡ Greater) same after))
            | inr differ ↦ other k l differ ∙ ap taken (later k after)
          ]
