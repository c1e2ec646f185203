-- What is asked of a place has one list of answers.
use Rattle.std.proofs.Common.{◌≡◌, ◌≢◌, ℕ, suc, zero, ◌+◌, ◌<◌, ◌≤◌, List, [], ◌∷◌, length, map, get_or, replicate, refl, sym, ap, ◌∙◌, subst, inl, inr, arith}
use Rattle.std.specs.Prelude.{All, Contains}
use Rattle.std.proofs.lemmas.List.{get_or-map, length-map, length-replicate}
use Rattle.std.proofs.lemmas.List.Elements.{All-contains_itself, All-get_or}
use Rattle.std.proofs.lemmas.List.Sorted.{All-permutation}
use Rattle.xs_names.specs.Names.{NameTable}
use Rattle.content_automaton.specs.Symbols.{SymbolTable, AreSymbolsOf}
use Rattle.content_automaton.specs.Terms.{ExpandedName, name_at}
use Rattle.content_automaton.proofs.Items.{contains_cases, none_contained}
use Rattle.content_models.specs.Terms.{model_terms}
use Rattle.kept_next.specs.Next.{FitsAs}
use Rattle.kept_next.specs.Order.{IsOrderOf}
use Rattle.kept_next.specs.declared.order.Symbol.{Symbol}
use Rattle.kept_next.specs.declared.symbol.Fit.{Fit}
use Rattle.kept_next.specs.declared.symbol.Fit.TheVariants.{No}
use Rattle.kept_next.specs.declared.symbol.SymbolName.{SymbolName}
use Rattle.kept_next.specs.declared.symbol.SymbolName.TheVariants.{Name, Namespace, Other}
use Rattle.kept_next.proofs.LineFits.{one-fit}
use Rattle.kept_next.specs.Answers.{Answer, AreAnswers, PlaceQuestion, answer_at}
use Rattle.kept_next.specs.Words.{HasNone, IsNameOf, IsWordBy}
use Rattle.kept_next.proofs.Printed.{as-often, order-same}
use Rattle.kept_next.proofs.Symbols.{all-symbols}

-- ---- each symbol stands for some name

module _ (t : NameTable) where
  lengths : List ℕ → ℕ
  lengths [] = 0
  lengths (n ∷ ns) = length (name_at t n).1 + lengths ns

  shorter : (ns : List ℕ) (n : ℕ) → Contains ns n → length (name_at t n).1 ≤ lengths ns
  unfolding lengths
  shorter [] n c = absurd (none_contained n c)
  shorter (m ∷ ns) n c = elim (contains_cases m ns n c) [
    | inl e ↦ (let k = ap (λ (x : ℕ). length (name_at t x).1) e in omega (arith, k))
    | inr d ↦ (let k = shorter ns n d in omega (arith, k))
  ]

total : List ℕ → ℕ
total [] = 0
total (x ∷ xs) = x + total xs

smaller : (xs : List ℕ) (x : ℕ) → Contains xs x → x ≤ total xs
unfolding total
smaller [] x c = absurd (none_contained x c)
smaller (y ∷ xs) x c = elim (contains_cases y xs x c) [
  | inl e ↦ omega (arith, e)
  | inr d ↦ (let k = smaller xs x d in omega (arith, k))
]

module _ (t : NameTable) (s : SymbolTable) where
  -- a local part that no name with a symbol has
  fresh : List ℕ
  fresh = replicate (suc (lengths t s.names)) 0

  none-fresh : (space : ℕ) → HasNone t s (space, fresh)
  unfolding fresh
  none-fresh space n c e =
      let k = shorter t s.names n c in
      let l = length-replicate {A = ℕ} (suc (lengths t s.names)) 0 in
      let m = ap (λ (x : ExpandedName). length x.1) e in
      omega (arith, k, l, m)

  some-name : (symbol : SymbolName) → (name : ExpandedName) × IsNameOf t s symbol name
  some-name (Name n) = (name_at t n, refl)
  some-name (Namespace space) = ((space, fresh), (refl, none-fresh space))
  some-name Other = ((suc (total s.spaces), fresh), ((λ c. let k = smaller s.spaces (suc (total s.spaces)) c in omega (arith, k)), none-fresh (suc (total s.spaces))))

-- a name of a symbol is so by each table with the same names and namespaces
module _ (t : NameTable) (s u : SymbolTable) (names : (n : ℕ) → Contains u.names n → Contains s.names n) (spaces : (n : ℕ) → Contains u.spaces n → Contains s.spaces n) where
  still-none : (name : ExpandedName) → HasNone t s name → HasNone t u name
  still-none name none = λ n c. none n (names n c)

  still-named : (symbol : SymbolName) (name : ExpandedName) → IsNameOf t s symbol name → IsNameOf t u symbol name
  still-named (Name n) name of = of
  still-named (Namespace space) name (e, none) = (e, still-none name none)
  still-named Other name (nowhere, none) = ((λ c. nowhere (spaces name.0 c)), still-none name none)

-- ---- one list

answers-same : (xs ys : List Answer) → map (λ (a : Answer). a.0) xs ≡ map (λ (a : Answer). a.0) ys → ((n : ℕ) → n < length xs → (answer_at xs n).1 ≡ (answer_at ys n).1) → xs ≡ ys
answers-same [] [] names fits = refl
answers-same [] (y ∷ ys) names fits = absurd (cc names)
answers-same (x ∷ xs) [] names fits = absurd (cc names)
answers-same (x ∷ xs) (y ∷ ys) names fits =
    let first : x.0 ≡ y.0 = cc names in
    let rest : map (λ (a : Answer). a.0) xs ≡ map (λ (a : Answer). a.0) ys = cc names in
    let fit : x.1 ≡ y.1 = fits 0 (omega arith) in
    let more = answers-same xs ys rest (λ n l. fits (suc n) (omega (arith, l))) in
    λ i. (first i, fit i) ∷ more i

module _ (q : PlaceQuestion) (x y : List Answer) (h : AreAnswers q x) (k : AreAnswers q y) where
  names-there : (n : ℕ) → Contains h.table.names n → Contains k.table.names n
  names-there n c = (k.table_is.names n).1 ((h.table_is.names n).0 c)

  names-back : (n : ℕ) → Contains k.table.names n → Contains h.table.names n
  names-back n c = (h.table_is.names n).1 ((k.table_is.names n).0 c)

  spaces-there : (n : ℕ) → Contains h.table.spaces n → Contains k.table.spaces n
  spaces-there n c = (k.table_is.spaces n).1 ((h.table_is.spaces n).0 c)

  spaces-back : (n : ℕ) → Contains k.table.spaces n → Contains h.table.spaces n
  spaces-back n c = (h.table_is.spaces n).1 ((k.table_is.spaces n).0 c)

  symbols-same : map (λ (a : Answer). a.0) x ≡ map (λ (a : Answer). a.0) y
  symbols-same =
      h.symbols_are
      ∙ order-same q.set.names h.sound h.table.names k.table.names h.table.spaces k.table.spaces
      (as-often h.table.names k.table.names h.table_is.names_once k.table_is.names_once names-there names-back)
      (as-often h.table.spaces k.table.spaces h.table_is.spaces_once k.table_is.spaces_once spaces-there spaces-back)
      h.symbols k.symbols h.ordered k.ordered h.named k.named
      ∙ sym k.symbols_are

  as-many : length x ≡ length y
  as-many = sym (length-map x (λ (a : Answer). a.0)) ∙ ap length symbols-same ∙ length-map y (λ (a : Answer). a.0)

  symbol-same : (n : ℕ) → n < length x → (answer_at x n).0 ≡ (answer_at y n).0
  symbol-same n l =
      let m : n < length y = let e = as-many in omega (arith, l, e) in
      sym (get_or-map (λ (a : Answer). a.0) x n (Other, No) Other l)
      ∙ ap (λ (xs : List SymbolName). get_or xs n Other) symbols-same
      ∙ get_or-map (λ (a : Answer). a.0) y n (Other, No) Other m

  fit-same : (n : ℕ) → n < length x → (answer_at x n).1 ≡ (answer_at y n).1
  fit-same n l =
      let m : n < length y = let e = as-many in omega (arith, l, e) in
      let one = some-name q.set.names h.table (answer_at x n).0 in
      let also : IsNameOf q.set.names k.table (answer_at y n).0 one.0 =
      subst (λ (a : SymbolName). IsNameOf q.set.names k.table a one.0) (symbol-same n l)
      (still-named q.set.names h.table k.table names-back spaces-back (answer_at x n).0 one.0 one.1) in
      one-fit (IsWordBy q.set q.particle) q.before q.behind one.0 (answer_at x n).1 (answer_at y n).1 (h.fits n l one.0 one.1) (k.fits n m one.0 also)

  pub one-list : x ≡ y
  one-list = answers-same x y symbols-same fit-same
