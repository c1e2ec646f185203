-- A place of a list answers what is asked of it.
use Rattle.std.proofs.Common.{◌≡◌, ℕ, zero, suc, ◌+◌, ◌<◌, List, [], ◌∷◌, ◌++◌, length, map, take, drop, refl, sym, ap, subst, ◌∙◌, arith, append_assoc, append-nil}
use Rattle.std.specs.List.{range_with_len}
use Rattle.std.proofs.lemmas.List.{get_or-map, length-map}
use Rattle.std.proofs.lemmas.List.FromFn.{length-map-range_with_len, get_or-map-range_with_len, map-range_with_len_more, fill_by_all}
use Rattle.xs_names.specs.Names.{NameTable}
use Rattle.content_automaton.specs.Symbols.{symbol_of}
use Rattle.content_automaton.specs.Terms.{ExpandedName}
use Rattle.content_models.specs.Built.{symbols_of}
use Rattle.assessment.specs.Attribution.{SchemaSet}
use Rattle.kept_next.specs.Next.{FitsAs, next_line, lines_of, lines_below, fits_below}
use Rattle.kept_next.specs.declared.symbol.Fit.{Fit}
use Rattle.kept_next.specs.declared.symbol.Fit.TheVariants.{No}
use Rattle.kept_next.specs.declared.symbol.SymbolName.{SymbolName}
use Rattle.kept_next.specs.declared.symbol.SymbolName.TheVariants.{Other}
use Rattle.kept_next.specs.declared.order.Symbol.{Symbol}
use Rattle.kept_next.specs.Words.{IsWordBy, IsNameOf}
use Rattle.kept_next.specs.Place.{ListPlace, IsPlaceBy, name_at, fits_at}
use Rattle.kept_next.specs.Answers.{Answer, AreAnswers, answer_at, answers_by, answers_of, lines, count}
use Rattle.kept_next.proofs.Places.{symbol-table, names-fit}
use Rattle.kept_next.proofs.Spaces.{all-named}

module _ (names : NameTable) (name_of : ℕ → SymbolName) (fit_of : ℕ → Fit) where
  lines-push : (xs : List Answer) (a : Answer) → lines names (xs ++ a ∷ []) ≡ lines names xs ++ next_line names a.0 a.1
  lines-push [] a = append-nil (next_line names a.0 a.1)
  lines-push (x ∷ xs) a = ap (λ (ys : List ℕ). next_line names x.0 x.1 ++ ys) (lines-push xs a) ∙ sym (append_assoc (next_line names x.0 x.1) (lines names xs) (next_line names a.0 a.1))

  -- the lines of the first so many answers are those of the first so many symbols
  pub lines-same : (n : ℕ) → lines names (map (λ k. (name_of k, fit_of k)) (range_with_len 0 n)) ≡ lines_below names name_of fit_of n
  lines-same zero = refl
  lines-same (suc n) =
      let more : suc n ≡ n + 1 = omega arith in
      ap (λ (k : ℕ). lines names (map (λ k. (name_of k, fit_of k)) (range_with_len 0 k))) more
      ∙ ap (lines names) (map-range_with_len_more (λ k. (name_of k, fit_of k)) 0 n n (omega arith))
      ∙ lines-push (map (λ k. (name_of k, fit_of k)) (range_with_len 0 n)) (name_of n, fit_of n)
      ∙ ap (λ (xs : List ℕ). xs ++ next_line names (name_of n) (fit_of n)) (lines-same n)

module _ (name_of : ℕ → SymbolName) (fit_of : ℕ → Fit) where
  count-push : (xs : List Answer) (a : Answer) → count (xs ++ a ∷ []) ≡ count xs + lines_of a.1
  count-push [] a = omega arith
  count-push (x ∷ xs) a = let more = count-push xs a in omega (arith, more)

  -- and so many fit
  pub counts-same : (n : ℕ) → count (map (λ k. (name_of k, fit_of k)) (range_with_len 0 n)) ≡ fits_below fit_of n
  counts-same zero = refl
  counts-same (suc n) =
      let more : suc n ≡ n + 1 = omega arith in
      ap (λ (k : ℕ). count (map (λ k. (name_of k, fit_of k)) (range_with_len 0 k))) more
      ∙ ap count (map-range_with_len_more (λ k. (name_of k, fit_of k)) 0 n n (omega arith))
      ∙ count-push (map (λ k. (name_of k, fit_of k)) (range_with_len 0 n)) (name_of n, fit_of n)
      ∙ ap (λ (k : ℕ). k + lines_of (fit_of n)) (counts-same n)

pub answers-many : (v : ListPlace) (symbols : List ℕ) → length (answers_of v symbols) ≡ length v.symbols
answers-many v symbols = length-map-range_with_len (λ n. (name_at v n, fits_at v symbols n)) 0 (length v.symbols)

pub answers-by-many : (v : ListPlace) (s : SchemaSet) (names : List ExpandedName) → length (answers_by v s names) ≡ length v.symbols
answers-by-many v s names = answers-many v (map (symbol_of s.names (symbols_of v.automaton)) names)

module _ (v : ListPlace) (s : SchemaSet) (p : ℕ) (names : List ExpandedName) (h : IsPlaceBy v s p names) where
  abbrev symbols : List ℕ
  symbols = map (symbol_of s.names (symbols_of v.automaton)) names

  abbrev one : ℕ → Answer
  one n = (name_at v n, fits_at v symbols n)

  answer-is : (n : ℕ) → n < length v.symbols → answer_at (answers_of v symbols) n ≡ one n
  answer-is n l = get_or-map-range_with_len one 0 (length v.symbols) n n (Other, No) l (omega arith)

  many : length (answers_of v symbols) ≡ length v.symbols
  many = length-map-range_with_len one 0 (length v.symbols)

  symbols-same : map (λ (a : Answer). a.0) (answers_of v symbols) ≡ map (λ (x : Symbol). x.name) v.symbols
  symbols-same =
      map-twice (range_with_len 0 (length v.symbols))
      ∙ sym (fill_by_all (name_at v) (map (λ (x : Symbol). x.name) v.symbols) (length v.symbols) Other (length-map v.symbols (λ (x : Symbol). x.name))
      (λ k l. get_or-map (λ (x : Symbol). x.name) v.symbols k (record { number = 0; name = Other }) Other l))
    where
      map-twice : (ns : List ℕ) → map (λ (a : Answer). a.0) (map one ns) ≡ map (name_at v) ns
      map-twice [] = refl
      map-twice (n ∷ ns) = ap (λ xs. name_at v n ∷ xs) (map-twice ns)

  pub are-answers : AreAnswers (record { set = s; particle = p; before = take v.place names; behind = drop v.place names }) (answers_of v symbols)
  are-answers = record {
    table = symbols_of v.automaton;
    table_is = symbol-table v s p names h;
    sound = h.listed.sound;
    symbols = v.symbols;
    ordered = h.ordered;
    named = all-named v s p names h;
    symbols_are = symbols-same;
    fits = λ n l name of.
        let low : n < length v.symbols = omega (arith, l, many) in
        let is = answer-is n low in
        subst (λ (a : Answer). FitsAs (IsWordBy s p) (take v.place names) (drop v.place names) name a.1) (sym is)
        (names-fit v s p names h n low name (subst (λ (a : Answer). IsNameOf s.names (symbols_of v.automaton) a.0 name) is of));
  }
