-- Lines of symbols, one after another.
use Rattle.std.proofs.Common.{◌≡◌, ◌≢◌, ◌==◌, ◌+◌, ◌≤◌, ◌<◌, ◌-◌, ℕ, suc, zero, false, true, List, [], ◌++◌, Option, Some, Result, Ok, Err, OnErr, slice_get, refl, sym, ap, ◌∙◌, subst, append_assoc, append-nil, arith}
use Rattle.std.specs.Prelude.{codes}
use Rattle.std.specs.Io.KnownBytes.{Appends}
use Rattle.std.proofs.KnownBytes.{Appends-trans}
use Rattle.std.proofs.lemmas.Bool.Decides.{nat_tests}
use Rattle.std.proofs.lemmas.Option.{get_or_from_slice_get}
use Rattle.xsv_io.specs.Escaping.{escaped}
use Rattle.xsv_io.specs.Writing.{AppendsFront}
use Rattle.xsv_io.proofs.Fronts.{front_before, front_behind}
use Rattle.xs_names.specs.Names.{NameTable, space_of, local_of}
use Rattle.kept_next.specs.declared.symbol.SymbolName.{SymbolName}
use Rattle.kept_next.specs.declared.symbol.SymbolName.TheVariants.{Namespace}
use Rattle.kept_next.specs.declared.symbol.Fit.{Fit}
use Rattle.kept_next.specs.declared.symbol.Fit.TheVariants.{No, Prefix, Word}
use Rattle.kept_next.specs.Next.{name_text, symbol_text, next_line, lines_below, lines_of, fits_below}

name_parts : (space local end : List ℕ) → space ++ (codes "}" ++ (local ++ end)) ≡ ((space ++ codes "}") ++ local) ++ end
name_parts space local end = simp append_assoc

space_parts : (space end : List ℕ) → space ++ (codes "}*" ++ end) ≡ (space ++ codes "}*") ++ end
space_parts space end = simp append_assoc

module _ (names : NameTable) (end : List ℕ) where
  -- the line of a name in the absent namespace, and in another
  pub absent_name : (name ns : ℕ) (local : List ℕ) → local ≡ local_of names name → ns ≡ space_of names name → ns ≡ 0
      → codes "n " ++ (escaped local ++ (end ++ [])) ≡ codes "n " ++ name_text names name ++ end
  absent_name name ns local is at absent =
      let none : (space_of names name == 0) ≡ true = grind (arith, nat_tests) in
      rw (append-nil end, is, none) refl

  pub spaced_name : (name ns : ℕ) (space local : List ℕ) → local ≡ local_of names name → ns ≡ space_of names name → slice_get names.spaces ns ≡ Some space → ns ≢ 0
      → codes "n {" ++ (escaped space ++ (codes "}" ++ (escaped local ++ (end ++ [])))) ≡ codes "n " ++ name_text names name ++ end
  spaced_name name ns space local is at found some =
      let other : (space_of names name == 0) ≡ false = grind (arith, nat_tests) in
      let text = get_or_from_slice_get names.spaces (space_of names name) space [] (subst (λ (n : ℕ). slice_get names.spaces n ≡ Some space) at found) in
      rw (append-nil end, is, other, text) (ap (λ l. codes "n {" ++ l) (name_parts (escaped space) (escaped (local_of names name)) end))

  -- the line of the names of the absent namespace, and of another
  pub absent_names : (ns : ℕ) → ns ≡ 0 → codes "n {}*" ++ (end ++ []) ≡ codes "n " ++ symbol_text names (Namespace ns) ++ end
  absent_names ns absent =
      let none : (ns == 0) ≡ true = grind (arith, nat_tests) in
      rw (append-nil end, none) refl

  pub spaced_names : (ns : ℕ) (space : List ℕ) → slice_get names.spaces ns ≡ Some space → ns ≢ 0
      → codes "n {" ++ (escaped space ++ (codes "}*" ++ (end ++ []))) ≡ codes "n " ++ symbol_text names (Namespace ns) ++ end
  spaced_names ns space found some =
      let other : (ns == 0) ≡ false = grind (arith, nat_tests) in
      let text = get_or_from_slice_get names.spaces ns space [] found in
      rw (append-nil end, other, text) (ap (λ l. codes "n {" ++ l) (space_parts (escaped space) end))

module _ (names : NameTable) (name_of : ℕ → SymbolName) (fit_of : ℕ → Fit) where
  -- the lines of fewer symbols begin those of more
  begins : (k n m : ℕ) → k + n ≡ m → (rest : List ℕ) × (lines_below names name_of fit_of n ++ rest ≡ lines_below names name_of fit_of m)
  begins zero n m e = ([], append-nil (lines_below names name_of fit_of n) ∙ ap (lines_below names name_of fit_of) (let same : n ≡ m = omega (arith, e) in same))
  begins (suc k) n m e =
      let h = begins k n (k + n) refl in
      let line : List ℕ = next_line names (name_of (k + n)) (fit_of (k + n)) in
      let same : suc (k + n) ≡ m = omega (arith, e) in
      (h.0 ++ line, sym (append_assoc (lines_below names name_of fit_of n) h.0 line) ∙ ap (λ l. l ++ line) h.1 ∙ ap (lines_below names name_of fit_of) same)

  -- one line more was written
  pub more : (a b c : Option (List ℕ)) (n m : ℕ) → m ≡ suc n → Appends a b (lines_below names name_of fit_of n) → Appends b c (next_line names (name_of n) (fit_of n)) → Appends a c (lines_below names name_of fit_of m)
  more a b c n m e before line = subst (λ (k : ℕ). Appends a c (lines_below names name_of fit_of k)) (sym e) (Appends-trans a b c _ _ before line)

  -- a front of one line more was written
  pub cut_short : (a b c : Option (List ℕ)) (n count : ℕ) → n < count → Appends a b (lines_below names name_of fit_of n) → AppendsFront b c (next_line names (name_of n) (fit_of n)) → AppendsFront a c (lines_below names name_of fit_of count)
  cut_short a b c n count less before front =
      let k : ℕ = count - suc n in
      let whole : k + suc n ≡ count = omega arith in
      let h = begins k (suc n) count whole in
      subst (AppendsFront a c) h.1 (front_before a c _ h.0 (front_behind a b c _ _ before front))

-- a count is one more at most
pub one_at_most : (fit : Fit) → lines_of fit ≤ 1
one_at_most No = omega arith
one_at_most Prefix = omega arith
one_at_most Word = omega arith

pub fits_more : (fit_of : ℕ → Fit) (n m lines : ℕ) → m ≡ suc n → lines ≡ fits_below fit_of n → lines + lines_of (fit_of n) ≡ fits_below fit_of m
fits_more fit_of n m lines e is = ap (λ (k : ℕ). k + lines_of (fit_of n)) is ∙ sym (ap (fits_below fit_of) e)

-- a call that fails answers what is said of its error
pub on_err : {T E P : Type 0} (r : Result T E) → P → OnErr r P
on_err (Ok x) p = tt
on_err (Err e) p = p
