-- What may stand at a place among child elements, as lines.
use Rattle.std.specs.Prelude.{ℕ, ◌+◌, ◌<◌, ◌==◌, List, [], ◌∷◌, ◌++◌, length, slice_index_or, if◌then◌else◌, codes, zero, suc}
use Rattle.xsv_io.specs.Escaping.{escaped}
use Rattle.xs_names.specs.Names.{NameTable, absent_space, space_of, local_of}
use Rattle.kept_next.specs.declared.symbol.SymbolName.{SymbolName}
use Rattle.kept_next.specs.declared.symbol.SymbolName.TheVariants.{Name, Namespace, Other}
use Rattle.kept_next.specs.declared.symbol.Fit.{Fit}
use Rattle.kept_next.specs.declared.symbol.Fit.TheVariants.{No, Prefix, Word}

-- How one more child element, with this symbol, fits at a place, by the words of a content model (Structures 3.8.4) and the symbols of
-- the child elements before the place and from it on: with it they are a word; else they begin one; else they begin none. So for names as
-- for symbols.
module _ {X : Type 0} (is_word : List X → Type 0) (before behind : List X) (one : X) where
  abbrev pub FitsAs : Fit → Type 0
  FitsAs Word = is_word (before ++ one ∷ behind)
  FitsAs Prefix = (is_word (before ++ one ∷ behind) → ⊥) × ((more : List X) × is_word (before ++ one ∷ (behind ++ more)))
  FitsAs No = (more : List X) → is_word (before ++ one ∷ (behind ++ more)) → ⊥

-- How each of so many symbols fits, in their order: by the words, by the symbols of the child elements before the place and from it on, of
-- which this is said, and by the symbol that each one is.
abbrev pub AreFits : {X : Type 0} → (List X → Type 0) → (List X → List X → Type 0) → (ℕ → X) → ℕ → (ℕ → Fit) → Type 0
AreFits {X} is_word are_around one_at count fit_of =
    (before : List X) × (behind : List X) × are_around before behind × ((n : ℕ) → n < count → FitsAs is_word before behind (one_at n) (fit_of n))

-- none for a symbol that does not fit
abbrev pub lines_of : Fit → ℕ
lines_of No = 0
lines_of Prefix = 1
lines_of Word = 1

module _ (names : NameTable) where
  -- what the symbol stands for is there
  abbrev pub IsNamed : SymbolName → Type 0
  IsNamed (Name name) = name < length names.names
  IsNamed (Namespace space) = space < length names.spaces
  IsNamed Other = Unit {0}

  -- the name of a namespace, with escapes; that of the absent one is empty
  abbrev pub space_text : ℕ → List ℕ
  space_text space = if space == absent_space then [] else escaped (slice_index_or names.spaces space [])

  -- an expanded name (Namespaces in XML 1.0, 2.1) as one text, with escapes
  abbrev pub name_text : ℕ → List ℕ
  name_text name = (if space_of names name == absent_space then [] else codes "{" ++ space_text (space_of names name) ++ codes "}") ++ escaped (local_of names name)

  -- a name; `{namespace}*` for the names of a namespace that have no symbols of their own; `*` for all others
  abbrev pub symbol_text : SymbolName → List ℕ
  symbol_text (Name name) = name_text name
  symbol_text (Namespace space) = codes "{" ++ space_text space ++ codes "}*"
  symbol_text Other = codes "*"

  -- the line of a symbol that fits
  abbrev pub next_line : SymbolName → Fit → List ℕ
  next_line symbol No = []
  next_line symbol Prefix = codes "n " ++ symbol_text symbol ++ codes " prefix\n"
  next_line symbol Word = codes "n " ++ symbol_text symbol ++ codes " word\n"

  -- the lines of the symbols below a number, in their order
  abbrev pub lines_below : (ℕ → SymbolName) → (ℕ → Fit) → ℕ → List ℕ
  lines_below name_of fit_of zero = []
  lines_below name_of fit_of (suc n) = lines_below name_of fit_of n ++ next_line (name_of n) (fit_of n)

-- how many there are
abbrev pub fits_below : (ℕ → Fit) → ℕ → ℕ
fits_below fit_of zero = 0
fits_below fit_of (suc n) = fits_below fit_of n + lines_of (fit_of n)
