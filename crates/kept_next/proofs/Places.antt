-- Places of lists.
use Rattle.std.proofs.Common.{◌≡◌, ℕ, ◌+◌, ◌*◌, ◌^◌, ◌<◌, ◌≤◌, List, [], ◌∷◌, ◌++◌, Bool, Option, Some, None, length, map, take, drop, refl, sym, ap, subst, ◌∙◌, arith, append_assoc}
use Rattle.std.proofs.lemmas.List.{length-map, take-map, drop-map}
use Rattle.child_trees.specs.Bits.{bits}
use Rattle.child_trees.specs.Lists.{Entry, Lists, get}
use Rattle.content_automaton.specs.Symbols.{AreNamesOf, AreSymbolsOf, symbol_of}
use Rattle.content_automaton.specs.Terms.{ExpandedName}
use Rattle.content_automaton.proofs.Freshness.{named}
use Rattle.content_models.specs.Built.{IsBuilt, symbols_of}
use Rattle.content_models.specs.Terms.{model_terms}
use Rattle.content_models.specs.declared.automaton.ContentAutomaton.{ContentAutomaton}
use Rattle.content_models.specs.declared.automaton.ContentAutomaton.TheVariants.{States, All}
use Rattle.assessment.specs.Attribution.{SchemaSet}
use Rattle.assessment.proofs.Walking.{kept-now, symbols-known}
use Rattle.model_summaries.specs.Maps.{leaf_of}
use Rattle.model_terms.specs.Symbols.{AreSymbolsBy}
use Rattle.model_terms.specs.Terms.{is_ambivalent_symbol}
use Rattle.model_lists.specs.Lists.{ListsView, RowLists, MemberLists, HasLeaves, IsRowList, IsMemberList, IsListIn, IsListOf, member_of}
use Rattle.model_lists.specs.Around.{LeadTo}
use Rattle.model_lists.specs.declared.around.ChildState.{ChildState}
use Rattle.model_lists.specs.declared.handle.ModelList.{ModelList}
use Rattle.kept_next.specs.Next.{AreFits, FitsAs}
use Rattle.kept_next.specs.declared.symbol.Fit.{Fit}
use Rattle.kept_next.specs.declared.symbol.SymbolName.TheVariants.{Other}
use Rattle.kept_next.specs.Words.{IsWordBy, IsWordIn, IsNameOf, fit_by}
use Rattle.kept_next.specs.Place.{ListPlace, IsPlaceBy, IsPlace, AreAround, LeadBefore, LeadWith, LeadAfter, list_most, children_in, entries_in, entries_of, leaves_in, name_at, number_at, fits_at}
use Rattle.kept_next.proofs.Words.{are-symbols}
use Rattle.kept_next.proofs.Symbols.{number-below, named-symbol}
use Rattle.kept_next.proofs.Fits.{symbol-fits, name-fits}

-- ---- how many children a list has
as-many : {Shape Map : Type 0} (v : Lists Shape Map) (list : ℕ) (leaf : ℕ → Map) (ambivalent : ℕ → Bool) (symbols : List ℕ) → HasLeaves v list leaf ambivalent symbols →
    entries_in (get v list) ≡ length symbols
as-many {Shape} {Map} v list leaf ambivalent symbols h =
    ap entries_in h.list_is ∙ (sym (length-map h.entries (λ (e : Entry Map). e.act)) ∙ (ap length h.maps ∙ length-map symbols leaf))

rows-many : (lists : RowLists) (list : ℕ) (a : ContentAutomaton) (symbols : List ℕ) → IsRowList lists list a symbols → entries_in (get lists list) ≡ length symbols
rows-many lists list (States a) symbols h = as-many lists list (leaf_of a) (is_ambivalent_symbol (States a)) symbols h.1
rows-many lists list (All a) symbols h = absurd h

members-many : (lists : MemberLists) (list : ℕ) (a : ContentAutomaton) (symbols : List ℕ) → IsMemberList lists list a symbols → entries_in (get lists list) ≡ length symbols
members-many lists list (States a) symbols h = absurd h
members-many lists list (All a) symbols h = as-many lists list (member_of a) (is_ambivalent_symbol (All a)) symbols h

leaves-many : (v : ListsView) (dead : Option ℕ) (list : ℕ) (a : ContentAutomaton) (symbols : List ℕ) → IsListIn v dead list a symbols → leaves_in v dead list ≡ length symbols
leaves-many v (Some dead) list a symbols (lists, is, h) = ap (λ (o : Option RowLists). entries_of o list) is ∙ rows-many lists list a symbols h
leaves-many v None list a symbols h = members-many v.alls list a symbols h

pub children-many : (v : ListsView) (h : ModelList) (a : ContentAutomaton) (symbols : List ℕ) → IsListOf v h a symbols → children_in v h ≡ length symbols
children-many v h a symbols is = leaves-many v h.dead h.list a symbols is

-- ---- the symbols of a place
pub table-of : (s : SchemaSet) (p : ℕ) (a : ContentAutomaton) → IsBuilt s.names s.parts s.members s.classes p a → AreSymbolsOf (model_terms s.members s.parts s.classes p) (symbols_of a)
table-of s p (States a) h = h.2
table-of s p (All a) h = h.1

module _ (v : ListPlace) (s : SchemaSet) (p : ℕ) (names : List ExpandedName) (h : IsPlaceBy v s p names) where
  abbrev symbol : ExpandedName → ℕ
  symbol = symbol_of s.names (symbols_of v.automaton)

  abbrev symbols : List ℕ
  symbols = map symbol names

  pub symbol-table : AreSymbolsOf (model_terms s.members s.parts s.classes p) (symbols_of v.automaton)
  symbol-table = table-of s p v.automaton (kept-now s p v.automaton h.listed.fits).built

  within : AreNamesOf s.names (symbols_of v.automaton).names
  within = symbols-known s p v.automaton h.listed.fits

  -- the n-th symbol is that of some name
  one-named : (n : ℕ) → n < length v.symbols → (name : ExpandedName) × (symbol name ≡ number_at v n)
  one-named n l =
      named s.names (symbols_of v.automaton) within h.listed.sound.names_once symbol-table.names_once symbol-table.spaces_once (number_at v n)
      (number-below s.names (symbols_of v.automaton) v.symbols h.ordered n (record { number = 0; name = Other }) l)

  pub one-symbol : (n : ℕ) → n < length v.symbols → AreSymbolsBy v.automaton (number_at v n ∷ [])
  one-symbol n l =
      let one = one-named n l in
      subst (λ (k : ℕ). AreSymbolsBy v.automaton (k ∷ [])) one.1 (are-symbols s p v.automaton h.listed.fits (one.0 ∷ []))

  pub place-within : v.place ≤ length symbols
  place-within = let many = length-map names symbol in omega (arith, h.within, many)

  -- it fits as the automaton tells
  pub place-fits : (n : ℕ) → n < length v.symbols → FitsAs (IsWordIn v.automaton) (take v.place symbols) (drop v.place symbols) (number_at v n) (fits_at v symbols n)
  place-fits n l =
      let one = one-named n l in
      let before = take-map symbol v.place names in
      let behind = drop-map symbol v.place names in
      let fit = symbol-fits s p v.automaton h.listed.fits (take v.place names) (drop v.place names) one.0 in
      let first = subst (λ (k : ℕ). FitsAs (IsWordIn v.automaton) (map symbol (take v.place names)) (map symbol (drop v.place names)) k (fit_by v.automaton (map symbol (take v.place names) ++ k ∷ map symbol (drop v.place names)))) one.1 fit in
      let second = subst (λ (xs : List ℕ). FitsAs (IsWordIn v.automaton) xs (map symbol (drop v.place names)) (number_at v n) (fit_by v.automaton (xs ++ number_at v n ∷ map symbol (drop v.place names)))) (sym before) first in
      subst (λ (xs : List ℕ). FitsAs (IsWordIn v.automaton) (take v.place symbols) xs (number_at v n) (fit_by v.automaton (take v.place symbols ++ number_at v n ∷ xs))) (sym behind) second

  pub all-fits : AreFits (IsWordIn v.automaton) (AreAround v) (number_at v) (length v.symbols) (fits_at v symbols)
  all-fits = (take v.place symbols, drop v.place symbols, (s, p, names, h, refl, refl), place-fits)

  -- and so does each name that it stands for
  pub names-fit : (n : ℕ) → n < length v.symbols → (name : ExpandedName) → IsNameOf s.names (symbols_of v.automaton) (name_at v n) name →
      FitsAs (IsWordBy s p) (take v.place names) (drop v.place names) name (fits_at v symbols n)
  names-fit n l name of =
      let is : symbol name ≡ number_at v n =
      named-symbol s.names (symbols_of v.automaton) h.listed.sound.names_once within symbol-table.names_once symbol-table.spaces_once v.symbols h.ordered n (record { number = 0; name = Other }) l name of in
      let before = subst (λ (xs : List ℕ). FitsAs (IsWordIn v.automaton) xs (drop v.place symbols) (number_at v n) (fits_at v symbols n)) (take-map symbol v.place names) (place-fits n l) in
      let behind = subst (λ (xs : List ℕ). FitsAs (IsWordIn v.automaton) (map symbol (take v.place names)) xs (number_at v n) (fits_at v symbols n)) (drop-map symbol v.place names) before in
      name-fits s p v.automaton h.listed.fits (take v.place names) (drop v.place names) name (fits_at v symbols n)
      (subst (λ (k : ℕ). FitsAs (IsWordIn v.automaton) (map symbol (take v.place names)) (map symbol (drop v.place names)) k (fits_at v symbols n)) (sym is) behind)

-- how a place of which the states are known fits
pub verdict-fits : (v : ListPlace) (n : ℕ) (x : ChildState) (fit : Fit) → n < length v.symbols → LeadAfter v n x →
    ((symbols : List ℕ) → LeadTo v.automaton symbols x → fit ≡ fit_by v.automaton symbols) →
    (before behind : List ℕ) → AreAround v before behind → FitsAs (IsWordIn v.automaton) before behind (number_at v n) fit
verdict-fits v n x fit l leads tells before behind (s, p, names, h, e, f) =
    let symbols : List ℕ = map (symbol_of s.names (symbols_of v.automaton)) names in
    let is = tells ((take v.place symbols ++ number_at v n ∷ []) ++ drop v.place symbols) (leads symbols h.listed.list_is) in
    let one = ap (fit_by v.automaton) (append_assoc (take v.place symbols) (number_at v n ∷ []) (drop v.place symbols)) in
    let fits = subst (FitsAs (IsWordIn v.automaton) (take v.place symbols) (drop v.place symbols) (number_at v n)) (sym (is ∙ one)) (place-fits v s p names h n l) in
    subst (λ (ys : List ℕ). FitsAs (IsWordIn v.automaton) before ys (number_at v n) fit) (sym f)
    (subst (λ (xs : List ℕ). FitsAs (IsWordIn v.automaton) xs (drop v.place symbols) (number_at v n) fit) (sym e) fits)

-- ---- what is read of a place
pub place-few : (v : ListPlace) → IsPlace v → length v.symbols < 2 ^ 32
place-few v (s, p, names, h) = h.few

pub place-around : (v : ListPlace) → IsPlace v → (before : List ℕ) × (behind : List ℕ) × AreAround v before behind
place-around v (s, p, names, h) =
    let symbols : List ℕ = map (symbol_of s.names (symbols_of v.automaton)) names in
    (take v.place symbols, drop v.place symbols, (s, p, names, h, refl, refl))

pub place-listed : (v : ListPlace) → IsPlace v → (symbols : List ℕ) × IsListOf v.lists v.list v.automaton symbols × (v.place ≤ length symbols)
place-listed v (s, p, names, h) = (map (symbol_of s.names (symbols_of v.automaton)) names, h.listed.list_is, place-within v s p names h)

pub place-symbol : (v : ListPlace) → IsPlace v → (n : ℕ) → n < length v.symbols → AreSymbolsBy v.automaton (number_at v n ∷ [])
place-symbol v (s, p, names, h) n l = one-symbol v s p names h n l

pub before-some : (v : ListPlace) → IsPlace v → (x : ChildState) → LeadBefore v x → (before : List ℕ) × LeadTo v.automaton before x
before-some v is x leads = let at = place-listed v is in (take v.place at.0, leads at.0 at.1)

pub with-some : (v : ListPlace) → IsPlace v → (n : ℕ) (x : ChildState) → LeadWith v n x →
    (a : ContentAutomaton) × (before : List ℕ) × (symbols : List ℕ) × LeadTo a before x × IsListOf v.lists v.list a symbols × (v.place ≤ length symbols)
with-some v is n x leads = let at = place-listed v is in (v.automaton, take v.place at.0 ++ number_at v n ∷ [], at.0, leads at.0 at.1, at.1, at.2)

pub after-some : (v : ListPlace) → IsPlace v → (n : ℕ) (x : ChildState) → LeadAfter v n x → (symbols : List ℕ) × LeadTo v.automaton symbols x
after-some v is n x leads = let at = place-listed v is in ((take v.place at.0 ++ number_at v n ∷ []) ++ drop v.place at.0, leads at.0 at.1)

-- the bound of steps goes by the place
pub place-most : (v : ListPlace) → IsPlace v → (first last : ℕ) →
    ((a : ContentAutomaton) (symbols : List ℕ) → IsListOf v.lists v.list a symbols → last ≤ first + 8 * (bits (length symbols + 1) + 1)) → last ≤ first + list_most v
place-most v is first last bound =
    let at = place-listed v is in
    subst (λ (n : ℕ). last ≤ first + 8 * (bits (n + 1) + 1)) (sym (children-many v.lists v.list v.automaton at.0 at.1)) (bound v.automaton at.0 at.1)
