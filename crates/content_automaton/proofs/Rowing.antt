-- The rows of terms.
use Rattle.std.proofs.Common.{◌≡◌, ℕ, ◌+◌, ◌-◌, ◌<◌, ◌==◌, ◌&&◌, ◌||◌, not, Bool, true, false, List, [], ◌∷◌, ◌++◌, Option, Some, None, length, map, get_or, refl, sym, ap, subst, ◌∙◌, inl, inr, arith, eqb-true}
use Rattle.std.specs.Prelude.{Contains, All, nat_lt, slice_index}
use Rattle.std.proofs.lemmas.Bool.{cases_lt, false≢true}
use Rattle.std.proofs.lemmas.Bool.Decides.{Decides-eqb, nat_tests}
use Rattle.std.proofs.lemmas.List.Elements.{All-head, All-tail, All-contains, All-map, All-same, Contains-get_or, Contains-append_left, Contains-push, Contains-push_cases}
use Rattle.xs_names.specs.Names.{NameTable, space_of}
use Rattle.xs_names.specs.Numbering.{number_of, HasNoRepeats}
use Rattle.xs_names.proofs.NumberingLaws.{absent-number_of}
use Rattle.xs_components.specs.Sets.{admits, has}
use Rattle.xs_components.specs.declared.namespace_constraint.NsConstraint.{NsConstraint}
use Rattle.xs_components.specs.declared.namespace_constraint.NsConstraint.TheVariants.{Any, Not, In}
use Rattle.content_automaton.specs.declared.symbol_terms.Given.{Given}
use Rattle.content_automaton.specs.declared.symbol_terms.Accepts.TheVariants.{Element, Wildcard}
use Rattle.content_automaton.specs.declared.rows.Entry.{Entry}
use Rattle.content_automaton.specs.Terms.{ExpandedName, name_at, spaces_in}
use Rattle.content_automaton.specs.Symbols.{SymbolTable, AreNamesOf, symbol_of, count_of}
use Rattle.content_automaton.specs.Rows.{IsRow, is_open, admits_symbol, entry_of, AreAdmitted, AreSymbolsIn}
use Rattle.content_automaton.proofs.Items.{contains_map, map_contains, get_contains}
use Rattle.content_automaton.proofs.Symboling.{same, own_of, own_number, symbol_inj, symbol_below, own, space, last, symbol_case}

module _ (t : NameTable) (s : SymbolTable) where
  own_there : HasNoRepeats t.names → AreNamesOf t s.names → (n : ℕ) → Contains s.names n → (i : ℕ) × (own_of t s (name_at t n) ≡ Some i)
  own_there once within n c = by (number_of same s.names n) refl
    where
      by : (r : Option ℕ) → number_of same s.names n ≡ r → (i : ℕ) × (own_of t s (name_at t n) ≡ Some i)
      by None e = let k = get_contains s.names n c in absurd (absent-number_of same Decides-eqb s.names n e k.0 k.1)
      by (Some i) e = (i, own_number t s once within n (All-contains (λ n. n < length t.names) s.names n within c) ∙ e)

  pub element_row : (given : List Given) (row : List Entry) → HasNoRepeats t.names → AreNamesOf t s.names → All (Contains s.names) (map (λ (g : Given). g.name) given) →
      row ≡ map (entry_of t s) given → IsRow t s (Element given) row
  element_row given row once within all is = record {
    gives = λ name class. (
      (λ c. let m = contains_map (entry_of t s) given (record { symbol = symbol_of t s name; class = class }) (subst (λ (r : List Entry). Contains r (record { symbol = symbol_of t s name; class = class })) is c) in
          let g : Given = m.0 in
          let here : Contains s.names g.name = All-contains (Contains s.names) (map (λ (g : Given). g.name) given) g.name all (map_contains (λ (g : Given). g.name) given g m.1) in
          let o = own_there once within g.name here in
          (g, m.1, symbol_inj t s (name_at t g.name) name o.0 o.1 (ap (λ (e : Entry). e.symbol) m.2), ap (λ (e : Entry). e.class) m.2)),
      (λ h. let e : name_at t h.0.name ≡ name = h.2 in let f : h.0.class ≡ class = h.3 in
          subst (λ (r : List Entry). Contains r (record { symbol = symbol_of t s name; class = class })) (sym is)
          (subst (Contains (map (entry_of t s) given)) (λ i. record { symbol = symbol_of t s (e i); class = f i }) (map_contains (entry_of t s) given h.0 h.1))),
    );
  }

  -- a namespace that is not in the list is none of those
  other : (ns x : ℕ) → number_of same s.spaces ns ≡ None → Contains s.spaces x → (ns == x) ≡ false
  other ns x none c = by (ns == x) refl
    where
      by : (b : Bool) → (ns == x) ≡ b → b ≡ false
      by false e = refl
      by true e = let k = get_contains s.spaces ns (subst (Contains s.spaces) (sym (eqb-true ns x e)) c) in absurd (absent-number_of same Decides-eqb s.spaces ns none k.0 k.1)

  other' : (ns x : ℕ) → number_of same s.spaces ns ≡ None → Contains s.spaces x → (x == ns) ≡ false
  other' ns x none c = by (x == ns) refl
    where
      by : (b : Bool) → (x == ns) ≡ b → b ≡ false
      by false e = refl
      by true e = let k = get_contains s.spaces ns (subst (Contains s.spaces) (eqb-true x ns e) c) in absurd (absent-number_of same Decides-eqb s.spaces ns none k.0 k.1)

  none_in : (ns : ℕ) (listed : List ℕ) → number_of same s.spaces ns ≡ None → All (Contains s.spaces) listed → has listed ns ≡ false
  none_in ns [] none all = refl
  none_in ns (x ∷ listed) none all =
      ap (λ b. b || has listed ns) (other' ns x none (All-head (Contains s.spaces) x listed all)) ∙ none_in ns listed none (All-tail (Contains s.spaces) x listed all)

  open_is : (w : NsConstraint) (ns : ℕ) → All (Contains s.spaces) (spaces_in w) → number_of same s.spaces ns ≡ None → is_open w ≡ admits w ns
  open_is Any ns all none = refl
  open_is (Not x) ns all none =
      sym (ap (λ b. not b && not (ns == x)) (other ns 0 none (all 1 0 (omega arith))) ∙ ap not (other ns x none (all 0 0 (omega arith))))
  open_is (In listed) ns all none = sym (none_in ns listed none all)

  in_names : (w : NsConstraint) (n : ℕ) → n < length s.names → admits_symbol t s w n ≡ admits w (space_of t (slice_index s.names n))
  in_names w n l = let b : nat_lt n (length s.names) ≡ true = grind (arith, nat_tests) in rw b refl

  in_spaces : (w : NsConstraint) (j : ℕ) → j < length s.spaces → admits_symbol t s w (length s.names + j) ≡ admits w (slice_index s.spaces j)
  in_spaces w j l =
      let b : nat_lt (length s.names + j) (length s.names) ≡ false = grind (arith, nat_tests) in
      let c : nat_lt (length s.names + j) (length s.names + length s.spaces) ≡ true = grind (arith, nat_tests) in
      let e : length s.names + j - length s.names ≡ j = omega arith in rw (b, c) (ap (λ k. admits w (slice_index s.spaces k)) e)

  in_last : (w : NsConstraint) → admits_symbol t s w (length s.names + length s.spaces) ≡ is_open w
  in_last w =
      let b : nat_lt (length s.names + length s.spaces) (length s.names) ≡ false = grind (arith, nat_tests) in
      let c : nat_lt (length s.names + length s.spaces) (length s.names + length s.spaces) ≡ false = grind (arith, nat_tests) in rw (b, c) refl

  admits_is : (w : NsConstraint) (name : ExpandedName) → All (Contains s.spaces) (spaces_in w) → admits_symbol t s w (symbol_of t s name) ≡ admits w name.0
  admits_is w name all = elim (symbol_case t s name) [
    | own i is below of found ↦ ap (admits_symbol t s w) is ∙ (in_names w i below ∙ ap (λ (x : ExpandedName). admits w x.0) of)
    | space j is below of none ↦ ap (admits_symbol t s w) is ∙ (in_spaces w j below ∙ ap (admits w) of)
    | last is none nowhere ↦ ap (admits_symbol t s w) is ∙ (in_last w ∙ open_is w name.0 all nowhere)
  ]

  pub wildcard_row : (w : NsConstraint) (class : ℕ) (row : List Entry) → All (Contains s.spaces) (spaces_in w) → AreAdmitted t s w class (count_of s) row → IsRow t s (Wildcard w class) row
  wildcard_row w class row all are = record {
    gives = λ name c. (
      (λ h. let r = (are (record { symbol = symbol_of t s name; class = c })).0 h in (sym (admits_is w name all) ∙ r.1, r.2)),
      (λ h. (are (record { symbol = symbol_of t s name; class = c })).1 (symbol_below t s name, admits_is w name all ∙ h.0, h.1)),
    );
  }

  module _ (w : NsConstraint) (class n : ℕ) (row : List Entry) (are : AreAdmitted t s w class n row) where
    pub admitted_none : (b : Bool) → b ≡ admits_symbol t s w n → b ≡ false → AreAdmitted t s w class (n + 1) row
    admitted_none b e f x = (
      (λ c. let r = (are x).0 c in ((let l = r.0 in omega arith), r.1, r.2)),
      (λ h. elim (cases_lt x.symbol n) [
        | inl l ↦ (are x).1 (l, h.1, h.2)
        | inr l ↦ (let q : x.symbol ≡ n = (let m = h.0 in omega arith) in absurd (false≢true (sym f ∙ (e ∙ (ap (admits_symbol t s w) (sym q) ∙ h.1)))))
      ]),
    )

    pub admitted_more : (b : Bool) (row' : List Entry) → b ≡ admits_symbol t s w n → b ≡ true → row' ≡ row ++ record { symbol = n; class = class } ∷ [] → AreAdmitted t s w class (n + 1) row'
    admitted_more b row' e f is x = (
      (λ c. elim (Contains-push_cases row (record { symbol = n; class = class }) x (subst (λ (r : List Entry). Contains r x) is c)) [
        | inl a ↦ (let r = (are x).0 a in ((let l = r.0 in omega arith), r.1, r.2))
        | inr q ↦ (let u : n ≡ x.symbol = ap (λ (y : Entry). y.symbol) q in
            ((omega arith), ap (admits_symbol t s w) (sym u) ∙ (sym e ∙ f), ap (λ (y : Entry). y.class) q))
      ]),
      (λ h. subst (λ (r : List Entry). Contains r x) (sym is) (elim (cases_lt x.symbol n) [
        | inl l ↦ Contains-append_left row (record { symbol = n; class = class } ∷ []) x ((are x).1 (l, h.1, h.2))
        | inr l ↦ (let q : n ≡ x.symbol = (let m = h.0 in omega arith) in let p : class ≡ x.class = h.2 in
            subst (Contains (row ++ record { symbol = n; class = class } ∷ [])) (λ i. record { symbol = q i; class = p i }) (Contains-push row (record { symbol = n; class = class })))
      ])),
    )

pub symbols_in : (row : List Entry) → AreSymbolsIn row (map (λ (e : Entry). e.symbol) row)
symbols_in row n = (
  (λ c. let m = contains_map (λ (e : Entry). e.symbol) row n c in let q : m.0.symbol ≡ n = m.2 in
      (m.0.class, subst (Contains row) (λ i. record { symbol = q i; class = m.0.class }) m.1)),
  (λ h. map_contains (λ (e : Entry). e.symbol) row (record { symbol = n; class = h.0 }) h.1),
)

pub element_below : (t : NameTable) (s : SymbolTable) (given : List Given) (row : List Entry) → row ≡ map (entry_of t s) given → All (λ (e : Entry). e.symbol < count_of s) row
element_below t s given row is = All-same (λ (e : Entry). e.symbol < count_of s) row (map (entry_of t s) given) is
    (All-map (λ (e : Entry). e.symbol < count_of s) (entry_of t s) given (λ k d l. symbol_below t s _))

pub wildcard_below : (t : NameTable) (s : SymbolTable) (w : NsConstraint) (class bound : ℕ) (row : List Entry) → AreAdmitted t s w class bound row → All (λ (e : Entry). e.symbol < bound) row
wildcard_below t s w class bound row are k d l = ((are (get_or row k d)).0 (Contains-get_or row k d l)).0

pub list_below : (row : List Entry) (list : List ℕ) (m : ℕ) → AreSymbolsIn row list → All (λ (e : Entry). e.symbol < m) row → All (λ n. n < m) list
list_below row list m are below k d l =
    let h = (are (get_or list k d)).0 (Contains-get_or list k d l) in
    All-contains (λ (e : Entry). e.symbol < m) row (record { symbol = get_or list k d; class = h.0 }) below h.1
