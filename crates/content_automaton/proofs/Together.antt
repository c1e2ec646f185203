-- What is listed of the first terms, with one more.
use Rattle.std.proofs.Common.{◌≡◌, ℕ, zero, suc, ◌+◌, ◌<◌, ◌↔◌, ◌==◌, Bool, true, false, List, [], ◌∷◌, ◌++◌, length, map, get_or, replicate, refl, sym, ap, subst, ◌∙◌, inl, inr, arith, eq-eqb, eqb-true}
use Rattle.std.specs.Prelude.{Contains, All}
use Rattle.std.specs.Bool.{Decides}
use Rattle.std.specs.List.{list_any}
use Rattle.std.specs.List.Sorted.{IsStrictlyIncreasing}
use Rattle.std.proofs.lemmas.Bool.{cases_lt}
use Rattle.std.proofs.lemmas.Bool.Decides.{same_from_decides}
use Rattle.std.proofs.lemmas.List.{get_or_append_left, get_or_push, length_push, get_or-replicate, length-replicate}
use Rattle.std.proofs.lemmas.List.Elements.{All-push, All-nil, Contains-get_or, Contains-append_left, Contains-append_right, Contains-append_cases}
use Rattle.xs_names.specs.Names.{NameTable, same_name}
use Rattle.xs_names.specs.Numbering.{HasNoRepeats}
use Rattle.xs_names.proofs.NumberingLaws.{same_name-Decides}
use Rattle.content_automaton.specs.declared.symbol_terms.Given.{Given}
use Rattle.content_automaton.specs.declared.symbol_terms.Accepts.{Accepts}
use Rattle.content_automaton.specs.declared.symbol_terms.Accepts.TheVariants.{Element, Wildcard}
use Rattle.content_automaton.specs.declared.rows.Entry.{Entry}
use Rattle.content_automaton.specs.declared.attribution.Attribution.{Attribution}
use Rattle.content_automaton.specs.declared.attribution.Attribution.TheVariants.{Nothing, OneClass, Ambivalent}
use Rattle.content_automaton.specs.Terms.{ExpandedName, name_at, accepts_name, Gives}
use Rattle.content_automaton.specs.Symbols.{SymbolTable, symbol_of, count_of}
use Rattle.content_automaton.specs.Rows.{IsRow, AreSymbolsIn}
use Rattle.content_automaton.specs.Attribution.{Noted, noted, IsNoted, AreNoted, AreUpTo, GivesAt, IsAttributed}
use Rattle.content_automaton.specs.Listed.{AreNotesOf, IsListedUpTo, IsListing}
use Rattle.content_automaton.proofs.Items.{contains_head, contains_tail, contains_cases, none_contained, contains_map, map_contains}
use Rattle.content_automaton.proofs.Symboling.{symbol_below}

-- ---- what a test of members says
any_contains : {X : Type 0} (test : X → Bool) (xs : List X) → list_any test xs ≡ true → (x : X) × Contains xs x × (test x ≡ true)
any_contains test [] e = absurd (let z : false ≡ true = e in cc)
any_contains {X = X} test (x ∷ xs) e = by (test x) refl (any_contains test xs)
  where
    by : (b : Bool) → test x ≡ b → (list_any test xs ≡ true → (y : X) × Contains xs y × (test y ≡ true)) → (y : X) × Contains (x ∷ xs) y × (test y ≡ true)
    by true t more = (x, contains_head x xs x refl, t)
    by false t more = let r = more (rw t at e) in (r.0, contains_tail x xs r.0 r.1, r.2)

contains_any : {X : Type 0} (test : X → Bool) (xs : List X) (x : X) → Contains xs x → test x ≡ true → list_any test xs ≡ true
contains_any test [] x c t = absurd (none_contained x c)
contains_any test (y ∷ xs) x c t = elim (contains_cases y xs x c) [
  | inl e ↦ (let u : test y ≡ true = ap test (sym e) ∙ t in rw u refl)
  | inr d ↦ by (test y) refl (contains_any test xs x d t)
]
  where
    by : (b : Bool) → test y ≡ b → list_any test xs ≡ true → list_any test (y ∷ xs) ≡ true
    by true u r = rw u refl
    by false u r = rw u r

-- a term accepts a name exactly where it gives it a class
accepts_gives : (t : NameTable) (a : Accepts) (name : ExpandedName) → Decides (accepts_name t a name) ((class : ℕ) × Gives t a name class)
accepts_gives t (Element given) name = (
  (λ e. let r = any_contains (λ (g : Given). same_name (name_at t g.name) name) given e in
      (r.0.class, (r.0, r.1, (same_name-Decides (name_at t r.0.name) name).0 r.2, refl))),
  (λ h. let g = h.1 in contains_any (λ (g : Given). same_name (name_at t g.name) name) given g.0 g.1 ((same_name-Decides (name_at t g.0.name) name).1 g.2)),
)
accepts_gives t (Wildcard w class) name = ((λ e. (class, (e, refl))), (λ h. let g = h.1 in g.0))

listed_symbol : (list : List ℕ) (n : ℕ) → Decides (list_any (λ m. m == n) list) (Contains list n)
listed_symbol list n = (
  (λ e. let r = any_contains (λ m. m == n) list e in subst (Contains list) (eqb-true r.0 n r.2) r.1),
  (λ c. contains_any (λ m. m == n) list n c (eq-eqb n n refl)),
)

-- the list of a row's symbols decides what its term accepts
pub row_decides : (t : NameTable) (s : SymbolTable) (a : Accepts) (row : List Entry) (list : List ℕ) → IsRow t s a row → AreSymbolsIn row list → (name : ExpandedName) →
    list_any (λ m. m == symbol_of t s name) list ≡ accepts_name t a name
row_decides t s a row list is are name =
    let d = listed_symbol list (symbol_of t s name) in
    let g = accepts_gives t a name in
    same_from_decides (list_any (λ m. m == symbol_of t s name) list) (accepts_name t a name)
    ((λ e. let h = (are (symbol_of t s name)).0 (d.0 e) in (h.0, (is.gives name h.0).0 h.1)), (λ h. d.1 ((are (symbol_of t s name)).1 (h.0, (is.gives name h.0).1 h.1)))) g

-- ---- one more term
module _ (t : NameTable) (s : SymbolTable) (terms : List Accepts) where
  pub listed_none : (attributions : List Attribution) → attributions ≡ replicate (count_of s) Nothing → IsListedUpTo t s terms 0 [] attributions
  listed_none attributions is = record {
    count = refl;
    rises = All-nil IsStrictlyIncreasing;
    below = All-nil (All (λ n. n < count_of s));
    same = λ once k a l. absurd (omega arith);
    noted = λ once. record {
      notes = [];
      terms_below = λ x c. absurd (none_contained x c);
      are = λ n a l. subst (λ (xs : List Attribution). IsNoted [] n (get_or xs n a)) (sym is)
          (subst (IsNoted [] n) (sym (get_or-replicate (count_of s) n Nothing a (let z = ap length is ∙ length-replicate (count_of s) Nothing in omega arith))) (λ k c h. absurd (none_contained _ h)));
      of = λ k c name. ((λ h. absurd (none_contained _ h)), (λ h. absurd (let l = h.0 in omega arith)));
    };
    attributions_count = ap length is ∙ length-replicate (count_of s) Nothing;
  }

  module _ (i : ℕ) (accepted : List (List ℕ)) (olds news : List Attribution) (before : IsListedUpTo t s terms i accepted olds) (a : Accepts) (l : i < length terms) (at_i : a ≡ get_or terms i a)
      (row : List Entry) (gives : HasNoRepeats t.names → IsRow t s a row) (below : All (λ (e : Entry). e.symbol < count_of s) row)
      (list : List ℕ) (are : AreSymbolsIn row list) (rises : IsStrictlyIncreasing list) (list_below : All (λ n. n < count_of s) list)
      (noting : (notes : List Noted) → AreUpTo notes i → AreNoted notes olds → AreNoted (notes ++ map (noted i) row) news) (kept : length news ≡ length olds) where
    term_at : (d : Accepts) → get_or terms i d ≡ a
    term_at d = by terms i l at_i
      where
        by : (ts : List Accepts) (i : ℕ) → i < length ts → a ≡ get_or ts i a → get_or ts i d ≡ a
        by [] i l e = absurd (omega arith)
        by (x ∷ ts) zero l e = sym e
        by (x ∷ ts) (suc i) l e = by ts i (omega arith) e

    notes_more : HasNoRepeats t.names → AreNotesOf t s terms i olds → AreNotesOf t s terms (i + 1) news
    notes_more once h = record {
      notes = h.notes ++ map (noted i) row;
      terms_below = λ x c. elim (Contains-append_cases h.notes (map (noted i) row) x c) [
        | inl z ↦ (let k = h.terms_below x z in omega arith)
        | inr z ↦ (let m = contains_map (noted i) row x z in let q : i ≡ x.term = ap (λ (y : Noted). y.term) m.2 in omega arith)
      ];
      are = noting h.notes (λ x c. let k = h.terms_below x c in omega arith) h.are;
      of = λ k class name. (
        (λ c. elim (Contains-append_cases h.notes (map (noted i) row) (record { term = k; symbol = symbol_of t s name; class = class }) c) [
          | inl z ↦ (let r = (h.of k class name).0 z in ((let l = r.0 in omega arith), r.1))
          | inr z ↦ (
              let m = contains_map (noted i) row (record { term = k; symbol = symbol_of t s name; class = class }) z in
              let p : i ≡ k = ap (λ (y : Noted). y.term) m.2 in
              let e : m.0 ≡ record { symbol = symbol_of t s name; class = class } = λ j. record { symbol = (m.2 j).symbol; class = (m.2 j).class } in
              let g : Gives t a name class = ((gives once).gives name class).0 (subst (Contains row) e m.1) in
              ((omega arith), λ d. subst (λ (n : ℕ). Gives t (get_or terms n d) name class) p (subst (λ (b : Accepts). Gives t b name class) (sym (term_at d)) g)))
        ]),
        (λ g. elim (cases_lt k i) [
          | inl z ↦ Contains-append_left h.notes (map (noted i) row) (record { term = k; symbol = symbol_of t s name; class = class }) ((h.of k class name).1 (z, g.1))
          | inr z ↦ (
              let p : i ≡ k = (let l = g.0 in omega arith) in
              let q : Gives t a name class = subst (λ (b : Accepts). Gives t b name class) (term_at a) (subst (λ (n : ℕ). Gives t (get_or terms n a) name class) (sym p) (g.1 a)) in
              let c = map_contains (noted i) row (record { symbol = symbol_of t s name; class = class }) (((gives once).gives name class).1 q) in
              Contains-append_right h.notes (map (noted i) row) (record { term = k; symbol = symbol_of t s name; class = class })
              (subst (λ (n : ℕ). Contains (map (noted i) row) (record { term = n; symbol = symbol_of t s name; class = class })) p c))
        ]),
      );
    }

    pub listed_more : IsListedUpTo t s terms (i + 1) (accepted ++ list ∷ []) news
    listed_more =
        let n : length (accepted ++ list ∷ []) ≡ length accepted + 1 = length_push accepted list in
        let c = before.count in
        record {
          count = omega arith;
          rises = All-push IsStrictlyIncreasing accepted list before.rises rises;
          below = All-push (All (λ n. n < count_of s)) accepted list before.below list_below;
          same = λ once k d m name. elim (cases_lt k i) [
            | inl z ↦ ap (list_any (λ x. x == symbol_of t s name)) (get_or_append_left accepted (list ∷ []) [] k (omega arith)) ∙ before.same once k d z name
            | inr z ↦ (let p : i ≡ k = omega arith in
                ap (list_any (λ x. x == symbol_of t s name)) (get_or_push accepted list [] k (omega arith)) ∙
                (row_decides t s a row list (gives once) are name ∙ ap (λ b. accepts_name t b name) (sym (term_at d) ∙ ap (λ n. get_or terms n d) p)))
          ];
          noted = λ once. notes_more once (before.noted once);
          attributions_count = kept ∙ before.attributions_count;
        }

  attributed : (i : ℕ) (attributions : List Attribution) → AreNotesOf t s terms i attributions → length terms ≡ i → length attributions ≡ count_of s →
      (name : ExpandedName) (x : Attribution) → IsAttributed t terms name (get_or attributions (symbol_of t s name) x)
  attributed i attributions h e n name x = by (get_or attributions (symbol_of t s name) x) (h.are (symbol_of t s name) x (let b = symbol_below t s name in omega arith))
    where
      given : (k c : ℕ) → GivesAt t terms name k c → Contains h.notes (record { term = k; symbol = symbol_of t s name; class = c })
      given k c g = (h.of k c name).1 ((let l = g.0 in omega arith), g.1)

      gives : (k c : ℕ) → Contains h.notes (record { term = k; symbol = symbol_of t s name; class = c }) → GivesAt t terms name k c
      gives k c z = let r = (h.of k c name).0 z in ((let l = r.0 in omega arith), r.1)

      by : (a : Attribution) → IsNoted h.notes (symbol_of t s name) a → IsAttributed t terms name a
      by Nothing z = λ k c g. z k c (given k c g)
      by (OneClass first class) z = (
        ((z.0.0.0, gives first z.0.0.0 z.0.0.1), λ k c g. z.0.1 k c (given k c g)),
        λ i j c d g h. z.1 i c (given i c g) ∙ sym (z.1 j d (given j d h)),
      )
      by (Ambivalent first) z = (
        ((z.0.0.0, gives first z.0.0.0 z.0.0.1), λ k c g. z.0.1 k c (given k c g)),
        (let m = z.1 in (m.0, m.1, m.2, m.3, gives m.0 m.2 m.4, gives m.1 m.3 m.5, m.6)),
      )

  pub listed_all : (i : ℕ) (accepted : List (List ℕ)) (attributions : List Attribution) → IsListedUpTo t s terms i accepted attributions → length terms ≡ i → IsListing t s terms accepted attributions
  listed_all i accepted attributions h e = record {
    count = h.count ∙ sym e;
    rises = h.rises;
    below = h.below;
    same = λ once k a l name. h.same once k a (omega arith) name;
    attributed = λ once. attributed i attributions (h.noted once) e h.attributions_count;
    attributions_count = h.attributions_count;
  }

-- a term of the model has symbols for what it accepts
pub own : (f : Accepts → List ℕ) (terms : List Accepts) (numbers : List ℕ) → ((n : ℕ) → Contains numbers n ↔ ((a : Accepts) × Contains terms a × Contains (f a) n)) →
    (i : ℕ) (a : Accepts) → i < length terms → a ≡ get_or terms i a → All (Contains numbers) (f a)
own f terms numbers are i a l e k d b = (are (get_or (f a) k d)).1 (a, (i, l, sym e), Contains-get_or (f a) k d b)
