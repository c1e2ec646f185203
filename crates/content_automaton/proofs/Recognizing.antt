-- Names and their symbols.
use Rattle.std.proofs.Common.{◌≡◌, ◌≢◌, ℕ, zero, suc, ◌<◌, ◌↔◌, Bool, List, [], ◌∷◌, ◌++◌, Some, map, length, get_or, refl, ap, subst, sym, ◌∙◌, inl, inr, arith, append_assoc, append-nil, ◌⊎◌}
use Rattle.std.specs.Prelude.{All, slice_index}
use Rattle.std.proofs.lemmas.List.{length-map}
use Rattle.std.proofs.lemmas.List.Elements.{All-tail, All-nil, All-cons, Contains-get_or}
use Rattle.xs_positions.specs.Tree.{size, symbols}
use Rattle.xs_positions.specs.PositionWords.{IsWord}
use Rattle.particle_models.specs.Particles.{Particle, Place}
use Rattle.particle_models.specs.Words.{IsAmbiguous}
use Rattle.particle_models.specs.Unrolled.{places, unrolled, count, HasNoAll}
use Rattle.particle_models.specs.Model.{blank, place_of, UnrolledModel, IsUnrolled, IsInhabitedBy}
use Rattle.particle_models.specs.Model as models
use Rattle.particle_models.specs.Reach.{Reads, Reach}
use Rattle.particle_models.proofs.Placing.{length_places}
use Rattle.particle_models.proofs.Ranging.{symbols_within}
use Rattle.particle_models.proofs.Marked.{names_word, names_begin, ends_reach, reach_ends, places_differ}
use Rattle.content_automaton.specs.Moves.{takes, symbol_at}
use Rattle.content_automaton.specs.Automaton.{Automaton, Accepts, Speaks, run, term_of}
use Rattle.content_automaton.specs.Ambiguity.{AreReachedTogether, AreReachedApart}
use Rattle.content_automaton.specs.Count.{IsReachSet, IsStateCount}
use Rattle.content_automaton.specs.Counted.{IsReachSetOf, IsStateCountOf}
use Rattle.content_automaton.specs.Recognized.{ExpandedName, AreSymbols, Recognizes, IsUnambiguous, GivesTerms, nth_place}

number_at : (places : List Place) (terms : List ℕ) (k : ℕ) → terms ≡ map (λ (place : Place). place.number) places → slice_index terms k ≡ (get_or places k blank).number
number_at places terms k e = ap (λ ts. get_or ts k 0) e ∙ mapped places k
  where
    mapped : (ps : List Place) (k : ℕ) → get_or (map (λ (place : Place). place.number) ps) k 0 ≡ (get_or ps k blank).number
    mapped [] k = refl
    mapped (p ∷ ps) zero = refl
    mapped (p ∷ ps) (suc k) = mapped ps k

module _ (accepts : ℕ → ExpandedName → Bool) (inhabited : ℕ → Bool) (model : Particle) (u : UnrolledModel) (accepted : List (List ℕ)) (symbol : ExpandedName → ℕ) (many : ℕ)
    (no_all : HasNoAll model) (is : IsUnrolled inhabited model u) (by : IsInhabitedBy accepts inhabited) (are : AreSymbols accepts u.terms accepted many symbol) where
  abbrev Word : List ℕ → Type 0
  Word = IsWord (unrolled inhabited model 0) 0

  abbrev ByName : List ExpandedName → ℕ → ExpandedName → Type 0
  ByName = models.Accepts accepts model u.table

  abbrev BySymbol : List ℕ → ℕ → ℕ → Type 0
  BySymbol = Accepts u.table accepted

  terms_count : length u.terms ≡ count model
  terms_count = ap length is.terms ∙ (length-map (places model []) (λ (place : Place). place.number) ∙ length_places blank model [])

  -- a position is one of a term
  term_within : (p : ℕ) → p < size (unrolled inhabited model 0) → symbol_at u.table p < length u.terms
  term_within p l =
      let n = is.positions.count in let m = ap length is.positions.symbols in let t = terms_count in
      let w = (symbols_within inhabited model 0 (slice_index u.table.symbols p) (rw is.positions.symbols (Contains-get_or (symbols (unrolled inhabited model 0)) p 0 (omega arith)))).1 in omega arith

  takes_same : (p : ℕ) (name : ExpandedName) → p < size (unrolled inhabited model 0) → takes u.table accepted p (symbol name) ≡ accepts (place_of model u.table p).number name
  takes_same p name l =
      are.same (symbol_at u.table p) (term_within p l) name ∙ ap (λ k. accepts k name) (number_at (places model []) u.terms (symbol_at u.table p) is.terms)

  abbrev AreWithin : List ℕ → Type 0
  AreWithin ps = All (λ p. p < size (unrolled inhabited model 0)) ps

  reads_symbols : (before : List ExpandedName) (before' ps : List ℕ) (names : List ExpandedName) → AreWithin ps → Reads ByName before ps names ↔ Reads BySymbol before' ps (map symbol names)
  reads_symbols before before' [] [] w = ((λ h. h), (λ h. h))
  reads_symbols before before' [] (n ∷ names) w = ((λ h. absurd h), (λ h. absurd h))
  reads_symbols before before' (p ∷ ps) [] w = ((λ h. absurd h), (λ h. absurd h))
  reads_symbols before before' (p ∷ ps) (n ∷ names) w =
      let l = w 0 0 (omega arith) in
      let r = reads_symbols (before ++ n ∷ []) (before' ++ symbol n ∷ []) ps names (All-tail (λ p. p < size (unrolled inhabited model 0)) p ps w) in (
        (λ h. (takes_same p n l ∙ h.0, r.0 h.1)),
        (λ h. (sym (takes_same p n l) ∙ h.0, r.1 h.1)),
      )

  word_within : (front rest : List ℕ) → Word (front ++ rest) → AreWithin front
  word_within front rest w k d l =
      let s = split front k d l in
      is.positions.within (get_or front k d) (s.0, s.1 ++ rest, subst Word (ap (λ f. f ++ rest) s.2 ∙ append_assoc s.0 (get_or front k d ∷ s.1) rest) w)
    where
      split : (xs : List ℕ) (k d : ℕ) → k < length xs → (a b : List ℕ) × (xs ≡ a ++ get_or xs k d ∷ b)
      split [] k d l = absurd (omega arith)
      split (x ∷ xs) zero d l = ([], xs, refl)
      split (x ∷ xs) (suc k) d l = let r = split xs k d (omega arith) in (x ∷ r.0, r.1, ap (λ z. x ∷ z) r.2)

  all_below : (names : List ExpandedName) → All (λ n. n < many) (map symbol names)
  all_below [] = All-nil (λ n. n < many)
  all_below (n ∷ names) = All-cons (λ n. n < many) (symbol n) (map symbol names) (are.below n) (all_below names)

  named : (ns : List ℕ) → All (λ n. n < many) ns → (names : List ExpandedName) × (map symbol names ≡ ns)
  named [] h = ([], refl)
  named (n ∷ ns) h =
      let x = are.some n (h 0 0 (omega arith)) in let r = named ns (All-tail (λ n. n < many) n ns h) in
      (x.0 ∷ r.0, (let e : symbol x.0 ≡ n = x.1 in let f : map symbol r.0 ≡ ns = r.1 in cc))

  reach_within : (names : List ExpandedName) (p : ℕ) (front rest : List ℕ) → Word (front ++ p ∷ rest) → AreWithin (front ++ p ∷ [])
  reach_within names p front rest w = word_within (front ++ p ∷ []) rest (rw append_assoc w)

  reach_symbols : (names : List ExpandedName) (p : ℕ) → Reach ByName Word names p ↔ Reach BySymbol Word (map symbol names) p
  reach_symbols names p = (
    (λ h. (h.0, h.1, h.2, (reads_symbols [] [] (h.0 ++ p ∷ []) names (reach_within names p h.0 h.1 h.2)).0 h.3)),
    (λ h. (h.0, h.1, h.2, (reads_symbols [] [] (h.0 ++ p ∷ []) names (reach_within names p h.0 h.1 h.2)).1 h.3)),
  )

  inside : (names : List ExpandedName) (p : ℕ) → Reach ByName Word names p → p < size (unrolled inhabited model 0)
  inside names p h = is.positions.within p (h.0, h.1, h.2)

  pub apart : AreReachedApart (unrolled inhabited model 0) u.table accepted many → IsUnambiguous accepts model
  apart h p q two =
      let a = ends_reach accepts inhabited model u.table no_all is.positions by two.names two.name p two.one in
      let b = ends_reach accepts inhabited model u.table no_all is.positions by two.names two.name q two.other in
      let names : List ExpandedName = two.names ++ two.name ∷ [] in
      let e = h (map symbol names) (all_below names) a.0 b.0 ((reach_symbols names a.0).0 a.1) ((reach_symbols names b.0).0 b.1) in
      two.differ (sym a.2 ∙ (ap (λ k. get_or (places model []) k blank) e ∙ b.2))

  ambiguous_at : (names : List ExpandedName) (i j : ℕ) → Reach ByName Word names i → Reach ByName Word names j → symbol_at u.table i ≢ symbol_at u.table j →
      IsAmbiguous accepts model (place_of model u.table i) (place_of model u.table j)
  ambiguous_at names i j x y d = elim (last_name names) [
    | inl e ↦ absurd (no_read x.0 i (rw e at x.3))
    | inr l ↦ record {
      names = l.0;
      name = l.1;
      one = reach_ends accepts inhabited model u.table no_all is.positions by l.0 l.1 i (rw l.2 at x);
      other = reach_ends accepts inhabited model u.table no_all is.positions by l.0 l.1 j (rw l.2 at y);
      differ = λ e. d (places_differ accepts inhabited model u.table no_all is.positions by i j (inside names i x) (inside names j y) e);
    }
  ]
    where
      last_name : (xs : List ExpandedName) → (xs ≡ []) ⊎ ((front : List ExpandedName) × (n : ExpandedName) × (xs ≡ front ++ n ∷ []))
      last_name [] = inl refl
      last_name (x ∷ xs) = elim (last_name xs) [
        | inl e ↦ inr ([], x, ap (λ z. x ∷ z) e)
        | inr h ↦ inr (x ∷ h.0, h.1, ap (λ z. x ∷ z) h.2)
      ]

      no_read : (f : List ℕ) (p : ℕ) → Reads ByName [] (f ++ p ∷ []) [] → ⊥
      no_read [] p r = r
      no_read (x ∷ f) p r = r

  pub together : (x y : ℕ) → AreReachedTogether (unrolled inhabited model 0) u.table accepted many x y → IsAmbiguous accepts model (nth_place model x) (nth_place model y)
  together x y (ns, below, i, j, a, b, e, f, d) =
      let m = named ns below in
      let t = ambiguous_at m.0 i j ((reach_symbols m.0 i).1 (rw m.1 a)) ((reach_symbols m.0 j).1 (rw m.1 b)) (λ same. d (sym e ∙ (same ∙ f))) in
      rw (e, f) at t

  pub together_within : (x y : ℕ) → AreReachedTogether (unrolled inhabited model 0) u.table accepted many x y → (x < length (places model [])) × (y < length (places model []))
  together_within x y (ns, below, i, j, a, b, e, f, d) =
      let m = named ns below in
      let n = ap length is.terms ∙ length-map (places model []) (λ (place : Place). place.number) in
      let p : symbol_at u.table i < length u.terms = term_within i (inside m.0 i ((reach_symbols m.0 i).1 (rw m.1 a))) in
      let q : symbol_at u.table j < length u.terms = term_within j (inside m.0 j ((reach_symbols m.0 j).1 (rw m.1 b))) in
      (omega (arith, e), omega (arith, f))

  -- sets of positions that names reach, and how many there are
  reach_set : (set : List ℕ) → IsReachSet (unrolled inhabited model 0) u.table accepted many set ↔ IsReachSetOf accepts inhabited model u.table set
  reach_set set = (
    (λ h. let m = named h.names h.below in record {
      filled = h.filled;
      rises = h.rises;
      names = m.0;
      reached = λ q. (
        (λ c. (reach_symbols m.0 q).1 (rw m.1 ((h.reached q).0 c))),
        (λ r. (h.reached q).1 (subst (λ (ns : List ℕ). Reach BySymbol Word ns q) m.1 ((reach_symbols m.0 q).0 r))),
      );
    }),
    (λ h. record {
      filled = h.filled;
      rises = h.rises;
      names = map symbol h.names;
      below = all_below h.names;
      reached = λ q. ((λ c. (reach_symbols h.names q).0 ((h.reached q).0 c)), (λ r. (h.reached q).1 ((reach_symbols h.names q).1 r)));
    }),
  )

  pub counted : (count : ℕ) → IsStateCount (unrolled inhabited model 0) u.table accepted many count ↔ IsStateCountOf accepts inhabited model u.table count
  counted count = (
    (λ h. record {
      sets = h.sets;
      all = λ set. ((λ c. (reach_set set).0 ((h.all set).0 c)), (λ r. (h.all set).1 ((reach_set set).1 r)));
      different = h.different;
      counted = h.counted;
    }),
    (λ h. record {
      sets = h.sets;
      all = λ set. ((λ c. (reach_set set).1 ((h.all set).0 c)), (λ r. (h.all set).1 ((reach_set set).0 r)));
      different = h.different;
      counted = h.counted;
    }),
  )

  pub reached_term : (names : List ExpandedName) (p : ℕ) → Reach ByName Word names p → symbol_at u.table p < length (places model [])
  reached_term names p h =
      let n = ap length is.terms ∙ length-map (places model []) (λ (place : Place). place.number) in
      let l = term_within p (inside names p h) in omega arith

module _ (accepts : ℕ → ExpandedName → Bool) (inhabited : ℕ → Bool) (model : Particle) (u : UnrolledModel) (accepted : List (List ℕ)) (symbol : ExpandedName → ℕ) (a : Automaton)
    (no_all : HasNoAll model) (is : IsUnrolled inhabited model u) (by : IsInhabitedBy accepts inhabited) (are : AreSymbols accepts u.terms accepted a.symbols symbol) where
  pub recognizes : Speaks (unrolled inhabited model 0) u.table accepted a → Recognizes accepts model symbol a
  recognizes speaks = record {
    live = λ names. (
        let s = speaks.live (map symbol names) (all_below accepts inhabited model u accepted symbol a.symbols no_all is by are names) in
        let n = names_begin accepts inhabited model u.table no_all is.positions by names in
        let r = λ (front rest : List ℕ) (w : IsWord (unrolled inhabited model 0) 0 (front ++ rest)).
        reads_symbols accepts inhabited model u accepted symbol a.symbols no_all is by are [] [] front names (word_within accepts inhabited model u accepted symbol a.symbols no_all is by are front rest w) in (
          (λ l. let h = s.0 l in n.1 (h.0, h.1, h.2, (r h.0 h.1 h.2).1 h.3)),
          (λ b. let h = n.0 b in s.1 (h.0, h.1, h.2, (r h.0 h.1 h.2).0 h.3)),
        ));
    accepting = λ names. (
        let s = speaks.accepting (map symbol names) (all_below accepts inhabited model u accepted symbol a.symbols no_all is by are names) in
        let n = names_word accepts inhabited model u.table no_all is.positions by names in
        let r = λ (ps : List ℕ) (w : IsWord (unrolled inhabited model 0) 0 ps).
        reads_symbols accepts inhabited model u accepted symbol a.symbols no_all is by are [] [] ps names (word_within accepts inhabited model u accepted symbol a.symbols no_all is by are ps [] (rw append-nil w)) in (
          (λ l. let h = s.0 l in n.1 (h.0, h.1, (r h.0 h.1).1 h.2)),
          (λ b. let h = n.0 b in s.1 (h.0, h.1, (r h.0 h.1).0 h.2)),
        ));
  }

  pub gives_terms : ((names : List ℕ) → All (λ n. n < a.symbols) names → (p : ℕ) → Reach (Accepts u.table accepted) (IsWord (unrolled inhabited model 0) 0) names p →
      term_of a (run a 0 names) ≡ Some (symbol_at u.table p)) → GivesTerms accepts model symbol a
  gives_terms terms names name place ends =
      let r = ends_reach accepts inhabited model u.table no_all is.positions by names name place ends in
      let all : List ExpandedName = names ++ name ∷ [] in (
        symbol_at u.table r.0,
        terms (map symbol all) (all_below accepts inhabited model u accepted symbol a.symbols no_all is by are all) r.0
            ((reach_symbols accepts inhabited model u accepted symbol a.symbols no_all is by are all r.0).0 r.1),
        r.2,
        reached_term accepts inhabited model u accepted symbol a.symbols no_all is by are all r.0 r.1,
      )
