-- The terms that an automaton gives.
use Rattle.std.proofs.Common.{◌≡◌, ℕ, ◌<◌, ◌≤◌, ◌↔◌, Bool, true, false, IsTrue, List, [], ◌∷◌, ◌++◌, Option, Some, None, inl, inr, length, map, get_or, slice_get, refl, ap, subst, sym, ◌∙◌, arith, append_assoc}
use Rattle.std.specs.Prelude.{MatchOption, unwrap_or, nat_lt}
use Rattle.std.proofs.lemmas.List.{map-append, length-map, get_or-map}
use Rattle.std.proofs.lemmas.Option.{slice_get-get_or, get_or_from_slice_get, unwrap_or-slice_get}
use Rattle.std.proofs.lemmas.Bool.{cases_lt, false≢true}
use Rattle.xs_names.specs.Names.{NameTable}
use Rattle.particle_models.specs.Particles.{Particle, Place, Mark}
use Rattle.particle_models.specs.Words.{BeginsWord, EndsIn, names_of}
use Rattle.particle_models.specs.Unrolled.{places}
use Rattle.particle_models.specs.Model.{blank}
use Rattle.content_automaton.specs.declared.symbol_terms.Accepts.{Accepts}
use Rattle.content_automaton.specs.declared.attribution.Attribution.{Attribution}
use Rattle.content_automaton.specs.declared.attribution.Attribution.TheVariants.{Nothing, OneClass, Ambivalent}
use Rattle.content_automaton.specs.Terms.{ExpandedName}
use Rattle.content_automaton.specs.Symbols.{symbol_of}
use Rattle.content_automaton.specs.Attribution.{IsStranger, IsFirstTerm, IsAmbivalent, IsAttributed}
use Rattle.content_automaton.specs.Automaton.{Automaton, run, state_of, start_of, step_of, dead_of, term_of}
use Rattle.content_automaton.specs.Recognized.{IsUnambiguous, nth_place}
use Rattle.content_automaton.specs.Modelled.{ModelAutomaton, IsAutomatonOf, AreAmbiguous, IsTermAt, IsFirstTermOf, IsAmbiguousBy, first_of, is_ambivalent}

pub step_within : (a : Automaton) (s n : ℕ) → step_of a s n ≤ dead_of a
step_within a s n = by (nat_lt s a.count) refl
  where
    by : (b : Bool) → nat_lt s a.count ≡ b → step_of a s n ≤ dead_of a
    by true e = rw e (omega arith)
    by false e = rw e (omega arith)

pub live_of : (a : Automaton) (s n next dead : ℕ) → next ≡ step_of a s n → dead ≡ dead_of a → (next ≡ dead → ⊥) → step_of a s n < dead_of a
live_of a s n next dead e d other = elim (cases_lt (step_of a s n) (dead_of a)) [
  | inl l ↦ l
  | inr l ↦ absurd (other (e ∙ (let k = step_within a s n in let q : step_of a s n ≡ dead_of a = omega arith in q) ∙ sym d))
]

run_more : (a : Automaton) (s : ℕ) (xs : List ℕ) (n : ℕ) → run a s (xs ++ n ∷ []) ≡ step_of a (run a s xs) n
run_more a s [] n = refl
run_more a s (x ∷ xs) n = run_more a (step_of a s x) xs n

-- the last mark of a marked word
split_last : (name : ExpandedName) (names : List ExpandedName) (front : List (Mark ExpandedName)) → names_of front ≡ names ++ name ∷ [] →
    (first : List (Mark ExpandedName)) × (place : Place) × (front ≡ first ++ record { place = place; name = name } ∷ []) × (names_of first ≡ names)
split_last name [] [] e = absurd (cc)
split_last name [] (m ∷ []) e = let n : m.name ≡ name = cc in ([], m.place, (λ i. record { place = m.place; name = n i } ∷ []), refl)
split_last name [] (m ∷ k ∷ front) e = absurd (cc)
split_last name (n ∷ names) [] e = absurd (cc)
split_last name (n ∷ names) (m ∷ front) e =
    let h : m.name ≡ n = cc in
    let r = split_last name names front (cc) in
    let q : names_of r.0 ≡ names = r.3 in
    (m ∷ r.0, r.1, ap (λ z. m ∷ z) r.2, (λ i. h i ∷ q i))

module _ (t : NameTable) (terms : List Accepts) (accepts : ℕ → ExpandedName → Bool) (model : Particle) (a : ModelAutomaton) (is : IsAutomatonOf t terms accepts model a) where
  begins_ends : (names : List ExpandedName) (name : ExpandedName) → BeginsWord accepts model (names ++ name ∷ []) → (place : Place) × EndsIn accepts model names name place
  begins_ends names name b =
      let r = split_last name names b.0 b.3 in
      (r.1, (r.0, b.1, rw (r.2, append_assoc) at b.2, r.3))

  begins_first : (names : List ExpandedName) (name : ExpandedName) (place : Place) → EndsIn accepts model names name place → BeginsWord accepts model []
  begins_first names name place (front, rest, w, e) = ([], front ++ record { place = place; name = name } ∷ rest, w, refl)

  start_zero : BeginsWord accepts model [] → start_of a.machine ≡ 0
  start_zero b = by a.machine.lives refl
    where
      by : (lives : Bool) → a.machine.lives ≡ lives → start_of a.machine ≡ 0
      by true e = rw e refl
      by false e = let l : start_of a.machine < dead_of a.machine = (is.recognizes.live []).1 b in let f : start_of a.machine ≡ dead_of a.machine = rw e refl in absurd (omega arith)

  state_more : (names : List ExpandedName) (name : ExpandedName) (s : ℕ) → run a.machine s (map (symbol_of t a.symbols) (names ++ name ∷ [])) ≡ step_of a.machine (run a.machine s (map (symbol_of t a.symbols) names)) (symbol_of t a.symbols name)
  state_more names name s = ap (run a.machine s) (map-append (symbol_of t a.symbols) names (name ∷ [])) ∙ run_more a.machine s (map (symbol_of t a.symbols) names) (symbol_of t a.symbols name)

  nth_number : (k : ℕ) → k < length (places model []) → slice_get a.terms k ≡ Some (nth_place model k).number
  nth_number k l =
      let n = ap length is.terms_are ∙ length-map (places model []) (λ (place : Place). place.number) in
      slice_get-get_or a.terms k 0 (omega arith) ∙ ap Some (ap (λ xs. get_or xs k 0) is.terms_are ∙ get_or-map (λ (place : Place). place.number) (places model []) k blank 0 l)

  module _ (un : IsUnambiguous accepts model) (names : List ExpandedName) (name : ExpandedName) (state symbol : ℕ)
      (at_state : state ≡ state_of a.machine (map (symbol_of t a.symbols) names)) (at_symbol : symbol ≡ symbol_of t a.symbols name) where
    abbrev next : ℕ
    next = step_of a.machine state symbol

    next_is : next ≡ state_of a.machine (map (symbol_of t a.symbols) (names ++ name ∷ []))
    next_is =
        ap (λ s. step_of a.machine s symbol) at_state ∙ (ap (step_of a.machine (state_of a.machine (map (symbol_of t a.symbols) names))) at_symbol ∙
        sym (state_more names name (start_of a.machine)))

    pub dead_term : next ≡ dead_of a.machine → BeginsWord accepts model (names ++ name ∷ []) → ⊥
    dead_term e b = let l = (is.recognizes.live (names ++ name ∷ [])).1 b in let q = next_is in omega arith

    -- where names begin a word, the term of the state is that of each place that ends them
    at_place : (place : Place) → EndsIn accepts model names name place → (k : ℕ) × (term_of a.machine next ≡ Some k) × (nth_place model k ≡ place) × (k < length (places model []))
    at_place place ends =
        let g = is.gives un names name place ends in
        let z = start_zero (begins_first names name place ends) in
        (g.0, ap (term_of a.machine) (next_is ∙ ap (λ s. run a.machine s (map (symbol_of t a.symbols) (names ++ name ∷ []))) z) ∙ g.1, g.2, g.3)

    live_term : next < dead_of a.machine → (place : Place) × EndsIn accepts model names name place × (k : ℕ) × (term_of a.machine next ≡ Some k) × (nth_place model k ≡ place) × (k < length (places model []))
    live_term l =
        let b = (is.recognizes.live (names ++ name ∷ [])).0 (let q = next_is in omega arith) in
        let p = begins_ends names name b in let g = at_place p.0 p.1 in (p.0, p.1, g.0, g.1, g.2, g.3)

    pub no_term : next < dead_of a.machine → term_of a.machine next ≡ None → ⊥
    no_term l e = let h = live_term l in let z : Some h.2 ≡ None = sym h.3 ∙ e in cc

    pub some_term : next < dead_of a.machine → (k : ℕ) → term_of a.machine next ≡ Some k → (id : ℕ) → slice_get a.terms k ≡ Some id → IsTermAt accepts model names name (Some id)
    some_term l k e id f =
        let h = live_term l in
        let j : k ≡ h.2 = (let z = sym e ∙ h.3 in cc) in (
          h.0,
          h.1,
          (λ other ends. let o = at_place other ends in let i : o.0 ≡ k = (let z = sym o.1 ∙ e in cc) in sym o.2 ∙ (ap (nth_place model) (i ∙ j) ∙ h.4)),
          (let n = nth_number h.2 h.5 in let g : slice_get a.terms h.2 ≡ Some id = ap (slice_get a.terms) (sym j) ∙ f in let v : (nth_place model h.2).number ≡ id = (let z = sym n ∙ g in cc) in
              ap (λ (p : Place). p.number) (sym h.4) ∙ v),
        )

    pub lost_term : next < dead_of a.machine → (k : ℕ) → term_of a.machine next ≡ Some k → slice_get a.terms k ≡ None → ⊥
    lost_term l k e f =
        let h = live_term l in
        let j : k ≡ h.2 = (let z = sym e ∙ h.3 in cc) in
        let n = nth_number h.2 h.5 in
        let g : slice_get a.terms h.2 ≡ None = ap (slice_get a.terms) (sym j) ∙ f in let z : Some (nth_place model h.2).number ≡ None = sym n ∙ g in cc

    pub found_term : next < dead_of a.machine → (k : ℕ) → Some k ≡ term_of a.machine next → (r : Option ℕ) → r ≡ slice_get a.terms k → IsTermAt accepts model names name r
    found_term l k e None f = absurd (lost_term l k (sym e) (sym f))
    found_term l k e (Some id) f = some_term l k (sym e) id (sym f)

  -- ---- what is attributed to a name
  module _ (name : ExpandedName) (symbol : ℕ) (at_symbol : symbol ≡ symbol_of t a.symbols name) where
    pub none_kept : slice_get a.attributions symbol ≡ None → IsAttributed t terms name Nothing
    none_kept e = subst (IsAttributed t terms name)
        (ap (λ n. get_or a.attributions n Nothing) (sym at_symbol) ∙ (sym (unwrap_or-slice_get a.attributions symbol Nothing) ∙ ap (λ o. unwrap_or o Nothing) e))
        (is.attributed name Nothing)

    kept : (x : Attribution) → slice_get a.attributions symbol ≡ Some x → IsAttributed t terms name x
    kept x e = subst (IsAttributed t terms name) (ap (λ n. get_or a.attributions n x) (sym at_symbol) ∙ get_or_from_slice_get a.attributions symbol x x e) (is.attributed name x)

    stranger : (x : Attribution) → IsAttributed t terms name x → first_of x ≡ None → IsStranger t terms name
    stranger Nothing h e = h
    stranger (OneClass first class) h e = absurd (let z : Some first ≡ None = e in cc)
    stranger (Ambivalent first) h e = absurd (let z : Some first ≡ None = e in cc)

    first : (x : Attribution) (f : ℕ) → IsAttributed t terms name x → first_of x ≡ Some f → IsFirstTerm t terms name f
    first Nothing f h e = absurd (let z : None ≡ Some f = e in cc)
    first (OneClass g class) f h e = subst (IsFirstTerm t terms name) (let z : Some g ≡ Some f = e in let q : g ≡ f = cc in q) h.0
    first (Ambivalent g) f h e = subst (IsFirstTerm t terms name) (let z : Some g ≡ Some f = e in let q : g ≡ f = cc in q) h.0

    pub first_none : (x : Attribution) → slice_get a.attributions symbol ≡ Some x → first_of x ≡ None → IsStranger t terms name
    first_none x e = stranger x (kept x e)

    first_number : (f : ℕ) → IsFirstTerm t terms name f → slice_get a.terms f ≡ Some (nth_place model f).number
    first_number f h =
        let l = h.0.1.0 in let c = is.count in
        let n = ap length is.terms_are ∙ length-map (places model []) (λ (place : Place). place.number) in
        nth_number f (omega arith)

    pub first_some : (x : Attribution) (f id : ℕ) → slice_get a.attributions symbol ≡ Some x → first_of x ≡ Some f → slice_get a.terms f ≡ Some id → IsFirstTermOf t terms model name (Some id)
    first_some x f id e g k =
        let h = first x f (kept x e) g in let n = first_number f h in
        (f, h, (let v : (nth_place model f).number ≡ id = (let z = sym n ∙ k in cc) in v))

    pub first_lost : (x : Attribution) (f : ℕ) → slice_get a.attributions symbol ≡ Some x → first_of x ≡ Some f → slice_get a.terms f ≡ None → ⊥
    first_lost x f e g k = let n = first_number f (first x f (kept x e) g) in let z : Some (nth_place model f).number ≡ None = sym n ∙ k in cc

    pub found_first : (x : Attribution) (f : ℕ) → Some x ≡ slice_get a.attributions symbol → Some f ≡ first_of x → (r : Option ℕ) → r ≡ slice_get a.terms f → IsFirstTermOf t terms model name r
    found_first x f e g None k = absurd (first_lost x f (sym e) (sym g) (sym k))
    found_first x f e g (Some id) k = first_some x f id (sym e) (sym g) (sym k)

    ambivalent : (x : Attribution) → IsAttributed t terms name x → IsTrue (is_ambivalent x) ↔ IsAmbivalent t terms name
    ambivalent Nothing h = ((λ e. absurd (false≢true e)), (λ m. absurd (h m.0 m.2 m.4)))
    ambivalent (OneClass f class) h = ((λ e. absurd (false≢true e)), (λ m. absurd (m.6 (h.1 m.0 m.1 m.2 m.3 m.4 m.5))))
    ambivalent (Ambivalent f) h = ((λ e. h.1), (λ m. refl))

    pub ambivalent_some : (x : Attribution) → slice_get a.attributions symbol ≡ Some x → IsTrue (is_ambivalent x) ↔ IsAmbivalent t terms name
    ambivalent_some x e = ambivalent x (kept x e)

    pub ambivalent_none : slice_get a.attributions symbol ≡ None → IsTrue false ↔ IsAmbivalent t terms name
    ambivalent_none e = ambivalent Nothing (none_kept e)

  -- ---- two terms
  pub pair_none : None ≡ a.machine.pair → IsUnambiguous accepts model
  pair_none e = subst (λ (o : Option (ℕ × ℕ)). MatchOption o (IsUnambiguous accepts model) (λ pair. AreAmbiguous accepts model pair.0 pair.1)) (sym e) is.pair

  pair_some : (xy : ℕ × ℕ) → Some xy ≡ a.machine.pair → AreAmbiguous accepts model xy.0 xy.1
  pair_some xy e = subst (λ (o : Option (ℕ × ℕ)). MatchOption o (IsUnambiguous accepts model) (λ pair. AreAmbiguous accepts model pair.0 pair.1)) (sym e) is.pair

  pub pair_given : (xy : ℕ × ℕ) (p q : ℕ) → Some xy ≡ a.machine.pair → slice_get a.terms xy.0 ≡ Some p → slice_get a.terms xy.1 ≡ Some q → IsAmbiguousBy accepts model (Some (p, q))
  pair_given xy p q e f g =
      let w = pair_some xy e in
      let m = nth_number xy.0 w.0 in
      let n = nth_number xy.1 w.1 in
      (nth_place model xy.0, nth_place model xy.1, w.2, (let v : (nth_place model xy.0).number ≡ p = (let z = sym m ∙ f in cc) in v), (let v : (nth_place model xy.1).number ≡ q = (let z = sym n ∙ g in cc) in v))

  pub pair_lost_first : (xy : ℕ × ℕ) → Some xy ≡ a.machine.pair → slice_get a.terms xy.0 ≡ None → ⊥
  pair_lost_first xy e f = let n = nth_number xy.0 (pair_some xy e).0 in let z : Some (nth_place model xy.0).number ≡ None = sym n ∙ f in cc

  pub pair_lost_second : (xy : ℕ × ℕ) → Some xy ≡ a.machine.pair → slice_get a.terms xy.1 ≡ None → ⊥
  pair_lost_second xy e f = let n = nth_number xy.1 (pair_some xy e).1 in let z : Some (nth_place model xy.1).number ≡ None = sym n ∙ f in cc
