-- The states that child elements lead to.
use Rattle.std.proofs.Common.{◌≡◌, ℕ, ◌+◌, suc, ◌<◌, ◌≤◌, ◌↔◌, inl, inr, Bool, true, false, IsTrue, List, [], ◌∷◌, ◌++◌, Option, None, Some, map, take, replicate, length, get_or, refl, sym, ap, subst, ◌∙◌, arith}
use Rattle.std.specs.Prelude.{Result, Ok, Err, IfOk, not, nat_lt}
use Rattle.std.proofs.lemmas.Bool.{false≢true, ltb-true, lt-ltb}
use Rattle.std.proofs.lemmas.List.{map-append, take_all, take_more}
use Rattle.std.proofs.lemmas.List.Elements.{All-weaker}
use Rattle.xs_names.specs.Names.{NameTable}
use Rattle.particle_forms.specs.Models.{model_of}
use Rattle.particle_forms.specs.Accepted.{accepts}
use Rattle.content_automaton.specs.Terms.{ExpandedName, name_at}
use Rattle.content_automaton.specs.Symbols.{AreNamesOf, AreSymbolsOf, symbol_of}
use Rattle.content_automaton.specs.Automaton.{Automaton, start_of, state_of, step_of, dead_of, accepts_at, run}
use Rattle.content_automaton.specs.Recognized.{IsUnambiguous}
use Rattle.content_automaton.specs.Modelled.{ModelAutomaton, IsTermAt, IsFirstTermOf}
use Rattle.content_automaton.proofs.Modelling.{within_of}
use Rattle.content_models.specs.States as alls
use Rattle.content_models.specs.declared.machine.AllMachine.{AllMachine}
use Rattle.content_models.specs.declared.state.AllState.{AllState}
use Rattle.content_models.specs.Modelled.{AllModel, IsMemberFor, IsFirstMember, letter_of}
use Rattle.content_models.specs.Terms.{terms_of, model_terms}
use Rattle.content_models.specs.Built.{IsBuilt, IsFirstIn, symbols_of}
use Rattle.content_models.specs.declared.automaton.ContentAutomaton.{ContentAutomaton}
use Rattle.content_models.specs.declared.automaton.ContentAutomaton.TheVariants.{States, All}
use Rattle.content_models.proofs.Building.{first-of-states, first-of-all}
use Rattle.content_models.proofs.TermLaws.{named-in}
use Rattle.schema_models.proofs.Accepting.{same-accepts}
use Rattle.schema_models.proofs.Growing.{built-kept}
use Rattle.assessment.specs.Attribution.{SchemaSet, expanded, IsWord, Begins, AreTermsBy, AreTerms}
use Rattle.assessment.specs.Fitting.{IsAutomatonFor, Fits}
use Rattle.assessment.specs.inside.Found.{symbols_in, all_state_in, IsKept, BeginsBy, IsAmbivalentBy, IsNextTerm, AreFound, stuck_after}
use Rattle.assessment.proofs.Prefixes.{begins-ends, one-place}
use Rattle.assessment.proofs.Finding.{found-more, found-whole}

-- ---- an automaton over the names that there are now
pub kept-now : (s : SchemaSet) (p : ℕ) (a : ContentAutomaton) → IsAutomatonFor s p a → IsKept s p a
kept-now s p a is = record {
  built = built-kept is.old s.names s.parts s.members is.grown is.named s.classes p a is.built;
  unambiguous = subst (λ f. IsUnambiguous f (model_of s.parts p)) (same-accepts is.old s.names is.grown s.members is.named s.parts) is.unambiguous;
}

built-symbols : (s : SchemaSet) (p : ℕ) (names : NameTable) (a : ContentAutomaton) → IsBuilt names s.parts s.members s.classes p a → AreSymbolsOf (model_terms s.members s.parts s.classes p) (symbols_of a)
built-symbols s p names (States a) (none, is, are) = are
built-symbols s p names (All a) (is, are) = are

-- its symbols have names of the table
pub symbols-known : (s : SchemaSet) (p : ℕ) (a : ContentAutomaton) → IsAutomatonFor s p a → AreNamesOf s.names (symbols_of a).names
symbols-known s p a is =
    let own = within_of is.old (model_terms s.members s.parts s.classes p) (symbols_of a) (built-symbols s p is.old a is.built)
    (λ n h. named-in is.old s.members s.parts s.classes is.named (terms_of (model_of s.parts p)) (model_terms s.members s.parts s.classes p) refl n h) in
    All-weaker (λ n. n < length is.old.names) (λ n. n < length s.names.names) (λ n l. let more = is.grown.more_names in omega arith) (symbols_of a).names own

-- ---- one name more
run-more : (a : Automaton) (state : ℕ) (xs : List ℕ) (n : ℕ) → run a state (xs ++ n ∷ []) ≡ step_of a (run a state xs) n
run-more a state [] n = refl
run-more a state (x ∷ xs) n = run-more a (step_of a state x) xs n

pub state-more : (a : Automaton) (symbol : ExpandedName → ℕ) (names : List ExpandedName) (name : ExpandedName) →
    state_of a (map symbol (names ++ name ∷ [])) ≡ step_of a (state_of a (map symbol names)) (symbol name)
state-more a symbol names name = ap (state_of a) (map-append symbol names (name ∷ [])) ∙ run-more a (start_of a) (map symbol names) (symbol name)

all-run-more : (state : AllState) (xs : List ℕ) (n : ℕ) → alls.run state (xs ++ n ∷ []) ≡ alls.next_of (alls.run state xs) n
all-run-more state [] n = refl
all-run-more state (x ∷ xs) n = all-run-more (alls.next_of state x) xs n

pub all-state-more : (m : AllMachine) (letter : ExpandedName → ℕ) (names : List ExpandedName) (name : ExpandedName) →
    alls.state_of m (map letter (names ++ name ∷ [])) ≡ alls.next_of (alls.state_of m (map letter names)) (letter name)
all-state-more m letter names name = ap (alls.state_of m) (map-append letter names (name ∷ [])) ∙ all-run-more (alls.start_of m) (map letter names) (letter name)

-- ---- along a loop over the children
module _ (t : NameTable) (children : List ℕ) (i x : ℕ) (l : i < length children) (is : x ≡ get_or children i 0) where
  taken : take (i + 1) children ≡ take i children ++ x ∷ []
  taken = take_more children i 0 l ∙ ap (λ n. take i children ++ n ∷ []) (sym is)

  names-taken : map (name_at t) (take (i + 1) children) ≡ map (name_at t) (take i children) ++ name_at t x ∷ []
  names-taken = ap (map (name_at t)) taken ∙ map-append (name_at t) (take i children) (x ∷ [])

  pub states-next : (a : ModelAutomaton) (state next : ℕ) → state ≡ state_of a.machine (symbols_in t a.symbols (take i children)) →
      next ≡ step_of a.machine state (symbol_of t a.symbols (name_at t x)) → next ≡ state_of a.machine (symbols_in t a.symbols (take (i + 1) children))
  states-next a state next e f =
      f ∙ (ap (λ k. step_of a.machine k (symbol_of t a.symbols (name_at t x))) e ∙
      (sym (state-more a.machine (symbol_of t a.symbols) (map (name_at t) (take i children)) (name_at t x)) ∙
      ap (λ names. state_of a.machine (map (symbol_of t a.symbols) names)) (sym names-taken)))

  pub all-states-next : (a : AllModel) (state next : AllState) → state ≡ all_state_in t a (take i children) →
      next ≡ alls.next_of state (letter_of a (symbol_of t a.symbols (name_at t x))) → next ≡ all_state_in t a (take (i + 1) children)
  all-states-next a state next e f =
      f ∙ (ap (λ (k : AllState). alls.next_of k (letter_of a (symbol_of t a.symbols (name_at t x)))) e ∙
      (sym (all-state-more a.machine (λ name. letter_of a (symbol_of t a.symbols name)) (map (name_at t) (take i children)) (name_at t x)) ∙
      ap (λ names. alls.state_of a.machine (map (λ name. letter_of a (symbol_of t a.symbols name)) names)) (sym names-taken)))

  pub found-next : (s : SchemaSet) (p : ℕ) (stuck : Option ℕ) (terms : List (Option ℕ)) → AreFound s p (take i children ++ x ∷ []) stuck terms → AreFound s p (take (i + 1) children) stuck terms
  found-next s p stuck terms h = subst (λ xs. AreFound s p xs stuck terms) (sym taken) h

-- ---- one child more
module _ (s : SchemaSet) (p : ℕ) (children : List ℕ) (name : ℕ) (begins : Bool) (answer : IsTrue begins ↔ BeginsBy s p (expanded s children ++ name_at s.names name ∷ [])) where
  begins-is : IsTrue begins ↔ Begins s p (children ++ name ∷ [])
  begins-is =
      let same : expanded s (children ++ name ∷ []) ≡ expanded s children ++ name_at s.names name ∷ [] = map-append (name_at s.names) children (name ∷ []) in
      ((λ is. subst (BeginsBy s p) (sym same) (answer.0 is)), (λ h. answer.1 (subst (BeginsBy s p) same h)))

  found-step : (stuck new_stuck term : Option ℕ) (terms new_terms : List (Option ℕ)) → AreFound s p children stuck terms → IsNextTerm s p (expanded s children) (name_at s.names name) term →
      new_stuck ≡ stuck_after stuck begins (length terms) → new_terms ≡ terms ++ term ∷ [] → AreFound s p (children ++ name ∷ []) new_stuck new_terms
  found-step stuck new_stuck term terms new_terms found is e f =
      subst (λ xs. AreFound s p (children ++ name ∷ []) new_stuck xs) (sym f)
      (subst (λ o. AreFound s p (children ++ name ∷ []) o (terms ++ term ∷ [])) (sym e) (found-more s p children name begins begins-is stuck terms term found is))

-- what a next term is, for each schema set with these names
abbrev pub GivesNext : ContentAutomaton → (SchemaSet → List ExpandedName → ExpandedName → Type 0) → Bool → Option ℕ → Type 0
GivesNext a At begins term =
    (s : SchemaSet) (p : ℕ) (before : List ExpandedName) (name : ExpandedName) → IsKept s p a → At s before name → IsTrue begins ↔ BeginsBy s p (before ++ name ∷ []) → IsNextTerm s p before name term

module _ (s : SchemaSet) (p : ℕ) (t : NameTable) (same : s.names ≡ t) (children : List ℕ) (name : ℕ) (begins : Bool) (symbol : ℕ)
    (stuck new_stuck term : Option ℕ) (terms new_terms : List (Option ℕ)) (found : AreFound s p children stuck terms)
    (stuck_is : new_stuck ≡ stuck_after stuck begins (length terms)) (terms_are : new_terms ≡ terms ++ term ∷ []) where
  module _ (a : ModelAutomaton) (kept : IsKept s p (States a)) (state next : ℕ) (at_state : state ≡ state_of a.machine (symbols_in t a.symbols children))
      (at_symbol : symbol ≡ symbol_of t a.symbols (name_at t name)) (step : next ≡ step_of a.machine state symbol) (lives : IsTrue begins ↔ (next < dead_of a.machine)) where
    state-now : state ≡ state_of a.machine (symbols_in s.names a.symbols children)
    state-now = subst (λ u. state ≡ state_of a.machine (symbols_in u a.symbols children)) (sym same) at_state

    symbol-now : symbol ≡ symbol_of s.names a.symbols (name_at s.names name)
    symbol-now = subst (λ u. symbol ≡ symbol_of u a.symbols (name_at u name)) (sym same) at_symbol

    next-now : next ≡ state_of a.machine (map (symbol_of s.names a.symbols) (expanded s children ++ name_at s.names name ∷ []))
    next-now =
        step ∙ (ap (λ k. step_of a.machine k symbol) state-now ∙ (ap (step_of a.machine (state_of a.machine (symbols_in s.names a.symbols children))) symbol-now ∙
        sym (state-more a.machine (symbol_of s.names a.symbols) (expanded s children) (name_at s.names name))))

    lives-now : IsTrue begins ↔ BeginsBy s p (expanded s children ++ name_at s.names name ∷ [])
    lives-now =
        let live = kept.built.1.recognizes.live (expanded s children ++ name_at s.names name ∷ []) in
        ((λ is. live.0 (subst (λ k. k < dead_of a.machine) next-now (lives.0 is))), (λ h. lives.1 (subst (λ k. k < dead_of a.machine) (sym next-now) (live.1 h))))

    pub states-step : GivesNext (States a) (λ s before name. (state ≡ state_of a.machine (map (symbol_of s.names a.symbols) before)) × (symbol ≡ symbol_of s.names a.symbols name)) begins term →
        AreFound s p (children ++ name ∷ []) new_stuck new_terms
    states-step gives = found-step s p children name begins lives-now stuck new_stuck term terms new_terms found
        (gives s p (expanded s children) (name_at s.names name) kept (state-now, symbol-now) lives-now) stuck_is terms_are

  module _ (a : AllModel) (kept : IsKept s p (All a)) (state next : AllState) (at_state : state ≡ all_state_in t a children)
      (at_symbol : symbol ≡ symbol_of t a.symbols (name_at t name)) (step : next ≡ alls.next_of state (letter_of a symbol)) (lives : IsTrue begins ↔ (next.dead ≡ false)) where
    all-symbol-now : symbol ≡ symbol_of s.names a.symbols (name_at s.names name)
    all-symbol-now = subst (λ u. symbol ≡ symbol_of u a.symbols (name_at u name)) (sym same) at_symbol

    abbrev letter : ExpandedName → ℕ
    letter x = letter_of a (symbol_of s.names a.symbols x)

    all-next-now : next ≡ alls.state_of a.machine (map letter (expanded s children ++ name_at s.names name ∷ []))
    all-next-now =
        step ∙ (ap (λ (k : AllState). alls.next_of k (letter_of a symbol)) (subst (λ u. state ≡ all_state_in u a children) (sym same) at_state) ∙
        (ap (λ k. alls.next_of (all_state_in s.names a children) (letter_of a k)) all-symbol-now ∙
        sym (all-state-more a.machine letter (expanded s children) (name_at s.names name))))

    all-lives-now : IsTrue begins ↔ BeginsBy s p (expanded s children ++ name_at s.names name ∷ [])
    all-lives-now =
        let live = (kept.built.0.3.recognizes kept.unambiguous).live (expanded s children ++ name_at s.names name ∷ []) in
        ((λ is. live.0 (subst (λ (k : AllState). k.dead ≡ false) all-next-now (lives.0 is))), (λ h. lives.1 (subst (λ (k : AllState). k.dead ≡ false) (sym all-next-now) (live.1 h))))

    pub all-step : GivesNext (All a) (λ s before name. symbol ≡ symbol_of s.names a.symbols name) begins term → AreFound s p (children ++ name ∷ []) new_stuck new_terms
    all-step gives = found-step s p children name begins all-lives-now stuck new_stuck term terms new_terms found
        (gives s p (expanded s children) (name_at s.names name) kept all-symbol-now all-lives-now) stuck_is terms_are

-- ---- the next term
module _ (s : SchemaSet) (p : ℕ) (before : List ExpandedName) (name : ExpandedName) (term : Option ℕ) where
  pub next-at : (begins own : Bool) → begins ≡ true → own ≡ true → IsTrue begins ↔ BeginsBy s p (before ++ name ∷ []) → IsTrue own ↔ IsAmbivalentBy s p name →
      (BeginsBy s p (before ++ name ∷ []) → IsTermAt (accepts s.names s.members s.parts) (model_of s.parts p) before name term) → IsNextTerm s p before name term
  next-at begins own b o lives is at = inl (is.0 o, lives.0 b, at (lives.0 b))

  pub next-first : (own : Bool) → own ≡ false → IsTrue own ↔ IsAmbivalentBy s p name → IsFirstIn s.names s.parts s.members s.classes p name term → IsNextTerm s p before name term
  next-first own o is first = inr ((λ a h. false≢true (sym o ∙ is.1 a)), first)

  pub next-stuck : (begins : Bool) → begins ≡ false → IsTrue begins ↔ BeginsBy s p (before ++ name ∷ []) → IsFirstIn s.names s.parts s.members s.classes p name term → IsNextTerm s p before name term
  next-stuck begins b lives first = inr ((λ a h. false≢true (sym b ∙ lives.1 h)), first)

  pub states-first : (a : ModelAutomaton) → IsKept s p (States a) → IsFirstTermOf s.names (model_terms s.members s.parts s.classes p) (model_of s.parts p) name term → IsFirstIn s.names s.parts s.members s.classes p name term
  states-first a kept h = first-of-states s.names s.parts s.members s.classes p name kept.built.0 term h

  pub all-first : (a : AllModel) (kept : IsKept s p (All a)) → IsFirstMember s.names (model_terms s.members s.parts s.classes p) kept.built.0.0 name term → IsFirstIn s.names s.parts s.members s.classes p name term
  all-first a kept h = first-of-all s.names s.parts s.members s.classes p name kept.built.0.0 kept.built.0.1 kept.built.0.2 term h

pub member-at : (s : SchemaSet) (p : ℕ) (a : ContentAutomaton) → IsKept s p a → (before : List ExpandedName) (name : ExpandedName) → BeginsBy s p (before ++ name ∷ []) → (term : Option ℕ) →
    IsMemberFor (accepts s.names s.members s.parts) (model_of s.parts p) name term → IsTermAt (accepts s.names s.members s.parts) (model_of s.parts p) before name term
member-at s p a kept before name begins None h = h before
member-at s p a kept before name begins (Some id) h =
    let place = begins-ends (accepts s.names s.members s.parts) (model_of s.parts p) before name begins in
    (place.0, place.1, (λ other ends. one-place (accepts s.names s.members s.parts) (model_of s.parts p) kept.unambiguous before name other place.0 ends place.1), h.1 before place.0 place.1)

-- ---- after all children
pub states-whole : (s : SchemaSet) (p : ℕ) (t : NameTable) → s.names ≡ t → (a : ModelAutomaton) → IsKept s p (States a) → (children : List ℕ) (state : ℕ) →
    state ≡ state_of a.machine (symbols_in t a.symbols children) → (is_word : Bool) → is_word ≡ accepts_at a.machine state → IsTrue is_word ↔ IsWord s p children
states-whole s p t same a kept children state e is_word f =
    let word = kept.built.1.recognizes.accepting (expanded s children) in
    let all = f ∙ ap (accepts_at a.machine) (subst (λ u. state ≡ state_of a.machine (symbols_in u a.symbols children)) (sym same) e) in
    ((λ h. word.0 (sym all ∙ h)), (λ h. all ∙ word.1 h))

pub all-whole : (s : SchemaSet) (p : ℕ) (t : NameTable) → s.names ≡ t → (a : AllModel) → IsKept s p (All a) → (children : List ℕ) (state : AllState) →
    state ≡ all_state_in t a children → (is_word : Bool) → is_word ≡ alls.accepts_at a.machine state → IsTrue is_word ↔ IsWord s p children
all-whole s p t same a kept children state e is_word f =
    let word = (kept.built.0.3.recognizes kept.unambiguous).accepting (expanded s children) in
    let all = f ∙ ap (alls.accepts_at a.machine) (subst (λ u. state ≡ all_state_in u a children) (sym same) e) in
    ((λ h. word.0 (sym all ∙ h)), (λ h. all ∙ word.1 h))

pub whole-is : (s : SchemaSet) (p : ℕ) (children : List ℕ) (stuck new_stuck : Option ℕ) (terms new_terms : List (Option ℕ)) (is_word : Bool) → AreFound s p children stuck terms →
    IsTrue is_word ↔ IsWord s p children → new_stuck ≡ stuck_after stuck is_word (length terms) → new_terms ≡ terms → AreTermsBy s p children new_stuck new_terms
whole-is s p children stuck new_stuck terms new_terms is_word found answer e f =
    subst (λ xs. AreTermsBy s p children new_stuck xs) (sym f) (subst (λ o. AreTermsBy s p children o terms) (sym e) (found-whole s p children stuck terms is_word found answer))

module _ (s : SchemaSet) (p : ℕ) (t : NameTable) (same : s.names ≡ t) (children : List ℕ) (i : ℕ) (l : length children ≤ i) (is_word : Bool) (stuck new_stuck : Option ℕ) (terms new_terms : List (Option ℕ))
    (found : AreFound s p (take i children) stuck terms) (stuck_is : new_stuck ≡ stuck_after stuck is_word (length terms)) (terms_are : new_terms ≡ terms) where
  whole : take i children ≡ children
  whole = take_all i children l

  found-all : AreFound s p children stuck terms
  found-all = subst (λ xs. AreFound s p xs stuck terms) whole found

  pub states-end : (a : ModelAutomaton) → IsKept s p (States a) → (state : ℕ) → state ≡ state_of a.machine (symbols_in t a.symbols (take i children)) → is_word ≡ accepts_at a.machine state →
      AreTermsBy s p children new_stuck new_terms
  states-end a kept state e f = whole-is s p children stuck new_stuck terms new_terms is_word found-all
      (states-whole s p t same a kept children state (subst (λ xs. state ≡ state_of a.machine (symbols_in t a.symbols xs)) whole e) is_word f) stuck_is terms_are

  pub all-end : (a : AllModel) → IsKept s p (All a) → (state : AllState) → state ≡ all_state_in t a (take i children) → is_word ≡ alls.accepts_at a.machine state → AreTermsBy s p children new_stuck new_terms
  all-end a kept state e f = whole-is s p children stuck new_stuck terms new_terms is_word found-all
      (all-whole s p t same a kept children state (subst (λ xs. state ≡ all_state_in t a xs) whole e) is_word f) stuck_is terms_are

-- ---- whether a state lives
pub lives-by : (next width dead : ℕ) → width ≡ suc dead → IsTrue (nat_lt (next + 1) width) ↔ (next < dead)
lives-by next width dead e = ((λ h. let l = ltb-true (next + 1) width h in omega arith), (λ l. lt-ltb (next + 1) width (omega arith)))

pub lives-not : (dead : Bool) → IsTrue (not dead) ↔ (dead ≡ false)
lives-not true = ((λ h. sym h), (λ h. sym h))
lives-not false = ((λ h. refl), (λ h. refl))

-- ---- with an automaton or without
module _ (names : NameTable) (model : Option ContentAutomaton) (a : ContentAutomaton) (is : model ≡ Some a) where
  pub model-known : (s : SchemaSet) × (p : Option ℕ) × (s.names ≡ names) × Fits s p model → AreNamesOf names (symbols_of a).names
  model-known (s, None, same, fits) = absurd (subst (Fits s None) is fits)
  model-known (s, Some p, same, fits) = subst (λ t. AreNamesOf t (symbols_of a).names) same (symbols-known s p a (subst (Fits s (Some p)) is fits))

  pub fitting-terms : (children : List ℕ) (stuck : Option ℕ) (terms : List (Option ℕ)) → ((s : SchemaSet) (p : ℕ) → s.names ≡ names → IsKept s p a → AreTermsBy s p children stuck terms) →
      (s : SchemaSet) (p : Option ℕ) → s.names ≡ names → Fits s p model → AreTerms s p children stuck terms
  fitting-terms children stuck terms h s None same fits = absurd (subst (Fits s None) is fits)
  fitting-terms children stuck terms h s (Some p) same fits = h s p same (kept-now s p a (subst (Fits s (Some p)) is fits))

pub ok-weaker : {T E : Type 0} (r : Result T E) (P Q : T → Type 0) → ((x : T) → P x → Q x) → IfOk r P → IfOk r Q
ok-weaker (Ok x) P Q f h = f x h
ok-weaker (Err e) P Q f h = tt

pub none-each : {X : Type 0} (xs : List X) → replicate {A = Option ℕ} (length xs) None ≡ map {A = X} {B = Option ℕ} (λ x. None) xs
none-each [] = refl
none-each (x ∷ xs) = ap (λ ys. None ∷ ys) (none-each xs)
