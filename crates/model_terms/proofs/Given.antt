-- The terms that an automaton gives for symbols are those of names with these symbols.
use Rattle.std.proofs.Common.{◌≡◌, ℕ, ◌<◌, ◌↔◌, true, false, IsTrue, List, [], ◌∷◌, ◌++◌, Option, None, Some, map, slice_get, refl, sym, ap, subst, ◌∙◌}
use Rattle.std.specs.Prelude.{option_and_then}
use Rattle.std.proofs.lemmas.Bool.{false≢true}
use Rattle.std.proofs.lemmas.List.{map-append}
use Rattle.xs_names.specs.Names.{NameTable}
use Rattle.particle_forms.specs.Models.{model_of}
use Rattle.particle_forms.specs.Accepted.{accepts}
use Rattle.content_automaton.specs.declared.symbol_terms.Accepts.{Accepts}
use Rattle.content_automaton.specs.declared.attribution.Attribution.{Attribution}
use Rattle.content_automaton.specs.declared.attribution.Attribution.TheVariants.{Nothing, OneClass, Ambivalent}
use Rattle.content_automaton.specs.Terms.{ExpandedName}
use Rattle.content_automaton.specs.Symbols.{symbol_of}
use Rattle.content_automaton.specs.Attribution.{IsAmbivalent, IsAttributed}
use Rattle.content_automaton.specs.Automaton.{start_of, state_of, step_of, dead_of, term_of}
use Rattle.content_automaton.specs.Modelled.{ModelAutomaton, IsTermAt, IsFirstTermOf, first_of, is_ambivalent}
use Rattle.content_automaton.proofs.Attributing as states
use Rattle.content_models.specs.Terms.{model_terms}
use Rattle.content_models.specs.Built.{IsFirstIn, symbols_of}
use Rattle.content_models.specs.Modelled as alls
use Rattle.content_models.specs.declared.automaton.ContentAutomaton.{ContentAutomaton}
use Rattle.content_models.specs.declared.automaton.ContentAutomaton.TheVariants.{States, All}
use Rattle.content_models.proofs.Attributing as members
use Rattle.content_models.proofs.Building.{first-of-states, first-of-all}
use Rattle.assessment.specs.Attribution.{SchemaSet}
use Rattle.assessment.specs.inside.Found.{IsKept, BeginsBy, IsAmbivalentBy}
use Rattle.assessment.proofs.Walking.{member-at}
use Rattle.model_terms.specs.Terms.{is_mixed, is_ambivalent_symbol, first_term, term_after}
use Rattle.model_terms.proofs.Along.{run-append}

-- ---- what is kept for a symbol
mixed-is : (t : NameTable) (terms : List Accepts) (name : ExpandedName) (x : Attribution) → IsAttributed t terms name x → IsTrue (is_ambivalent x) ↔ IsAmbivalent t terms name
mixed-is t terms name Nothing h = ((λ e. absurd (false≢true e)), (λ m. absurd (h m.0 m.2 m.4)))
mixed-is t terms name (OneClass f class) h = ((λ e. absurd (false≢true e)), (λ m. absurd (m.6 (h.1 m.0 m.1 m.2 m.3 m.4 m.5))))
mixed-is t terms name (Ambivalent f) h = ((λ e. h.1), (λ m. refl))

kept-mixed : (t : NameTable) (terms : List Accepts) (name : ExpandedName) (o : Option Attribution) → ((x : Attribution) → o ≡ Some x → IsAttributed t terms name x) → (o ≡ None → IsAttributed t terms name Nothing) →
    IsTrue (is_mixed o) ↔ IsAmbivalent t terms name
kept-mixed t terms name None some none = mixed-is t terms name Nothing (none refl)
kept-mixed t terms name (Some x) some none = mixed-is t terms name x (some x refl)

-- ---- which symbols are ambivalent
pub ambivalent-is : (s : SchemaSet) (p : ℕ) (a : ContentAutomaton) → IsKept s p a → (name : ExpandedName) → IsTrue (is_ambivalent_symbol a (symbol_of s.names (symbols_of a) name)) ↔ IsAmbivalentBy s p name
ambivalent-is s p (States a) kept name = by (slice_get a.attributions (symbol_of s.names a.symbols name)) refl
  where
    by : (o : Option Attribution) → slice_get a.attributions (symbol_of s.names a.symbols name) ≡ o → IsTrue (is_mixed o) ↔ IsAmbivalentBy s p name
    by None e = states.ambivalent_none s.names (model_terms s.members s.parts s.classes p) (accepts s.names s.members s.parts) (model_of s.parts p) a kept.built.1 name (symbol_of s.names a.symbols name) refl e
    by (Some x) e = states.ambivalent_some s.names (model_terms s.members s.parts s.classes p) (accepts s.names s.members s.parts) (model_of s.parts p) a kept.built.1 name (symbol_of s.names a.symbols name) refl x e
ambivalent-is s p (All a) kept name = by (slice_get a.attributions (symbol_of s.names a.symbols name)) refl
  where
    by : (o : Option Attribution) → slice_get a.attributions (symbol_of s.names a.symbols name) ≡ o → IsTrue (is_mixed o) ↔ IsAmbivalentBy s p name
    by None e = members.ambivalent_none s.names (model_terms s.members s.parts s.classes p) (accepts s.names s.members s.parts) kept.built.0.0 (model_of s.parts p) a kept.built.0.3 name (symbol_of s.names a.symbols name) refl e
    by (Some x) e = as_all x (members.ambivalent_some s.names (model_terms s.members s.parts s.classes p) (accepts s.names s.members s.parts) kept.built.0.0 (model_of s.parts p) a kept.built.0.3 name (symbol_of s.names a.symbols name) refl x e)
      where
        as_all : (x : Attribution) → IsTrue (alls.is_ambivalent x) ↔ IsAmbivalentBy s p name → IsTrue (is_ambivalent x) ↔ IsAmbivalentBy s p name
        as_all Nothing h = h
        as_all (OneClass f class) h = h
        as_all (Ambivalent f) h = h

-- ---- the first term
pub first-is : (s : SchemaSet) (p : ℕ) (a : ContentAutomaton) → IsKept s p a → (name : ExpandedName) →
    IsFirstIn s.names s.parts s.members s.classes p name (first_term a (symbol_of s.names (symbols_of a) name))
first-is s p (States a) kept name =
    first-of-states s.names s.parts s.members s.classes p name kept.built.0 (first_term (States a) (symbol_of s.names a.symbols name)) (by (slice_get a.attributions (symbol_of s.names a.symbols name)) refl)
  where
    of : (x : Attribution) → slice_get a.attributions (symbol_of s.names a.symbols name) ≡ Some x → (f : Option ℕ) → first_of x ≡ f →
        IsFirstTermOf s.names (model_terms s.members s.parts s.classes p) (model_of s.parts p) name (option_and_then (slice_get a.terms) f)
    of x e None h = states.first_none s.names (model_terms s.members s.parts s.classes p) (accepts s.names s.members s.parts) (model_of s.parts p) a kept.built.1 name (symbol_of s.names a.symbols name) refl x e h
    of x e (Some f) h = states.found_first s.names (model_terms s.members s.parts s.classes p) (accepts s.names s.members s.parts) (model_of s.parts p) a kept.built.1 name (symbol_of s.names a.symbols name) refl
        x f (sym e) (sym h) (slice_get a.terms f) refl

    by : (o : Option Attribution) → slice_get a.attributions (symbol_of s.names a.symbols name) ≡ o →
        IsFirstTermOf s.names (model_terms s.members s.parts s.classes p) (model_of s.parts p) name (option_and_then (λ x. option_and_then (slice_get a.terms) (first_of x)) o)
    by None e = states.none_kept s.names (model_terms s.members s.parts s.classes p) (accepts s.names s.members s.parts) (model_of s.parts p) a kept.built.1 name (symbol_of s.names a.symbols name) refl e
    by (Some x) e = of x e (first_of x) refl
first-is s p (All a) kept name =
    first-of-all s.names s.parts s.members s.classes p name kept.built.0.0 kept.built.0.1 kept.built.0.2 (first_term (All a) (symbol_of s.names a.symbols name)) (by (slice_get a.attributions (symbol_of s.names a.symbols name)) refl)
  where
    same : (x : Attribution) → alls.first_of x ≡ first_of x
    same Nothing = refl
    same (OneClass f class) = refl
    same (Ambivalent f) = refl

    of : (x : Attribution) → slice_get a.attributions (symbol_of s.names a.symbols name) ≡ Some x → (f : Option ℕ) → first_of x ≡ f →
        alls.IsFirstMember s.names (model_terms s.members s.parts s.classes p) kept.built.0.0 name (option_and_then (slice_get a.terms) f)
    of x e None h = members.first_none s.names (model_terms s.members s.parts s.classes p) (accepts s.names s.members s.parts) kept.built.0.0 (model_of s.parts p) a kept.built.0.3 name (symbol_of s.names a.symbols name) refl
        x e (same x ∙ h)
    of x e (Some f) h = members.found_first s.names (model_terms s.members s.parts s.classes p) (accepts s.names s.members s.parts) kept.built.0.0 (model_of s.parts p) a kept.built.0.3 name (symbol_of s.names a.symbols name) refl
        x f (sym e) (sym (same x ∙ h)) (slice_get a.terms f) refl

    by : (o : Option Attribution) → slice_get a.attributions (symbol_of s.names a.symbols name) ≡ o →
        alls.IsFirstMember s.names (model_terms s.members s.parts s.classes p) kept.built.0.0 name (option_and_then (λ x. option_and_then (slice_get a.terms) (first_of x)) o)
    by None e = members.none_kept s.names (model_terms s.members s.parts s.classes p) (accepts s.names s.members s.parts) kept.built.0.0 (model_of s.parts p) a kept.built.0.3 name (symbol_of s.names a.symbols name) refl e
    by (Some x) e = of x e (first_of x) refl

-- ---- the term at the place that ends every marked prefix
module _ (s : SchemaSet) (p : ℕ) (a : ModelAutomaton) (kept : IsKept s p (States a)) (before : List ExpandedName) (name : ExpandedName) (begun : BeginsBy s p (before ++ name ∷ [])) where
  abbrev symbol : ExpandedName → ℕ
  symbol = symbol_of s.names a.symbols

  abbrev next : ℕ
  next = step_of a.machine (state_of a.machine (map symbol before)) (symbol name)

  next-is : state_of a.machine (map symbol before ++ symbol name ∷ []) ≡ next
  next-is = run-append a.machine (start_of a.machine) (map symbol before) (symbol name ∷ [])

  lives : next < dead_of a.machine
  lives = subst (λ k. k < dead_of a.machine) (ap (state_of a.machine) (map-append symbol before (name ∷ [])) ∙ next-is) ((kept.built.1.recognizes.live (before ++ name ∷ [])).1 begun)

  term-of : (o : Option ℕ) → term_of a.machine next ≡ o → IsTermAt (accepts s.names s.members s.parts) (model_of s.parts p) before name (option_and_then (slice_get a.terms) o)
  term-of None e = absurd (states.no_term s.names (model_terms s.members s.parts s.classes p) (accepts s.names s.members s.parts) (model_of s.parts p) a kept.built.1
      kept.unambiguous before name (state_of a.machine (map symbol before)) (symbol name) refl refl lives e)
  term-of (Some k) e = states.found_term s.names (model_terms s.members s.parts s.classes p) (accepts s.names s.members s.parts) (model_of s.parts p) a kept.built.1
      kept.unambiguous before name (state_of a.machine (map symbol before)) (symbol name) refl refl lives k (sym e) (slice_get a.terms k) refl

  states-term : IsTermAt (accepts s.names s.members s.parts) (model_of s.parts p) before name (term_after (States a) (map symbol before) (symbol name))
  states-term = subst (λ k. IsTermAt (accepts s.names s.members s.parts) (model_of s.parts p) before name (option_and_then (slice_get a.terms) (term_of a.machine k))) (sym next-is) (term-of (term_of a.machine next) refl)

pub term-is : (s : SchemaSet) (p : ℕ) (a : ContentAutomaton) → IsKept s p a → (before : List ExpandedName) (name : ExpandedName) → BeginsBy s p (before ++ name ∷ []) →
    IsTermAt (accepts s.names s.members s.parts) (model_of s.parts p) before name (term_after a (map (symbol_of s.names (symbols_of a)) before) (symbol_of s.names (symbols_of a) name))
term-is s p (States a) kept before name begun = states-term s p a kept before name begun
term-is s p (All a) kept before name begun =
    member-at s p (All a) kept before name begun (slice_get a.terms (alls.letter_of a (symbol_of s.names a.symbols name))) (kept.built.0.3.given kept.unambiguous name)
