-- What calls give for symbols is what the definitions give.
use Rattle.std.proofs.Common.{◌≡◌, ℕ, ◌↔◌, Bool, true, IsTrue, List, [], ◌∷◌, ◌++◌, Option, map, refl, sym, ap, subst, ◌∙◌}
use Rattle.std.proofs.lemmas.Bool.Decides.{same_from_decides}
use Rattle.std.proofs.lemmas.List.{map-append}
use Rattle.xs_names.specs.Names.{NameTable}
use Rattle.xs_components.specs.Tables.{Tables}
use Rattle.particle_models.specs.Particles.{Particle}
use Rattle.particle_forms.specs.Models.{model_of}
use Rattle.particle_forms.specs.Accepted.{accepts}
use Rattle.content_automaton.specs.declared.symbol_terms.Accepts.{Accepts}
use Rattle.content_automaton.specs.Terms.{ExpandedName}
use Rattle.content_automaton.specs.Symbols.{symbol_of}
use Rattle.content_automaton.specs.Attribution.{IsAmbivalent}
use Rattle.content_automaton.specs.Automaton.{state_of}
use Rattle.content_automaton.specs.Recognized.{IsUnambiguous}
use Rattle.content_automaton.specs.Modelled.{ModelAutomaton, IsAutomatonOf, IsTermAt}
use Rattle.content_models.specs.declared.member.AllMember.{AllMember}
use Rattle.content_models.specs.Ambiguity as alls
use Rattle.content_models.specs.Modelled.{AllModel, IsAllAutomatonOf, IsMemberFor}
use Rattle.content_models.specs.Terms.{model_terms}
use Rattle.content_models.specs.Built.{IsBuilt, IsFirstIn, symbols_of}
use Rattle.content_models.specs.declared.automaton.ContentAutomaton.{ContentAutomaton}
use Rattle.content_models.specs.declared.automaton.ContentAutomaton.TheVariants.{States, All}
use Rattle.assessment.specs.inside.Found.{IsKept, BeginsBy}
use Rattle.assessment.proofs.Walking.{kept-now, member-at}
use Rattle.model_terms.specs.Symbols.{AreSymbolsBy}
use Rattle.model_terms.specs.Terms.{begins, is_ambivalent_symbol, first_term, term_after}
use Rattle.model_terms.proofs.Words.{begins-are}
use Rattle.model_terms.proofs.Given.{ambivalent-is, first-is, term-is}
use Rattle.model_terms.proofs.Unique.{one-first, one-term}

-- the name of one symbol
one-name : (f : ExpandedName → ℕ) (n : ℕ) (names : List ExpandedName) → n ∷ [] ≡ map f names → (name : ExpandedName) × (n ≡ f name)
one-name f n [] e = absurd (cc)
one-name f n (name ∷ names) e = let here : n ≡ f name = cc in (name, here)

-- the names of some symbols and one more
last-name : (f : ExpandedName → ℕ) (before : List ℕ) (n : ℕ) (names : List ExpandedName) → before ++ n ∷ [] ≡ map f names →
    (front : List ExpandedName) × (name : ExpandedName) × (before ≡ map f front) × (n ≡ f name)
last-name f [] n names e = let one = one-name f n names e in ([], one.0, refl, one.1)
last-name f (x ∷ before) n [] e = absurd (cc)
last-name f (x ∷ before) n (name ∷ names) e =
    let here : x ≡ f name = cc in
    let more : before ++ n ∷ [] ≡ map f names = cc in
    let rest = last-name f before n names more in
    let same : before ≡ map f rest.0 = rest.2 in
    (name ∷ rest.0, rest.1, (λ i. here i ∷ same i), rest.3)

module _ (a : ContentAutomaton) (n : ℕ) (of : AreSymbolsBy a (n ∷ [])) where
  kept : IsKept of.set of.particle a
  kept = kept-now of.set of.particle a of.fits

  named : (name : ExpandedName) × (n ≡ symbol_of of.set.names (symbols_of a) name)
  named = one-name (symbol_of of.set.names (symbols_of a)) n of.names of.are

  pub mixed-one : (r : Bool) →
      ((names : NameTable) (t : Tables) (members : List (List ℕ)) (classes : List ℕ) (p : ℕ) → IsBuilt names t members classes p a →
      (name : ExpandedName) → n ≡ symbol_of names (symbols_of a) name → IsTrue r ↔ IsAmbivalent names (model_terms members t classes p) name) → r ≡ is_ambivalent_symbol a n
  mixed-one r h =
      let here = h of.set.names of.set.parts of.set.members of.set.classes of.particle kept.built named.0 named.1 in
      let there = ambivalent-is of.set of.particle a kept named.0 in
      same_from_decides r (is_ambivalent_symbol a (symbol_of of.set.names (symbols_of a) named.0)) (here.0, here.1) (there.0, there.1) ∙
      ap (is_ambivalent_symbol a) (sym named.1)

  pub first-one : (r : Option ℕ) →
      ((names : NameTable) (t : Tables) (members : List (List ℕ)) (classes : List ℕ) (p : ℕ) → IsBuilt names t members classes p a →
      (name : ExpandedName) → n ≡ symbol_of names (symbols_of a) name → IsFirstIn names t members classes p name r) → r ≡ first_term a n
  first-one r h =
      one-first of.set of.particle named.0 r (first_term a (symbol_of of.set.names (symbols_of a) named.0))
      (h of.set.names of.set.parts of.set.members of.set.classes of.particle kept.built named.0 named.1) (first-is of.set of.particle a kept named.0) ∙
      ap (first_term a) (sym named.1)

module _ (a : ContentAutomaton) (before : List ℕ) (n : ℕ) (of : AreSymbolsBy a (before ++ n ∷ [])) (begun : begins a (before ++ n ∷ []) ≡ true) where
  abbrev symbol : ExpandedName → ℕ
  symbol = symbol_of of.set.names (symbols_of a)

  all-kept : IsKept of.set of.particle a
  all-kept = kept-now of.set of.particle a of.fits

  names-are : (front : List ExpandedName) × (name : ExpandedName) × (before ≡ map symbol front) × (n ≡ symbol name)
  names-are = last-name symbol before n of.names of.are

  begun-by : BeginsBy of.set of.particle (names-are.0 ++ names-are.1 ∷ [])
  begun-by =
      let own : before ≡ map symbol names-are.0 = names-are.2 in
      let last : n ≡ symbol names-are.1 = names-are.3 in
      let same : before ++ n ∷ [] ≡ map symbol (names-are.0 ++ names-are.1 ∷ []) =
      (λ i. own i ++ last i ∷ []) ∙ sym (map-append symbol names-are.0 (names-are.1 ∷ [])) in
      (begins-are of.set of.particle a all-kept (names-are.0 ++ names-are.1 ∷ [])).0 (subst (λ xs. begins a xs ≡ true) same begun)

  same-term : (r : Option ℕ) → IsTermAt (accepts of.set.names of.set.members of.set.parts) (model_of of.set.parts of.particle) names-are.0 names-are.1 r → r ≡ term_after a before n
  same-term r h =
      let own : before ≡ map symbol names-are.0 = names-are.2 in
      let last : n ≡ symbol names-are.1 = names-are.3 in
      one-term (accepts of.set.names of.set.members of.set.parts) (model_of of.set.parts of.particle) names-are.0 names-are.1 r
      (term_after a (map symbol names-are.0) (symbol names-are.1)) h (term-is of.set of.particle a all-kept names-are.0 names-are.1 begun-by) ∙
      (λ i. term_after a (sym own i) (sym last i))

pub state-one : (a : ModelAutomaton) (state n : ℕ) (r : Option ℕ) →
    ((t : NameTable) (terms : List Accepts) (accepts : ℕ → ExpandedName → Bool) (model : Particle) → IsAutomatonOf t terms accepts model a → IsUnambiguous accepts model →
    (names : List ExpandedName) (name : ExpandedName) → state ≡ state_of a.machine (map (symbol_of t a.symbols) names) → n ≡ symbol_of t a.symbols name → IsTermAt accepts model names name r) →
    (before : List ℕ) → AreSymbolsBy (States a) (before ++ n ∷ []) → state ≡ state_of a.machine before → begins (States a) (before ++ n ∷ []) ≡ true → r ≡ term_after (States a) before n
state-one a state n r h before of at begun =
    let kept = all-kept (States a) before n of begun in
    let names = names-are (States a) before n of begun in
    same-term (States a) before n of begun r
    (h of.set.names (model_terms of.set.members of.set.parts of.set.classes of.particle) (accepts of.set.names of.set.members of.set.parts) (model_of of.set.parts of.particle) kept.built.1 kept.unambiguous
    names.0 names.1 (at ∙ ap (state_of a.machine) names.2) names.3)

pub member-one : (a : AllModel) (n : ℕ) (r : Option ℕ) →
    ((t : NameTable) (terms : List Accepts) (accepts : ℕ → ExpandedName → Bool) (members : List AllMember) (model : Particle) → IsAllAutomatonOf t terms accepts members model a → alls.IsUnambiguous accepts model →
    (name : ExpandedName) → n ≡ symbol_of t a.symbols name → IsMemberFor accepts model name r) →
    (before : List ℕ) → AreSymbolsBy (All a) (before ++ n ∷ []) → begins (All a) (before ++ n ∷ []) ≡ true → r ≡ term_after (All a) before n
member-one a n r h before of begun =
    let kept = all-kept (All a) before n of begun in
    let names = names-are (All a) before n of begun in
    same-term (All a) before n of begun r
    (member-at of.set of.particle (All a) kept names.0 names.1 (begun-by (All a) before n of begun) r
    (h of.set.names (model_terms of.set.members of.set.parts of.set.classes of.particle) (accepts of.set.names of.set.members of.set.parts) kept.built.0.0 (model_of of.set.parts of.particle) kept.built.0.3 kept.unambiguous
    names.1 names.3))
