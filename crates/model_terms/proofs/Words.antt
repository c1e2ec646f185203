-- What runs along the symbols of names say of the words of a content model.
use Rattle.std.proofs.Common.{◌≡◌, ℕ, ◌↔◌, false, IsTrue, List, [], ◌∷◌, map, refl, sym, ap, subst, ◌∙◌}
use Rattle.std.proofs.lemmas.Bool.{ltb-true, lt-ltb}
use Rattle.content_automaton.specs.Terms.{ExpandedName}
use Rattle.content_automaton.specs.Symbols.{symbol_of}
use Rattle.content_automaton.specs.Automaton.{state_of, dead_of}
use Rattle.content_models.specs.States as alls
use Rattle.content_models.specs.declared.state.AllState.{AllState}
use Rattle.content_models.specs.Modelled.{letter_of}
use Rattle.content_models.specs.Built.{symbols_of}
use Rattle.content_models.specs.declared.automaton.ContentAutomaton.{ContentAutomaton}
use Rattle.content_models.specs.declared.automaton.ContentAutomaton.TheVariants.{States, All}
use Rattle.particle_models.specs.Words.{IsWordOfNames}
use Rattle.particle_forms.specs.Models.{model_of}
use Rattle.particle_forms.specs.Accepted.{accepts}
use Rattle.assessment.specs.Attribution.{SchemaSet}
use Rattle.assessment.specs.inside.Found.{IsKept, BeginsBy}
use Rattle.model_terms.specs.Terms.{begins, is_word}
use Rattle.model_terms.proofs.Along.{not-true, not-false}

pub map-twice : {X Y Z : Type 0} (f : X → Y) (g : Y → Z) (xs : List X) → map g (map f xs) ≡ map (λ x. g (f x)) xs
map-twice f g [] = refl
map-twice f g (x ∷ xs) = ap (λ ys. g (f x) ∷ ys) (map-twice f g xs)

pub begins-are : (s : SchemaSet) (p : ℕ) (a : ContentAutomaton) → IsKept s p a → (names : List ExpandedName) → IsTrue (begins a (map (symbol_of s.names (symbols_of a)) names)) ↔ BeginsBy s p names
begins-are s p (States a) kept names =
    let live = kept.built.1.recognizes.live names in
    let state : ℕ = state_of a.machine (map (symbol_of s.names a.symbols) names) in
    ((λ h. live.0 (ltb-true state (dead_of a.machine) h)), (λ h. lt-ltb state (dead_of a.machine) (live.1 h)))
begins-are s p (All a) kept names =
    let live = (kept.built.0.3.recognizes kept.unambiguous).live names in
    let same = ap (alls.state_of a.machine) (map-twice (symbol_of s.names a.symbols) (letter_of a) names) in
    let state : AllState = alls.state_of a.machine (map (letter_of a) (map (symbol_of s.names a.symbols) names)) in
    ((λ h. live.0 (subst (λ (k : AllState). k.dead ≡ false) same (not-true state.dead h))), (λ h. not-false state.dead (subst (λ (k : AllState). k.dead ≡ false) (sym same) (live.1 h))))

pub words-are : (s : SchemaSet) (p : ℕ) (a : ContentAutomaton) → IsKept s p a → (names : List ExpandedName) →
    IsTrue (is_word a (map (symbol_of s.names (symbols_of a)) names)) ↔ IsWordOfNames (accepts s.names s.members s.parts) (model_of s.parts p) names
words-are s p (States a) kept names = kept.built.1.recognizes.accepting names
words-are s p (All a) kept names =
    let word = (kept.built.0.3.recognizes kept.unambiguous).accepting names in
    let same = ap (λ xs. alls.accepts_at a.machine (alls.state_of a.machine xs)) (map-twice (symbol_of s.names a.symbols) (letter_of a) names) in
    ((λ h. word.0 (sym same ∙ h)), (λ h. same ∙ word.1 h))
