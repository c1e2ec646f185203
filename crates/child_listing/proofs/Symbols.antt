-- The symbols of child elements, by the content model of their parent's type.
use Rattle.std.proofs.Common.{◌≡◌, ℕ, List, [], ◌∷◌, map, length, Option, None, Some, refl, ap, subst}
use Rattle.std.proofs.lemmas.List.{length-map}
use Rattle.xs_names.specs.Names.{NameTable}
use Rattle.xs_components.specs.declared.common.TypeId.{TypeId}
use Rattle.content_automaton.specs.Symbols.{AreNamesOf, symbol_of}
use Rattle.content_automaton.specs.Terms.{name_at}
use Rattle.content_models.specs.Built.{symbols_of}
use Rattle.content_models.specs.declared.automaton.ContentAutomaton.{ContentAutomaton}
use Rattle.assessment.specs.Attribution.{content_particle}
use Rattle.assessment.specs.Fitting.{Fits, IsAutomatonFor}
use Rattle.assessment.proofs.Walking.{symbols-known}
use Rattle.compiled_schema.specs.Usable.{IsUsable, set_of}
use Rattle.compiled_schema.specs.declared.compiled.Compiled.{Compiled}
use Rattle.model_terms.specs.Symbols.{AreSymbolsBy, child_symbols}
use Rattle.kept_judging.specs.from_kept_records.Fit.{models_of}
use Rattle.kept_judging.proofs.from_kept_records.Modelled.{type-fits}

-- the automaton of a type is that of its content model
pub record IsModelled (c : Compiled) (a : ContentAutomaton) : Type 0 where
  pub particle : ℕ
  pub fits : IsAutomatonFor (set_of c) particle a

modelled-by : (c : Compiled) (a : ContentAutomaton) (p : Option ℕ) → Fits (set_of c) p (Some a) → IsModelled c a
modelled-by c a None fits = absurd fits
modelled-by c a (Some p) fits = record { particle = p; fits = fits }

pub model-of : (c : Compiled) → IsUsable c → (of : Option TypeId) (a : ContentAutomaton) → models_of c of ≡ Some a → IsModelled c a
model-of c usable of a e = modelled-by c a (content_particle c.parts of) (subst (Fits (set_of c) (content_particle c.parts of)) e (type-fits c usable.first usable.models_are of))

symbols-through : (t : NameTable) (a : ContentAutomaton) (names : List ℕ) → child_symbols t (Some a) names ≡ map (symbol_of t (symbols_of a)) (map (name_at t) names)
symbols-through t a [] = refl
symbols-through t a (n ∷ ns) = ap (λ xs. symbol_of t (symbols_of a) (name_at t n) ∷ xs) (symbols-through t a ns)

module _ (c : Compiled) (a : ContentAutomaton) (is : IsModelled c a) where
  pub names-within : AreNamesOf c.names (symbols_of a).names
  names-within = symbols-known (set_of c) is.particle a is.fits

  pub are-symbols : (names : List ℕ) → AreSymbolsBy a (child_symbols c.names (Some a) names)
  are-symbols names = record { set = set_of c; particle = is.particle; fits = is.fits; names = map (name_at c.names) names; are = symbols-through c.names a names }

-- each name has a symbol
pub symbol-count : (t : NameTable) (model : Option ContentAutomaton) (names : List ℕ) → length (child_symbols t model names) ≡ length names
symbol-count t None names = length-map names (λ name. 0)
symbol-count t (Some a) names = length-map names (λ name. symbol_of t (symbols_of a) (name_at t name))
