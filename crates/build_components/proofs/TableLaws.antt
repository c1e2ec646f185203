-- The tables with a place for each type.
use Rattle.std.proofs.Common.{◌≡◌, ℕ, List, [], ◌∷◌, ◌++◌, Option, None, map, sym, ap, ◌∙◌}
use Rattle.std.specs.List.{flat_map}
use Rattle.std.proofs.lemmas.List.{append_assoc, append-nil, map-append}
use Rattle.xs_components.specs.Table.{TableOf}
use Rattle.xs_components.specs.Tables.{Tables}
use Rattle.xs_components.specs.declared.common.Place.{Place}
use Rattle.xs_components.specs.declared.simple.SimpleType.{SimpleType}
use Rattle.xs_components.specs.declared.complex.ComplexType.{ComplexType}
use Rattle.representations.specs.declared.parts.Represented.{Represented}
use Rattle.representations.specs.declared.parts.Represented.TheVariants as forms
use Rattle.representations.specs.declared.parts.Representation.{Representation}
use Rattle.set_representations.specs.Numbers.{with_parts}
use Rattle.set_representations.proofs.NumberLaws.{with_parts_none, with_parts_more}
use Rattle.build_types.specs.inside.Places.{no_simple, no_complex, place_for, with_place, with_places}

abbrev pub simple_places_by : Represented → Place → List SimpleType
simple_places_by (forms.SimpleType name finals) at = no_simple at ∷ []
simple_places_by _ at = []

abbrev pub complex_places_by : Represented → Place → List ComplexType
complex_places_by (forms.ComplexType head) at = no_complex at ∷ []
complex_places_by _ at = []

abbrev pub simple_places : Representation → List SimpleType
simple_places rep = simple_places_by rep.form rep.at

abbrev pub complex_places : Representation → List ComplexType
complex_places rep = complex_places_by rep.form rep.at

-- a content that is not known for each
abbrev pub no_contents : {X : Type 0} → List X → List (Option ℕ)
no_contents {X} parts = map (λ (part : X). None) parts

abbrev unknown : ComplexType → Option ℕ
unknown part = None

abbrev pub with_types : Tables → List SimpleType → List ComplexType → Tables
with_types t simples complexes = record t { simples = with_parts t.simples simples; complexes = with_parts t.complexes complexes; contents = t.contents ++ no_contents complexes }

no-types : (t : Tables) → with_types t [] [] ≡ t
no-types t =
    ap (λ (s : TableOf SimpleType). record t { simples = s; complexes = with_parts t.complexes []; contents = t.contents ++ [] }) (with_parts_none t.simples)
    ∙ ap (λ (c : TableOf ComplexType). record t { complexes = c; contents = t.contents ++ [] }) (with_parts_none t.complexes)
    ∙ ap (λ (l : List (Option ℕ)). record t { contents = l }) (append-nil t.contents)

more-types : (t : Tables) (s1 s2 : List SimpleType) (c1 c2 : List ComplexType) → with_types (with_types t s1 c1) s2 c2 ≡ with_types t (s1 ++ s2) (c1 ++ c2)
more-types t s1 s2 c1 c2 =
    ap (λ (s : TableOf SimpleType). record t { simples = s; complexes = with_parts (with_parts t.complexes c1) c2; contents = (t.contents ++ no_contents c1) ++ no_contents c2 }) (with_parts_more t.simples s1 s2)
    ∙ ap (λ (c : TableOf ComplexType). record t { simples = with_parts t.simples (s1 ++ s2); complexes = c; contents = (t.contents ++ no_contents c1) ++ no_contents c2 }) (with_parts_more t.complexes c1 c2)
    ∙ ap (λ (l : List (Option ℕ)). record t { simples = with_parts t.simples (s1 ++ s2); complexes = with_parts t.complexes (c1 ++ c2); contents = l })
    (append_assoc t.contents (no_contents c1) (no_contents c2) ∙ ap (λ (l : List (Option ℕ)). t.contents ++ l) (sym (map-append unknown c1 c2)))

form-places : (form : Represented) (at : Place) (t : Tables) → place_for form at t ≡ with_types t (simple_places_by form at) (complex_places_by form at)
form-places (forms.SimpleType name finals) at t = sym
    (ap (λ (c : TableOf ComplexType). record t { simples = with_parts t.simples (no_simple at ∷ []); complexes = c; contents = t.contents ++ [] }) (with_parts_none t.complexes)
    ∙ ap (λ (l : List (Option ℕ)). record t { simples = with_parts t.simples (no_simple at ∷ []); contents = l }) (append-nil t.contents))
form-places (forms.ComplexType head) at t = sym
    (ap (λ (s : TableOf SimpleType). record t { simples = s; complexes = with_parts t.complexes (no_complex at ∷ []); contents = t.contents ++ None ∷ [] }) (with_parts_none t.simples))
form-places _ at t = sym (no-types t)

-- the places for all types
pub places_are : (t : Tables) (reps : List Representation) → with_places t reps ≡ with_types t (flat_map simple_places reps) (flat_map complex_places reps)
places_are t [] = sym (no-types t)
places_are t (rep ∷ reps) =
    places_are (with_place t rep) reps
    ∙ ap (λ (p : Tables). with_types p (flat_map simple_places reps) (flat_map complex_places reps)) (form-places rep.form rep.at t)
    ∙ more-types t (simple_places rep) (flat_map simple_places reps) (complex_places rep) (flat_map complex_places reps)
