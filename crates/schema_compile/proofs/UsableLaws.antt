-- A set without a fault, with what was found of it, is usable.
use Rattle.std.proofs.Common.{◌≡◌, inl, ℕ, ◌<◌, Bool, List, Option, None, Some, Ok, length, refl, sym, subst}
use Rattle.std.specs.Prelude.{slice_get, slice_index_or}
use Rattle.std.proofs.lemmas.Option.{slice_get_within, get_or_from_slice_get}
use Rattle.xs_codes.specs.declared.code.Code.TheVariants.{CosNonambig}
use Rattle.xs_codes.specs.Least.{IsLeast}
use Rattle.xs_names.proofs.GrownLaws.{Grown-refl}
use Rattle.xs_components.specs.Tables.{Tables}
use Rattle.derive_faults.specs.AttrFaults.{IsAttrFault}
use Rattle.attr_assess.specs.Known.{AreKnownUses}
use Rattle.attr_assess.specs.Types.{IsTypeSet}
use Rattle.attr_assess.specs.declared.known.KnownUses.{KnownUses}
use Rattle.content_models.specs.declared.automaton.ContentAutomaton.{ContentAutomaton}
use Rattle.schema_models.specs.Checks.{IsAmbiguousModel}
use Rattle.schema_models.specs.declared.fault.ModelFault.TheVariants.{Ambiguous}
use Rattle.schema_models.specs.SetModels as models
use Rattle.schema_check.specs.declared.documents.CompiledSet.{CompiledSet}
use Rattle.compiled_schema.specs.Usable.{HasModelOver, AreModels, IsUsable}
use Rattle.compiled_schema.specs.declared.compiled.Compiled.{Compiled}
use Rattle.schema_compile.specs.Fit.{IsFit}
use Rattle.xpath_subset.specs.Reads.{AreIdentities}
use Rattle.schema_compile.specs.declared.finding.Found.{Found}
use Rattle.schema_compile.specs.declared.finding.Faultless.{Faultless}
use Rattle.schema_compile.specs.declared.outcome.Outcome.TheVariants.{Accepted}
use Rattle.schema_compile.specs.Outcomes.{HaveUses, IsSetOutcome}
use Rattle.schema_compile.specs.inside.Finding.{IsFound, AreModelsOf, AreContentsThere, IsJudged, joined}
use Rattle.schema_compile.proofs.MemberLaws.{members-named}

module _ (made : CompiledSet) (whole : Faultless) (fit : IsFit made) (is : IsFound made.parts whole.found) (there : AreContentsThere made.parts)
    (are : AreModelsOf made whole.found (Ok whole.models)) (paths : AreIdentities made.parts whole.identities.items) (known : KnownUses) (uses : AreKnownUses made.parts known)
  where
    abbrev found : Found
    found = whole.found

    abbrev automata : List (Option ContentAutomaton)
    automata = whole.models

    abbrev c : Compiled
    c = joined made whole known

    unambiguous : (n p : ℕ) → n < length made.parts.complexes.parts → models.content_of made.parts n ≡ Some p → IsAmbiguousModel made.names made.parts found.members p → ⊥
    unambiguous n p l content ambiguous = are.0 (models.type_fault made.parts n CosNonambig) (n, l, (p, Ambiguous, content, ambiguous, refl))

    model-over : (n : ℕ) (content : Option ℕ) (model : Option ContentAutomaton) → n < length made.parts.complexes.parts → models.content_of made.parts n ≡ content
        → models.IsModel made.names made.parts found.members found.classes.items content model → HasModelOver made.names c n model
    model-over n None model l at h = subst (HasModelOver made.names c n) (sym h) at
    model-over n (Some p) model l at h =
        subst (HasModelOver made.names c n) (sym h.1)
        (p, at, record { there = there.there n p at; built = h.2; unambiguous = unambiguous n p l at })

    model-at : (n : ℕ) (model : Option ContentAutomaton) → slice_get automata n ≡ Some model → HasModelOver made.names c n model
    model-at n model at =
        let within = slice_get_within automata n model at in
        let same : slice_index_or automata n None ≡ model = get_or_from_slice_get automata n model None at in
        model-over n (models.content_of made.parts n) model (subst (λ k. n < k) are.1.0 within) refl
        (subst (models.IsModel made.names made.parts found.members found.classes.items (models.content_of made.parts n)) same (are.1.1 n within))

    automata-are : AreModels c made.names
    automata-are = record {
      grown = Grown-refl made.names;
      once = fit.once;
      named = members-named made.names made.parts fit.named found.members is.members;
      each = are.1.0;
      contents_each = there.each;
      are = model-at;
    }

    pub usable : IsUsable c
    usable = record {
      named = fit.named;
      view = record { ranked = fit.ranked; simple = fit.simple; types = fit.types; declarations = is.declarations; named = is.named };
      judging = record { ranked = fit.ranked; contents_are = is.contents; types_are = fit.judged; whole = fit.whole };
      attributes = (is.attr_uses.ids, record { ranked = fit.ranked; at_top = is.named; uses = is.attr_uses.are });
      attribute_types = record { ranked = fit.ranked; judged = fit.judged; whole = fit.literals; simple = fit.readable };
      known_uses = uses;
      groups = is.members;
      classes_are = is.classes;
      first = made.names;
      models_are = automata-are;
      identities_are = paths;
    }

pub accepted : ((t : Tables) (ids : List Bool) → IsLeast (IsAttrFault t ids) None → HaveUses t) → (made : CompiledSet) (whole : Faultless) (known : KnownUses) (c : Compiled) → IsFit made →
    AreKnownUses made.parts known → c ≡ joined made whole known → IsJudged made (Ok whole) → IsSetOutcome made (Accepted c)
accepted uses made whole known c fit are same judged =
    let attrs = judged.0.0 in
    subst (λ (x : Compiled). IsSetOutcome made (Accepted x)) (sym same)
    (judged.0, record { names = refl; parts = refl; types = refl }, usable made whole fit judged.1 judged.3 judged.2 judged.4 known are, uses made.parts attrs.0 (λ fault x. attrs.2 fault (inl x)))

-- the types of a set that fits
pub types-fit : (made : CompiledSet) → IsFit made → IsTypeSet made.parts made.types
types-fit made fit = record { ranked = fit.ranked; judged = fit.judged; whole = fit.literals; simple = fit.readable }
