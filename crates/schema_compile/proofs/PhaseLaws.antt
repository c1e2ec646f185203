-- The phases behind simple types.
use Rattle.std.proofs.Common.{◌≡◌, inl, inr, ℕ, ◌<◌, Bool, false, List, Option, None, Some, Result, Ok, Err, length, sym, ap, subst}
use Rattle.std.specs.Prelude.{IfOk, IfErr, IfNone, slice_index_or, slice_get}
use Rattle.std.specs.Option.{option_and_then}
use Rattle.std.specs.Global.{Vec}
use Rattle.std.proofs.lemmas.Option.{none-some, slice_get_within}
use Rattle.xs_codes.specs.declared.fault.Fault.{Fault}
use Rattle.xs_components.specs.Tables.{Tables}
use Rattle.xs_codes.specs.Least.{IsLeast}
use Rattle.schema_check.specs.Phases.{IsFirstOfPhases}
use Rattle.derive_faults.specs.AttrFaults.{AreIdMarks}
use Rattle.attr_uses.specs.Tables.{AreTablesOf}
use Rattle.attr_uses.specs.declared.tables.AttrTables.{AttrTables}
use Rattle.particle_forms.specs.Accepted.{is_inhabited}
use Rattle.derive_models.specs.ModelFaults.{IsFirstModelFault}
use Rattle.redefine_names.specs.declared.pairs.RedefinedPair.{RedefinedPair}
use Rattle.content_models.specs.Built.{IsSource}
use Rattle.content_models.specs.declared.automaton.ContentAutomaton.{ContentAutomaton}
use Rattle.schema_models.specs.SetModels.{AreModels, IsBroken}
use Rattle.schema_check.specs.declared.documents.CompiledSet.{CompiledSet}
use Rattle.schema_compile.specs.Fit.{IsFit}
use Rattle.xpath_subset.specs.Reads.{AreIdentities}
use Rattle.xpath_subset.specs.declared.paths.IdentityPaths.{IdentityPaths}
use Rattle.schema_compile.specs.declared.finding.Found.{Found}
use Rattle.schema_compile.specs.Outcomes.{attr_phase, derivation_phase, model_phase, restriction_phase, identity_phase, late_phases}
use Rattle.schema_compile.specs.inside.Finding.{early_phases, AreAttrUses, IsFound, AreModelsOf, AreContentsThere, IsJudged}
use Rattle.schema_compile.proofs.MemberLaws.{members-named}

pub none-found : (P : Type 0) (found : Option Fault) → found ≡ None → IfNone found P → P
none-found P found is h = subst (λ (o : Option Fault). IfNone o P) is h

-- the marks of types of IDs, and the tables that are made with them
pub attr-uses : {E : Type 0} (t : Tables) (marks ids : List Bool) → ids ≡ marks → AreIdMarks t marks → (result : Result AttrTables E) → IfOk result (AreTablesOf t ids) → IfOk result (AreAttrUses t)
attr-uses t marks ids same are (Ok tables) h = record { ids = ids; marks = subst (AreIdMarks t) (sym same) are; are = h }
attr-uses t marks ids same are (Err error) h = tt

-- where phase 6 has none, the first fault of phase 7 is that of both
pub behind-attrs : {E : Type 0} (old new : CompiledSet) → new ≡ old → attr_phase old None → (result : Result (Option Fault) E) → IfOk result (derivation_phase new) → IfOk result (IsFirstOfPhases (early_phases old))
behind-attrs old new same none (Ok None) h = (none, (subst (λ (s : CompiledSet). derivation_phase s None) same h, tt))
behind-attrs old new same none (Ok (Some f)) h = inr (none, inl (subst (λ (s : CompiledSet). derivation_phase s (Some f)) same h))
behind-attrs old new same none (Err e) h = tt

-- what holds of a set that is the same
pub of-same : {E : Type 0} {X : Type 0} (P : CompiledSet → X → Type 0) (old new : CompiledSet) → new ≡ old → (result : Result X E) → IfOk result (P new) → IfOk result (P old)
of-same P old new same result h = subst (λ (s : CompiledSet). IfOk result (P s)) same h

-- the first fault of phases 6 and 7 is that of all
pub broken-early : (made : CompiledSet) (fault : Fault) → IsFirstOfPhases (early_phases made) (Some fault) → IsFirstOfPhases (late_phases made) (Some fault)
broken-early made fault (inl attrs) = inl attrs
broken-early made fault (inr (none, inl derivation)) = inr (none, inl derivation)
broken-early made fault (inr (none, inr more)) = absurd more.1

flat-some : (o : Option (Option ℕ)) (p : ℕ) → option_and_then (λ content. content) o ≡ Some p → o ≡ Some (Some p)
flat-some None p is = absurd (none-some p is)
flat-some (Some content) p is = ap Some is

pub contents-there : (made : CompiledSet) → IsFit made → length made.parts.contents ≡ length made.parts.complexes.parts → AreContentsThere made.parts
contents-there made fit alike = record {
  each = alike;
  there = λ n p is.
      let at = flat-some (slice_get made.parts.contents n) p is in
      fit.contents n p at (subst (λ k. n < k) alike (slice_get_within made.parts.contents n (Some p) at));
}

module _ (made : CompiledSet) (found : Found) (is : IsFound made.parts found) where
  pub source-of : (inhabited : List Bool) → IsFit made → ((id : ℕ) → slice_index_or inhabited id false ≡ is_inhabited found.members made.parts id)
      → IsSource made.names made.parts found.members found.declarations inhabited
  source-of inhabited fit flags = record {
    ranked = fit.ranked;
    once = fit.once;
    named = members-named made.names made.parts fit.named found.members is.members;
    declarations = is.declarations;
    inhabits = flags;
  }

  abbrev IsModelFault : Fault → Type 0
  IsModelFault f = IsBroken made.names made.parts found.members found.classes.items f

  models-told : {E : Type 0} (result : Result (Result (List (Option ContentAutomaton)) Fault) E)
      → IfOk result (λ answer. IfOk answer (AreModels made.names made.parts found.members found.classes.items))
      → IfOk result (λ answer. IfOk answer (λ models. IsLeast IsModelFault None))
      → IfOk result (λ answer. IfErr answer (λ fault. IsLeast IsModelFault (Some fault)))
      → IfOk result (AreModelsOf made found)
  models-told (Ok (Ok models)) are none fault = (none, are)
  models-told (Ok (Err f)) are none fault = fault
  models-told (Err e) are none fault = tt

  pub models-of : {E : Type 0} (classes : List ℕ) → classes ≡ found.classes.items → (result : Result (Result (List (Option ContentAutomaton)) Fault) E)
      → IfOk result (λ answer. IfOk answer (AreModels made.names made.parts found.members classes))
      → IfOk result (λ answer. IfOk answer (λ models. IsLeast (IsBroken made.names made.parts found.members classes) None))
      → IfOk result (λ answer. IfErr answer (λ fault. IsLeast (IsBroken made.names made.parts found.members classes) (Some fault)))
      → IfOk result (AreModelsOf made found)
  models-of classes same result are none fault =
      models-told result
      (subst (λ (cs : List ℕ). IfOk result (λ answer. IfOk answer (AreModels made.names made.parts found.members cs))) same are)
      (subst (λ (cs : List ℕ). IfOk result (λ answer. IfOk answer (λ models. IsLeast (IsBroken made.names made.parts found.members cs) None))) same none)
      (subst (λ (cs : List ℕ). IfOk result (λ answer. IfErr answer (λ fault. IsLeast (IsBroken made.names made.parts found.members cs) (Some fault)))) same fault)

  -- the first fault of phase 9 is told by the members of substitution groups
  pub by-members : {E : Type 0} (pairs : List RedefinedPair) → pairs ≡ made.redefined.groups.items → (result : Result (Option Fault) E) → IfOk result (IsFirstModelFault made.parts made.names found.members pairs) → IfOk result (restriction_phase made)
  by-members pairs same (Ok fault) h = (found.members, is.members, subst (λ ps. IsFirstModelFault made.parts made.names found.members ps fault) same h)
  by-members pairs same (Err e) h = tt

  -- without a fault in phases 6 and 7
  module _ (early : IsFirstOfPhases (early_phases made) None) where
    pub broken-model : (fault : Fault) → AreModelsOf made found (Err fault) → IsJudged made (Err fault)
    broken-model fault h = inr (early.0, inr (early.1.0, inl (found.members, found.classes.items, is.members, is.classes, h)))

    -- and in phase 8
    module _ (models : List (Option ContentAutomaton)) (are : AreModelsOf made found (Ok models)) where
      abbrev no-broken : model_phase made None
      no-broken = (found.members, found.classes.items, is.members, is.classes, are.0)

      pub broken-restriction : (fault : Fault) → restriction_phase made (Some fault) → IsJudged made (Err fault)
      broken-restriction fault h = inr (early.0, inr (early.1.0, inr (no-broken, inl h)))

      -- and in phase 9
      module _ (none : restriction_phase made None) where
        pub broken-identity : (fault : Fault) → identity_phase made (Some fault) → IsJudged made (Err fault)
        broken-identity fault h = inr (early.0, inr (early.1.0, inr (no-broken, inr (none, inl h))))

        pub judged-in : AreContentsThere made.parts → (identities : Vec IdentityPaths) → identity_phase made None → AreIdentities made.parts identities.items
            → IsJudged made (Ok (record { found = found; models = models; identities = identities }))
        judged-in there identities h paths = ((early.0, (early.1.0, (no-broken, (none, (h, tt))))), is, are, there, paths)
