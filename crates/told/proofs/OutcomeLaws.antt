-- What becomes of documents is determined.
use Rattle.std.proofs.Common.{◌≡◌, inl, inr, ℕ, Bool, List, [], ◌∷◌, Option, None, Some, Ok, Err, refl, sym, ◌∙◌, subst}
use Rattle.std.specs.List.{AllZip}
use Rattle.std.proofs.lemmas.Option.{none-some, same_Some}
use Rattle.xs_codes.specs.declared.fault.Fault.{Fault}
use Rattle.xs_codes.specs.Least.{IsLeast}
use Rattle.xs_codes.proofs.LeastLaws.{least-same}
use Rattle.xs_names.specs.Names.{NameTable}
use Rattle.xs_components.specs.Tables.{Tables}
use Rattle.xs_components.specs.declared.constraint.Constraint.{Constraint}
use Rattle.xs_components.specs.declared.common.TypeId.{TypeId}
use Rattle.particle_restrict.specs.declared.terms.Term.{Term}
use Rattle.redefine_names.specs.declared.pairs.RedefinedPair.{RedefinedPair}
use Rattle.element_declarations.specs.Groups.{AreGroups}
use Rattle.element_declarations.specs.Classes.{AreClassesOf}
use Rattle.derive_faults.specs.AttrFaults.{AreIdMarks}
use Rattle.schema_models.specs.SetModels.{IsBroken}
use Rattle.derive_restriction.specs.DerivationFaults.{IsDerivationFault}
use Rattle.derive_models.specs.GroupRestrictions.{IsRestrictionFault}
use Rattle.derive_models.specs.ModelFaults.{IsFirstModelFault}
use Rattle.elem_governing.specs.Derived.{derives}
use Rattle.derive_models.specs.Derivation.{excluded}
use Rattle.schema_set.specs.declared.inputs.SchemaInput.{SchemaInput}
use Rattle.schema_check.specs.Phases.{IsFirstOfPhases}
use Rattle.schema_check.specs.Compilation.{IsCompilation}
use Rattle.schema_check.specs.declared.documents.CompiledSet.{CompiledSet}
use Rattle.compiled_schema.specs.declared.compiled.Compiled.{Compiled}
use Rattle.schema_compile.specs.Outcomes.{IsPropertyFault, attr_phase, derivation_phase, model_phase, restriction_phase, identity_phase, late_phases, IsSetOutcome, IsOutcome}
use Rattle.schema_compile.specs.declared.outcome.Outcome.{Outcome}
use Rattle.schema_compile.specs.declared.outcome.Outcome.TheVariants.{Accepted, Broken}
use Rattle.schema_compile.proofs.Members.{groups-same}
use Rattle.schema_compile.proofs.Classes.{classes-same}
use Rattle.schema_compile.proofs.Phases.{late-one}
use Rattle.xpath_subset.specs.Faults.{IsIdentityFault}
use Rattle.xpath_subset.specs.Reads.{ArePathsOf, AreIdentities}
use Rattle.xpath_subset.specs.declared.paths.IdentityPaths.{IdentityPaths}
use Rattle.xpath_subset.proofs.Once.{paths-once}
use Rattle.schema_check.specs.Same.{AreSamePairs, IsSameMade}
use Rattle.schema_check.proofs.CompileLaws.{compilations-same}
use Rattle.told.specs.Same.{IsSameOutcome}

-- ---- a set that is the same has the same first faults in the late phases
module _ (t : Tables) (names : NameTable) (a b : List RedefinedPair) (same : AreSamePairs a b) where
  derivation-to : (f : Fault) → IsDerivationFault t names a f → IsDerivationFault t names b f
  derivation-to f (inl is) = inl is
  derivation-to f (inr (inl (inl is))) = inr (inl (inl is))
  derivation-to f (inr (inl (inr is))) = inr (inl (inr (is.0, (same is.0).0 is.1, is.2)))
  derivation-to f (inr (inr is)) = inr (inr is)

  derivation-from : (f : Fault) → IsDerivationFault t names b f → IsDerivationFault t names a f
  derivation-from f (inl is) = inl is
  derivation-from f (inr (inl (inl is))) = inr (inl (inl is))
  derivation-from f (inr (inl (inr is))) = inr (inl (inr (is.0, (same is.0).1 is.1, is.2)))
  derivation-from f (inr (inr is)) = inr (inr is)

  derivation-kept : (found : Option Fault) → IsLeast (IsDerivationFault t names a) found → IsLeast (IsDerivationFault t names b) found
  derivation-kept found p = least-same (IsDerivationFault t names a) (IsDerivationFault t names b) derivation-to derivation-from found p

-- the same of restrictions of content models
restriction-to : (t : Tables) (members : List (List ℕ)) (terms : List Term) (derives : TypeId → TypeId → Bool) (a b : List RedefinedPair) → AreSamePairs a b → (f : Fault)
    → IsRestrictionFault t members terms derives a f → IsRestrictionFault t members terms derives b f
restriction-to t members terms derives a b same f (inl is) = inl is
restriction-to t members terms derives a b same f (inr is) = inr (is.0, (same is.0).0 is.1, is.2)

restriction-kept : (t : Tables) (names : NameTable) (a b : List RedefinedPair) → AreSamePairs a b → (members : List (List ℕ)) (found : Option Fault) → IsFirstModelFault t names members a found
    → IsFirstModelFault t names members b found
restriction-kept t names a b same members found (terms, reading, least) =
    let by : TypeId → TypeId → Bool = derives t excluded in
    (terms, reading, least-same (IsRestrictionFault t members terms by a) (IsRestrictionFault t members terms by b) (restriction-to t members terms by a b same) (restriction-to t members terms by b a (λ pair. ((same pair).1, (same pair).0))) found least)

-- phases, each of which has what another has
abbrev Each : List (Option Fault → Type 0) → List (Option Fault → Type 0) → Type 0
Each [] [] = Unit {0}
Each [] (q ∷ qs) = ⊥
Each (p ∷ ps) [] = ⊥
Each (p ∷ ps) (q ∷ qs) = ((found : Option Fault) → p found → q found) × Each ps qs

phases-kept : (ps qs : List (Option Fault → Type 0)) → Each ps qs → (found : Option Fault) → IsFirstOfPhases ps found → IsFirstOfPhases qs found
phases-kept [] [] each None is = is
phases-kept [] [] each (Some f) is = is
phases-kept [] (q ∷ qs) each found is = absurd each
phases-kept (p ∷ ps) [] each found is = absurd each
phases-kept (p ∷ ps) (q ∷ qs) each None is = (each.0 None is.0, phases-kept ps qs each.1 None is.1)
phases-kept (p ∷ ps) (q ∷ qs) each (Some f) (inl is) = inl (each.0 (Some f) is)
phases-kept (p ∷ ps) (q ∷ qs) each (Some f) (inr is) = inr (each.0 None is.0, phases-kept ps qs each.1 (Some f) is.1)

abbrev restriction_phase_at : Tables → NameTable → List RedefinedPair → Option Fault → Type 0
restriction_phase_at t names pairs found = (members : List (List ℕ)) × AreGroups t members × IsFirstModelFault t names members pairs found

module _ (a b : CompiledSet) (same : IsSameMade a b) where
  attrs : (found : Option Fault) → attr_phase a found → attr_phase b found
  attrs found p = subst (λ (t : Tables). (ids : List Bool) × AreIdMarks t ids × IsLeast (IsPropertyFault t ids) found) same.parts p

  derivation : (found : Option Fault) → derivation_phase a found → derivation_phase b found
  derivation found p =
      derivation-kept b.parts b.names a.redefined.attr_groups.items b.redefined.attr_groups.items same.attr_groups found
      (subst (λ (t : Tables). IsLeast (IsDerivationFault t b.names a.redefined.attr_groups.items) found) same.parts
      (subst (λ (names : NameTable). IsLeast (IsDerivationFault a.parts names a.redefined.attr_groups.items) found) same.names p))

  models : (found : Option Fault) → model_phase a found → model_phase b found
  models found p =
      subst (λ (t : Tables). (members : List (List ℕ)) × (classes : List ℕ) × AreGroups t members × AreClassesOf t classes × IsLeast (IsBroken b.names t members classes) found) same.parts
      (subst (λ (names : NameTable). (members : List (List ℕ)) × (classes : List ℕ) × AreGroups a.parts members × AreClassesOf a.parts classes × IsLeast (IsBroken names a.parts members classes) found) same.names p)

  restriction : (found : Option Fault) → restriction_phase a found → restriction_phase b found
  restriction found p =
      let q : restriction_phase_at b.parts b.names a.redefined.groups.items found =
      subst (λ (t : Tables). restriction_phase_at t b.names a.redefined.groups.items found) same.parts
      (subst (λ (names : NameTable). restriction_phase_at a.parts names a.redefined.groups.items found) same.names p) in
      (q.0, q.1, restriction-kept b.parts b.names a.redefined.groups.items b.redefined.groups.items same.groups q.0 found q.2)

  identities : (found : Option Fault) → identity_phase a found → identity_phase b found
  identities found p = subst (λ (t : Tables). IsLeast (IsIdentityFault t) found) same.parts p

  pub late-kept : (found : Option Fault) → IsFirstOfPhases (late_phases a) found → IsFirstOfPhases (late_phases b) found
  late-kept = phases-kept (late_phases a) (late_phases b) (attrs, (derivation, (models, (restriction, (identities, tt)))))

-- the paths of identity constraints are one
paths-same : (parts : List Constraint) (xs ys : List IdentityPaths) → AllZip ArePathsOf parts xs → AllZip ArePathsOf parts ys → xs ≡ ys
paths-same [] [] [] p q = refl
paths-same [] [] (y ∷ ys) p q = absurd q
paths-same [] (x ∷ xs) ys p q = absurd p
paths-same (c ∷ parts) [] ys p q = absurd p
paths-same (c ∷ parts) (x ∷ xs) [] p q = absurd q
paths-same (c ∷ parts) (x ∷ xs) (y ∷ ys) p q =
    let first = paths-once c x y p.0 q.0 in
    let rest = paths-same parts xs ys p.1 q.1 in
    λ i. first i ∷ rest i

-- ---- what the components of a set come to
module _ (a b : CompiledSet) (same : IsSameMade a b) where
  late-same : (x y : Option Fault) → IsFirstOfPhases (late_phases a) x → IsFirstOfPhases (late_phases b) y → x ≡ y
  late-same x y p q = late-one b x y (late-kept a b same x p) q

  accepted-same : (c d : Compiled) → IsSetOutcome a (Accepted c) → IsSetOutcome b (Accepted d) → IsSameOutcome (Accepted c) (Accepted d)
  accepted-same c d p q =
      let names : c.names ≡ d.names = p.1.names ∙ (same.names ∙ sym q.1.names) in
      let parts : c.parts ≡ d.parts = p.1.parts ∙ (same.parts ∙ sym q.1.parts) in
      let members : c.members ≡ d.members = groups-same d.parts c.members d.members (subst (λ (t : Tables). AreGroups t c.members) parts p.2.groups) q.2.groups in
      let classes : c.classes.items ≡ d.classes.items = classes-same d.parts c.classes.items d.classes.items (subst (λ (t : Tables). AreClassesOf t c.classes.items) parts p.2.classes_are) q.2.classes_are in
      let paths = paths-same d.parts.constraints.parts c.identities.items d.identities.items (subst (λ (t : Tables). AreIdentities t c.identities.items) parts p.2.identities_are) q.2.identities_are in
      ((λ i. record { names = names i; parts = parts i; members = members i; classes = classes i }), paths)

  set-outcomes-same : (x y : Outcome) → IsSetOutcome a x → IsSetOutcome b y → IsSameOutcome x y
  set-outcomes-same (Accepted c) (Accepted d) p q = accepted-same c d p q
  set-outcomes-same (Accepted c) (Broken g) p q = absurd (none-some g (late-same None (Some g) p.0 q))
  set-outcomes-same (Broken f) (Accepted d) p q = absurd (none-some f (sym (late-same (Some f) None p q.0)))
  set-outcomes-same (Broken f) (Broken g) p q = same_Some f g (late-same (Some f) (Some g) p q)

-- ---- what documents come to
module _ (inputs : List SchemaInput) (start : ℕ) where
  faults-same : (f g : Fault) → IsCompilation inputs start (Err f) → IsCompilation inputs start (Err g) → IsSameOutcome (Broken f) (Broken g)
  faults-same f g p q = compilations-same inputs start (Err f) (Err g) p q

  broken-or-made : (f : Fault) (made : CompiledSet) → IsCompilation inputs start (Err f) → IsCompilation inputs start (Ok made) → ⊥
  broken-or-made f made p q = compilations-same inputs start (Err f) (Ok made) p q

  pub outcomes-same : (x y : Outcome) → IsOutcome inputs start x → IsOutcome inputs start y → IsSameOutcome x y
  outcomes-same x y (inl p) (inl q) =
      subst (λ (o : Outcome). IsSameOutcome o y) (sym p.2) (subst (IsSameOutcome (Broken p.0)) (sym q.2) (faults-same p.0 q.0 p.1 q.1))
  outcomes-same x y (inl p) (inr q) = absurd (broken-or-made p.0 q.0 p.1 q.1)
  outcomes-same x y (inr p) (inl q) = absurd (broken-or-made q.0 p.0 q.1 p.1)
  outcomes-same x y (inr p) (inr q) = set-outcomes-same p.0 q.0 (compilations-same inputs start (Ok p.0) (Ok q.0) p.1 q.1) x y p.2 q.2
