-- Each of the first phases has at most one answer.
use Rattle.std.proofs.Common.{◌≡◌, inl, inr, ℕ, List, [], ◌∷◌, Option, None, Some, map, refl, sym, ap, ◌∙◌, subst}
use Rattle.std.proofs.lemmas.Option.{none-some}
use Rattle.std.proofs.Math.Path.{transport}
use Rattle.xs_codes.specs.declared.fault.Fault.{Fault}
use Rattle.xs_codes.specs.Least.{IsLeast}
use Rattle.xs_names.specs.Names.{NameTable, no_names}
use Rattle.xs_components.specs.Tables.{Tables}
use Rattle.xs_codes.proofs.Firsts.{least-one}
use Rattle.representations.specs.declared.parts.Representation.{Representation}
use Rattle.representations.specs.declared.source.Source.{Source}
use Rattle.set_representations.specs.Documents.{representations, scopes, origins, set_table}
use Rattle.redefine_names.specs.VersionNames.{with_versions}
use Rattle.redefine_names.specs.Renamed.{renamed}
use Rattle.schema_set.specs.declared.documents.SetDocument.{SetDocument}
use Rattle.schema_set.specs.declared.inputs.SchemaInput.{SchemaInput}
use Rattle.schema_set.specs.Documents.{available, IsSet, IsShapeFault}
use Rattle.build_components.specs.Built.{built}
use Rattle.type_derivation.specs.Cycles.{IsBroken}
use Rattle.schema_check.specs.Phases.{IsFirstOfPhases}
use Rattle.schema_check.specs.Components.{all_names, versions, AreOf, IsFault, IsNameFault, AreComponents}
use Rattle.schema_check.specs.SetPhases.{base_phase, type_phase, names, name_phase, AreParts, by_components}
use Rattle.schema_check.specs.Compilation.{BreaksComposition, shape_phase, composition_phase, by_set, later_phases, phases}
use Rattle.schema_check.proofs.OneSetLaws.{sets-same}
use Rattle.schema_check.proofs.BareLaws.{bare, bare-same, table-bare, representations-bare, scopes-bare, origins-bare, set-originals-same}
use Rattle.schema_check.proofs.TypesLaws.{types-one}
use Rattle.schema_check.proofs.SetFaultLaws.{shape-one, composition-two, name-three, base-four}

-- a phase that has at most one answer
abbrev pub HasOne : (Option Fault → Type 0) → Type 0
HasOne phase = (a b : Option Fault) → phase a → phase b → a ≡ b

abbrev pub EachHasOne : List (Option Fault → Type 0) → Type 0
EachHasOne [] = Unit {0}
EachHasOne (phase ∷ later) = HasOne phase × EachHasOne later

-- so the first of them that has a fault has one
pub first-one : (each : List (Option Fault → Type 0)) → EachHasOne each → HasOne (IsFirstOfPhases each)
first-one [] one None None p q = refl
first-one [] one (Some f) b p q = absurd p
first-one [] one None (Some g) p q = absurd q
first-one (phase ∷ later) one None None p q = refl
first-one (phase ∷ later) one None (Some g) p (inl q) = one.0 None (Some g) p.0 q
first-one (phase ∷ later) one None (Some g) p (inr q) = first-one later one.1 None (Some g) p.1 q.1
first-one (phase ∷ later) one (Some f) None (inl p) q = one.0 (Some f) None p q.0
first-one (phase ∷ later) one (Some f) None (inr p) q = first-one later one.1 (Some f) None p.1 q.1
first-one (phase ∷ later) one (Some f) (Some g) (inl p) (inl q) = one.0 (Some f) (Some g) p q
first-one (phase ∷ later) one (Some f) (Some g) (inl p) (inr q) = absurd (none-some f (one.0 None (Some f) q.0 p))
first-one (phase ∷ later) one (Some f) (Some g) (inr p) (inl q) = absurd (none-some g (one.0 None (Some g) p.0 q))
first-one (phase ∷ later) one (Some f) (Some g) (inr p) (inr q) = first-one later one.1 (Some f) (Some g) p.1 q.1

-- ---- what two sets that are the same come to
module _ (ds : List SetDocument) (originals : List (Option ℕ)) where
  pub own-bare : set_table no_names (map bare ds) ≡ set_table no_names ds
  own-bare = table-bare no_names ds

  module _ (t : NameTable) where
    reps-bare : representations t (map bare ds) ≡ representations t ds
    reps-bare = representations-bare t 0 1 ds

    pub all-names-bare : all_names t (map bare ds) originals ≡ all_names t ds originals
    all-names-bare = ap (λ (reps : List Representation). with_versions t reps originals) reps-bare

    pub versions-bare : versions t (map bare ds) originals ≡ versions t ds originals
    versions-bare = λ i. renamed (with_versions t (reps-bare i) originals) (reps-bare i) originals

    name-fault-bare : IsNameFault t (map bare ds) originals ≡ IsNameFault t ds originals
    name-fault-bare =
        λ i fault. IsFault (with_versions t (reps-bare i) originals) (origins-bare t 0 ds i) (renamed (with_versions t (reps-bare i) originals) (reps-bare i) originals) originals fault

    components-bare : AreComponents t (map bare ds) originals ≡ AreComponents t ds originals
    components-bare = λ i parts. AreOf (renamed (with_versions t (reps-bare i) originals) (reps-bare i) originals) (scopes-bare t ds i) parts

  pub names-bare : names (map bare ds) originals ≡ names ds originals
  unfolding names
  names-bare = ap (λ (t : NameTable). all_names t (map bare ds) originals) own-bare ∙ all-names-bare (set_table no_names ds)

  pub names-broken-bare : (found : Option Fault) → name_phase (map bare ds) originals found ≡ name_phase ds originals found
  unfolding name_phase
  names-broken-bare found =
      ap (λ (t : NameTable). IsLeast (IsNameFault t (map bare ds) originals) found) own-bare ∙ ap (λ (B : Fault → Type 0). IsLeast B found) (name-fault-bare (set_table no_names ds))

  pub parts-bare : (parts : Tables) → AreParts (map bare ds) originals parts ≡ AreParts ds originals parts
  unfolding AreParts
  parts-bare parts = ap (λ (t : NameTable). AreComponents t (map bare ds) originals parts) own-bare ∙ ap (λ (A : Tables → Type 0). A parts) (components-bare (set_table no_names ds))

module _ (a b : List SetDocument) (xs ys : List (Option ℕ)) (same : map bare a ≡ map bare b) (originals : xs ≡ ys) where
  pub names-same : names a xs ≡ names b ys
  names-same = sym (names-bare a xs) ∙ (ap (λ (ds : List SetDocument). names ds xs) same ∙ (names-bare b xs ∙ ap (names b) originals))

  pub names-broken-same : (found : Option Fault) → name_phase a xs found ≡ name_phase b ys found
  names-broken-same found =
      sym (names-broken-bare a xs found) ∙ (ap (λ (ds : List SetDocument). name_phase ds xs found) same ∙ (names-broken-bare b xs found ∙ ap (λ (zs : List (Option ℕ)). name_phase b zs found) originals))

  pub parts-same-set : (parts : Tables) → AreParts a xs parts ≡ AreParts b ys parts
  parts-same-set parts =
      sym (parts-bare a xs parts) ∙ (ap (λ (ds : List SetDocument). AreParts ds xs parts) same ∙ (parts-bare b xs parts ∙ ap (λ (zs : List (Option ℕ)). AreParts b zs parts) originals))

-- ---- the components of a set
-- what is built goes by what its source shows
same-built : (a b : Source) → a.reps.now ≡ b.reps.now → a.spaces.now ≡ b.spaces.now → a.scopes.now ≡ b.scopes.now → built a ≡ built b
same-built a b reps spaces scopes =
    ap (λ s. built (record a { reps = record a.reps { now = s } })) reps
    ∙ (ap (λ s. built (record a { reps = record a.reps { now = b.reps.now }; spaces = record a.spaces { now = s } })) spaces
    ∙ ap (λ s. built (record a { reps = record a.reps { now = b.reps.now }; spaces = record a.spaces { now = b.spaces.now }; scopes = record a.scopes { now = s } })) scopes)

parts-one : (set : List SetDocument) (originals : List (Option ℕ)) (a b : Tables) → AreParts set originals a → AreParts set originals b → a ≡ b
unfolding AreParts
parts-one set originals a b x y =
    x.4 ∙ (same-built x.0 y.0 (x.1 ∙ sym y.1) (x.2 ∙ sym y.2) (x.3 ∙ sym y.3) ∙ sym y.4)

pub set-parts-same : (a b : List SetDocument) (xs ys : List (Option ℕ)) → map bare a ≡ map bare b → xs ≡ ys → (p q : Tables) → AreParts a xs p → AreParts b ys q → p ≡ q
set-parts-same a b xs ys same originals p q x y = parts-one b ys p q (transport (parts-same-set a b xs ys same originals p) x) y

-- ---- the phases
in-names : (set : List SetDocument) (originals : List (Option ℕ)) → HasOne (name_phase set originals)
unfolding name_phase
in-names set originals f g p q =
    let t = set_table no_names set in
    least-one (IsNameFault t set originals) 3 (name-three (all_names t set originals) (origins t set) (versions t set originals) originals) f g p q

module _ (inputs : List SchemaInput) (start : ℕ) where
  pub shapes-one : HasOne (shape_phase inputs start)
  unfolding shape_phase
  shapes-one a b p q = least-one (IsShapeFault inputs start) 1 (shape-one inputs start) a b p q

  pub compositions-one : HasOne (composition_phase inputs start)
  unfolding composition_phase
  compositions-one a b p q = least-one (BreaksComposition (available inputs) start) 2 (composition-two (available inputs) start) a b p q

  -- the sets and the originals of two answers are the same
  pub sets-bare : (a b : List SetDocument) → IsSet inputs start a → IsSet inputs start b → map bare a ≡ map bare b
  sets-bare a b p q = bare-same a b (sets-same inputs start a b p q)

  module _ (phase : List SetDocument → List (Option ℕ) → Option Fault → Type 0)
      (one : (set : List SetDocument) (originals : List (Option ℕ)) → HasOne (phase set originals))
      (kept : (a b : List SetDocument) (xs ys : List (Option ℕ)) → map bare a ≡ map bare b → xs ≡ ys → (found : Option Fault) → phase a xs found → phase b ys found) where
    by-set-one : HasOne (by_set inputs start phase)
    by-set-one f g (a, xs, set_a, orig_a, p) (b, ys, set_b, orig_b, q) =
        let same = sets-bare a b set_a set_b in
        let originals = set-originals-same (available inputs) a b xs ys same orig_a orig_b in
        one b ys f g (kept a b xs ys same originals f p) q

  pub names-one : HasOne (by_set inputs start name_phase)
  names-one = by-set-one name_phase in-names (λ a b xs ys same originals found p. transport (names-broken-same a b xs ys same originals found) p)

  module _ (phase : Tables → Option Fault → Type 0) (one : (parts : Tables) → HasOne (phase parts)) where
    by-components-one : HasOne (by_set inputs start (λ set originals. by_components set originals phase))
    by-components-one =
        by-set-one (λ set originals. by_components set originals phase)
        (λ set originals f g p q. one q.0 f g (subst (λ (t : Tables). phase t f) (parts-one set originals p.0 q.0 p.1 q.1) p.2) q.2)
        (λ a b xs ys same originals found p. (p.0, transport (parts-same-set a b xs ys same originals p.0) p.1, p.2))

  pub bases-one : HasOne (by_set inputs start (λ set originals. by_components set originals base_phase))
  bases-one = by-components-one base_phase (λ parts f g p q. least-one (IsBroken parts) 4 (base-four parts) f g p q)

  pub simples-one : HasOne (by_set inputs start (λ set originals. by_components set originals type_phase))
  simples-one = by-components-one type_phase types-one

  pub later-one : EachHasOne (later_phases inputs start)
  later-one = (compositions-one, (names-one, (bases-one, (simples-one, tt))))

  pub each-one : EachHasOne (phases inputs start)
  each-one = (shapes-one, later-one)
