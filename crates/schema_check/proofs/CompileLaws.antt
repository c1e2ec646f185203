-- What documents are compiled to is determined.
use Rattle.std.proofs.Common.{◌≡◌, ℕ, List, Option, None, Some, Result, Ok, Err, map, sym, ap, ◌∙◌, subst}
use Rattle.std.proofs.lemmas.Option.{none-some, same_Some}
use Rattle.std.proofs.Math.Path.{transport}
use Rattle.xs_codes.specs.declared.fault.Fault.{Fault}
use Rattle.xs_components.specs.Tables.{Tables}
use Rattle.representations.specs.declared.parts.Representation.{Representation}
use Rattle.redefine_names.specs.Groups.{AreRedefined}
use Rattle.redefine_names.specs.declared.groups.RedefinedGroups.{RedefinedGroups}
use Rattle.set_representations.specs.Documents.{set_table}
use Rattle.xs_names.specs.Names.{no_names}
use Rattle.schema_set.specs.declared.documents.SetDocument.{SetDocument}
use Rattle.schema_set.specs.declared.inputs.SchemaInput.{SchemaInput}
use Rattle.schema_set.specs.Documents.{available}
use Rattle.schema_check.specs.Components.{versions, AreRedefining}
use Rattle.schema_check.specs.Phases.{IsFirstOfPhases}
use Rattle.schema_check.specs.SetPhases.{AreRedefiningGroups, IsSetCompiled}
use Rattle.schema_check.specs.Compilation.{phases, IsCompilation}
use Rattle.schema_check.specs.declared.documents.CompiledSet.{CompiledSet}
use Rattle.schema_check.specs.Same.{AreSamePairs, IsSameMade, IsSameCompilation}
use Rattle.schema_check.proofs.BareLaws.{bare, set-originals-same}
use Rattle.schema_check.proofs.SetPhaseLaws.{HasOne, first-one, sets-bare, names-same, own-bare, versions-bare, set-parts-same, each-one}
use Rattle.schema_check.specs.Completed.{AreCompleted}
use Rattle.schema_check.proofs.RankedLaws.{ranked-same}

-- ---- the components that redefine others
pairs-same : (reps : List Representation) (originals : List (Option ℕ)) (a b : RedefinedGroups) → AreRedefined reps originals a → AreRedefined reps originals b
    → AreSamePairs a.groups.items b.groups.items × AreSamePairs a.attr_groups.items b.attr_groups.items
pairs-same reps originals a b p q = (
  λ pair. (λ has. (q.groups pair).1 ((p.groups pair).0 has), λ has. (p.groups pair).1 ((q.groups pair).0 has)),
  λ pair. (λ has. (q.attr_groups pair).1 ((p.attr_groups pair).0 has), λ has. (p.attr_groups pair).1 ((q.attr_groups pair).0 has)),
)

module _ (a b : List SetDocument) (xs ys : List (Option ℕ)) (same : map bare a ≡ map bare b) (originals : xs ≡ ys) where
  redefined-bare : (ds : List SetDocument) (zs : List (Option ℕ)) (redefined : RedefinedGroups) → AreRedefiningGroups (map bare ds) zs redefined ≡ AreRedefiningGroups ds zs redefined
  unfolding AreRedefiningGroups
  redefined-bare ds zs redefined =
      ap (λ t. AreRedefining t (map bare ds) zs redefined) (own-bare ds zs) ∙ ap (λ (reps : List Representation). AreRedefined reps zs redefined) (versions-bare ds zs (set_table no_names ds))

  to-other : (redefined : RedefinedGroups) → AreRedefiningGroups a xs redefined ≡ AreRedefiningGroups b ys redefined
  to-other redefined =
      sym (redefined-bare a xs redefined)
      ∙ (ap (λ (ds : List SetDocument). AreRedefiningGroups ds xs redefined) same ∙ (redefined-bare b xs redefined ∙ ap (λ (zs : List (Option ℕ)). AreRedefiningGroups b zs redefined) originals))

  in-set : (p q : RedefinedGroups) → AreRedefiningGroups b ys p → AreRedefiningGroups b ys q → AreSamePairs p.groups.items q.groups.items × AreSamePairs p.attr_groups.items q.attr_groups.items
  unfolding AreRedefiningGroups
  in-set p q x y = pairs-same (versions (set_table no_names b) b ys) ys p q x y

  redefined-same : (p q : RedefinedGroups) → AreRedefiningGroups a xs p → AreRedefiningGroups b ys q → AreSamePairs p.groups.items q.groups.items × AreSamePairs p.attr_groups.items q.attr_groups.items
  redefined-same p q x y = in-set p q (transport (to-other p) x) y

  pub made-same : (made other : CompiledSet) → IsSetCompiled a xs (Ok made) → IsSetCompiled b ys (Ok other) → IsSameMade made other
  made-same made other p q =
      let old = set-parts-same a b xs ys same originals p.1.1 q.1.1 p.1.2 q.1.2 in
      let pairs = redefined-same made.redefined other.redefined p.1.4 q.1.4 in
      record {
        names = p.1.0 ∙ (names-same a b xs ys same originals ∙ sym q.1.0);
        parts = ranked-same q.1.1 made.parts other.parts (subst (λ (t : Tables). AreCompleted t made.parts) old p.1.3.same) q.1.3.same;
        groups = pairs.0;
        attr_groups = pairs.1;
      }

module _ (inputs : List SchemaInput) (start : ℕ) where
  first : HasOne (IsFirstOfPhases (phases inputs start))
  first = first-one (phases inputs start) (each-one inputs start)

  -- a set that is compiled has no fault
  made-or-broken : (made : CompiledSet) (fault : Fault) → IsCompilation inputs start (Ok made) → IsCompilation inputs start (Err fault) → ⊥
  made-or-broken made fault p q = none-some fault (first None (Some fault) p.0 q)

  sets-made-same : (made other : CompiledSet) → IsCompilation inputs start (Ok made) → IsCompilation inputs start (Ok other) → IsSameMade made other
  sets-made-same made other (none, a, xs, set_a, orig_a, p) (none', b, ys, set_b, orig_b, q) =
      let same = sets-bare inputs start a b set_a set_b in
      made-same a b xs ys same (set-originals-same (available inputs) a b xs ys same orig_a orig_b) made other p q

  pub compilations-same : (x y : Result CompiledSet Fault) → IsCompilation inputs start x → IsCompilation inputs start y → IsSameCompilation x y
  compilations-same (Ok made) (Ok other) p q = sets-made-same made other p q
  compilations-same (Ok made) (Err g) p q = absurd (made-or-broken made g p q)
  compilations-same (Err f) (Ok other) p q = absurd (made-or-broken other f q p)
  compilations-same (Err f) (Err g) p q = same_Some f g (first (Some f) (Some g) p q)
