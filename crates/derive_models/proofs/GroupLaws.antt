-- The code and the fault of a pair of groups.
use Rattle.std.proofs.Common.{◌≡◌, ℕ, ◌<◌, length, get_or, Bool, List, Option, None, Some, refl, sym, subst, ◌∙◌}
use Rattle.std.specs.Prelude.{◌↔◌, IsTrue, Result, Ok, Err, IfOk, IfErr, IfSome, slice_get, slice_index}
use Rattle.std.specs.Option.{is_some, option_map}
use Rattle.std.proofs.lemmas.Bool.{false≢true}
use Rattle.std.proofs.lemmas.Option.{none-some, same_Some, slice_get_read}
use Rattle.xs_codes.specs.declared.code.Code.{Code}
use Rattle.xs_codes.specs.declared.code.Code.TheVariants.{SrcRedefine6_2_2}
use Rattle.xs_codes.specs.declared.fault.Fault.{Fault}
use Rattle.xs_components.specs.Tables.{Tables}
use Rattle.xs_components.specs.declared.common.TypeId.{TypeId}
use Rattle.xs_components.specs.declared.group.GroupDef.{GroupDef}
use Rattle.xs_codes.specs.Least.{IsLeast}
use Rattle.xs_codes.proofs.LeastLaws.{least-same}
use Rattle.component_references.specs.Ranked.{IsBelow, IsRanked}
use Rattle.particle_models.specs.Trees.{Tree}
use Rattle.particle_restrict.specs.Codes.{IsFault}
use Rattle.particle_restrict.specs.Restricts.{FormRestricts}
use Rattle.particle_restrict.specs.declared.restriction.RestrictFault.{RestrictFault}
use Rattle.particle_restrict.specs.declared.restriction.RestrictFault.TheVariants.{Broken, Memory}
use Rattle.particle_restrict.specs.declared.terms.Term.{Term}
use Rattle.derive_models.specs.Compared.{told_code}
use Rattle.redefine_names.specs.declared.pairs.RedefinedPair.{RedefinedPair}
use Rattle.derive_faults.specs.TypeFaults.{IsFirstCode, type_fault, when}
use Rattle.derive_faults.proofs.FaultLaws.{when-first, place-least}
use Rattle.derive_models.specs.GroupRestrictions.{group_form, BreaksGroup, IsPairFault}

-- ---- the answer of the comparison
refuted : {D : Type 0} (P : Type 0) (expected : Code) (answer : Result D RestrictFault) (found : Option Code) → told_code answer ≡ Some found → IfOk answer (λ d. P) → IfErr answer (IsFault P expected) → IsTrue (is_some found) ↔ (P → ⊥)
refuted P expected (Ok d) found told ok err =
    subst (λ f. IsTrue (is_some f) ↔ (P → ⊥)) (same_Some None found told) ((λ e. absurd (false≢true e)), λ never. absurd (never ok))
refuted P expected (Err (Broken code)) found told ok err =
    subst (λ f. IsTrue (is_some f) ↔ (P → ⊥)) (same_Some (Some code) found told) ((λ e. err.0), λ never. refl)
refuted P expected (Err Memory) found told ok err = absurd (none-some found told)

module _ (t : Tables) (members : List (List ℕ)) (terms : List Term) (derives : TypeId → TypeId → Bool) (pair : RedefinedPair) where
  -- the code, by forms that are those of the two groups
  pub pair-first : {D : Type 0} (own under : Option Tree) → own ≡ group_form t members pair.own → under ≡ group_form t members pair.original → (expected : Code) (answer : Result D RestrictFault) (found r : Option Code) →
      told_code answer ≡ Some found → IfOk answer (λ d. FormRestricts terms derives own under) → IfErr answer (IsFault (FormRestricts terms derives own under) expected) →
      r ≡ when (is_some found) SrcRedefine6_2_2 → IsFirstCode (BreaksGroup t members terms derives pair) r
  pair-first own under e f expected answer found r told ok err is =
      subst (λ o. IsFirstCode (λ c. (FormRestricts terms derives o (group_form t members pair.original) → ⊥) × (c ≡ SrcRedefine6_2_2)) r) e
      (subst (λ b. IsFirstCode (λ c. (FormRestricts terms derives own b → ⊥) × (c ≡ SrcRedefine6_2_2)) r) f
      (subst (IsFirstCode (λ c. (FormRestricts terms derives own under → ⊥) × (c ≡ SrcRedefine6_2_2))) (sym is)
      (when-first (FormRestricts terms derives own under → ⊥) (is_some found) SrcRedefine6_2_2 (refuted (FormRestricts terms derives own under) expected answer found told ok err))))

  -- the fault
  pub pair-least : (part : GroupDef) → slice_get t.groups.parts pair.own ≡ Some part → (code : Option Code) (found : Option Fault) → found ≡ option_map (type_fault 9 part.at) code →
      IsFirstCode (BreaksGroup t members terms derives pair) code → IsLeast (IsPairFault t members terms derives pair) found
  pair-least part is code found e first =
      least-same (λ f. (c : Code) × BreaksGroup t members terms derives pair c × (f ≡ type_fault 9 part.at c)) (IsPairFault t members terms derives pair)
      (λ f x. (part, x.0, is, x.1, x.2))
      (λ f x. subst (λ (p : GroupDef). (c : Code) × BreaksGroup t members terms derives pair c × (f ≡ type_fault 9 p.at c)) (same_Some x.0 part (sym x.2 ∙ is)) (x.1, x.3, x.4))
      found (place-least 9 refl part.at (BreaksGroup t members terms derives pair) code found e first)

  -- a number of no group
  pub pair-none : slice_get t.groups.parts pair.own ≡ None → IsLeast (IsPairFault t members terms derives pair) None
  pair-none is f x = none-some x.0 (sym is ∙ x.2)

-- ---- the particle of a group
pub read-part : (t : Tables) (parts : List GroupDef) → parts ≡ t.groups.parts → (group : ℕ) (part : GroupDef) → group < length parts → part ≡ get_or parts group part → slice_get t.groups.parts group ≡ Some part
read-part t parts same group part l is = subst (λ ps. slice_get ps group ≡ Some part) same (slice_get_read parts (length parts) group part refl l is)

below : (t : Tables) (rank : ℕ) (o : Option ℕ) → IfSome o (IsBelow t.particles rank) → IfSome o (λ p. p < length t.particles.parts)
below t rank None h = tt
below t rank (Some p) h = h.there

pub particle-there : (t : Tables) → IsRanked t → (group : ℕ) (part : GroupDef) → slice_get t.groups.parts group ≡ Some part → IfSome part.particle (λ p. p < length t.particles.parts)
particle-there t ranked group part e = below t (slice_index t.groups.ranks group) part.particle (ranked.groups group part e)
