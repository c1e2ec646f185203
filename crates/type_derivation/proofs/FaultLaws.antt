-- The first type whose base is of the wrong kind.
use Rattle.std.proofs.Common.{◌≡◌, ℕ, ◌+◌, ◌<◌, ◌⊎◌, inl, inr, List, Option, None, Some, length, slice_get, refl, sym, ap, ◌∙◌, arith}
use Rattle.std.proofs.lemmas.Bool.{cases_eq}
use Rattle.std.proofs.lemmas.Option.{slice_get_within}
use Rattle.xs_codes.specs.declared.code.Code.{Code}
use Rattle.xs_codes.specs.declared.fault.Fault.{Fault}
use Rattle.xs_components.specs.Tables.{Tables}
use Rattle.xs_components.specs.declared.complex.ComplexType.{ComplexType}
use Rattle.xs_components.specs.declared.common.TypeId.{TypeId}
use Rattle.xs_codes.specs.Least.{sooner, IsLeast}
use Rattle.xs_codes.proofs.LeastLaws.{fault_not_itself, least-sum, least-same}
use Rattle.type_derivation.specs.Contents.{HasContent}
use Rattle.type_derivation.specs.Bases.{base_fault, base_code, IsWrongBase}
use Rattle.type_derivation.specs.inside.Kinds.{kind_in, fault_of_code, fault_of_kind, fault_in, IsFaultIn}
use Rattle.component_tables.specs.declared.content_types.ContentType.{ContentType}

-- one fault, or none
one-fault : (o : Option Fault) → IsLeast (λ f. o ≡ Some f) o
one-fault None = λ f e. let g : None ≡ Some f = e in cc
one-fault (Some g) = (refl, λ h e. let same : g ≡ h = (let s : Some g ≡ Some h = e in cc) in rw (← same) (fault_not_itself g))

module _ (types : List ComplexType) (table : List (Option ContentType)) where
  -- a fault of one of the first types
  abbrev pub FaultBelow : ℕ → Fault → Type 0
  FaultBelow i fault = (n : ℕ) × (n < i) × (part : ComplexType) × (slice_get types n ≡ Some part) × (fault_in table part ≡ Some fault)

  pub none-below : IsLeast (FaultBelow 0) None
  none-below = λ f c. absurd (omega (arith, c.1))

  part-same : (a b : ComplexType) (o : Option ComplexType) → o ≡ Some a → o ≡ Some b → a ≡ b
  part-same a b o e f = let g : Some a ≡ Some b = sym e ∙ f in cc

  pub one-more : (i : ℕ) (part : ComplexType) (best : Option Fault) → slice_get types i ≡ Some part → IsLeast (FaultBelow i) best → IsLeast (FaultBelow (i + 1)) (sooner best (fault_in table part))
  one-more i part best is least =
      least-same (λ f. FaultBelow i f ⊎ (fault_in table part ≡ Some f)) (FaultBelow (i + 1)) to from (sooner best (fault_in table part))
      (least-sum (FaultBelow i) (λ f. fault_in table part ≡ Some f) best (fault_in table part) least (one-fault (fault_in table part)))
    where
      to : (f : Fault) → FaultBelow i f ⊎ (fault_in table part ≡ Some f) → FaultBelow (i + 1) f
      to f (inl c) = (c.0, omega (arith, c.1), c.2, c.3, c.4)
      to f (inr e) = (i, omega arith, part, is, e)

      from : (f : Fault) → FaultBelow (i + 1) f → FaultBelow i f ⊎ (fault_in table part ≡ Some f)
      from f c = elim (cases_eq c.0 i) [
        | inl same ↦ inr (ap (fault_in table) (part-same part c.2 (slice_get types i) is (ap (slice_get types) (sym same) ∙ c.3)) ∙ c.4)
        | inr other ↦ inl (c.0, omega (arith, c.1), c.2, c.3, c.4)
      ]

  pub all-faults : (i : ℕ) → i ≡ length types → (best : Option Fault) → IsLeast (FaultBelow i) best → IsLeast (IsFaultIn types table) best
  all-faults i e best least =
      least-same (FaultBelow i) (IsFaultIn types table) (λ f c. (c.0, c.2, c.3, c.4)) (λ f c. (c.0, omega (arith, e, slice_get_within types c.0 c.1 c.2), c.1, c.2, c.3)) best least

-- faults by a table of all kinds are those of bases of the wrong kind
module _ (t : Tables) (table : List (Option ContentType)) (to : (x : TypeId) (kind : ContentType) → kind_in table x ≡ Some kind → HasContent t x kind) (from : (x : TypeId) (kind : ContentType) → HasContent t x kind → kind_in table x ≡ Some kind) where
  wrong : (f : Fault) → IsFaultIn t.complexes.parts table f → IsWrongBase t f
  wrong f c = on (kind_in table c.1.base) refl c.3
    where
      code : (kind : ContentType) → kind_in table c.1.base ≡ Some kind → (o : Option Code) → base_code c.1.by_extension c.1.content kind ≡ o → fault_of_code c.1.at o ≡ Some f → IsWrongBase t f
      code kind k None b e = absurd (let g : None ≡ Some f = e in cc)
      code kind k (Some found) b e = (c.0, c.1, kind, found, c.2, to c.1.base kind k, b, (let g : Some (base_fault c.1.at found) ≡ Some f = e in cc))

      on : (o : Option ContentType) → kind_in table c.1.base ≡ o → fault_of_kind c.1 o ≡ Some f → IsWrongBase t f
      on None k e = absurd (let g : None ≡ Some f = e in cc)
      on (Some kind) k e = code kind k (base_code c.1.by_extension c.1.content kind) refl e

  right : (f : Fault) → IsWrongBase t f → IsFaultIn t.complexes.parts table f
  right f w = (w.0, w.1, w.4, ap (fault_of_kind w.1) (from w.1.base w.2 w.5) ∙ ap (fault_of_code w.1.at) w.6 ∙ ap Some (sym w.7))

  pub wrong-bases : (best : Option Fault) → IsLeast (IsFaultIn t.complexes.parts table) best → IsLeast (IsWrongBase t) best
  wrong-bases best least = least-same (IsFaultIn t.complexes.parts table) (IsWrongBase t) wrong right best least
