-- The first fault of one part of a list.
use Rattle.std.proofs.Common.{◌≡◌, ℕ, List, Option, Some, slice_get, refl, sym, ◌∙◌, subst}
use Rattle.std.specs.Option.{option_map}
use Rattle.std.proofs.lemmas.Option.{same_Some}
use Rattle.xs_codes.specs.declared.code.Code.{Code}
use Rattle.xs_codes.specs.declared.fault.Fault.{Fault}
use Rattle.xs_components.specs.declared.common.Place.{Place}
use Rattle.xs_codes.specs.Least.{IsLeast}
use Rattle.xs_codes.proofs.LeastLaws.{least-same}
use Rattle.derive_faults.specs.TypeFaults.{type_fault, IsFirstCode}
use Rattle.derive_faults.proofs.FaultLaws.{place-least}
use Rattle.derive_faults.specs.Texts.{IsCoded}

module _ {T : Type 0} (parts : List T) where
  -- of what a part has
  pub part-in : (In : T → Fault → Type 0) (n : ℕ) (part : T) → slice_get parts n ≡ Some part → (found : Option Fault) → IsLeast (In part) found → IsLeast (λ f. (p : T) × (slice_get parts n ≡ Some p) × In p f) found
  part-in In n part is found least =
      least-same (In part) (λ f. (p : T) × (slice_get parts n ≡ Some p) × In p f) (λ f x. (part, is, x)) (λ f x. subst (λ (p : T). In p f) (same_Some x.0 part (sym x.1 ∙ is)) x.2) found least

  -- of the codes of a part
  pub coded-in : (at : T → Place) (Breaks : T → Code → Type 0) (n : ℕ) (part : T) → slice_get parts n ≡ Some part → (code : Option Code) (found : Option Fault) → found ≡ option_map (type_fault 6 (at part)) code → IsFirstCode (Breaks part) code →
      IsLeast (λ f. (p : T) × (slice_get parts n ≡ Some p) × IsCoded (at p) (Breaks p) f) found
  coded-in at Breaks n part is code found e first = part-in (λ p. IsCoded (at p) (Breaks p)) n part is found (place-least 6 refl (at part) (Breaks part) code found e first)
