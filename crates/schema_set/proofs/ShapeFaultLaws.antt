-- The faults of shape of a set, by what was read of all documents.
use Rattle.std.proofs.Common.{◌≡◌, ℕ, zero, suc, ◌+◌, ◌-◌, ◌<◌, List, [], ◌∷◌, false, Option, None, Some, inl, inr, refl, sym, ap, ◌∙◌, subst, arith}
use Rattle.std.specs.Prelude.{Contains, slice_get}
use Rattle.std.specs.List.{flat_map}
use Rattle.std.specs.Option.{option_and_then, option_to_list}
use Rattle.std.proofs.lemmas.Option.{same_Some}
use Rattle.std.proofs.lemmas.List.Elements.{All-contains, Contains-push, Contains-push_cases}
use Rattle.xs_codes.specs.declared.fault.Fault.{Fault}
use Rattle.xs_codes.specs.Least.{IsLeast, is_before}
use Rattle.xs_codes.proofs.LeastLaws.{fault_not_itself, least-same}
use Rattle.schema_faults.specs.declared.broken.Broken.{Broken}
use Rattle.schema_faults.specs.Faults.{least_fault}
use Rattle.schema_shape.specs.Shaped.{constructs_of, fault_at, shape_fault}
use Rattle.schema_set.specs.declared.documents.SetDocument.{SetDocument}
use Rattle.schema_set.specs.EffectiveSet.{InSet, IsDocument}
use Rattle.schema_set.proofs.FaultLaws.{in-flat_map, flat_map-has}
use Rattle.schema_set.specs.declared.inputs.SchemaInput.{SchemaInput}
use Rattle.schema_set.specs.Documents.{available, IsSet, shape_faults, shape_fault_at, IsShapeFault}
use Rattle.schema_set.specs.inside.Reads.{faults_from, fault_in, document_faults}

-- ---- the fault of one document
pub option-least : (o : Option Fault) → IsLeast (Contains (option_to_list o)) o
option-least None = λ f c. absurd (omega (arith, c.1))
option-least (Some f) = (Contains-push [] f, on)
  where
    on : (g : Fault) → Contains (f ∷ []) g → is_before g f ≡ false
    on g in' = elim (Contains-push_cases [] f g in') [
      | inl none ↦ absurd (omega (arith, none.1))
      | inr same ↦ subst (λ (h : Fault). is_before h f ≡ false) same (fault_not_itself f)
    ]

in-option : (o : Option Fault) (f : Fault) → Contains (option_to_list o) f → o ≡ Some f
in-option None f c = absurd (omega (arith, c.1))
in-option (Some g) f c = elim (Contains-push_cases [] g f c) [
  | inl none ↦ absurd (omega (arith, none.1))
  | inr same ↦ ap (λ (h : Fault). Some h) same
]

option-has : (o : Option Fault) (f : Fault) → o ≡ Some f → Contains (option_to_list o) f
option-has o f is = subst (λ (p : Option Fault). Contains (option_to_list p) f) (sym is) (Contains-push [] f)

-- ---- the faults that were read, by number
fault-from : (number n : ℕ) (inputs : List SchemaInput)
    → option_and_then (λ fault. fault) (slice_get (faults_from number inputs) n) ≡ option_and_then (λ input. shape_fault (number + n) input.tree.forest) (slice_get inputs n)
fault-from number zero [] = refl
fault-from number (suc n) [] = refl
fault-from number zero (input ∷ inputs) = let same : number ≡ number + 0 = omega arith in ap (λ (m : ℕ). shape_fault m input.tree.forest) same
fault-from number (suc n) (input ∷ inputs) =
    let same : number + 1 + n ≡ number + suc n = omega arith in
    fault-from (number + 1) n inputs ∙ ap (λ (m : ℕ). option_and_then (λ (i : SchemaInput). shape_fault m i.tree.forest) (slice_get inputs n)) same

read-fault : (inputs : List SchemaInput) (number : ℕ) → 0 < number → fault_in (shape_faults inputs) number ≡ shape_fault_at inputs number
read-fault inputs number h =
    let same : 1 + (number - 1) ≡ number = omega (arith, h) in
    fault-from 1 (number - 1) inputs ∙ ap (λ (m : ℕ). option_and_then (λ (i : SchemaInput). shape_fault m i.tree.forest) (slice_get inputs (number - 1))) same

-- ---- a fault names the document that it is of
of-number : (number : ℕ) (broken : Option Broken) (f : Fault) → fault_at number broken ≡ Some f → f.document ≡ number
of-number number None f is = absurd (let e : ◌≡◌ {A = Option Fault} None (Some f) = is in cc)
of-number number (Some broken) f is = sym (ap (λ (g : Fault). g.document) (same_Some _ f is))

of-input : (number : ℕ) (input : Option SchemaInput) (f : Fault) → option_and_then (λ (i : SchemaInput). shape_fault number i.tree.forest) input ≡ Some f → f.document ≡ number
of-input number None f is = absurd (let e : ◌≡◌ {A = Option Fault} None (Some f) = is in cc)
of-input number (Some input) f is = of-number number (least_fault (constructs_of input.tree.forest)) f is

pub fault-number : (inputs : List SchemaInput) (number : ℕ) (f : Fault) → shape_fault_at inputs number ≡ Some f → f.document ≡ number
fault-number inputs number f is = of-input number (slice_get inputs (number - 1)) f is

-- ---- the faults of the documents of a set are those of the set
module _ (inputs : List SchemaInput) (start : ℕ) (set : List SetDocument) (is : IsSet inputs start set) (faults : List (Option Fault)) (same : faults ≡ shape_faults inputs) where
  document-fault : (d : SetDocument) → Contains set d → fault_in faults d.number ≡ shape_fault_at inputs d.number
  document-fault d c =
      let there = All-contains (IsDocument (available inputs)) set d is.0.there c in
      let some : 0 < d.number = omega (arith, there.2) in
      ap (λ (l : List (Option Fault)). fault_in l d.number) same ∙ read-fault inputs d.number some

  to-fault : (f : Fault) → Contains (flat_map (document_faults faults) set) f → IsShapeFault inputs start f
  to-fault f c =
      let l = in-flat_map (document_faults faults) set f c in
      let d = l.0 in
      let own : shape_fault_at inputs d.number ≡ Some f = sym (document-fault d l.1) ∙ in-option (fault_in faults d.number) f l.2 in
      let number : f.document ≡ d.number = fault-number inputs d.number f own in
      record {
        target = d.target;
        inside = subst (λ (n : ℕ). InSet (available inputs) start n d.target) (sym number)
            (All-contains (λ (e : SetDocument). InSet (available inputs) start e.number e.target) set d is.0.only l.1);
        first = subst (λ (n : ℕ). shape_fault_at inputs n ≡ Some f) (sym number) own;
      }

  from-fault : (f : Fault) → IsShapeFault inputs start f → Contains (flat_map (document_faults faults) set) f
  from-fault f b =
      let e = is.0.each f.document b.target b.inside in
      let d = e.0 in
      let own : shape_fault_at inputs d.number ≡ Some f = subst (λ (n : ℕ). shape_fault_at inputs n ≡ Some f) (sym e.2) b.first in
      flat_map-has (document_faults faults) set d f e.1 (option-has (fault_in faults d.number) f (document-fault d e.1 ∙ own))

  pub set-least : (r : Option Fault) → IsLeast (Contains (flat_map (document_faults faults) set)) r → IsLeast (IsShapeFault inputs start) r
  set-least r least = least-same (Contains (flat_map (document_faults faults) set)) (IsShapeFault inputs start) to-fault from-fault r least
