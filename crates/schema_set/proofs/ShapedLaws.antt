-- The documents of a set without a fault of shape are what their trees declare.
use Rattle.std.proofs.Common.{◌≡◌, ℕ, zero, suc, ◌-◌, List, [], ◌∷◌, get_or, Option, None, Some, Ok, refl, sym, ap, ◌∙◌, subst, arith}
use Rattle.std.specs.Prelude.{All, slice_get}
use Rattle.std.specs.Option.{option_and_then}
use Rattle.std.proofs.lemmas.Option.{same_Some}
use Rattle.xs_codes.specs.declared.fault.Fault.{Fault}
use Rattle.schema_shape.specs.declared.forms.ShapedSchema.{ShapedSchema}
use Rattle.schema_shape.specs.Shaped.{declared, shape_fault, answer, shaped}
use Rattle.schema_set.specs.declared.documents.Available.{Available}
use Rattle.schema_set.specs.declared.documents.SetDocument.{SetDocument}
use Rattle.schema_set.specs.EffectiveSet.{InSet, IsDocument}
use Rattle.schema_set.specs.declared.inputs.SchemaInput.{SchemaInput}
use Rattle.schema_set.specs.Documents.{available_of, available, IsSet, shape_fault_at, IsShapeFault}
use Rattle.schema_set.proofs.ShapeFaultLaws.{fault-number}

-- a document of the set is what the tree of this input declares
abbrev pub IsShapedBy : List SchemaInput → SetDocument → Type 0
IsShapedBy inputs d = (n : ℕ) × (input : SchemaInput) × (slice_get inputs n ≡ Some input) × (shaped d.number input.tree.forest ≡ Ok d.shaped.now)

none-some : {X : Type 0} (x : X) → ◌≡◌ {A = Option X} None (Some x) → ⊥
none-some x e = cc

-- what stands in the list of documents is of an input
of-input : (inputs : List SchemaInput) (n : ℕ) (a : Available) → slice_get (available inputs) n ≡ Some a → (input : SchemaInput) × (slice_get inputs n ≡ Some input) × (available_of input ≡ a)
of-input [] zero a at = absurd (none-some a at)
of-input [] (suc n) a at = absurd (none-some a at)
of-input (input ∷ inputs) zero a at = (input, refl, same_Some (available_of input) a at)
of-input (input ∷ inputs) (suc n) a at = of-input inputs n a at

-- a document without a fault
without-fault : (schema : ShapedSchema) (found : Option Fault) → found ≡ None → answer schema found ≡ Ok schema
without-fault schema found none = ap (answer schema) none

module _ (inputs : List SchemaInput) (start : ℕ) (none : (f : Fault) → IsShapeFault inputs start f → ⊥) where
  -- no fault stands at a number of the set
  fault-free : (number : ℕ) (target : Option (List ℕ)) (found : Option Fault) → InSet (available inputs) start number target → shape_fault_at inputs number ≡ found → found ≡ None
  fault-free number target None inside is = refl
  fault-free number target (Some f) inside is =
      let same : f.document ≡ number = fault-number inputs number f is in
      absurd (none f (record {
        target = target;
        inside = subst (λ (n : ℕ). InSet (available inputs) start n target) (sym same) inside;
        first = subst (λ (n : ℕ). shape_fault_at inputs n ≡ Some f) (sym same) is;
      }))

  document-shaped : (d : SetDocument) → IsDocument (available inputs) d → InSet (available inputs) start d.number d.target → IsShapedBy inputs d
  document-shaped d there inside =
      let n = there.0 in
      let own = of-input inputs n there.1 there.3 in
      let input = own.0 in
      let place : n ≡ d.number - 1 = omega (arith, there.2) in
      let at : slice_get inputs (d.number - 1) ≡ Some input = ap (slice_get inputs) (sym place) ∙ own.1 in
      let fault : shape_fault_at inputs d.number ≡ shape_fault d.number input.tree.forest =
      ap (λ (i : Option SchemaInput). option_and_then (λ (x : SchemaInput). shape_fault d.number x.tree.forest) i) at in
      let free : shape_fault d.number input.tree.forest ≡ None = sym fault ∙ fault-free d.number d.target (shape_fault_at inputs d.number) inside refl in
      let schema : declared input.tree.forest ≡ d.shaped.now = ap (λ (a : Available). a.shaped) own.2 ∙ sym there.4 in (
        n,
        input,
        own.1,
        without-fault (declared input.tree.forest) (shape_fault d.number input.tree.forest) free ∙ ap (λ (s : ShapedSchema). Ok s) schema,
      )

pub all-shaped : (inputs : List SchemaInput) (start : ℕ) (set : List SetDocument) → IsSet inputs start set → ((f : Fault) → IsShapeFault inputs start f → ⊥) → All (IsShapedBy inputs) set
all-shaped inputs start set is none = λ k d h. document-shaped inputs start none (get_or set k d) (is.0.there k d h) (is.0.only k d h)
