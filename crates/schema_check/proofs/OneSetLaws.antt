-- The documents of a schema set are determined (Structures 4.2).
use Rattle.std.proofs.Common.{◌≡◌, inl, inr, ℕ, List, slice_get, sym, ap, ◌∙◌, arith}
use Rattle.std.specs.List.{AllZip}
use Rattle.std.proofs.lemmas.Option.{same_Some}
use Rattle.std.proofs.lemmas.List.Elements.{All-contains}
use Rattle.schema_set.specs.declared.documents.Available.{Available}
use Rattle.schema_set.specs.declared.documents.SetDocument.{SetDocument}
use Rattle.schema_set.specs.declared.inputs.SchemaInput.{SchemaInput}
use Rattle.schema_set.specs.EffectiveSet.{InSet, IsDocument, IsEffectiveSet}
use Rattle.schema_set.specs.Order.{target_place, Precedes}
use Rattle.schema_set.specs.Documents.{available, IsSet}
use Rattle.schema_check.specs.Same.{IsSameDocument}
use Rattle.schema_check.proofs.Ordered.{AreAmong, ordered-same}

pub turned : (d e : SetDocument) → IsSameDocument d e → IsSameDocument e d
turned d e s = (sym s.0, sym s.1, sym s.2)

module _ (sources : List Available) where
  abbrev Before : SetDocument → SetDocument → Type 0
  Before = Precedes sources

  place-same : (d e : SetDocument) → IsSameDocument d e → target_place sources d.target ≡ target_place sources e.target
  place-same d e s = ap (target_place sources) s.1

  -- what one is before, another before what is that one is not before this
  never : (x y z w : SetDocument) → IsSameDocument x w → IsSameDocument y z → Before x y → Before z w → ⊥
  never x y z w xw yz (inl a) (inl b) = omega (arith, a, b, xw.0, yz.0)
  never x y z w xw yz (inl a) (inr b) = omega (arith, a, b.0, xw.0, yz.0)
  never x y z w xw yz (inr a) (inl b) = omega (arith, a.0, b, xw.0, yz.0)
  never x y z w xw yz (inr a) (inr b) = omega (arith, a.1, b.1, place-same x w xw, place-same y z yz)

  apart : (x z y : SetDocument) → Before x z → IsSameDocument x y → IsSameDocument z y → ⊥
  apart x z y (inl a) xy zy = omega (arith, a, xy.0, zy.0)
  apart x z y (inr a) xy zy = omega (arith, a.1, place-same x y xy, place-same z y zy)

  -- two documents of one number and one target namespace are the same
  document-same : (d e : SetDocument) → IsDocument sources d → IsDocument sources e → d.number ≡ e.number → d.target ≡ e.target → IsSameDocument d e
  document-same d e one other number target =
      let place : one.0 ≡ other.0 = omega (arith, one.2, other.2, number) in
      let shaped : one.1 ≡ other.1 = same_Some one.1 other.1 (sym one.3 ∙ (ap (slice_get sources) place ∙ other.3)) in
      (number, target, one.4 ∙ (ap (λ (a : Available). a.shaped) shaped ∙ sym other.4))

  among : (start : ℕ) (a b : List SetDocument) → IsEffectiveSet sources start a → IsEffectiveSet sources start b → AreAmong IsSameDocument a b
  among start a b one other d has =
      let found = other.each d.number d.target (All-contains (λ (x : SetDocument). InSet sources start x.number x.target) a d one.only has) in
      (found.0, found.1, document-same d found.0 (All-contains (IsDocument sources) a d one.there has) (All-contains (IsDocument sources) b found.0 other.there found.1) (sym found.2) (sym found.3))

pub sets-same : (inputs : List SchemaInput) (start : ℕ) (a b : List SetDocument) → IsSet inputs start a → IsSet inputs start b → AllZip IsSameDocument a b
sets-same inputs start a b one other =
    ordered-same IsSameDocument turned (Precedes (available inputs)) (never (available inputs)) (apart (available inputs)) a b one.1 other.1
    (among (available inputs) start a b one.0 other.0) (among (available inputs) start b a other.0 one.0)
