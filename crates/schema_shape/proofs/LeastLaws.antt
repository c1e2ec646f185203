-- The least fault of some elements and others, and what they declare.
use Rattle.std.proofs.Common.{◌≡◌, ℕ, Bool, true, false, nat_lt, arith, List, [], ◌∷◌, ◌++◌, Option, None, Some, refl, sym, append_assoc}
use Rattle.std.proofs.lemmas.Bool.{ltb-true, ltb-false}
use Rattle.schema_faults.specs.Constructs.{Construct}
use Rattle.schema_faults.specs.Faults.{least_fault, lesser, fault_of}
use Rattle.schema_shape.specs.Shapes.{shapes, shapes_of}
use Rattle.schema_faults.specs.declared.broken.Broken.{Broken}
use Rattle.schema_shape.specs.declared.walk.Findings.{Findings}
use Rattle.schema_shape.specs.inside.Walks.{with_construct, with_constructs}

lesser_none : (f : Option Broken) → lesser f None ≡ f
lesser_none None = refl
lesser_none (Some fault) = refl

module _ (a b c : Broken) where
  three : (p q r : Bool) → nat_lt b.item a.item ≡ p → nat_lt c.item b.item ≡ q → nat_lt c.item a.item ≡ r
      → lesser (lesser (Some a) (Some b)) (Some c) ≡ lesser (Some a) (lesser (Some b) (Some c))
  three true true true e f g = rw (e, f, g) refl
  three true true false e f g = absurd (omega (arith, ltb-true b.item a.item e, ltb-true c.item b.item f, ltb-false c.item a.item g))
  three true false r e f g = rw (e, f) (rw e refl)
  three false true r e f g = rw (e, f) refl
  three false false true e f g = absurd (omega (arith, ltb-false b.item a.item e, ltb-false c.item b.item f, ltb-true c.item a.item g))
  three false false false e f g = rw (e, f, g) (rw e refl)

lesser_assoc : (f g h : Option Broken) → lesser (lesser f g) h ≡ lesser f (lesser g h)
lesser_assoc None g h = refl
lesser_assoc (Some a) None h = refl
lesser_assoc (Some a) (Some b) None = lesser_none (lesser (Some a) (Some b))
lesser_assoc (Some a) (Some b) (Some c) = three a b c (nat_lt b.item a.item) (nat_lt c.item b.item) (nat_lt c.item a.item) refl refl refl

least_append : (es more : List Construct) → least_fault (es ++ more) ≡ lesser (least_fault es) (least_fault more)
least_append [] more = refl
least_append (e ∷ es) more = rw (least_append es more) (sym (lesser_assoc (fault_of e) (least_fault es) (least_fault more)))

shapes_append : (es more : List Construct) → shapes (es ++ more) ≡ shapes es ++ shapes more
shapes_append [] more = refl
shapes_append (e ∷ es) more = rw (shapes_append es more) (sym (append_assoc (shapes_of e) (shapes es) (shapes more)))

pub found_append : (found : Findings) (es more : List Construct) → with_constructs (with_constructs found es) more ≡ with_constructs found (es ++ more)
found_append found es more =
    rw (
      least_append es more,
      shapes_append es more,
      lesser_assoc found.fault (least_fault es) (least_fault more),
      append_assoc found.shapes (shapes es) (shapes more),
    ) refl

-- an element, and then those behind it
pub found_first : (found : Findings) (e : Construct) (es : List Construct) → with_constructs (with_construct found e) es ≡ with_constructs found (e ∷ es)
found_first found e es = rw (lesser_assoc found.fault (fault_of e) (least_fault es), append_assoc found.shapes (shapes_of e) (shapes es)) refl
