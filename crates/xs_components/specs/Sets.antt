-- Namespace constraints as sets of namespaces (Structures 3.10.1). A set is the test of its members; a namespace is its
-- number, and there are more namespaces than any list has.
use Rattle.std.specs.Prelude.{◌≡◌, ◌≢◌, ℕ, Bool, true, false, ◌&&◌, ◌||◌, not, ◌==◌, List, IsTrue}
use Rattle.std.specs.List.{list_any}
use Rattle.xs_names.specs.Names.{absent_space}
use Rattle.xs_components.specs.declared.namespace_constraint.NsConstraint.{NsConstraint}
use Rattle.xs_components.specs.declared.namespace_constraint.NsConstraint.TheVariants.{Any, Not, In}

-- whether the list has the namespace
abbrev pub has : List ℕ → ℕ → Bool
has listed ns = list_any (λ x. x == ns) listed

-- Wildcard allows Namespace Name (Structures 3.10.4): a negation admits neither its namespace nor the absent one
abbrev pub admits : NsConstraint → ℕ → Bool
admits Any ns = true
admits (Not excluded) ns = not (ns == absent_space) && not (ns == excluded)
admits (In listed) ns = has listed ns

-- Attribute Wildcard Intersection (Structures 3.10.6): it admits what both admit
abbrev pub IsIntersection : NsConstraint → NsConstraint → NsConstraint → Type 0
IsIntersection a b both = (ns : ℕ) → admits both ns ≡ (admits a ns && admits b ns)

-- Attribute Wildcard Union (Structures 3.10.6): it admits what one of them admits
abbrev pub IsUnion : NsConstraint → NsConstraint → NsConstraint → Type 0
IsUnion a b either = (ns : ℕ) → admits either ns ≡ (admits a ns || admits b ns)

-- Wildcard Subset (Structures 3.10.6): what the first admits, the second admits
abbrev pub IsSubset : NsConstraint → NsConstraint → Type 0
IsSubset a b = (ns : ℕ) → IsTrue (admits a ns) → IsTrue (admits b ns)

-- The intersection has no form: two negations of different namespaces, neither of them absent.
abbrev pub HasNoIntersection : NsConstraint → NsConstraint → Type 0
HasNoIntersection (Not x) (Not y) = (x ≢ y) × (x ≢ absent_space) × (y ≢ absent_space)
HasNoIntersection _ _ = ⊥

-- the negation of a namespace that is not absent, and a list that has the absent one and not this
abbrev pub IsAllButOne : ℕ → List ℕ → Type 0
IsAllButOne x listed = (x ≢ absent_space) × (has listed absent_space ≡ true) × (has listed x ≡ false)

-- The union has no form: such a negation and such a list, in either order.
abbrev pub HasNoUnion : NsConstraint → NsConstraint → Type 0
HasNoUnion (Not x) (In listed) = IsAllButOne x listed
HasNoUnion (In listed) (Not x) = IsAllButOne x listed
HasNoUnion _ _ = ⊥
