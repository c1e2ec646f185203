-- A component's table by those of the components that it is made of.
use Rattle.std.proofs.Common.{◌≡◌, ℕ, ◌+◌, ◌<◌, inl, inr, Bool, List, Option, None, Some, Result, Ok, Err, length, get_or, slice_get, slice_index, refl, sym, ap, subst, ◌∙◌, arith}
use Rattle.std.specs.Prelude.{All}
use Rattle.std.proofs.lemmas.Bool.{cases_lt}
use Rattle.std.proofs.lemmas.Option.{slice_get_past}
use Rattle.std.proofs.lemmas.List.Elements.{All-nil, All-weaker, All-from_get_or}
use Rattle.xs_codes.specs.declared.fault.Fault.{Fault}
use Rattle.xs_components.specs.Tables.{Tables}
use Rattle.xs_components.specs.declared.common.TypeId.{TypeId}
use Rattle.xs_components.specs.declared.common.TypeId.TheVariants.{AnyType, Builtin, Simple, Complex}
use Rattle.xs_components.specs.declared.complex.ComplexType.{ComplexType}
use Rattle.xs_components.specs.declared.attr_group.AttrGroupDef.{AttrGroupDef}
use Rattle.component_references.specs.Heights.{IsType, IsLower, first_height}
use Rattle.component_references.specs.Ranked.{IsBelow, IsRanked}
use Rattle.attr_uses.specs.declared.entry.UseHolder.TheVariants.{Complex as OfType, AttrGroup as OfGroup}
use Rattle.attr_uses.specs.Written.{own_of_type, own_of_group, own_parts}
use Rattle.attr_uses.specs.Uses.{AttrUses, group_uses, uses_with_groups, with_own, with_base_of, with_base, type_part, uses_of}
use Rattle.attr_uses.specs.Tables.{StandsFor, Answers, IsAnswer, AreTablesOf}
use Rattle.attr_uses.specs.inside.Kept.{Keeps, IsAnswerAt, IsKnown, AreBelow, IsGroupAnswer, IsTypeAnswer, AreGroups}
use Rattle.attr_uses.specs.declared.store.KeptTable.{KeptTable}
use Rattle.attr_uses.specs.declared.store.Store.{Store}
use Rattle.attr_uses.specs.declared.tables.AttrTables.{AttrTables}
use Rattle.attr_uses.proofs.DefLaws.{uses_of_is, group-past}
use Rattle.attr_uses.proofs.KeptLaws.{answer-kept}
use Rattle.attr_uses.proofs.MadeLaws.{answer-there}

module _ (t : Tables) (ids : List Bool) (store : Store) where
  pub answer-ok : (table : KeptTable) (v : Result AttrUses Fault) → Answers t ids store (Ok table) v → (a : AttrUses) × (v ≡ Ok a) × StandsFor t ids store table a
  answer-ok table (Ok a) is = (a, refl, is)
  answer-ok table (Err f) is = absurd is

  pub answer-err : (fault : Fault) (v : Result AttrUses Fault) → Answers t ids store (Err fault) v → v ≡ Err fault
  answer-err fault (Ok a) is = absurd is
  answer-err fault (Err f) is = ap Err (sym is)

  pub fault-is : (fault : Fault) (v : Result AttrUses Fault) → v ≡ Err fault → Answers t ids store (Err fault) v
  fault-is fault v e = subst (Answers t ids store (Err fault)) (sym e) refl

  -- the groups that an attribute group refers to
  pub group-answers : (groups : List (Result KeptTable Fault)) (n : ℕ) → IsRanked t → AreBelow (length t.attr_groups.parts) t.attr_groups.ranks (slice_index t.attr_groups.ranks n) (IsGroupAnswer t ids store groups) →
      All (λ g. IsAnswerAt t ids store (slice_get groups g) (group_uses t g)) (own_parts t (OfGroup n)).groups
  group-answers groups n ranked below = of (slice_get t.attr_groups.parts n) refl
    where
      of : (o : Option AttrGroupDef) → slice_get t.attr_groups.parts n ≡ o → All (λ g. IsAnswerAt t ids store (slice_get groups g) (group_uses t g)) (own_of_group o).groups
      of None e = All-nil (λ g. IsAnswerAt t ids store (slice_get groups g) (group_uses t g))
      of (Some part) e =
          All-weaker (IsBelow t.attr_groups (slice_index t.attr_groups.ranks n)) (λ g. IsAnswerAt t ids store (slice_get groups g) (group_uses t g))
          (λ g low. answer-there t ids store (slice_get groups g) (group_uses t g) (below g low.there low.lower)) part.groups (ranked.attr_groups n part e)

  any-answer : (groups : List (Result KeptTable Fault)) → AreGroups t ids store groups → (g : ℕ) → IsAnswerAt t ids store (slice_get groups g) (group_uses t g)
  any-answer groups are g = elim (cases_lt g (length t.attr_groups.parts)) [
    | inl l ↦ answer-there t ids store (slice_get groups g) (group_uses t g) (are.each g l)
    | inr l ↦ (let alike = are.alike in
        subst (λ o. IsAnswerAt t ids store o (group_uses t g)) (sym (slice_get_past groups g (omega arith))) (group-past t g l))
  ]

  -- the groups that a complex type refers to
  pub type-answers : (groups : List (Result KeptTable Fault)) (xs : List ℕ) → AreGroups t ids store groups → All (λ g. IsAnswerAt t ids store (slice_get groups g) (group_uses t g)) xs
  type-answers groups xs are = All-from_get_or (λ g. IsAnswerAt t ids store (slice_get groups g) (group_uses t g)) xs 0 (λ i h. any-answer groups are (get_or xs i 0))

-- the base of a complex type
pub base-known : (t : Tables) (ids : List Bool) (a b : Store) → Keeps a b → (types : List (Result KeptTable Fault)) (n : ℕ) (part : ComplexType) → IsRanked t → slice_get t.complexes.parts n ≡ Some part →
    AreBelow (length t.complexes.parts) t.complexes.ranks (slice_index t.complexes.ranks n) (IsTypeAnswer t ids a types) → IsKnown t ids b types part.base
base-known t ids a b k types n part ranked e below = of part.base (ranked.complexes n part e)
  where
    of : (of' : TypeId) → IsLower t (first_height + slice_index t.complexes.ranks n) of' → IsKnown t ids b types of'
    of AnyType low = tt
    of (Builtin x) low = tt
    of (Simple id) low = tt
    of (Complex id) low =
        let l = low.lower in
        answer-kept t ids a b k (slice_get types id) (uses_of t (Complex id)) (below id low.there (omega arith))

pub known-of : (t : Tables) (ids : List Bool) (tables : AttrTables) (of' : TypeId) → AreTablesOf t ids tables → IsType t of' → IsKnown t ids tables.store tables.types of'
known-of t ids tables AnyType are is = tt
known-of t ids tables (Builtin x) are is = tt
known-of t ids tables (Simple id) are is = tt
known-of t ids tables (Complex id) are is = are.types id is

-- a complex type by its own parts and its base
module _ (t : Tables) (ranked : IsRanked t) (n : ℕ) (part : ComplexType) (there : n < length t.complexes.parts) (is : slice_get t.complexes.parts n ≡ Some part) where
  split : uses_of t (Complex n) ≡ with_own t part (uses_with_groups (group_uses t) (OfType n) (own_parts t (OfType n))) (uses_of t part.base)
  split =
      uses_of_is t ranked (Complex n) there ∙
      (ap (type_part t (uses_of t) n) is ∙
      ap (λ o. with_own t part (uses_with_groups (group_uses t) (OfType n) (own_of_type o)) (uses_of t part.base)) (sym is))

  pub type-refused : (fault : Fault) → uses_with_groups (group_uses t) (OfType n) (own_parts t (OfType n)) ≡ Err fault → uses_of t (Complex n) ≡ Err fault
  type-refused fault e = split ∙ ap (λ v. with_own t part v (uses_of t part.base)) e

  pub base-refused : (a : AttrUses) (fault : Fault) → uses_with_groups (group_uses t) (OfType n) (own_parts t (OfType n)) ≡ Ok a → uses_of t part.base ≡ Err fault → uses_of t (Complex n) ≡ Err fault
  base-refused a fault e f = split ∙ (ap (λ v. with_own t part v (uses_of t part.base)) e ∙ ap (with_base_of t part a) f)

  pub type-made : (a b : AttrUses) → uses_with_groups (group_uses t) (OfType n) (own_parts t (OfType n)) ≡ Ok a → uses_of t part.base ≡ Ok b → uses_of t (Complex n) ≡ with_base t part a b
  type-made a b e f = split ∙ (ap (λ v. with_own t part v (uses_of t part.base)) e ∙ ap (with_base_of t part a) f)

-- a complex type whose number was looked up
module _ (t : Tables) (ids : List Bool) (store : Store) (types : List (Result KeptTable Fault)) (of' : TypeId) (id : ℕ) (is : of' ≡ Complex id) (n : ℕ) (same : n ≡ id) where
  known-complex : (o : Option (Result KeptTable Fault)) → o ≡ slice_get types n → IsKnown t ids store types of' → IsAnswer t ids store o (uses_of t (Complex id))
  known-complex o e k = subst (λ x. IsAnswer t ids store x (uses_of t (Complex id))) (sym (e ∙ ap (slice_get types) same)) (subst (IsKnown t ids store types) is k)

  pub known-there : (answer : Result KeptTable Fault) → Some answer ≡ slice_get types n → IsKnown t ids store types of' → Answers t ids store answer (uses_of t of')
  known-there answer e k = subst (λ x. Answers t ids store answer (uses_of t x)) (sym is) (known-complex (Some answer) e k)

  pub known-missing : None ≡ slice_get types n → (answer : Result KeptTable Fault) → IsKnown t ids store types of' → Answers t ids store answer (uses_of t of')
  known-missing e answer k = absurd (known-complex None e k)
