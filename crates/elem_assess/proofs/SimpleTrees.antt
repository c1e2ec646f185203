-- A simple type is made of simple ones alone.
use Rattle.std.proofs.Common.{◌≡◌, ℕ, zero, suc, ◌+◌, ◌<◌, true, length, List, [], ◌∷◌, Option, None, Some, map, slice_get, slice_index, refl, sym, ap, subst, ◌∙◌, arith}
use Rattle.std.specs.Prelude.{All}
use Rattle.std.proofs.lemmas.Bool.{false≢true}
use Rattle.std.proofs.lemmas.List.Elements.{All-head, All-tail}
use Rattle.xs_components.specs.Tables.{Tables}
use Rattle.xs_components.specs.declared.common.TypeId.{TypeId}
use Rattle.xs_components.specs.declared.common.TypeId.TheVariants as types
use Rattle.xs_components.specs.declared.simple.SimpleForm.{SimpleForm}
use Rattle.xs_components.specs.declared.simple.SimpleForm.TheVariants.{Restrict, ListOf, UnionOf}
use Rattle.xs_components.specs.declared.simple.SimpleType.{SimpleType}
use Rattle.component_references.specs.Heights.{first_height, IsType, IsLower}
use Rattle.component_references.specs.Ranked.{named_types, IsRanked}
use Rattle.type_derivation.specs.Derives.{is_simple}
use Rattle.type_derivation.specs.Within.{AreSimple}
use Rattle.simple_types.specs.TypeTree.{members_of}
use Rattle.simple_types.specs.Trees.{form_tree, part_tree, simple_tree, type_tree}
use Rattle.simple_types.proofs.TreeLaws.{simple_tree_is, type_tree_is}
use Rattle.simple_types.specs.SimpleTypes.{IsSimpleTree, AreSimpleTrees}

-- a part that is there is none that is not
pub there-none : {T : Type 0} (xs : List T) (n : ℕ) → n < length xs → slice_get xs n ≡ None → ⊥
there-none [] n l e = absurd (omega arith)
there-none (x ∷ xs) zero l e = cc
there-none (x ∷ xs) (suc n) l e = there-none xs n (omega arith) e

module _ (t : Tables) (ranked : IsRanked t) (simple : AreSimple t) where
  module _ (height : ℕ) (rec : (of : TypeId) → IsLower t height of → is_simple of ≡ true → IsSimpleTree (simple_tree t of)) where
    union-simple : (members : List TypeId) → All (IsLower t height) members → All (λ x. is_simple x ≡ true) members → AreSimpleTrees (members_of (map (simple_tree t) members))
    union-simple [] low are = tt
    union-simple (x ∷ xs) low are = (
      rec x (All-head (IsLower t height) x xs low) (All-head (λ x. is_simple x ≡ true) x xs are),
      union-simple xs (All-tail (IsLower t height) x xs low) (All-tail (λ x. is_simple x ≡ true) x xs are),
    )

    form-simple : (form : SimpleForm) → All (IsLower t height) (named_types form) → All (λ x. is_simple x ≡ true) (named_types form) → IsSimpleTree (form_tree (simple_tree t) form)
    form-simple (Restrict base step) low are = rec base (All-head (IsLower t height) base [] low) (All-head (λ x. is_simple x ≡ true) base [] are)
    form-simple (ListOf item) low are = rec item (All-head (IsLower t height) item [] low) (All-head (λ x. is_simple x ≡ true) item [] are)
    form-simple (UnionOf members) low are = union-simple members low are

  lower-simple : (bound : ℕ) → ((n : ℕ) → slice_index t.simples.ranks n < bound → n < length t.simples.parts → IsSimpleTree (simple_tree t (types.Simple n))) →
      (of : TypeId) → IsLower t (first_height + bound) of → is_simple of ≡ true → IsSimpleTree (simple_tree t of)
  lower-simple bound rec types.AnyType low is = absurd (false≢true is)
  lower-simple bound rec (types.Builtin kind) low is = subst IsSimpleTree (sym (simple_tree_is t ranked (types.Builtin kind))) tt
  lower-simple bound rec (types.Simple id) low is = rec id (let l = low.lower in omega arith) low.there
  lower-simple bound rec (types.Complex id) low is = absurd (false≢true is)

  entry-simple : (bound n : ℕ) → slice_index t.simples.ranks n < bound → n < length t.simples.parts → IsSimpleTree (simple_tree t (types.Simple n))
  entry-simple zero n low there = absurd (omega arith)
  entry-simple (suc bound) n low there = of (slice_get t.simples.parts n) refl (λ of lower. lower-simple bound (λ m lower there. entry-simple bound m lower there) of lower)
    where
      of : (o : Option SimpleType) → slice_get t.simples.parts n ≡ o → ((of : TypeId) → IsLower t (first_height + bound) of → is_simple of ≡ true → IsSimpleTree (simple_tree t of)) → IsSimpleTree (simple_tree t (types.Simple n))
      of None e rec = absurd (there-none t.simples.parts n there e)
      of (Some part) e rec =
          subst IsSimpleTree (sym (simple_tree_is t ranked (types.Simple n) ∙ ap (part_tree (simple_tree t)) e))
          (form-simple (first_height + slice_index t.simples.ranks n)
          (λ x lower. rec x (record { there = lower.there; lower = (let l = lower.lower in omega arith) })) part.form (ranked.simples n part e) (simple.named n part e))

  pub type-simple : (of : TypeId) → IsType t of → is_simple of ≡ true → IsSimpleTree (simple_tree t of)
  type-simple types.AnyType there is = absurd (false≢true is)
  type-simple (types.Builtin kind) there is = subst IsSimpleTree (sym (simple_tree_is t ranked (types.Builtin kind))) tt
  type-simple (types.Simple id) there is = entry-simple (suc (slice_index t.simples.ranks id)) id (omega arith) there
  type-simple (types.Complex id) there is = absurd (false≢true is)

  -- the same type, unfolded with the simple contents of complex types
  pub type-tree-simple : (of : TypeId) → IsType t of → is_simple of ≡ true → IsSimpleTree (type_tree t of)
  type-tree-simple types.AnyType there is = absurd (false≢true is)
  type-tree-simple (types.Builtin kind) there is = subst IsSimpleTree (sym (type_tree_is t ranked (types.Builtin kind))) (type-simple (types.Builtin kind) there is)
  type-tree-simple (types.Simple id) there is = subst IsSimpleTree (sym (type_tree_is t ranked (types.Simple id))) (type-simple (types.Simple id) there is)
  type-tree-simple (types.Complex id) there is = absurd (false≢true is)
