-- When an element or a wildcard restricts one (Structures 3.9.6, Particle Valid (Restriction)).
use Rattle.std.specs.Prelude.{◌≡◌, ℕ, ◌==◌, Bool, true, IsTrue, ⊤, ◌⊎◌, List, Option, None, Some, IfSome}
use Rattle.std.specs.List.{list_all, list_any}
use Rattle.xs_components.specs.Sets.{admits, IsSubset}
use Rattle.xs_components.specs.declared.common.TypeId.{TypeId}
use Rattle.xs_components.specs.declared.common.Methods.{Methods}
use Rattle.xs_components.specs.declared.common.Process.{Process}
use Rattle.xs_components.specs.declared.common.Process.TheVariants.{Strict, Lax, Skip}
use Rattle.particle_models.specs.declared.part.Bounds.{Bounds}
use Rattle.particle_restrict.specs.Occurrence.{IsRangeOk}
use Rattle.particle_restrict.specs.declared.terms.Declaration.{Declaration}
use Rattle.particle_restrict.specs.declared.terms.Space.{Space}
use Rattle.particle_restrict.specs.declared.terms.Term.{Term}
use Rattle.particle_restrict.specs.declared.terms.Term.TheVariants.{Element, Any}

-- a set of methods has each method of another
pub record IsSuperset (methods of : Methods) : Type 0 where
  pub extension : IsTrue of.extension → IsTrue methods.extension
  pub restriction : IsTrue of.restriction → IsTrue methods.restriction
  pub substitution : IsTrue of.substitution → IsTrue methods.substitution
  pub by_list : IsTrue of.by_list → IsTrue methods.by_list
  pub by_union : IsTrue of.by_union → IsTrue methods.by_union

-- strict is stronger than lax, and lax than skip
abbrev pub IsAsStrong : Process → Process → Type 0
IsAsStrong Strict base = ⊤
IsAsStrong Lax Strict = ⊥
IsAsStrong Lax Lax = ⊤
IsAsStrong Lax Skip = ⊤
IsAsStrong Skip Strict = ⊥
IsAsStrong Skip Lax = ⊥
IsAsStrong Skip Skip = ⊤

-- each of these numbers is among those
abbrev pub are_among : List ℕ → List ℕ → Bool
are_among ids listed = list_all (λ id. list_any (λ x. x == id) listed) ids

-- The names are the same, the element is nillable only where the base is, a fixed value of the base is kept, the identity
-- constraints are a subset of the base's, and the blocked methods a superset.
pub record KeepsProperties (element base : Declaration) : Type 0 where
  pub name : element.name ≡ base.name
  pub nillable : IsTrue element.nillable → IsTrue base.nillable
  pub fixed : IfSome base.fixed (λ value. element.fixed ≡ Some value)
  pub constraints : IsTrue (are_among element.constraints base.constraints)
  pub blocks : IsSuperset element.blocks base.blocks

module _ (derives : TypeId → TypeId → Bool) where
  -- rcase-NameAndTypeOK (Structures 3.9.6): an element over an element.
  pub record IsNameAndTypeOk (bounds : Bounds) (element : Declaration) (base_bounds : Bounds) (base : Declaration) : Type 0 where
    pub properties : KeepsProperties element base
    pub range : IsRangeOk bounds.least bounds.most base_bounds
    pub of : derives element.of base.of ≡ true

-- rcase-NSCompat (Structures 3.9.6): an element over a wildcard.
pub record IsNsCompat (bounds : Bounds) (element : Declaration) (base_bounds : Bounds) (base : Space) : Type 0 where
  pub admitted : IsTrue (admits base.wildcard.namespaces element.space)
  pub range : IsRangeOk bounds.least bounds.most base_bounds

-- rcase-NSSubset (Structures 3.9.6): a wildcard over a wildcard.
pub record IsNsSubset (bounds : Bounds) (space : Space) (base_bounds : Bounds) (base : Space) : Type 0 where
  pub range : IsRangeOk bounds.least bounds.most base_bounds
  pub subset : IsSubset space.wildcard.namespaces base.wildcard.namespaces
  pub process : IsTrue base.of_any_type ⊎ IsAsStrong space.wildcard.process base.wildcard.process

-- the term is an element
abbrev pub IsElement : Option Term → Type 0
IsElement None = ⊥
IsElement (Some (Element element)) = ⊤
IsElement (Some (Any space)) = ⊥

module _ (derives : TypeId → TypeId → Bool) where
  -- an element or a wildcard over one; a wildcard over an element is forbidden
  abbrev pub TermRestricts : Bounds → Term → Bounds → Term → Type 0
  TermRestricts bounds (Element element) base_bounds (Element base) = IsNameAndTypeOk derives bounds element base_bounds base
  TermRestricts bounds (Element element) base_bounds (Any base) = IsNsCompat bounds element base_bounds base
  TermRestricts bounds (Any space) base_bounds (Element base) = ⊥
  TermRestricts bounds (Any space) base_bounds (Any base) = IsNsSubset bounds space base_bounds base

  -- the same where the terms are given by numbers; a number without a term accepts nothing
  abbrev pub TermsRestrict : Bounds → Option Term → Bounds → Option Term → Type 0
  TermsRestrict bounds None base_bounds base = ⊥
  TermsRestrict bounds (Some term) base_bounds None = ⊥
  TermsRestrict bounds (Some term) base_bounds (Some base) = TermRestricts bounds term base_bounds base

-- the term is a wildcard
abbrev pub IsWildcard : Option Term → Type 0
IsWildcard None = ⊥
IsWildcard (Some (Element element)) = ⊥
IsWildcard (Some (Any space)) = ⊤
