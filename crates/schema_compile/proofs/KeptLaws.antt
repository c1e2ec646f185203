-- What is true of components stays so when ranks are given, contents are set and particles are added.
use Rattle.std.proofs.Common.{◌≡◌, ℕ, ◌<◌, List, Option, None, Some, true, length, sym, ap, subst, ◌∙◌}
use Rattle.std.specs.Prelude.{IfSome, slice_get}
use Rattle.xs_codes.specs.declared.fault.Fault.{Fault}
use Rattle.xs_components.specs.Tables.{Tables}
use Rattle.xs_components.specs.declared.attribute.AttributeDecl.{AttributeDecl}
use Rattle.xs_components.specs.declared.common.TypeId.{TypeId}
use Rattle.xs_components.specs.declared.common.TypeId.TheVariants.{AnyType, Builtin, Simple, Complex}
use Rattle.xs_components.specs.declared.complex.ComplexType.{ComplexType}
use Rattle.xs_components.specs.declared.complex.ContentForm.{ContentForm}
use Rattle.xs_components.specs.declared.complex.ContentForm.TheVariants as forms
use Rattle.xs_components.specs.declared.element.ElementDecl.{ElementDecl}
use Rattle.xs_components.specs.declared.simple.FacetItem.{FacetItem}
use Rattle.xs_components.specs.declared.simple.SimpleType.{SimpleType}
use Rattle.component_references.specs.Heights.{IsType}
use Rattle.component_tables.specs.declared.content_types.ContentType.{ContentType}
use Rattle.type_derivation.specs.Derives.{is_simple}
use Rattle.type_derivation.specs.Bases.{IsWrongBase}
use Rattle.type_derivation.specs.Contents.{HasContent, of_any, of_built_in, of_simple, own, inherited}
use Rattle.component_references.specs.Circles.{Ranks, with_all_ranks}
use Rattle.type_derivation.specs.Cycles.{IsGrown}
use Rattle.build_components.specs.There.{AreThere, own_type}
use Rattle.schema_check.specs.Simple.{AreTypesSimple}
use Rattle.elem_assess.specs.Own.{AreOwnSimple}

-- two sets of tables have the same types, elements and attributes
pub record AreAlike (old new : Tables) : Type 0 where
  pub simples : new.simples.parts ≡ old.simples.parts
  pub complexes : new.complexes.parts ≡ old.complexes.parts
  pub elements : new.elements.parts ≡ old.elements.parts
  pub attributes : new.attributes.parts ≡ old.attributes.parts

pub grown-alike : (old new : Tables) (ranks : Ranks) → IsGrown (with_all_ranks old ranks) new → AreAlike old new
grown-alike old new ranks g = record {
  simples = ap (λ (t : Tables). t.simples.parts) g.tables;
  complexes = ap (λ (t : Tables). t.complexes.parts) g.tables;
  elements = ap (λ (t : Tables). t.elements.parts) g.tables;
  attributes = ap (λ (t : Tables). t.attributes.parts) g.tables;
}

module _ (old new : Tables) (alike : AreAlike old new) where
  pub type-kept : (of : TypeId) → IsType old of → IsType new of
  type-kept AnyType is = tt
  type-kept (Builtin b) is = tt
  type-kept (Simple id) is = subst (λ (xs : List SimpleType). id < length xs) (sym alike.simples) is
  type-kept (Complex id) is = subst (λ (xs : List ComplexType). id < length xs) (sym alike.complexes) is

  some-kept : (of : Option TypeId) → IfSome of (IsType old) → IfSome of (IsType new)
  some-kept None is = tt
  some-kept (Some of) is = type-kept of is

  pub element-types : AreThere old → (n : ℕ) (part : ElementDecl) → slice_get new.elements.parts n ≡ Some part → IfSome part.of (IsType new)
  element-types there n part at = some-kept part.of (there.element_types n part (sym (ap (λ (xs : List ElementDecl). slice_get xs n) alike.elements) ∙ at))

  pub attribute-types : AreThere old → (n : ℕ) (decl : AttributeDecl) → slice_get new.attributes.parts n ≡ Some decl → IsType new decl.of
  attribute-types there n decl at = type-kept decl.of (there.attribute_types n decl (sym (ap (λ (xs : List AttributeDecl). slice_get xs n) alike.attributes) ∙ at))

  complex-was : (n : ℕ) (part : ComplexType) → slice_get new.complexes.parts n ≡ Some part → slice_get old.complexes.parts n ≡ Some part
  complex-was n part at = sym (ap (λ (xs : List ComplexType). slice_get xs n) alike.complexes) ∙ at

  -- a base of the wrong kind was one before
  content-was : (of : TypeId) (content : ContentType) → HasContent new of content → HasContent old of content
  content-was _ _ of_any = of_any
  content-was _ _ (of_built_in kind) = of_built_in kind
  content-was _ _ (of_simple id) = of_simple id
  content-was _ _ (own id part content at told) = own id part content (complex-was id part at) told
  content-was _ _ (inherited id part base at below) = inherited id part base (complex-was id part at) (content-was part.base base below)

  pub wrong-was : (fault : Fault) → IsWrongBase new fault → IsWrongBase old fault
  wrong-was fault is = (is.0, is.1, is.2, is.3, complex-was is.0 is.1 is.4, content-was is.1.base is.2 is.5, is.6, is.7)

  -- the simple types that stand in simple contents
  type-at : (of : TypeId) (content : ContentForm) (step : List FacetItem) → content ≡ forms.Simple (Some of) step → (P : TypeId → Type 0) → IfSome (own_type content) P → P of
  type-at of content step is P h = subst (λ (c : ContentForm). IfSome (own_type c) P) is h

  pub own-simple : AreThere old → AreTypesSimple new → AreOwnSimple new
  own-simple there simple = λ n part of step at is. record {
    there = type-kept of (type-at of part.content step is (IsType old) (there.own_types n part (complex-was n part at)));
    simple = type-at of part.content step is (λ x. is_simple x ≡ true) (simple.contents n part at);
  }
