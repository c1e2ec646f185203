-- The components that are built of representations have their names.
use Rattle.std.proofs.Common.{ℕ, ◌<◌, Bool, true, false, List, [], ◌∷◌, Option, None, Some, Ok, suc, sym, subst}
use Rattle.std.specs.Prelude.{All, IfSome, if◌then◌else◌}
use Rattle.std.specs.List.{flat_map}
use Rattle.std.proofs.lemmas.List.Elements.{All-nil, All-head, All-tail, All-append}
use Rattle.std.proofs.lemmas.Option.{none-some}
use Rattle.xs_names.specs.Names.{NameTable, no_names}
use Rattle.xs_names.specs.Numbering.{HasNoRepeats}
use Rattle.xs_components.specs.Tables.{Tables}
use Rattle.xs_components.specs.declared.attribute.AttributeDecl.{AttributeDecl}
use Rattle.xs_components.specs.declared.common.Place.{Place}
use Rattle.xs_components.specs.declared.common.TypeId.{TypeId}
use Rattle.xs_components.specs.declared.complex.ComplexType.{ComplexType}
use Rattle.xs_components.specs.declared.element.ElementDecl.{ElementDecl}
use Rattle.xs_components.specs.declared.simple.SimpleType.{SimpleType}
use Rattle.component_references.specs.Circles.{Ranks, with_all_ranks}
use Rattle.type_derivation.specs.Cycles.{IsGrown}
use Rattle.schema_set.specs.declared.documents.SetDocument.{SetDocument}
use Rattle.representations.specs.declared.parts.AttributeRepresentation.{AttributeRepresentation}
use Rattle.representations.specs.declared.parts.ElementRepresentation.{ElementRepresentation}
use Rattle.representations.specs.declared.parts.Representation.{Representation}
use Rattle.representations.specs.declared.parts.Represented.{Represented}
use Rattle.representations.specs.declared.parts.Represented.TheVariants as parts
use Rattle.representations.specs.declared.source.Source.{Source}
use Rattle.set_representations.specs.Documents.{representations, set_table}
use Rattle.build_types.specs.SimpleTypes as simple
use Rattle.build_types.specs.Declarations as attributes
use Rattle.build_components.specs.Complexes as complex
use Rattle.build_components.specs.Elements.{declared, elements_by, elements_of, head_of}
use Rattle.build_components.specs.Elements as elements
use Rattle.build_components.specs.declared.constraints.ConstraintNumbers.{ConstraintNumbers}
use Rattle.build_components.specs.Built as built
use Rattle.schema_check.specs.Components.{all_names}
use Rattle.schema_check.specs.SetPhases.{names, AreParts, IsSetCompiled}
use Rattle.schema_check.specs.declared.documents.CompiledSet.{CompiledSet}
use Rattle.build_components.proofs.ListLaws.{all-one, all-at}
use Rattle.compiled_schema.specs.Usable.{AreNamed}
use Rattle.schema_compile.proofs.VersionLaws.{versions-more, versions-numbered}
use Rattle.schema_compile.proofs.TableLaws.{count, set-more}
use Rattle.schema_compile.proofs.FillLaws.{set-fills}
use Rattle.schema_compile.proofs.FormLaws.{HasNumber, HaveNumbers, all-numbered}

-- what is built of each representation of a kind
module _ {A X : Type 0} (P : X → Type 0) (Q : A → Type 0) (f : A → List X) (one : (a : A) → Q a → All P (f a)) where
  all-by : (each : List A) → All Q each → All P (flat_map f each)
  all-by [] h = All-nil P
  all-by (a ∷ each) h = All-append P (f a) (flat_map f each) (one a (All-head Q a each h)) (all-by each (All-tail Q a each h))

module _ (t : NameTable) where
  abbrev IsElementNamed : ElementDecl → Type 0
  IsElementNamed part = part.name < count t

  abbrev IsAttributeNamed : AttributeDecl → Type 0
  IsAttributeNamed part = part.name < count t

  abbrev IsSimpleNamed : SimpleType → Type 0
  IsSimpleNamed part = IfSome part.name (λ n. n < count t)

  abbrev IsComplexNamed : ComplexType → Type 0
  IsComplexNamed part = IfSome part.name (λ n. n < count t)

  abbrev IsRepNamed : Representation → Type 0
  IsRepNamed rep = HasNumber t rep.form

  module _ (source : Source) (ids : List TypeId) where
    module _ (constraints : ConstraintNumbers) where
      declared-named : (element : ElementRepresentation) (rep : Representation) (name head : Option ℕ) → IfSome name (λ n. n < count t) → All IsElementNamed (declared source ids constraints element rep name head)
      declared-named element rep None head h = All-nil IsElementNamed
      declared-named element rep (Some name) head h = all-one IsElementNamed (elements.declaration source ids constraints element rep name head) h

      element-named : (form : Represented) (rep : Representation) (head : Option ℕ) → HasNumber t form → All IsElementNamed (elements_by source ids constraints form rep head)
      element-named (parts.Element element) rep head h = declared-named element rep element.name head h
      element-named _ rep head h = All-nil IsElementNamed

      elements-named : (numbers : List (Option ℕ)) (reps : List Representation) → HaveNumbers t reps → All IsElementNamed (flat_map (elements_of source ids constraints numbers) reps)
      elements-named numbers reps h =
          all-by IsElementNamed IsRepNamed (elements_of source ids constraints numbers) (λ rep. element-named rep.form rep (head_of source numbers rep)) reps h

    unless-prohibited : (is : Bool) (part : AttributeDecl) → IsAttributeNamed part → All IsAttributeNamed (if is then [] else part ∷ [])
    unless-prohibited true part h = All-nil IsAttributeNamed
    unless-prohibited false part h = all-one IsAttributeNamed part h

    declared-attribute : (attribute : AttributeRepresentation) (rep : Representation) (name : Option ℕ) → IfSome name (λ n. n < count t) → All IsAttributeNamed (attributes.declared source ids attribute rep name)
    declared-attribute attribute rep None h = All-nil IsAttributeNamed
    declared-attribute attribute rep (Some name) h = unless-prohibited attribute.prohibited (attributes.declaration source ids attribute rep name) h

    attribute-named : (form : Represented) (rep : Representation) → HasNumber t form → All IsAttributeNamed (attributes.attributes_by source ids form rep)
    attribute-named (parts.Attribute attribute) rep h = declared-attribute attribute rep attribute.name h
    attribute-named _ rep h = All-nil IsAttributeNamed

    attributes-named : (reps : List Representation) → HaveNumbers t reps → All IsAttributeNamed (flat_map (attributes.attributes_of source ids) reps)
    attributes-named reps h = all-by IsAttributeNamed IsRepNamed (attributes.attributes_of source ids) (λ rep. attribute-named rep.form rep) reps h

    simple-named : (form : Represented) (at : Place) (members : List ℕ) → HasNumber t form → All IsSimpleNamed (simple.simples_by source ids form at members)
    simple-named (parts.SimpleType name finals) at members h =
        all-one IsSimpleNamed (record { name = name; at = at; finals = finals; form = simple.simple_form source ids members }) h
    simple-named _ at members h = All-nil IsSimpleNamed

    simples-named : (reps : List Representation) → HaveNumbers t reps → All IsSimpleNamed (flat_map (simple.simples_of source ids) reps)
    simples-named reps h = all-by IsSimpleNamed IsRepNamed (simple.simples_of source ids) (λ rep. simple-named rep.form rep.at rep.members) reps h

    module _ (attributes groups particles : List (Option ℕ)) where
      complex-named : (form : Represented) (place : ℕ) (rep : Representation) → HasNumber t form → All IsComplexNamed (complex.complexes_by source ids attributes groups particles form place rep)
      complex-named (parts.ComplexType head) place rep h = λ n part l. all-one IsComplexNamed _ h n part l
      complex-named _ place rep h = All-nil IsComplexNamed

      complexes-named : (place : ℕ) (reps : List Representation) → HaveNumbers t reps → All IsComplexNamed (complex.complexes_from source ids attributes groups particles place reps)
      complexes-named place [] h = All-nil IsComplexNamed
      complexes-named place (rep ∷ reps) h =
          All-append IsComplexNamed (complex.complexes_by source ids attributes groups particles rep.form place rep)
          (complex.complexes_from source ids attributes groups particles (suc place) reps)
          (complex-named rep.form place rep (All-head IsRepNamed rep reps h))
          (complexes-named (suc place) reps (All-tail IsRepNamed rep reps h))

  built-named : (source : Source) → HaveNumbers t source.reps.now → AreNamed t (built.built source)
  built-named source h = record {
    elements = all-at IsElementNamed (elements.elements source (built.types source) (built.constraint_numbers source) 0)
        (elements-named source (built.types source) (built.constraint_numbers source) (built.element_numbers source) source.reps.now h);
    simples = all-at IsSimpleNamed (simple.simple_types source (built.types source)) (simples-named source (built.types source) source.reps.now h);
    complexes = all-at IsComplexNamed (built.complex_types source)
        (complexes-named source (built.types source) (built.attribute_numbers source) (built.attr_group_numbers source) (built.particles source).numbers 0 source.reps.now h);
    attributes = attributes-named source (built.types source) source.reps.now h;
  }

  grown-named : (old new : Tables) (ranks : Ranks) → IsGrown (with_all_ranks old ranks) new → AreNamed t old → AreNamed t new
  grown-named old new ranks g h =
      subst (AreNamed t) (sym g.tables) (record { elements = h.elements; simples = h.simples; complexes = h.complexes; attributes = h.attributes })

set-numbered : (ds : List SetDocument) → HaveNumbers (set_table no_names ds) (representations (set_table no_names ds) ds)
set-numbered ds = all-numbered (set_table no_names ds) 0 1 ds (set-fills ds no_names)

-- the names of the documents and of originals
module _ (ds : List SetDocument) (originals : List (Option ℕ)) where
  own : NameTable
  own = set_table no_names ds

  parts-named : (old : Tables) → AreParts ds originals old → AreNamed (all_names own ds originals) old
  unfolding AreParts own
  parts-named old are =
      subst (AreNamed (all_names own ds originals)) (sym are.4)
      (built-named (all_names own ds originals) are.0
      (subst (HaveNumbers (all_names own ds originals)) (sym are.1) (versions-numbered own (representations own ds) originals (set-numbered ds))))

  pub set-named : (made : CompiledSet) → IsSetCompiled ds originals (Ok made) → AreNamed made.names made.parts
  unfolding names own
  set-named made is =
      let old = is.1.1 in
      let same = is.1.3.same in
      subst (λ (t : NameTable). AreNamed t made.parts) (sym is.1.0)
      (grown-named (all_names own ds originals) old made.parts same.0 same.1.filled.grown (parts-named old is.1.2))

  pub set-once : (made : CompiledSet) → IsSetCompiled ds originals (Ok made) → HasNoRepeats made.names.names
  unfolding names own
  set-once made is =
      subst (λ (t : NameTable). HasNoRepeats t.names) (sym is.1.0)
      ((versions-more own (representations own ds) originals).once ((set-more ds no_names).once (λ i j x s t. absurd (none-some x s))))
