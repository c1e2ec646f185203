-- A set with more names.
use Rattle.std.proofs.Common.{ℕ, ◌<◌, ◌≤◌, Option, None, Some, IfSome, length, arith}
use Rattle.std.proofs.lemmas.List.Elements.{All-weaker}
use Rattle.xs_names.specs.Names.{NameTable, Grown}
use Rattle.xs_names.proofs.GrownLaws.{Grown-trans}
use Rattle.xs_components.specs.Tables.{Tables}
use Rattle.xs_components.specs.declared.attribute.AttributeDecl.{AttributeDecl}
use Rattle.content_models.specs.declared.automaton.ContentAutomaton.{ContentAutomaton}
use Rattle.compiled_schema.specs.declared.compiled.Compiled.{Compiled}
use Rattle.compiled_schema.specs.Usable.{AreNamed, HasModelOver, AreModels, IsUsable}

below-more : (old new n : ℕ) → old ≤ new → n < old → n < new
below-more old new n le l = omega (arith, le, l)

name-more : (old new : ℕ) (name : Option ℕ) → old ≤ new → IfSome name (λ n. n < old) → IfSome name (λ n. n < new)
name-more old new None le h = h
name-more old new (Some n) le h = below-more old new n le h

named-more : (old new : NameTable) (t : Tables) → Grown old new → AreNamed old t → AreNamed new t
named-more old new t g h = record {
  elements = λ n part at. below-more _ _ part.name g.more_names (h.elements n part at);
  simples = λ n part at. name-more _ _ part.name g.more_names (h.simples n part at);
  complexes = λ n part at. name-more _ _ part.name g.more_names (h.complexes n part at);
  attributes = All-weaker (λ (decl : AttributeDecl). decl.name < length old.names) (λ (decl : AttributeDecl). decl.name < length new.names)
      (λ decl l. below-more _ _ decl.name g.more_names l) t.attributes.parts h.attributes;
}

module _ (c : Compiled) (new : NameTable) where
  model-more : (first : NameTable) (n : ℕ) (model : Option ContentAutomaton) → HasModelOver first c n model → HasModelOver first (record c { names = new }) n model
  model-more first n None h = h
  model-more first n (Some a) h = (h.0, h.1, record { there = h.2.there; built = h.2.built; unambiguous = h.2.unambiguous })

  pub models-more : (first : NameTable) → AreModels c first → Grown c.names new → AreModels (record c { names = new }) first
  models-more first h g = record {
    grown = Grown-trans first c.names new h.grown g;
    once = h.once;
    named = h.named;
    each = h.each;
    contents_each = h.contents_each;
    are = λ n model at. model-more first n model (h.are n model at);
  }

  pub usable-more : IsUsable c → Grown c.names new → IsUsable (record c { names = new })
  usable-more h g = record {
    named = named-more c.names new c.parts g h.named;
    view = h.view;
    judging = h.judging;
    attributes = h.attributes;
    attribute_types = h.attribute_types;
    known_uses = h.known_uses;
    groups = h.groups;
    classes_are = h.classes_are;
    first = h.first;
    models_are = models-more h.first h.models_are g;
    identities_are = h.identities_are;
  }
