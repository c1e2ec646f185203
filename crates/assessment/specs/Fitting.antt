-- The automaton that stands for the content model of a type.
use Rattle.std.specs.Prelude.{ℕ, ⊤, Option, None, Some}
use Rattle.xs_names.specs.Names.{NameTable, Grown}
use Rattle.particle_forms.specs.Models.{model_of}
use Rattle.particle_forms.specs.Accepted.{accepts}
use Rattle.content_automaton.specs.Recognized.{IsUnambiguous}
use Rattle.content_models.specs.Built.{IsBuilt}
use Rattle.content_models.specs.declared.automaton.ContentAutomaton.{ContentAutomaton}
use Rattle.schema_models.specs.Named.{AreNamed}
use Rattle.assessment.specs.Attribution.{SchemaSet}

module _ (s : SchemaSet) where
  -- The automaton was built for the content model of a particle, over names from which those of the schema set have grown; and the
  -- content model is not ambiguous (cos-nonambig, Structures 3.8.6).
  pub record IsAutomatonFor (p : ℕ) (a : ContentAutomaton) : Type 0 where
    pub old : NameTable
    pub grown : Grown old s.names
    pub named : AreNamed old s.members
    pub built : IsBuilt old s.parts s.members s.classes p a
    pub unambiguous : IsUnambiguous (accepts old s.members s.parts) (model_of s.parts p)

  -- there is an automaton exactly where there is a particle, and it is that of its content model
  abbrev pub Fits : Option ℕ → Option ContentAutomaton → Type 0
  Fits None None = ⊤
  Fits None (Some a) = ⊥
  Fits (Some p) None = ⊥
  Fits (Some p) (Some a) = IsAutomatonFor p a
