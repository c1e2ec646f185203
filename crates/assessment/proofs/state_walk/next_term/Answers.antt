use Rattle.particle_forms.specs.Models.{model_of}
use Rattle.particle_forms.specs.Accepted.{accepts}
use Rattle.content_models.specs.Terms.{model_terms}
use Rattle.assessment.proofs.Walking.{next-first, next-stuck, states-first}
use Rattle.assessment.proofs.state_walk.next_term.Goals as goal
use Rattle.assessment.proofs.state_walk.next_term.Goals.{else-begins-via-then-begins+else-ambivalent, else-begins-via-else-begins}

pub returns-else-begins : goal.returns-else-begins
returns-else-begins c = λ s p before name kept at e lives.
    let first = states-first s p before name c.first_term.result c.args.automaton.now kept (c.first_term.ensures s.names (model_terms s.members s.parts s.classes p) (accepts s.names s.members s.parts) (model_of s.parts p) kept.built.1 name e) in
    elim c.else-begins.branch [
      | else-begins-via-then-begins+else-ambivalent w ↦
          next-first s p before name c.first_term.result w.ambivalent.result w.if-ambivalent.false (w.ambivalent.ensures s.names (model_terms s.members s.parts s.classes p) (accepts s.names s.members s.parts) (model_of s.parts p) kept.built.1 name e) first
      | else-begins-via-else-begins w ↦ next-stuck s p before name c.first_term.result c.args.begins w.if-begins.false lives first
    ]
