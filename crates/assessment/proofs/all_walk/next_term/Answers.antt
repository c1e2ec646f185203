use Rattle.particle_forms.specs.Models.{model_of}
use Rattle.particle_forms.specs.Accepted.{accepts}
use Rattle.content_models.specs.Terms.{model_terms}
use Rattle.content_models.specs.declared.automaton.ContentAutomaton.TheVariants.{All}
use Rattle.assessment.proofs.Walking.{next-at, next-first, next-stuck, all-first, member-at}
use Rattle.assessment.proofs.all_walk.next_term.Goals as goal
use Rattle.assessment.proofs.all_walk.next_term.Goals.{else-begins-via-then-begins+else-ambivalent, else-begins-via-else-begins}

pub returns-then-ambivalent : goal.returns-then-ambivalent
returns-then-ambivalent c = λ s p before name kept e lives.
    next-at s p before name c.term_at.result c.args.begins c.ambivalent.result c.if-begins.true c.if-ambivalent.true lives
    (c.ambivalent.ensures s.names (model_terms s.members s.parts s.classes p) (accepts s.names s.members s.parts) kept.built.0.0 (model_of s.parts p) kept.built.0.3 name e)
    (λ begins. member-at s p (All c.args.automaton.now) kept before name begins c.term_at.result
    (c.term_at.ensures s.names (model_terms s.members s.parts s.classes p) (accepts s.names s.members s.parts) kept.built.0.0 (model_of s.parts p) kept.built.0.3 kept.unambiguous name e))

pub returns-else-begins : goal.returns-else-begins
returns-else-begins c = λ s p before name kept e lives.
    let first = all-first s p before name c.first_term.result c.args.automaton.now kept
    (c.first_term.ensures s.names (model_terms s.members s.parts s.classes p) (accepts s.names s.members s.parts) kept.built.0.0 (model_of s.parts p) kept.built.0.3 name e) in
    elim c.else-begins.branch [
      | else-begins-via-then-begins+else-ambivalent w ↦
          next-first s p before name c.first_term.result w.ambivalent.result w.if-ambivalent.false
          (w.ambivalent.ensures s.names (model_terms s.members s.parts s.classes p) (accepts s.names s.members s.parts) kept.built.0.0 (model_of s.parts p) kept.built.0.3 name e) first
      | else-begins-via-else-begins w ↦ next-stuck s p before name c.first_term.result c.args.begins w.if-begins.false lives first
    ]
