use Rattle.std.proofs.Common.{◌≡◌, subst}
use Rattle.particle_forms.specs.Models.{model_of}
use Rattle.particle_forms.specs.Accepted.{accepts}
use Rattle.content_automaton.specs.Symbols.{symbol_of}
use Rattle.content_models.specs.Terms.{model_terms}
use Rattle.content_models.specs.Built.{IsBuilt, symbols_of}
use Rattle.content_models.specs.declared.automaton.ContentAutomaton.TheVariants.{States, All}
use Rattle.content_models.proofs.Building.{first-of-states, first-of-all}
use Rattle.content_models.proofs.automaton.ContentAutomaton.first_term.Goals as goal

pub returns-in-States : goal.returns-in-States
returns-in-States c = λ names t members classes p built name e.
    let b : IsBuilt names t members classes p (States c.in-States.automaton) = subst (IsBuilt names t members classes p) c.in-States.is built in
    first-of-states names t members classes p name b.0 c.first_term.result
    (c.first_term.ensures names (model_terms members t classes p) (accepts names members t) (model_of t p) b.1 name
    (subst (λ a. c.args.symbol ≡ symbol_of names (symbols_of a) name) c.in-States.is e))

pub returns-in-All : goal.returns-in-All
returns-in-All c = λ names t members classes p built name e.
    let b : IsBuilt names t members classes p (All c.in-All.automaton) = subst (IsBuilt names t members classes p) c.in-All.is built in
    first-of-all names t members classes p name b.0.0 b.0.1 b.0.2 c.first_term-in-All.result
    (c.first_term-in-All.ensures names (model_terms members t classes p) (accepts names members t) b.0.0 (model_of t p) b.0.3 name
    (subst (λ a. c.args.symbol ≡ symbol_of names (symbols_of a) name) c.in-All.is e))
