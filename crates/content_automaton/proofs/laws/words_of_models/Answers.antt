use Rattle.content_automaton.proofs.Recognizing.{apart, together, recognizes, gives_terms}
use Rattle.content_automaton.proofs.laws.words_of_models.Goals as goal

pub returns-clause-language : goal.returns-clause-language
returns-clause-language c = λ accepts inhabited model u accepted symbol a no_all is by are speaks. recognizes accepts inhabited model u accepted symbol a no_all is by are speaks

pub returns-clause-apart : goal.returns-clause-apart
returns-clause-apart c = λ accepts inhabited model u accepted symbol symbols no_all is by are h. apart accepts inhabited model u accepted symbol symbols no_all is by are h

pub returns-clause-together : goal.returns-clause-together
returns-clause-together c = λ accepts inhabited model u accepted symbol symbols x y no_all is by are h. together accepts inhabited model u accepted symbol symbols no_all is by are x y h

pub returns-clause-terms : goal.returns-clause-terms
returns-clause-terms c = λ accepts inhabited model u accepted symbol a no_all is by are terms. gives_terms accepts inhabited model u accepted symbol a no_all is by are terms
