use Rattle.std.proofs.Common.{◌≡◌, ◌∙◌, subst}
use Rattle.std.specs.Prelude.{IfOk}
use Rattle.pattern_syntax.specs.Grammar.{RegExp}
use Rattle.pattern_syntax.specs.Outcome.{outcome_of}
use Rattle.pattern_syntax.specs.Reading.{Reads, IsWritten, answer_of}
use Rattle.pattern_syntax.proofs.read.read_pattern.Goals as goal

pub returns-clause-reads : goal.returns-clause-reads
returns-clause-reads c = subst (λ text. IfOk c.read_characters.result (λ outcome. Reads text (outcome_of outcome))) (c.deref.ensures.value ∙ c.in_ok-characters.ensures) c.read_characters.ensures.reads

pub returns-clause-only : goal.returns-clause-only
returns-clause-only c =
    subst (λ text. IfOk c.read_characters.result (λ outcome. (r : RegExp) → IsWritten text r → outcome_of outcome ≡ answer_of r)) (c.deref.ensures.value ∙ c.in_ok-characters.ensures) c.read_characters.ensures.only
