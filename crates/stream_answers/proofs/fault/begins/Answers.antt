use Rattle.std.proofs.Common.{◌≡◌, nat_eq, subst}
use Rattle.std.proofs.lemmas.Str.Pattern.{starts_text}
use Rattle.std.specs.List.{starts_with}
use Rattle.stream_answers.proofs.fault.begins.Goals as goal

pub returns : goal.returns
returns c =
    subst (λ text. c.starts_with.result ≡ starts_with nat_eq text c.args.front.now) c.code_text.ensures.text
    (starts_text c.starts_with.result c.args.front.now c.code_text.result.now c.starts_with.ensures.cases)
