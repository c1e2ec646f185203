use Rattle.std.proofs.Common.{◌≡◌, ◌∙◌, Result, ap, subst, sym}
use Rattle.dec_value.specs.Decimal.{Decimal}
use Rattle.dec_value.specs.Grammar.{Reads}
use Rattle.dec_value.specs.Literal.{decimal_of}
use Rattle.dec_value.specs.declared.decimal.DecFault.{DecFault}
use Rattle.dec_value.proofs.Spelling.{reads_text}
use Rattle.dec_value.proofs.decimal.Dec.read.Goals as goal

pub returns-clause-grammar : goal.returns-clause-grammar
returns-clause-grammar c =
    let is : c.read_bytes.result ≡ decimal_of c.args.text.now = c.read_bytes.ensures ∙ ap decimal_of c.as_bytes.ensures.value in
    let P : Result Decimal DecFault → Type 0 = λ r. Reads c.args.text.now r in
    subst P (sym is) (reads_text c.args.text.now)
